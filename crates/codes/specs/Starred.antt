-- The scope's starred words ('Starred ones are theorems'): what a call answers, and what it must answer.
use Rattle.std.specs.Prelude.{◌≡◌, ℕ, List, [], ◌∷◌}
use Rattle.codes.specs.Answer.{Answer, accepted, refused}
use Rattle.codes.specs.Codes.{encoding, correcting, under}

pub record Sample : Type 0 where
  pub call : Answer (List ℕ)
  pub says : Answer (List ℕ)

-- the samples hold
abbrev pub Each : List Sample → Type 0
Each [] = Unit {0}
Each (s ∷ l) = (s.call ≡ s.says) × Each l

-- writing a message under a code gives a codeword
abbrev pub encoded : ℕ → ℕ → ℕ → Sample
encoded code message word = record { call = under code (λ π. encoding π message); says = accepted (word ∷ []) }

-- mending a word under marks gives a codeword, its message, wrong, the number of marks, and that of the marked bits that were wrong; or nothing is near
abbrev pub corrected : ℕ → ℕ → ℕ → ℕ → ℕ → ℕ → ℕ → ℕ → Sample
corrected code word marks codeword message wrong count marked_wrong =
    record { call = under code (λ π. correcting π word marks); says = accepted (codeword ∷ message ∷ wrong ∷ count ∷ marked_wrong ∷ []) }

abbrev pub lost : ℕ → ℕ → ℕ → Sample
lost code word marks = record { call = under code (λ π. correcting π word marks); says = refused 5 }

abbrev pub starred_words : List Sample
starred_words =
    encoded 1 0 0x000000000
    ∷ encoded 1 4095 0x9CACFFF96
    ∷ encoded 1 262144 0x777777778
    ∷ encoded 2 262144 0x777777777
    ∷ encoded 3 524288 0x3003000065
    ∷ encoded 4 2097152 0x7777777777
    ∷ corrected 1 0x2E485A2D4 0 0x2E48722D4 305489 2 0 0
    ∷ corrected 2 0x2D711B194 0 0x2D717B114 294212 3 0 0
    ∷ corrected 1 0xE00000000 0 0 0 3 0 0
    ∷ lost 1 0xF00000000 0
    ∷ corrected 1 0xF00000000 0xF00000000 0 0 0 4 4
    ∷ corrected 1 0xE00000000 0x080000000 0 0 3 1 0
    ∷ lost 1 0xE00000000 0x0C0000000
    ∷ []
