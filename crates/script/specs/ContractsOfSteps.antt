-- What the steps say to each other. No line's meaning rests on it but by the proofs.
use Rattle.std.specs.Prelude.{◌≡◌, cond, Option, Some, None, unwrap_or, option_map, List, [], ◌∷◌, ℕ}
use Rattle.std.specs.Iterator.{AlwaysYields}
use Rattle.script.specs.declared.words.Words.{Words}
use Rattle.script.specs.declared.hex.Pairs.{Pairs}
use Rattle.script.specs.Script.{is_blank, words, hex_byte}

-- the words that are still to come
abbrev pub words_left : Words → List (List ℕ)
words_left it = words it.0.now

-- the bytes of a text in hexadecimal, one by one
abbrev pub pairs : List ℕ → List (Option ℕ)
pairs [] = []
pairs (c ∷ []) = cond (is_blank c) [] (None ∷ [])
pairs (c ∷ (d ∷ cs)) = cond (is_blank c) (pairs (d ∷ cs)) (hex_byte c d ∷ pairs cs)

-- those that are still to come
abbrev pub pairs_left : Pairs → List (Option ℕ)
pairs_left it = pairs it.0.now

-- an iterator gives these items, and no others
pub record Gives {S A : Type 0} (steps : S → Option A → S → Type 0) (it : S) (items : List A) : Type 0 where
  pub each : AlwaysYields steps (λ item. item) it items

-- all items of a list, where each can be read
abbrev pub all_of : {A : Type 0} → List (Option A) → Option (List A)
all_of [] = Some []
all_of (None ∷ os) = None
all_of (Some x ∷ os) = option_map (λ xs. x ∷ xs) (all_of os)

-- the bytes or numbers of a text, and that it has them
abbrev pub list_of : Option (List ℕ) → List ℕ
list_of o = unwrap_or o []

abbrev pub IsList : Option (List ℕ) → Type 0
IsList o = o ≡ Some (list_of o)
