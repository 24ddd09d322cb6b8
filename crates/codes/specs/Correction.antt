-- Correction, that is decoding of errors and erasures, which the scope calls mending: 'Input: code, word, marks (a set of positions).' Marks are given
-- as a word whose ones are those positions. The search below is never run: it says what is right.
use Rattle.std.specs.Prelude.{◌≡◌, ℕ, zero, suc, ◌+◌, ◌*◌, ◌^◌, ◌<◌, Bool, true, false, cond, not, ◌&&◌, List, [], ◌∷◌, nat_le}
use Rattle.std.proofs.Math.Option.{Option, none, some}
use Rattle.symbols.specs.Column.{Column, column, one}
use Rattle.codes.specs.declared.answer.Correction.{Correction}
use Rattle.codes.specs.Projection.{Projection, width, message_bits}
use Rattle.codes.specs.Word.{word, is_codeword, ◌⊞◌, weight_of}
use Rattle.codes.specs.Message.{encode, decode}

-- a number for each column of a word and that of its marks, added up
abbrev pub column_sum : (Column → Column → ℕ) → List Column → List Column → ℕ
column_sum f [] ms = 0
column_sum f (c ∷ cs) [] = 0
column_sum f (c ∷ cs) (m ∷ ms) = f c m + column_sum f cs ms

-- the number of a word's ones outside the marks
abbrev pub outside_in : Column → Column → ℕ
outside_in (column a b c d) (column k l m n) = one (a && not k) + one (b && not l) + one (c && not m) + one (d && not n)

abbrev pub outside : List Column → List Column → ℕ
outside = column_sum outside_in

-- 'For a codeword, wrong is the number of unmarked positions where it differs from the word'
abbrev pub wrong : Projection → ℕ → ℕ → ℕ → ℕ
wrong π w m c = outside (word π c ⊞ word π w) (word π m)

-- the number of a word's ones inside the marks
abbrev pub inside_in : Column → Column → ℕ
inside_in (column a b c d) (column k l m n) = one (a && k) + one (b && l) + one (c && m) + one (d && n)

abbrev pub inside : List Column → List Column → ℕ
inside = column_sum inside_in

-- 'the number of marked positions where the stored bit differs from the codeword'
abbrev pub marked_wrong : Projection → ℕ → ℕ → ℕ → ℕ
marked_wrong π w m c = inside (word π c ⊞ word π w) (word π m)

-- the number of marks
abbrev pub ones : Projection → ℕ → ℕ
ones π m = weight_of (word π m)

-- 'A codeword is near if 2·wrong + marks is at most 7'
abbrev pub is_near : Projection → ℕ → ℕ → ℕ → Bool
is_near π w m c = nat_le (2 * wrong π w m c + ones π m) 7

-- a codeword that is near a word under marks
pub record Near (π : Projection) (w m x : ℕ) : Type 0 where
  pub fits : x < 2 ^ width π
  pub codeword : is_codeword π (word π x) ≡ true
  pub near : is_near π w m x ≡ true

-- 'The answer is the codeword, its message, wrong and the number of marks'; 'Mending and read also give' how many marked bits were
-- wrong
abbrev pub correction_of : Projection → ℕ → ℕ → ℕ → Correction
correction_of π w m x =
    record { codeword = x; message = decode π x; wrong = wrong π w m x; marks = ones π m; marked_wrong = marked_wrong π w m x }

-- the first of n messages from k on whose codeword is near
unfoldable pub near_from : Projection → ℕ → ℕ → ℕ → ℕ → Option Correction
near_from π w m zero k = none
near_from π w m (suc n) k = cond (is_near π w m (encode π k)) (some (correction_of π w m (encode π k))) (near_from π w m n (suc k))

-- mending: a search through all codewords
abbrev pub correct : Projection → ℕ → ℕ → Option Correction
correct π w m = near_from π w m (2 ^ message_bits π) 0

-- 'no near codeword': mending finds nothing
abbrev pub is_far : Option Correction → Bool
is_far (some c) = false
is_far none = true
