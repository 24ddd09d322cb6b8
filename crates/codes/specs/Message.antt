-- Messages and their codewords: writing, and the message that a codeword has.
use Rattle.std.specs.Prelude.{ℕ, ◌+◌, ◌*◌, ◌/◌, ◌^◌, Bool, true, false, List, [], ◌∷◌, map}
use Rattle.symbols.specs.Symbol.{◌⊻◌, Symbol, s0, has_bit}
use Rattle.symbols.specs.Column.{Column, value, parity, top, one, column_with}
use Rattle.codes.specs.Digits.{bits, symbols, digits, number_of}
use Rattle.codes.specs.Projection.{Projection, wanted, count, top_bits}
use Rattle.codes.specs.Word.{word, word_number, syndrome}

-- 'A message has 19 or 22 bits, highest first: p; two bits for each free column's value in column order; the top bits of columns 1 to m−1'
pub record Message : Type 0 where
  pub parity : Bool
  pub values : List Symbol
  pub tops : List Bool

abbrev pub message_of : Projection → ℕ → Message
message_of π n =
    record {
      parity = has_bit (2 * count π.free + top_bits π) n;
      values = digits symbols (count π.free) (n / 2 ^ top_bits π);
      tops = digits bits (top_bits π) n;
    }

abbrev pub message_number : Projection → Message → ℕ
message_number π m =
    (one m.parity * 4 ^ count π.free + number_of symbols m.values) * 2 ^ top_bits π + number_of bits m.tops

-- values in column order: the free columns take theirs from the first list, the others from the second; 0 where a list has ended
abbrev pub place : List Bool → List Symbol → List Symbol → List Symbol
place [] fs ds = []
place (true ∷ l) [] ds = s0 ∷ place l [] ds
place (true ∷ l) (f ∷ fs) ds = f ∷ place l fs ds
place (false ∷ l) fs [] = s0 ∷ place l fs []
place (false ∷ l) fs (d ∷ ds) = d ∷ place l fs ds

-- 'The other values follow from H': each other column has a one in a row of its own, in row order, and nothing else, so its
-- value is what the free columns' syndrome has in that row
abbrev pub all_values : Projection → List Symbol → List Symbol
all_values π fs = place π.free fs (syndrome π.rows π.matrix (place π.free fs []))

-- 'the last top bit from the top rule': it brings the top row's parity to t
abbrev pub all_tops : Bool → List Bool → List Bool
all_tops t [] = t ∷ []
all_tops t (b ∷ bs) = b ∷ all_tops (b ⊻ t) bs

-- 'A column is fixed by p, its value and its top bit'
abbrev pub columns_with : Bool → List Symbol → List Bool → List Column
columns_with p [] ts = []
columns_with p (v ∷ vs) [] = []
columns_with p (v ∷ vs) (t ∷ ts) = column_with p v t ∷ columns_with p vs ts

-- a message's codeword, as columns and as a number
abbrev pub codeword_of : Projection → Message → List Column
codeword_of π m = columns_with m.parity (all_values π m.values) (all_tops (wanted π.rule m.parity) m.tops)

unfoldable pub encode : Projection → ℕ → ℕ
encode π n = word_number (codeword_of π (message_of π n))

-- the other way: what a codeword's columns say of its message
abbrev pub chosen : List Bool → List Symbol → List Symbol
chosen [] vs = []
chosen (b ∷ l) [] = []
chosen (true ∷ l) (v ∷ vs) = v ∷ chosen l vs
chosen (false ∷ l) (v ∷ vs) = chosen l vs

-- the parity of the first column
abbrev pub first_parity : List Column → Bool
first_parity [] = false
first_parity (c ∷ cs) = parity c

-- all but the last
abbrev pub but_last : List Bool → List Bool
but_last [] = []
but_last (b ∷ []) = []
but_last (b ∷ (c ∷ bs)) = b ∷ but_last (c ∷ bs)

abbrev pub message_in : Projection → List Column → Message
message_in π cs = record { parity = first_parity cs; values = chosen π.free (map value cs); tops = but_last (map top cs) }

unfoldable pub decode : Projection → ℕ → ℕ
decode π w = message_number π (message_in π (word π w))
