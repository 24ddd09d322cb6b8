-- Words as lists of columns, and which of them are codewords.
use Rattle.std.specs.Prelude.{ℕ, ◌+◌, ◌-◌, ◌/◌, ◌%◌, ◌^◌, Bool, true, false, ◌&&◌, ◌||◌, List, [], ◌∷◌, map}
use Rattle.std.specs.Bool.{beq}
use Rattle.symbols.specs.Symbol.{◌⊻◌, Symbol}
use Rattle.symbols.specs.Column.{Column, value, parity, top, weight, ◌⊕◌}
use Rattle.codes.specs.Digits.{columns, digits, number_of}
use Rattle.codes.specs.Vector.{zeros, add_v, scale, is_zero_v}
use Rattle.codes.specs.Projection.{Projection, wanted, size, width}

-- the columns of a number as a word of a code: 'one digit a column, column 1 first'
abbrev pub word : Projection → ℕ → List Column
word π n = digits columns (size π) n

-- the number of a word's columns
abbrev pub word_number : List Column → ℕ
word_number cs = number_of columns cs

-- 'position 0 is the highest bit': the bit of a position, and 1 where a word has a one there, else 0
abbrev pub bit : Projection → ℕ → ℕ
bit π position = 2 ^ (width π - 1 - position)

abbrev pub bit_at : Projection → ℕ → ℕ → ℕ
bit_at π n position = n / bit π position % 2

-- 'The syndrome is H times the values, with no conjugate'
abbrev pub syndrome : ℕ → List (List Symbol) → List Symbol → List Symbol
syndrome rows [] vs = zeros rows
syndrome rows (h ∷ hs) [] = zeros rows
syndrome rows (h ∷ hs) (v ∷ vs) = add_v (scale v h) (syndrome rows hs vs)

abbrev pub syndrome_of : Projection → List Column → List Symbol
syndrome_of π cs = syndrome π.rows π.matrix (map value cs)

-- all columns have parity p
abbrev pub all_parity : Bool → List Column → Bool
all_parity p [] = true
all_parity p (c ∷ cs) = beq (parity c) p && all_parity p cs

-- the top row's parity
abbrev pub top_row : List Column → Bool
top_row [] = false
top_row (c ∷ cs) = top c ⊻ top_row cs

-- 'A word is a codeword if its syndrome is zero, all columns have the same parity p, and the top row's parity is p (O) or 0 (E)'
abbrev pub is_codeword_of : Projection → Bool → List Column → Bool
is_codeword_of π p cs = is_zero_v (syndrome_of π cs) && (all_parity p cs && beq (top_row cs) (wanted π.rule p))

unfoldable pub is_codeword : Projection → List Column → Bool
is_codeword π cs = is_codeword_of π false cs || is_codeword_of π true cs

-- the sum of two words: its ones are the positions where they differ
infixl 60 ◌⊞◌
abbrev pub ◌⊞◌ : List Column → List Column → List Column
[] ⊞ ds = []
(c ∷ cs) ⊞ [] = []
(c ∷ cs) ⊞ (d ∷ ds) = (c ⊕ d) ∷ (cs ⊞ ds)

-- the number of ones
abbrev pub weight_of : List Column → ℕ
weight_of [] = 0
weight_of (c ∷ cs) = weight c + weight_of cs

-- the number of positions in which two words differ
abbrev pub distance : List Column → List Column → ℕ
distance cs ds = weight_of (cs ⊞ ds)
