-- A column, its value, parity, top bit and weight: 'A word is m columns of four bits, top bit first'.
use Rattle.std.specs.Prelude.{Bool, true, false, cond, ◌&&◌, ℕ, zero, suc, ◌+◌, ◌*◌, eqb}
use Rattle.std.specs.Bool.{beq}
use Rattle.symbols.specs.Symbol.{◌⊻◌, Symbol, s0, s1, s2, s3, symbol_number, add, has_bit}

-- 'four bits, top bit first': row 0 is the top row
pub data Column : Type 0 where
  column : Bool → Bool → Bool → Bool → Column
  deriving Discrete as Column-discrete

-- a row's symbol where its bit is one
abbrev pub row : Bool → Symbol → Symbol
row b s = cond b s s0

-- 'The rows stand for 0, 1, 2, 3, and a column's value is the sum of the row symbols where its bit is one'
abbrev pub value : Column → Symbol
value (column a b c d) = add (row a s0) (add (row b s1) (add (row c s2) (row d s3)))

abbrev pub parity : Column → Bool
parity (column a b c d) = a ⊻ b ⊻ c ⊻ d

abbrev pub top : Column → Bool
top (column a b c d) = a

-- a bit as a number
abbrev pub one : Bool → ℕ
one true = 1
one false = 0

-- the number of ones
abbrev pub weight : Column → ℕ
weight (column a b c d) = one a + one b + one c + one d

-- the sum of two columns, bit by bit
infixl 60 ◌⊕◌
abbrev pub ◌⊕◌ : Column → Column → Column
column a b c d ⊕ column a' b' c' d' = column (a ⊻ a') (b ⊻ b') (c ⊻ c') (d ⊻ d')

-- a number as a column, modulo 16, and a column's number: the top bit is the highest
abbrev pub column_of : ℕ → Column
column_of n = column (has_bit 3 n) (has_bit 2 n) (has_bit 1 n) (has_bit 0 n)

abbrev pub column_number : Column → ℕ
column_number (column a b c d) = 8 * one a + 4 * one b + 2 * one c + one d

-- parity, value and top bit are p, v and t
abbrev pub has : Bool → Symbol → Bool → Column → Bool
has p v t c = beq (parity c) p && eqb (symbol_number (value c)) (symbol_number v) && beq (top c) t

-- the first of n numbers from k on that passes a test, and k + n where none does
abbrev pub first_from : ℕ → ℕ → (ℕ → Bool) → ℕ
first_from zero k f = k
first_from (suc n) k f = cond (f k) k (first_from n (suc k) f)

-- 'A column is fixed by p, its value and its top bit': the one of the sixteen columns that has them
unfoldable pub column_with : Bool → Symbol → Bool → Column
column_with p v t = column_of (first_from 16 0 (λ n. has p v t (column_of n)))
