-- The claims about symbols and columns. Each is one record, and one theorem of the same name in proofs/Claims.antt. They speak of the definitions,
-- and so, by the contracts, of the functions. The layers above cite these claims and the contracts.
use Rattle.std.specs.Prelude.{◌≡◌, Bool, true, false, not, ◌||◌, ℕ, ◌+◌, ◌*◌, ◌%◌, ◌≤◌, ◌<◌}
use Rattle.std.specs.Bool.{beq}
use Rattle.symbols.specs.Symbol.{◌⊻◌, Symbol, s0, s1, is_zero, add, mul, has_bit, symbol_of, symbol_number}
use Rattle.symbols.specs.Column.{Column, column, value, parity, top, one, weight, ◌⊕◌, column_of, column_number, column_with}

-- ---- bits and symbols

-- bits under exclusive or, by which symbols and columns add
pub record ExclusiveOr : Type 0 where
  pub assoc : (a b c : Bool) → (a ⊻ b) ⊻ c ≡ a ⊻ (b ⊻ c)
  pub comm : (a b : Bool) → a ⊻ b ≡ b ⊻ a
  pub zero : (a : Bool) → a ⊻ false ≡ a
  pub self : (a : Bool) → a ⊻ a ≡ false
  -- and what follows: a bit that is added twice, the last two of three exchanged, the middle two of four exchanged
  pub twice : (a b : Bool) → a ⊻ (a ⊻ b) ≡ b
  pub last : (a b c : Bool) → (a ⊻ b) ⊻ c ≡ (a ⊻ c) ⊻ b
  pub middle : (a b c d : Bool) → (a ⊻ b) ⊻ (c ⊻ d) ≡ (a ⊻ c) ⊻ (b ⊻ d)
  -- two bits are unequal just where their exclusive or is one
  pub unequal : (a b : Bool) → not (beq a b) ≡ a ⊻ b

-- 'Symbols are 0, 1, 2, 3, where 2 is ω and 3 is ω̄. They add by exclusive or; 2·2 = 3, 2·3 = 1, 3·3 = 2': the four are a field
pub record Field : Type 0 where
  pub add_assoc : (x y z : Symbol) → add (add x y) z ≡ add x (add y z)
  pub add_comm : (x y : Symbol) → add x y ≡ add y x
  pub add_zero : (x : Symbol) → add x s0 ≡ x
  -- each symbol is its own negative, and has no other
  pub add_self : (x : Symbol) → add x x ≡ s0
  pub negative : (x y : Symbol) → add x y ≡ s0 → x ≡ y
  pub mul_assoc : (x y z : Symbol) → mul (mul x y) z ≡ mul x (mul y z)
  pub mul_comm : (x y : Symbol) → mul x y ≡ mul y x
  pub mul_one : (x : Symbol) → mul x s1 ≡ x
  pub add_mul : (x y z : Symbol) → mul (add x y) z ≡ add (mul x z) (mul y z)
  -- a product is 0 just where one of the two is, and each symbol other than 0 has an inverse
  pub mul_zero : (x y : Symbol) → is_zero (mul x y) ≡ (is_zero x || is_zero y)
  pub inverse : (x : Symbol) → is_zero x ≡ false → (y : Symbol) × (mul x y ≡ s1)
  -- only 0 passes the test of 0
  pub zero : (x : Symbol) → is_zero x ≡ true → x ≡ s0

-- ---- columns

-- 'a column's value is the sum of the row symbols where its bit is one': so values add where columns do, and so do parities and top bits
pub record ColumnsAdd : Type 0 where
  pub values : (c d : Column) → value (c ⊕ d) ≡ add (value c) (value d)
  pub parities : (c d : Column) → parity (c ⊕ d) ≡ parity c ⊻ parity d
  pub tops : (c d : Column) → top (c ⊕ d) ≡ top c ⊻ top d
  -- a column that is added twice, and one without ones
  pub twice : (c d : Column) → c ⊕ (c ⊕ d) ≡ d
  pub blank : (c : Column) → c ⊕ column false false false false ≡ c

-- 'A column is fixed by p, its value and its top bit': the three determine it, and each triple is that of a column, and so of just one
pub record ColumnFixed : Type 0 where
  pub determined : (c d : Column) → parity c ≡ parity d → value c ≡ value d → top c ≡ top d → c ≡ d
  pub parities : (p : Bool) (v : Symbol) (t : Bool) → parity (column_with p v t) ≡ p
  pub values : (p : Bool) (v : Symbol) (t : Bool) → value (column_with p v t) ≡ v
  pub tops : (p : Bool) (v : Symbol) (t : Bool) → top (column_with p v t) ≡ t

-- what parity and value say of the number of ones: an odd column has one at least; an even one has two unless its value is 0, and then
-- four or none, by its top bit
pub record Weights : Type 0 where
  pub odd : (c : Column) → parity c ≡ true → 1 ≤ weight c
  pub even : (c : Column) → parity c ≡ false → is_zero (value c) ≡ false → weight c ≡ 2
  pub flat : (c : Column) → parity c ≡ false → is_zero (value c) ≡ true → weight c ≡ 4 * one (top c)
  pub most : (c : Column) → weight c ≤ 4
  -- where columns differ in parity they differ in a position; inverting bits brings them nearer by no more than these
  pub differ : (c d : Column) → one (parity c ⊻ parity d) ≤ weight (d ⊕ c)
  pub nearer : (c bits d : Column) → weight (c ⊕ d) ≤ weight (c ⊕ bits ⊕ d) + weight bits
  -- a column differs from itself nowhere, and from every other somewhere
  pub itself : (c : Column) → weight (c ⊕ c) ≡ 0
  pub other : (c d : Column) → weight (c ⊕ d) ≡ 0 → c ≡ d

-- ---- numbers

-- a type whose values stand for the numbers below a base: each value's number and back, and each number, modulo the base, and back
pub record Counted {A : Type 0} (base : ℕ) (lowest : ℕ → A) (number : A → ℕ) : Type 0 where
  pub positive : 0 < base
  pub small : (x : A) → number x < base
  pub back : (x : A) → lowest (number x) ≡ x
  pub there : (n : ℕ) → number (lowest n) ≡ n % base
  pub modulo : (n : ℕ) → lowest (n % base) ≡ lowest n

-- 'Symbols are 0, 1, 2, 3'; 'columns of four bits, top bit first', in hexadecimal 'one digit a column'
pub record Numbers : Type 0 where
  pub bits : Counted 2 (has_bit 0) one
  pub symbols : Counted 4 symbol_of symbol_number
  pub columns : Counted 16 column_of column_number
