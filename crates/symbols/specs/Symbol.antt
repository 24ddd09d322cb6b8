-- The four symbols, their sum and their product.
use Rattle.std.specs.Prelude.{Bool, true, false, not, ℕ, ◌/◌, ◌%◌, ◌^◌, eqb}

-- exclusive or
infixl 60 ◌⊻◌
abbrev pub ◌⊻◌ : Bool → Bool → Bool
true ⊻ b = not b
false ⊻ b = b

-- 'Symbols are 0, 1, 2, 3, where 2 is ω and 3 is ω̄'
pub data Symbol : Type 0 where
  s0 s1 s2 s3 : Symbol
  deriving Discrete as Symbol-discrete

-- a symbol's number
abbrev pub symbol_number : Symbol → ℕ
symbol_number s0 = 0
symbol_number s1 = 1
symbol_number s2 = 2
symbol_number s3 = 3

-- a symbol's two bits, and the symbol that has them
abbrev pub high : Symbol → Bool
high s0 = false
high s1 = false
high s2 = true
high s3 = true

abbrev pub low : Symbol → Bool
low s0 = false
low s1 = true
low s2 = false
low s3 = true

abbrev pub symbol : Bool → Bool → Symbol
symbol false false = s0
symbol false true = s1
symbol true false = s2
symbol true true = s3

-- 'They add by exclusive or'
abbrev pub add : Symbol → Symbol → Symbol
add x y = symbol (high x ⊻ high y) (low x ⊻ low y)

-- '2·2 = 3, 2·3 = 1, 3·3 = 2'
abbrev pub mul : Symbol → Symbol → Symbol
mul s0 y = s0
mul s1 y = y
mul s2 s0 = s0
mul s2 s1 = s2
mul s2 s2 = s3
mul s2 s3 = s1
mul s3 s0 = s0
mul s3 s1 = s3
mul s3 s2 = s1
mul s3 s3 = s2

abbrev pub is_zero : Symbol → Bool
is_zero s0 = true
is_zero s1 = false
is_zero s2 = false
is_zero s3 = false

-- whether bit k of a number is one, the lowest being bit 0
abbrev pub has_bit : ℕ → ℕ → Bool
has_bit k n = eqb (n / 2 ^ k % 2) 1

-- a number as a symbol, modulo 4
abbrev pub symbol_of : ℕ → Symbol
symbol_of n = symbol (has_bit 1 n) (has_bit 0 n)
