-- 'xor', 'or' and 'and' of numbers, digit by digit: words as numbers add column by column, packed vectors symbol by symbol.
-- Where a base is a power of two, an operation that goes bit by bit goes digit by digit: it commutes with taking a number's quotient
-- and its remainder by a power of two, so one digit of its result is what it makes of two digits, and that is a test over all digits.
use Rattle.std.proofs.Common.{◌≡◌, ℕ, zero, suc, ◌*◌, ◌/◌, ◌%◌, ◌^◌, true, ◌&&◌, ◌||◌, T, List, [], ◌∷◌, sym, refl, ap, ◌∙◌, ap₂, mod-lt, arith}
use mathlib.Core.Bool.{Bool-discrete, and-eq-true_iff}
use native.Mathlib.Nat.{zero-div}
use lib.Bits.{bit_and, bit_xor, bit_or, and_shr, and_mod, xor_shr, xor_mod, or_shr, or_mod}
use Rattle.symbols.specs.Symbol.{Symbol, Symbol-discrete, is_zero, add, symbol_of}
use Rattle.symbols.specs.Column.{Column, column, Column-discrete, ◌⊕◌}
use Rattle.symbols.proofs.Claims.{field}
use Rattle.symbols.proofs.Every.{below, passes, law_below_both}
use Rattle.codes.specs.Digits.{Digit, symbols, columns, digits, number_of}
use Rattle.codes.specs.Vector.{zeros, add_v, is_zero_v}
use Rattle.codes.specs.Projection.{Projection, size}
use Rattle.codes.specs.Word.{word, ◌⊞◌}
use Rattle.codes.proofs.Digits.{Fit, symbols_fit, columns_fit, pow_mul}

-- an operation on numbers that goes bit by bit
pub record Bitwise (op : ℕ → ℕ → ℕ) : Type 0 where
  pub quotient : (a b k : ℕ) → op a b / 2 ^ k ≡ op (a / 2 ^ k) (b / 2 ^ k)
  pub remainder : (a b k : ℕ) → op a b % 2 ^ k ≡ op (a % 2 ^ k) (b % 2 ^ k)

pub xor_bitwise : Bitwise bit_xor
xor_bitwise = record { quotient = xor_shr; remainder = xor_mod }

pub or_bitwise : Bitwise bit_or
or_bitwise = record { quotient = or_shr; remainder = or_mod }

pub and_bitwise : Bitwise bit_and
and_bitwise = record { quotient = and_shr; remainder = and_mod }

-- two lists joined element by element, as far as the shorter goes
abbrev pub zip : {A : Type 0} → (A → A → A) → List A → List A → List A
zip f [] ys = []
zip f (x ∷ xs) [] = []
zip f (x ∷ xs) (y ∷ ys) = f x y ∷ zip f xs ys

-- digits of w bits, on which `f` does what `op` does to their numbers: a test of all pairs of digits
module _ {A : Type 0} (d : Digit A) (fit : Fit d) (w : ℕ) (power : d.base ≡ 2 ^ w) (same : Discrete A) (op : ℕ → ℕ → ℕ) (bitwise : Bitwise op)
    (f : A → A → A)
    (test : T (below d.base (λ a. below d.base (λ b. passes (same (d.lowest (op a b)) (f (d.lowest a) (d.lowest b))))))) where
  lowest_op : (a b : ℕ) → d.lowest (op a b) ≡ f (d.lowest a) (d.lowest b)
  lowest_op a b =
      sym (fit.modulo (op a b))
      ∙ ap d.lowest (rw power (bitwise.remainder a b w))
      ∙ law_below_both d.base same (λ a b. d.lowest (op a b)) (λ a b. f (d.lowest a) (d.lowest b)) test
      (a % d.base) (b % d.base) (mod-lt a fit.positive) (mod-lt b fit.positive)
      ∙ ap₂ f (fit.modulo a) (fit.modulo b)

  digits_op : (k a b : ℕ) → digits d k (op a b) ≡ zip f (digits d k a) (digits d k b)
  digits_op zero a b = refl
  digits_op (suc k) a b =
      let e : d.base ^ k ≡ 2 ^ (w * k) = rw power (pow_mul 2 w k) in
      ap₂ ◌∷◌
      (ap d.lowest (rw e (bitwise.quotient a b (w * k))) ∙ lowest_op (a / d.base ^ k) (b / d.base ^ k))
      (digits_op k a b)

-- packed vectors: 0 is the zero vector, and they add by exclusive or
pub digits_zero : (r : ℕ) → digits symbols r 0 ≡ zeros r
digits_zero zero = refl
digits_zero (suc r) = ap₂ ◌∷◌ (ap symbol_of (zero-div (4 ^ r))) (digits_zero r)

pub zero_number : (x : List Symbol) → is_zero_v x ≡ true → number_of symbols x ≡ 0
zero_number [] e = refl
zero_number (x ∷ xs) e =
    let both = (and-eq-true_iff (is_zero x) (is_zero_v xs)).0 e in
    rw (field.zero x both.0) (omega (arith, zero_number xs both.1))

zip_add : (r a b : ℕ) → zip add (digits symbols r a) (digits symbols r b) ≡ add_v (digits symbols r a) (digits symbols r b)
zip_add zero a b = refl
zip_add (suc r) a b = ap₂ ◌∷◌ refl (zip_add r a b)

pub digits_add : (r a b : ℕ) → digits symbols r (bit_xor a b) ≡ add_v (digits symbols r a) (digits symbols r b)
digits_add r a b = digits_op symbols symbols_fit 2 refl Symbol-discrete bit_xor xor_bitwise add tt r a b ∙ zip_add r a b

-- words add by exclusive or
zip_sum : (a b : List Column) → zip ◌⊕◌ a b ≡ a ⊞ b
zip_sum [] b = refl
zip_sum (x ∷ xs) [] = refl
zip_sum (x ∷ xs) (y ∷ ys) = rw (zip_sum xs ys)

pub columns_xor : (k a b : ℕ) → digits columns k (bit_xor a b) ≡ digits columns k a ⊞ digits columns k b
columns_xor k a b =
    digits_op columns columns_fit 4 refl (Column-discrete Bool-discrete) bit_xor xor_bitwise ◌⊕◌ tt k a b
    ∙ zip_sum (digits columns k a) (digits columns k b)

pub word_xor : (π : Projection) (a b : ℕ) → word π (bit_xor a b) ≡ word π a ⊞ word π b
word_xor π a b = columns_xor (size π) a b

-- words joined by 'or'
abbrev pub or_in : Column → Column → Column
or_in (column a b c d) (column k l m n) = column (a || k) (b || l) (c || m) (d || n)

pub word_or : (π : Projection) (a b : ℕ) → word π (bit_or a b) ≡ zip or_in (word π a) (word π b)
word_or π a b = digits_op columns columns_fit 4 refl (Column-discrete Bool-discrete) bit_or or_bitwise or_in tt (size π) a b

-- words joined by 'and'
abbrev pub and_in : Column → Column → Column
and_in (column a b c d) (column k l m n) = column (a && k) (b && l) (c && m) (d && n)

pub word_and : (π : Projection) (a b : ℕ) → word π (bit_and a b) ≡ zip and_in (word π a) (word π b)
word_and π a b = digits_op columns columns_fit 4 refl (Column-discrete Bool-discrete) bit_and and_bitwise and_in tt (size π) a b
