-- Numbers and their digits: there and back, for bits, symbols and columns at once.
-- A number modulo b^(k+1) is its digit k times b^k plus the number modulo b^k; all laws of digits follow from that by induction on k.
-- Below them stand laws of powers and shifts.
use Rattle.std.proofs.Common.{◌≡◌, ℕ, zero, suc, ◌+◌, ◌*◌, ◌/◌, ◌%◌, ◌^◌, ◌<◌, List, [], ◌∷◌, length, sym, refl, ap, ◌∙◌, ap₂, mod-lt, mod-eq_of_lt, one-mul, pow-suc, mul-zero, mul-suc, div-one, arith, lit<, pow-add, shl_exact, shr-shr}
use native.Mathlib.Nat.{mod-one, one-le-pow, pow-zero, pow-succ'}
use lib.Arith.{digits_lt, digits_div, digits_mod, mod-mul}
use Rattle.symbols.specs.Symbol.{has_bit}
use Rattle.symbols.specs.Claims.{Counted}
use Rattle.symbols.proofs.Claims.{numbers}
use Rattle.codes.specs.Digits.{Digit, bits, symbols, columns, digits, number_of}

-- a type of digits fits its base: its values stand for the numbers below the base
abbrev pub Fit : {A : Type 0} → Digit A → Type 0
Fit d = Counted d.base d.lowest d.number

pub bits_fit : Fit bits
bits_fit = numbers.bits

pub symbols_fit : Fit symbols
symbols_fit = numbers.symbols

pub columns_fit : Fit columns
columns_fit = numbers.columns

pub length_digits : {A : Type 0} (d : Digit A) (k n : ℕ) → length (digits d k n) ≡ k
length_digits d zero n = refl
length_digits d (suc k) n = ap suc (length_digits d k n)

module _ {A : Type 0} (d : Digit A) (fit : Fit d) where
  -- the place value of digit k is positive
  pub place_pos : (k : ℕ) → 0 < d.base ^ k
  place_pos k = one-le-pow k d.base fit.positive

  -- a number's lowest k + 1 digits are digit k and the lowest k
  high_digit : (k n : ℕ) → n % d.base ^ suc k ≡ (n / d.base ^ k % d.base) * d.base ^ k + n % d.base ^ k
  high_digit k n = rw (pow-succ' d.base k) (mod-mul n fit.positive (place_pos k))

  -- the number of a number's lowest digits
  pub number_digits : (k n : ℕ) → number_of d (digits d k n) ≡ n % d.base ^ k
  number_digits zero n = sym (rw pow-zero (mod-one n))
  number_digits (suc k) n =
      rw (length_digits d k n, number_digits k n, fit.there (n / d.base ^ k), high_digit k n)

  pub number_lt : (xs : List A) → number_of d xs < d.base ^ length xs
  number_lt [] = rw pow-zero (lit< tt)
  number_lt (x ∷ xs) = rw (pow-succ' d.base (length xs)) (digits_lt (fit.small x) (number_lt xs))

  -- the lowest digits are those of the remainder
  pub digits_remainder : (k n : ℕ) → digits d k (n % d.base ^ k) ≡ digits d k n
  digits_remainder zero n = refl
  digits_remainder (suc k) n =
      let q = n / d.base ^ k % d.base in
      let small = mod-lt n (place_pos k) in
      ap₂ ◌∷◌
      (rw (high_digit k n, digits_div q small) (fit.modulo (n / d.base ^ k)))
      (rw (← digits_remainder k (n % d.base ^ suc k), high_digit k n, digits_mod q small) (digits_remainder k n))

  -- a list of digits is its number's
  digits_number : (xs : List A) → digits d (length xs) (number_of d xs) ≡ xs
  digits_number [] = refl
  digits_number (x ∷ xs) =
      let small = number_lt xs in
      ap₂ ◌∷◌
      (rw (digits_div (d.number x) small) (fit.back x))
      (rw (← digits_remainder (length xs) (number_of d (x ∷ xs)), digits_mod (d.number x) small) (digits_number xs))

  pub digits_again : (k : ℕ) (xs : List A) → length xs ≡ k → digits d k (number_of d xs) ≡ xs
  digits_again k xs e = rw (← e) (digits_number xs)

  pub number_again : (k n : ℕ) → n < d.base ^ k → number_of d (digits d k n) ≡ n
  number_again k n h = number_digits k n ∙ mod-eq_of_lt h

-- a power of a power
pub pow_mul : (a m n : ℕ) → (a ^ m) ^ n ≡ a ^ (m * n)
pow_mul a m zero = rw (pow-zero (a ^ m), mul-zero m, pow-zero a)
pow_mul a m (suc n) = rw (pow-suc (a ^ m) n, pow_mul a m n, mul-suc m n, pow-add a (m * n) m)

-- two shifts are one
pub shift_shift : (n k f : ℕ) → n / 2 ^ k / 4 ^ f ≡ n / 2 ^ (k + 2 * f)
shift_shift n k f = rw (pow_mul 2 2 f) (shr-shr n k (2 * f))

-- a bit is the lowest of a quotient
pub bit_at : (k n : ℕ) → has_bit 0 (n / 2 ^ k) ≡ has_bit k n
bit_at k n = rw (div-one (n / 2 ^ k))

-- a shift of 1 by fewer than 64 places is a power of two
pub power_fits : (k : ℕ) → k < 64 → (1 * 2 ^ k) % 2 ^ 64 ≡ 2 ^ k
power_fits k h = shl_exact 1 k 64 (lit< tt) (omega arith) ∙ one-mul (2 ^ k)
