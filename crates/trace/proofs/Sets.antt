-- The plain trace's sets: exclusive or and or with the bit of a position change that position alone, and or does it once. The bit of one
-- position has no one at another; the digits of both operations are those of their operands' digits.
use Rattle.std.proofs.Common.{◌≡◌, ℕ, zero, suc, ◌+◌, ◌-◌, ◌/◌, ◌%◌, ◌^◌, ◌<◌, max, Bool, true, false, leb, refl, pow-suc, arith, pow_pos, pow-add, leb-false, leb-true}
use native.Mathlib.Nat.{div-eq_of_lt, div_self}
use lib.Pow.{pow-lt, shl-shr}
use lib.Arith.{bin_ind}
use lib.Bits.{bit_xor, bit_or, differ, xor_shr, or_shr, or_step, or_zero_l, or_self}
use Rattle.codes.specs.Projection.{Projection, width}
use Rattle.codes.specs.Word.{bit}
use Rattle.trace.specs.Claims.{Toggled, Added}
use Rattle.trace.proofs.Xor.{lowest}

-- the digits of a power of two
own_digit : (k : ℕ) → 2 ^ k / 2 ^ k % 2 ≡ 1
own_digit k = rw (div_self (pow_pos k))

other_digit : (j k : ℕ) → (j ≡ k → ⊥) → 2 ^ j / 2 ^ k % 2 ≡ 0
other_digit j k h = go (leb k j) refl
  where
    lower : j < k → 2 ^ j / 2 ^ k % 2 ≡ 0
    lower lt = rw (div-eq_of_lt (pow-lt lt))

    higher : (d : ℕ) → j ≡ suc d + k → 2 ^ j / 2 ^ k % 2 ≡ 0
    higher d e = rw (e, pow-add 2 (suc d) k, shl-shr (2 ^ suc d) k, pow-suc 2 d) (omega arith)

    go : (t : Bool) → leb k j ≡ t → 2 ^ j / 2 ^ k % 2 ≡ 0
    go true t = let le = leb-true k j t in higher (j - k - 1) (omega (arith, h))
    go false t = lower (leb-false k j t)

-- or, digit by digit
or_lowest : (a b : ℕ) → bit_or a b % 2 ≡ max (a % 2) (b % 2)
or_lowest a b = omega (arith, or_step a b)

or_half : (a b : ℕ) → bit_or a b / 2 ≡ bit_or (a / 2) (b / 2)
or_half a b = omega (arith, or_step a b)

max_twice : (x y : ℕ) → max (max x y) y ≡ max x y
max_twice x y = omega arith

-- what is added stays, if it is added again
pub or_twice : (a b : ℕ) → bit_or (bit_or a b) b ≡ bit_or a b
or_twice =
    bin_ind (λ (n : ℕ). (b : ℕ) → bit_or (bit_or n b) b ≡ bit_or n b) (λ b. rw (or_zero_l b) (or_self b))
    (λ n ih b. cc (or_step (bit_or n b) b, or_half n b, or_lowest n b, or_step n b, ih (b / 2), max_twice (n % 2) (b % 2)))

-- a digit that exclusive or toggles, and one that it keeps
differ_one : (x : ℕ) → x < 2 → differ x 1 ≡ 1 - x
differ_one zero h = refl
differ_one (suc zero) h = refl
differ_one (suc (suc x)) h = absurd (omega arith)

differ_zero : (x : ℕ) → x < 2 → differ x 0 ≡ x
differ_zero zero h = refl
differ_zero (suc zero) h = refl
differ_zero (suc (suc x)) h = absurd (omega arith)

-- at the position of a bit, and at another
module _ (set j k : ℕ) where
  digit_lt : set / 2 ^ k % 2 < 2
  digit_lt = omega arith

  pub xor_own : j ≡ k → bit_xor set (2 ^ j) / 2 ^ k % 2 ≡ 1 - set / 2 ^ k % 2
  xor_own e = rw (e, xor_shr set (2 ^ k) k, lowest (set / 2 ^ k) (2 ^ k / 2 ^ k), own_digit k) (differ_one (set / 2 ^ k % 2) digit_lt)

  pub xor_other : (j ≡ k → ⊥) → bit_xor set (2 ^ j) / 2 ^ k % 2 ≡ set / 2 ^ k % 2
  xor_other h = rw (xor_shr set (2 ^ j) k, lowest (set / 2 ^ k) (2 ^ j / 2 ^ k), other_digit j k h) (differ_zero (set / 2 ^ k % 2) digit_lt)

  or_own : j ≡ k → bit_or set (2 ^ j) / 2 ^ k % 2 ≡ 1
  or_own e = rw (e, or_shr set (2 ^ k) k, or_lowest (set / 2 ^ k) (2 ^ k / 2 ^ k), own_digit k) (omega (arith, digit_lt))

  or_other : (j ≡ k → ⊥) → bit_or set (2 ^ j) / 2 ^ k % 2 ≡ set / 2 ^ k % 2
  or_other h = rw (or_shr set (2 ^ j) k, or_lowest (set / 2 ^ k) (2 ^ j / 2 ^ k), other_digit j k h) (omega arith)

-- two positions of a word have the same bit where they are the same
pub same_bit : (w i j : ℕ) → i < w → j < w → w - 1 - i ≡ w - 1 - j → j ≡ i
same_bit w i j hi hj e = omega arith

module _ (π : Projection) (position set : ℕ) (inside : position < width π) where
  pub toggled : Toggled π position set (bit_xor set (bit π position))
  toggled =
      record {
        own = xor_own set _ _ refl;
        others = λ other there differs. xor_other set _ _ (λ e. differs (same_bit (width π) position other inside there e));
      }

  pub added : Added π position set (bit_or set (bit π position))
  added =
      record {
        own = or_own set _ _ refl;
        others = λ other there differs. or_other set _ _ (λ e. differs (same_bit (width π) position other inside there e));
      }
