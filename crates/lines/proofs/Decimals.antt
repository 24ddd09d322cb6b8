-- Decimal digits are those of the library, which writes a number's last digit behind those of its tenth too; so more room than a number needs
-- changes nothing, and a number of 64 bits has at most twenty digits.
use mathlib.Core.Path.{◌≡◌, refl}
use mathlib.Core.Bool.{Bool, true, false, cond}
use mathlib.Core.List.{[], ◌∷◌, ◌++◌}
use Prim.Native.Nat.{ℕ, zero, suc, ◌/◌, ◌%◌, ◌^◌, ◌<◌, ◌≤◌}
use native.Mathlib.Omega.{arith}
use lib.Dec.{ltb}
use lib.ListN.{length}
use borrow.Author.Tests.{lt-ltb, le-ltb}
use Rattle.std.specs.Fmt.{decimal as library_decimal}
use Rattle.std.proofs.lemmas.Fmt.{AppendsLastDigit, decimal_from_appends, length-decimal-le, length-decimal-le_succ}
use Rattle.lines.specs.Text.{digit, digits, decimal}

last_digit : AppendsLastDigit digits
unfolding digits
last_digit = record { one = λ k n h. simp (lt-ltb n 10 h); more = λ k n h. simp (le-ltb n 10 h) }

pub decimal_same : (n : ℕ) → n < 2 ^ 64 → decimal n ≡ library_decimal n
unfolding decimal
decimal_same n h = decimal_from_appends digits last_digit (suc n) n h (omega (arith, length-decimal-le_succ n h))

-- the library's lemmas go no further than 64 bits, and this holds of every number
room_same : (j k n : ℕ) → n < 10 ^ suc j → n < 10 ^ suc k → digits (suc j) n ≡ digits (suc k) n
unfolding digits
room_same zero k n hj hk = simp (lt-ltb n 10 (omega arith))
room_same (suc j) zero n hj hk = simp (lt-ltb n 10 (omega arith))
room_same (suc j) (suc k) n hj hk = go (ltb n 10) (room_same j k (n / 10) (omega arith) (omega arith))
  where
    go : (small : Bool) → digits (suc j) (n / 10) ≡ digits (suc k) (n / 10)
        → cond small (digit n ∷ []) (digits (suc j) (n / 10) ++ (digit (n % 10) ∷ []))
        ≡ cond small (digit n ∷ []) (digits (suc k) (n / 10) ++ (digit (n % 10) ∷ []))
    go true tenth = refl
    go false tenth = rw tenth

below_power : (n : ℕ) → n < 10 ^ suc n
below_power zero = omega arith
below_power (suc n) = omega (arith, below_power n)

-- so a large number's digits can be computed
pub decimal_within : (k n : ℕ) → n < 10 ^ suc k → decimal n ≡ digits (suc k) n
unfolding decimal
decimal_within k n h = room_same n k n (below_power n) h

pub decimal_short : (n : ℕ) → n < 2 ^ 64 → length (decimal n) ≤ 20
decimal_short n h = rw (decimal_same n h) (length-decimal-le 20 n (omega arith) (omega arith) h)
