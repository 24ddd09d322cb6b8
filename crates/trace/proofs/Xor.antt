-- Exclusive or of numbers is associative: its lowest digit is that of the lowest digits, and the rest is that of the halves.
use Rattle.std.proofs.Common.{◌≡◌, ℕ, zero, suc, ◌/◌, ◌%◌, ◌<◌, refl, arith}
use lib.Arith.{bin_ind}
use lib.Bits.{bit_xor, differ, xor_step}

-- of single digits
differ_lt : (x y : ℕ) → x < 2 → y < 2 → differ x y < 2
differ_lt zero y hx hy = hy
differ_lt (suc zero) zero hx hy = hx
differ_lt (suc zero) (suc zero) hx hy = omega arith
differ_lt (suc zero) (suc (suc y)) hx hy = absurd (omega arith)
differ_lt (suc (suc x)) y hx hy = absurd (omega arith)

differ_assoc : (x y z : ℕ) → x < 2 → y < 2 → z < 2 → differ (differ x y) z ≡ differ x (differ y z)
differ_assoc zero y z hx hy hz = refl
differ_assoc (suc zero) zero z hx hy hz = refl
differ_assoc (suc zero) (suc zero) zero hx hy hz = refl
differ_assoc (suc zero) (suc zero) (suc zero) hx hy hz = refl
differ_assoc (suc zero) (suc zero) (suc (suc z)) hx hy hz = absurd (omega arith)
differ_assoc (suc zero) (suc (suc y)) z hx hy hz = absurd (omega arith)
differ_assoc (suc (suc x)) y z hx hy hz = absurd (omega arith)

lowest_lt : (n : ℕ) → n % 2 < 2
lowest_lt n = omega arith

half : (a b : ℕ) → bit_xor a b / 2 ≡ bit_xor (a / 2) (b / 2)
half a b = omega (arith, xor_step a b, differ_lt (a % 2) (b % 2) (lowest_lt a) (lowest_lt b))

pub lowest : (a b : ℕ) → bit_xor a b % 2 ≡ differ (a % 2) (b % 2)
lowest a b = omega (arith, xor_step a b, differ_lt (a % 2) (b % 2) (lowest_lt a) (lowest_lt b))

pub xor_assoc : (a b c : ℕ) → bit_xor (bit_xor a b) c ≡ bit_xor a (bit_xor b c)
xor_assoc =
    bin_ind (λ (n : ℕ). (b c : ℕ) → bit_xor (bit_xor n b) c ≡ bit_xor n (bit_xor b c)) (λ b c. refl)
    (λ n ih b c.
    cc (
      xor_step (bit_xor n b) c,
      half n b,
      lowest n b,
      ih (b / 2) (c / 2),
      differ_assoc (n % 2) (b % 2) (c % 2) (lowest_lt n) (lowest_lt b) (lowest_lt c),
      xor_step n (bit_xor b c),
      half b c,
      lowest b c,
    ))
