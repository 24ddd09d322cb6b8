-- Reading digits into a number, highest first: the number so far, shifted by as many places as are left, and the digits that are
-- left make up the whole at each step. Where no digit is left it is the number so far; that never is more than the whole.
use Rattle.std.proofs.Common.{◌≡◌, ℕ, ◌+◌, ◌*◌, ◌^◌, ◌≤◌, List, [], ◌∷◌, length, add_assoc, mul_assoc, add-mul, mul-le-mul_left, mul-one, arith}
use native.Mathlib.Nat.{pow-succ', pow-zero}
use Rattle.codes.specs.Digits.{Digit, number_of}
use Rattle.codes.proofs.Digits.{Fit, place_pos}

-- the number a with the digits xs behind it
abbrev pub followed : {A : Type 0} → Digit A → ℕ → List A → ℕ
followed d a xs = a * d.base ^ length xs + number_of d xs

module _ {A : Type 0} (d : Digit A) where
  pub followed_next : (a : ℕ) (x : A) (xs : List A) → followed d a (x ∷ xs) ≡ followed d (a * d.base + d.number x) xs
  followed_next a x xs =
      let b = d.base ^ length xs in
      rw (
        pow-succ' d.base (length xs),
        ← add_assoc (a * (d.base * b)) (d.number x * b) (number_of d xs),
        ← mul_assoc a d.base b,
        add-mul (a * d.base) (d.number x) b,
      )

  pub followed_none : (a : ℕ) → followed d a [] ≡ a
  followed_none a =
      let e : a * d.base ^ 0 ≡ a = rw pow-zero (mul-one a) in
      omega arith

  pub followed_le : Fit d → (a : ℕ) (xs : List A) → a ≤ followed d a xs
  followed_le fit a xs =
      let one : a * 1 ≤ a * d.base ^ length xs = mul-le-mul_left a (place_pos d fit (length xs)) in
      omega (arith, mul-one a)
