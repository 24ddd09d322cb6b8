-- A plain trace's slot, put, flipped, also in turn, or marked: it holds what the call makes of what it held, its numbers fit the layout, and so a sound trace with
-- that slot is sound. Flip is an exclusive or behind an exclusive or, which is associative; a step and a reading below their limits make a
-- message below its own.
use Rattle.std.proofs.Common.{◌≡◌, ℕ, zero, suc, ◌^◌, ◌<◌, Bool, true, false, eqb, List, [], ◌∷◌, length, get_or, set, refl, arith, length-set, get_or-set_other, get_or-set_same, pow_pos, eqb-true}
use lib.Pow.{pow-lt}
use lib.Bits.{xor_lt, or_lt, xor_zero_r}
use borrow.Author.Tests.{eqb-false}
use Rattle.codes.specs.Projection.{Projection, width, message_bits}
use Rattle.codes.specs.Word.{bit}
use Rattle.codes.specs.Message.{encode}
use Rattle.trace.specs.Lists.{in_turn}
use Rattle.trace.specs.View.{put_content, flip_content, mark_content}
use Rattle.trace.specs.Plain.{Slot, Plain, projection_of, with_slot, holds, flipped, marked}
use Rattle.trace.proofs.Xor.{xor_assoc}
use Rattle.trace.proofs.Stored.{Fits, Sound}

-- ---- what a slot then holds

module _ (π : Projection) where
  pub put_holds : (m : ℕ) → holds π (Slot.written m 0 0) ≡ put_content π m
  put_holds m = rw xor_zero_r

  pub flip_holds : (position : ℕ) (x : Slot) → holds π (flipped π position x) ≡ flip_content π position (holds π x)
  flip_holds position Slot.blank = refl
  flip_holds position (Slot.written m F M) = rw (xor_assoc (encode π m) F (bit π position))

  pub flips_hold : (ps : List ℕ) (x : Slot) → holds π (in_turn (flipped π) ps x) ≡ in_turn (flip_content π) ps (holds π x)
  flips_hold [] x = refl
  flips_hold (p ∷ ps) x = rw (← flip_holds p x) (flips_hold ps (flipped π p x))

  pub mark_holds : (position : ℕ) (x : Slot) → holds π (marked π position x) ≡ mark_content π position (holds π x)
  mark_holds position Slot.blank = refl
  mark_holds position (Slot.written m F M) = refl

-- ---- its numbers fit

pub put_fits : (π : Projection) (m : ℕ) → m < 2 ^ message_bits π → Fits π (Slot.written m 0 0)
put_fits π m h = (h, pow_pos (width π), pow_pos (width π))

module _ (π : Projection) (position : ℕ) (h : position < width π) where
  bit_lt : bit π position < 2 ^ width π
  bit_lt = pow-lt (omega arith)

  pub flip_fits : (x : Slot) → Fits π x → Fits π (flipped π position x)
  flip_fits Slot.blank f = tt
  flip_fits (Slot.written m F M) f = (f.0, xor_lt _ F _ f.1 bit_lt, f.2)

  pub mark_fits : (x : Slot) → Fits π x → Fits π (marked π position x)
  mark_fits Slot.blank f = tt
  mark_fits (Slot.written m F M) f = (f.0, f.1, or_lt _ M _ f.2 bit_lt)

pub flips_fit : (π : Projection) (ps : List ℕ) → ((i : ℕ) → i < length ps → get_or ps i 0 < width π) → (x : Slot) → Fits π x
    → Fits π (in_turn (flipped π) ps x)
flips_fit π [] inside x f = f
flips_fit π (p ∷ ps) inside x f =
    flips_fit π ps (λ i h. inside (suc i) (omega arith)) (flipped π p x) (flip_fits π p (inside zero (omega arith)) x f)

-- a sound trace with a slot that fits
pub sound_with : (p : Plain) → Sound p → (i : ℕ) → i < length p.slots → (x : Slot) → Fits (projection_of p) x → Sound (with_slot i x p)
sound_with p s i h x f = record { code = s.code; count = rw length-set s.count; slots = λ j. at j (eqb j i) refl }
  where
    at : (j : ℕ) (t : Bool) → eqb j i ≡ t → Fits (projection_of p) (get_or (set p.slots i x) j Slot.blank)
    at j true e = rw (eqb-true j i e, get_or-set_same p.slots i x Slot.blank h) f
    at j false e = rw (get_or-set_other p.slots i j x Slot.blank (eqb-false j i e)) (s.slots j)
