-- What making leaves: where its numbers are fit, and only there, it is accepted, and its bytes are those of the plain trace of blank slots.
-- An accepted making has passed its three rows, which say that its numbers are fit. A blank slot's bytes are zeros, so N of them are the
-- 11·N zeros that making writes.
use Rattle.std.proofs.Common.{◌≡◌, ℕ, zero, suc, ◌+◌, ◌-◌, List, [], map, length, get_or, replicate, sym, refl, ◌∙◌, arith, length-append, length-take, length-take-le, take_at, ltb-false, le-ltb}
use lib.ListN.{length-replicate, replicate-append-replicate}
use borrow.Author.Tests.{not-false}
use Rattle.codes.specs.Answer.{accepted, unless}
use Rattle.codes.specs.Projection.{Projection}
use Rattle.codes.specs.Codes.{unknown_code}
use Rattle.codes.proofs.Rows.{accepted_row}
use Rattle.trace.specs.Calls.{Making, after}
use Rattle.trace.specs.Layout.{slot_size, distance_of, needed_for, each, body, free_for, made}
use Rattle.trace.specs.Refusals.{wrong_count, too_short}
use Rattle.trace.specs.Trace.{make_rows, make}
use Rattle.trace.specs.Plain.{Slot, stored_as, bytes, fresh}
use Rattle.trace.specs.Claims.{MakeFit, Makes}
use Rattle.trace.proofs.Numbers.{bytes_zero}
use Rattle.trace.proofs.Outcomes.{outcome_answer}
use Rattle.trace.proofs.Trailers.{length_trailer}
use Rattle.trace.proofs.Refinement.{SoundAs}

-- ---- the plain trace of blank slots

-- 'A blank slot is all zero'
blank_slots : (π : Projection) (n : ℕ) → body (map (stored_as π) (replicate n Slot.blank)) ≡ replicate (distance_of n) 0
unfolding body each
blank_slots π zero = refl
blank_slots π (suc n) =
    let more : distance_of (suc n) ≡ slot_size + distance_of n = omega arith in
    rw (blank_slots π n, bytes_zero 1, bytes_zero 5, more) (replicate-append-replicate slot_size (distance_of n) 0)

pub all_blank : (n i : ℕ) → get_or (replicate n Slot.blank) i Slot.blank ≡ Slot.blank
all_blank zero i = refl
all_blank (suc n) zero = refl
all_blank (suc n) (suc i) = all_blank n i

module _ (found : List ℕ) (m : Making) where
  made_fresh : made m found ≡ bytes (fresh m found)
  unfolding made bytes fresh
  made_fresh = rw (blank_slots, length-replicate)

  -- ---- a making that is fit

  module _ (fit : MakeFit found m) where
    pub fresh_sound : SoundAs m.code (fresh m found)
    unfolding fresh
    fresh_sound =
        record {
          sound = record { code = fit.code; count = rw length-replicate fit.count; slots = λ i. rw all_blank tt };
          code = refl;
        }

    pub make_accepted : make m found ≡ after (accepted []) (bytes (fresh m found))
    unfolding make
    make_accepted = rw (fit.code, fit.count, le-ltb _ _ fit.room, made_fresh)

    length_made : length (made m found) ≡ length found
    unfolding made
    length_made = let room = fit.room in simp (length-append, length-take, length-replicate, length_trailer) (omega arith)

    free_made : free_for m.slots (made m found) ≡ free_for m.slots found
    unfolding made
    free_made =
        rw length_made
        (take_at (free_for m.slots found) _ (length found - needed_for m.slots) (length-take-le _ found (omega arith)))

  -- accepted, so no row is met
  accepted_fit : (make m found).answer ≡ accepted [] → MakeFit found m
  unfolding make
  accepted_fit e =
      let passed = sym (outcome_answer (unless (make_rows m found) (accepted [])) (made m found) found) ∙ e in
      let known = accepted_row (unknown_code m.code) _ [] passed in
      let counted = accepted_row (wrong_count m.slots) _ [] known.1 in
      let long = accepted_row (too_short (length found) (needed_for m.slots)) _ [] counted.1 in
      record { code = not-false _ known.0; count = not-false _ counted.0; room = ltb-false (length found) (needed_for m.slots) long.0 }

-- ---- the claim

pub makes : Makes
makes found m = (
  (accepted_fit found m, λ fit. rw (make_accepted found m fit)),
  λ fit. rw (make_accepted found m fit, ← made_fresh found m) (length_made found m fit, free_made found m fit),
)
