-- What the bytes of a plain trace hold, where its numbers fit the layout ('Sound'): neither 7 nor 8 is met, a call sees in them what it sees of the
-- plain trace, and storing what a slot holds is storing the slot. The bytes are a front and a trailer ('Trailers'), and slots between the
-- free bytes and the trailer ('Slots'); a number in its bytes comes back, as it fits.
use Rattle.std.proofs.Common.{◌≡◌, ℕ, zero, suc, ◌+◌, ◌^◌, ◌<◌, ◌≤◌, true, List, [], ◌∷◌, ◌++◌, map, length, set, sym, refl, ◌∙◌, append_assoc, arith, length-append, length-set, pow_pos, pow_mono, le-ltb, eq-eqb, le-leb}
use lib.ListN.{length-map, get_or-map}
use lib.Bits.{xor_lt}
use borrow.Author.Tests.{lt-leb}
use Rattle.codes.specs.declared.code.Code.{Code}
use Rattle.codes.specs.Answer.{Passes}
use Rattle.codes.specs.Projection.{Projection, width, message_bits}
use Rattle.codes.specs.Message.{encode}
use Rattle.codes.specs.Codes.{is_code, code_of, projection}
use Rattle.codes.proofs.Laws.{width_le, encode_lt, code_lt}
use Rattle.trace.specs.declared.slot.Content.{Content}
use Rattle.trace.specs.Layout.{trailer_size, distance_of, number_from, SlotBytes, body, place_in}
use Rattle.trace.specs.Layout.{trailer, trailer_at, distance_in, count_in, code_in, edition_in, start_in}
use Rattle.trace.specs.Refusals.{is_count, is_fit, is_bad}
use Rattle.trace.specs.Trace.{projection_in, content_with, content_at, view_in, trailer_rows, stored}
use Rattle.trace.specs.Plain.{Slot, Plain, projection_of, slot_of, with_slot, holds, view_of, stored_as, bytes}
use Rattle.trace.proofs.Numbers.{number_bytes}
use Rattle.trace.proofs.Slots.{Sized, content_sized, AllSized, length_body, state_part, word_part, marks_part, store_body}
use Rattle.trace.proofs.Trailers.{length_trailer, ended_at, ended_distance, ended_count, ended_code, ended_edition}
use Rattle.trace.proofs.Views.{tabulated}
use Rattle.trace.proofs.Finding.{count_few}

-- ---- plain traces whose numbers fit the layout

abbrev pub Fits : Projection → Slot → Type 0
Fits π Slot.blank = Unit {0}
Fits π (Slot.written m F M) = (m < 2 ^ message_bits π) × (F < 2 ^ width π) × (M < 2 ^ width π)

pub record Sound (p : Plain) : Type 0 where
  pub code : is_code p.code ≡ true
  pub count : is_count (length p.slots) ≡ true
  pub slots : (i : ℕ) → Fits (projection_of p) (slot_of p i)

-- ---- one slot

module _ (π : Projection) where
  sized : (s : Slot) → Sized (stored_as π s)
  sized s = content_sized (holds π s)

  all_sized : (ss : List Slot) → AllSized (map (stored_as π) ss)
  all_sized [] = tt
  all_sized (s ∷ ss) = (sized s, all_sized ss)

  map_set : (ss : List Slot) (i : ℕ) (s : Slot) → map (stored_as π) (set ss i s) ≡ set (map (stored_as π) ss) i (stored_as π s)
  map_set [] i s = refl
  map_set (x ∷ ss) zero s = refl
  map_set (x ∷ ss) (suc i) s = rw (map_set ss i s)

module _ (c : Code) where
  -- five bytes hold a word
  five_bytes : (n : ℕ) → n < 2 ^ width (projection c) → n < 256 ^ 5
  five_bytes n h = omega (arith, pow_mono (width_le c))

  -- the numbers in a slot's bytes say what the slot holds
  slot_holds : (s : Slot) → Fits (projection c) s
      → content_with (projection c) (number_from 0 (stored_as (projection c) s).state) (number_from 0 (stored_as (projection c) s).word)
      (number_from 0 (stored_as (projection c) s).marks)
      ≡ holds (projection c) s
  unfolding content_with is_bad
  slot_holds Slot.blank f =
      rw (number_bytes 1 0 (omega arith), number_bytes 5 0 (omega arith)) (simp (lt-leb _ _ (pow_pos (width (projection c)))))
  slot_holds (Slot.written m F M) f =
      let narrow = xor_lt (width (projection c)) (encode (projection c) m) F (encode_lt c m) f.1 in
      rw (number_bytes 1 1 (omega arith), number_bytes 5 _ (five_bytes _ narrow), number_bytes 5 M (five_bytes M f.2))
      (simp (lt-leb _ _ narrow, lt-leb _ _ f.2))

-- ---- the trailer of a plain trace's bytes

module _ (p : Plain) where
  abbrev slots_bytes : List SlotBytes
  slots_bytes = map (stored_as (projection_of p)) p.slots

  front : List ℕ
  front = p.free ++ body slots_bytes

  bytes_ended : bytes p ≡ front ++ trailer p.code (length p.slots)
  unfolding bytes front
  bytes_ended = sym (append_assoc p.free (body slots_bytes) (trailer p.code (length p.slots)))

  trailer_place : trailer_at (bytes p) ≡ length p.free + distance_of (length p.slots)
  unfolding front
  trailer_place =
      rw bytes_ended
      (ended_at front p.code (length p.slots) ∙ simp (length-append, length_body slots_bytes (all_sized (projection_of p) p.slots), length-map))

module _ (p : Plain) (s : Sound p) where
  few : length p.slots ≤ 4000
  few = count_few _ s.count

  distance_in_lem : distance_in (bytes p) ≡ distance_of (length p.slots)
  distance_in_lem = rw (bytes_ended p) (ended_distance (front p) p.code (length p.slots) few)

  count_in_lem : count_in (bytes p) ≡ length p.slots
  count_in_lem = rw (bytes_ended p) (ended_count (front p) p.code (length p.slots) few)

  code_in_lem : code_in (bytes p) ≡ p.code
  code_in_lem = rw (bytes_ended p) (ended_code (front p) p.code (length p.slots) (code_lt _ s.code))

  edition_in_lem : edition_in (bytes p) ≡ 1
  edition_in_lem = rw (bytes_ended p) (ended_edition (front p) p.code (length p.slots))

  pub projection_in_lem : projection_in (bytes p) ≡ projection_of p
  projection_in_lem = rw code_in_lem

  start_in_lem : start_in (bytes p) ≡ length p.free
  start_in_lem = rw (distance_in_lem, trailer_place p) (omega arith)

  -- '7, 8 and 10 are never met': 7 and 8
  fit : is_fit (trailer_at (bytes p)) (distance_in (bytes p)) (count_in (bytes p)) (code_in (bytes p)) (edition_in (bytes p)) ≡ true
  unfolding is_fit
  fit =
      let distance = distance_of (length p.slots) in
      let inside : distance_of (length p.slots) ≤ length p.free + distance_of (length p.slots) = omega arith in
      rw (distance_in_lem, count_in_lem, code_in_lem, edition_in_lem, trailer_place p) (simp (s.code, s.count, eq-eqb distance distance refl, le-leb _ _ inside))

  pub opens : Passes (trailer_rows (bytes p))
  opens =
      let long : trailer_size ≤ length (bytes p) = rw (bytes_ended p) (simp (length-append, length_trailer) (omega arith)) in
      simp (le-ltb _ _ long, fit)

  -- ---- its slots

  module _ (i : ℕ) (h : i < length p.slots) where
    there : i < length (slots_bytes p)
    there = rw length-map h

    content_in : content_at (projection_in (bytes p)) (bytes p) (place_in (bytes p) i) ≡ holds (projection_of p) (slot_of p i)
    unfolding bytes
    content_in =
        let ss = slots_bytes p in
        let all = all_sized (projection_of p) p.slots in
        let end = trailer p.code (length p.slots) in
        let d = stored_as (projection_of p) Slot.blank in
        rw (
          projection_in_lem,
          start_in_lem,
          state_part p.free end ss all i there d,
          word_part p.free end ss all i there d,
          marks_part p.free end ss all i there d,
          get_or-map (stored_as (projection_of p)) p.slots i Slot.blank,
        )
        (slot_holds (code_of p.code) (slot_of p i) (s.slots i))

    -- storing what a slot holds is storing the slot
    pub store_slot : (x : Slot) → stored i (holds (projection_of p) x) (bytes p) ≡ bytes (with_slot i x p)
    unfolding bytes stored
    store_slot x =
        let ss = slots_bytes p in
        let all = all_sized (projection_of p) p.slots in
        let end = trailer p.code (length p.slots) in
        rw (start_in_lem, length-set, map_set)
        (store_body p.free end ss all i there (stored_as (projection_of p) x) (sized (projection_of p) x))

  -- a call sees in the bytes what it sees of the plain trace
  pub seen_alike : view_in (bytes p) ≡ view_of p
  unfolding view_in view_of
  seen_alike =
      let same = tabulated (λ i. content_at (projection_in (bytes p)) (bytes p) (place_in (bytes p) i)) (count_in (bytes p))
      (map (holds (projection_of p)) p.slots) Content.Blank (length-map p.slots (holds (projection_of p)) ∙ sym count_in_lem)
      (λ i h. content_in i (rw count_in_lem at h) ∙ sym (get_or-map (holds (projection_of p)) p.slots i Slot.blank)) in
      λ i. record { code = projection_in_lem i; slots = same i }
