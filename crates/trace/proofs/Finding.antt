-- How a call comes to its slot: what an opened buffer says of a slot. Each refusal that is passed leaves the rows after it; where all pass,
-- the slot's place lies before the trailer, and what stands there is what the call sees.
use Rattle.std.proofs.Common.{◌≡◌, ℕ, ◌<◌, ◌≤◌, true, leb, List, [], ◌∷◌, length, sym, ◌∙◌, arith, le-leb, leb-true}
use mathlib.Core.Bool.{and-eq-true_iff}
use borrow.Author.Tests.{lt-leb}
use Rattle.codes.specs.Answer.{accepted, refused, Passes, Refuses}
use Rattle.codes.specs.Codes.{projection}
use Rattle.trace.specs.declared.layout.Header.{Header}
use Rattle.trace.specs.declared.layout.Found.{Found}
use Rattle.trace.specs.Layout.{count_in, place_from, place_in}
use Rattle.trace.specs.View.{count_of, read_content, read_alone}
use Rattle.trace.specs.Survey.{counts_of, pressures, total, extremes, answers_of, survey_of}
use Rattle.trace.specs.Refusals.{is_count, no_slot}
use Rattle.trace.specs.Trace.{slot_rows_in, content_at, view_in, trailer_rows, alone_in, survey_in}
use Rattle.trace.specs.ContractsOfSteps.{OpenedAs, Room, FoundAt}
use Rattle.codes.proofs.Rows.{refuses_behind, passes_append, unless_passes, unless_refuses}
use Rattle.trace.proofs.Views.{view_code, view_count, view_content}

-- 'N not 1 to 4,000'
pub count_few : (n : ℕ) → is_count n ≡ true → n ≤ 4000
count_few n e = leb-true n 4000 ((and-eq-true_iff (leb 1 n) (leb n 4000)).0 e).1

-- the slots of an opened buffer lie before its trailer
room : (b : List ℕ) (h : Header) → OpenedAs b h → (slot : ℕ) → slot < h.slots → Room (length b) (place_from h.start slot)
unfolding place_from
room b h o slot lt = record { state = omega (arith, o.inside); word = omega (arith, o.inside); marks = omega (arith, o.inside) }

module _ (b : List ℕ) (slot : ℕ) where
  pub not_found : (h : Header) → OpenedAs b h → h.slots ≤ slot → Refuses (slot_rows_in b slot) 9
  not_found h o le =
      refuses_behind (trailer_rows b) (no_slot (count_of (view_in b)) slot ∷ []) 9 o.passes
      (rw (view_count b, ← o.slots, le-leb _ _ le))

  pub found : (h : Header) → OpenedAs b h → slot < h.slots → (f : Found) → f ≡ record { place = place_from h.start slot; code = h.code } → FoundAt b slot f
  found h o lt f e =
      let within : slot < count_in b = rw o.slots at lt in
      let there : slot < count_of (view_in b) = rw (view_count b) within in
      let place : f.place ≡ place_in b slot = rw (e, o.start) in
      record {
        opened = o.passes;
        there = there;
        place = place;
        code = rw (e, o.code);
        content = rw (place, e, o.code) (sym (view_content b slot within));
        room = rw e (room b h o slot lt);
      }

-- what is read at a found slot's place is a read of that slot alone
module _ (b : List ℕ) (slot : ℕ) where
  pub found_reads : (f : Found) → FoundAt b slot f → read_content (projection f.code) (content_at (projection f.code) b f.place) ≡ read_alone (view_in b) slot
  found_reads f at = rw (view_code b, at.content, at.code)

  pub alone_refused : (k : ℕ) → Refuses (slot_rows_in b slot) k → refused k ≡ alone_in b slot
  unfolding alone_in
  alone_refused k e = sym (unless_refuses (slot_rows_in b slot) (read_alone (view_in b) slot) k e)

  pub alone_found : (f : Found) → FoundAt b slot f → read_content (projection f.code) (content_at (projection f.code) b f.place) ≡ alone_in b slot
  unfolding alone_in
  alone_found f at =
      let there : Passes (no_slot (count_of (view_in b)) slot ∷ []) = rw (lt-leb _ _ at.there) in
      found_reads f at
      ∙ sym (unless_passes (slot_rows_in b slot) (read_alone (view_in b) slot) (passes_append (trailer_rows b) (no_slot (count_of (view_in b)) slot ∷ []) at.opened there))

-- a survey of an opened buffer counts the slots that its header names
module _ (b : List ℕ) where
  pub survey_refused : (k : ℕ) → Refuses (trailer_rows b) k → refused k ≡ survey_in b
  unfolding survey_in
  survey_refused k e = sym (unless_refuses (trailer_rows b) (accepted (survey_of (view_in b))) k e)

  pub survey_opened : (h : Header) → OpenedAs b h
      → accepted (record {
        slots = h.slots;
        counts = counts_of (answers_of (view_in b) h.slots);
        sum = total (pressures (answers_of (view_in b) h.slots));
        pressures = extremes (pressures (answers_of (view_in b) h.slots));
      })
      ≡ survey_in b
  unfolding survey_in survey_of
  survey_opened h o =
      let all : h.slots ≡ count_of (view_in b) = o.slots ∙ sym (view_count b) in
      rw all (sym (unless_passes (trailer_rows b) (accepted (survey_of (view_in b))) o.passes))
