-- What is particular to each call, in one table: the numbers of its refusals, in order, and on a plain trace; that it gives values where none of
-- them is met; and, where a sound plain trace accepts it, that it leaves on the bytes the bytes of what it leaves of the plain trace, which is sound
-- and has the same code. No other proof goes by the calls. A call that changes one slot stores there what the new slot holds; its rows say that the
-- slot is there and that its numbers fit; a list of puts does so for each of its slots in turn. A plain slot is never bad, so 10 isn't met.
use Rattle.std.proofs.Common.{◌≡◌, ℕ, suc, ◌+◌, ◌<◌, ◌≤◌, true, false, leb, List, [], ◌∷◌, length, get_or, sym, refl, ◌∙◌, arith, length-set, ltb-false, leb-false}
use mathlib.Core.Bool.{false≢true}
use mathlib.Core.Option.{Option, none, some}
use Rattle.codes.specs.declared.answer.Correction.{Correction}
use Rattle.codes.specs.Answer.{Answer, accepted, Row, unless, map_answer, Passes, Refuses}
use Rattle.codes.specs.Projection.{Projection, width}
use Rattle.codes.specs.Codes.{code_of, step_limit}
use Rattle.codes.specs.Correction.{correct, is_far}
use Rattle.codes.specs.Claims.{Among, numbers}
use Rattle.codes.proofs.Rows.{accepted_row, passes_first, first_among}
use Rattle.trace.specs.declared.slot.Content.{Content}
use Rattle.trace.specs.Answers.{reading_values}
use Rattle.trace.specs.Lists.{reaches, in_turn}
use Rattle.trace.specs.Load.{positions_of}
use Rattle.trace.specs.Calls.{Call, put, put_list, flip, mark, load, clear, read, survey}
use Rattle.trace.specs.View.{View, count_of, content_of, message_of, reading_of, read_corrected, read_content, flip_content, mark_content}
use Rattle.trace.specs.Refusals.{no_slot, holds_bad, bad_slot, holds_nothing, blank_slot, lost_slot, no_position, too_large, too_many}
use Rattle.trace.specs.Rules.{content_rows, refusals, gives, put_all}
use Rattle.trace.specs.Trace.{projection_in, view_in, stored, put_in, leaves}
use Rattle.trace.specs.Plain.{Slot, Plain, projection_of, slot_of, with_slot, holds, view_of, bytes, plain_put, flipped, marked, plain_leaves}
use Rattle.trace.specs.Claims.{numbers_of}
use Rattle.trace.proofs.Among.{has, among_within}
use Rattle.trace.proofs.Views.{plain_code, plain_count, plain_content}
use Rattle.trace.proofs.Stored.{Fits, Sound, projection_in_lem, store_slot, seen_alike}
use Rattle.trace.proofs.Words.{message_lt}
use Rattle.trace.proofs.LoadLaws.{load_draws}
use Rattle.trace.proofs.PutLists.{neither, first_below, rest_below, ListPassed, list_passed}
use Rattle.trace.proofs.PlainSlots.{put_holds, flip_holds, flips_hold, mark_holds, put_fits, flip_fits, flips_fit, mark_fits, sound_with}

-- ---- the table's columns

-- 'Refusals 9, 11, 12 and 13 follow from its slots and the call's numbers, 5 from mending', and so do 14, 15 and 16
abbrev pub plain_numbers : List ℕ
plain_numbers = 5 ∷ 9 ∷ 11 ∷ 12 ∷ 13 ∷ 14 ∷ 15 ∷ 16 ∷ []

-- bytes and a plain trace that a call left of a plain trace and its bytes
pub record Left (p : Plain) (b : List ℕ) (q : Plain) : Type 0 where
  pub same : b ≡ bytes q
  pub sound : Sound q
  pub code : q.code ≡ p.code

pub record CallFacts (c : Call) : Type 0 where
  -- behind 7 and 8, its rows have the call's numbers, in order
  pub ordered : (v : View) → 7 ∷ 8 ∷ numbers (refusals c v) ≡ numbers_of c
  -- where none of them is met it gives values
  pub accepts : (v : View) → Passes (refusals c v) → (vs : List ℕ) × (gives c v ≡ accepted vs)
  -- on a plain trace, a row that is met has one of the plain trace's numbers
  pub plainly : (p : Plain) (n : ℕ) → Refuses (refusals c (view_of p)) n → Among n plain_numbers
  -- where it is accepted, both levels are left alike
  pub left : (p : Plain) → Sound p → (vs : List ℕ) → unless (refusals c (view_of p)) (gives c (view_of p)) ≡ accepted vs
      → Left p (leaves c (bytes p)) (plain_leaves c p)

-- ---- calls that change nothing

unchanged : (p : Plain) → Sound p → Left p (bytes p) p
unchanged p s = record { same = refl; sound = s; code = refl }

-- ---- calls that change a slot

-- a call that is accepted names a slot that is there
pub there : {A : Type 0} (p : Plain) (slot : ℕ) (a : Answer A) (v : A) → unless (no_slot (count_of (view_of p)) slot ∷ []) a ≡ accepted v
    → (slot < length p.slots) × (a ≡ accepted v)
there p slot a v e =
    let passed = accepted_row (no_slot (count_of (view_of p)) slot) a v e in
    (rw plain_count at (leb-false _ slot passed.0), passed.1)

-- what is left where another slot is stored
changed : (p : Plain) → Sound p → (slot : ℕ) → slot < length p.slots → (x : Slot) → Fits (projection_of p) x → (b : List ℕ)
    → b ≡ stored slot (holds (projection_of p) x) (bytes p) → Left p b (with_slot slot x p)
changed p s slot h x f b e = record { same = e ∙ store_slot p s slot h x; sound = sound_with p s slot h x f; code = refl }

-- ---- put, and a list of puts

module _ (slot step reading : ℕ) where
  fit_left : (p : Plain) → Sound p → slot < length p.slots → step < step_limit (projection_of p) → reading < 4096
      → Left p (put_in slot step reading (bytes p)) (plain_put slot step reading p)
  fit_left p s there hs hr =
      let π = projection_of p in
      let fits = message_lt (code_of p.code) step reading hs hr in
      changed p s slot there (Slot.written (message_of step reading) 0 0) (put_fits π _ fits) _ (rw (projection_in_lem p s, put_holds π))

  put_left : (p : Plain) → Sound p → (vs : List ℕ) → unless (refusals (put slot step reading) (view_of p)) (accepted []) ≡ accepted vs
      → Left p (leaves (put slot step reading) (bytes p)) (plain_leaves (put slot step reading) p)
  put_left p s vs e =
      let inside = there p slot _ vs e in
      let small = rw plain_code at (accepted_row (too_large (view_of p).code step reading) _ vs inside.1).0 in
      let both = neither (leb (step_limit (projection_of p)) step) (leb 4096 reading) small in
      fit_left p s inside.0 (leb-false _ step both.0) (leb-false 4096 reading both.1)

-- each put of a list, in turn, leaves both levels alike
fits_left : (start : ℕ) (steps readings : List ℕ) (p : Plain) → Sound p → start + length steps ≤ length p.slots
    → reaches (step_limit (projection_of p)) steps ≡ false → reaches 4096 readings ≡ false
    → Left p (put_all put_in start steps readings (bytes p)) (put_all plain_put start steps readings p)
unfolding put_all
fits_left start [] readings p s inside es er = unchanged p s
fits_left start (step ∷ steps) [] p s inside es er = unchanged p s
fits_left start (step ∷ steps) (reading ∷ readings) p s inside es er =
    let first = fit_left start step reading p s (omega arith) (first_below _ step steps es) (first_below _ reading readings er) in
    let rest = fits_left (suc start) steps readings (plain_put start step reading p) first.sound (rw length-set (omega arith))
    (rest_below _ step steps es) (rest_below _ reading readings er) in
    record { same = rw first.same rest.same; sound = rest.sound; code = rest.code ∙ first.code }

-- an accepted list has passed its rows
pub plain_passed : (p : Plain) (start : ℕ) (steps readings : List ℕ) (vs : List ℕ)
    → unless (refusals (put_list start steps readings) (view_of p)) (accepted []) ≡ accepted vs
    → ListPassed (projection_of p) (length p.slots) start steps readings × (vs ≡ [])
plain_passed p start steps readings vs e =
    list_passed (projection_of p) (length p.slots) start steps readings vs (rw (plain_code p, plain_count p) at e)

-- ---- flip, mark and load

-- the rows of all three: those of a written slot, and a last one
abbrev pub rows_of : View → ℕ → Row → List Row
rows_of v slot last = no_slot (count_of v) slot ∷ bad_slot (content_of v slot) ∷ blank_slot (content_of v slot) ∷ last ∷ []

-- a plain slot is never bad
pub never_bad : (p : Plain) (slot : ℕ) → holds_bad (content_of (view_of p) slot) ≡ false
never_bad p slot = rw (plain_content p slot) (go (slot_of p slot))
  where
    go : (x : Slot) → holds_bad (holds (projection_of p) x) ≡ false
    go Slot.blank = refl
    go (Slot.written m F M) = refl

-- what a call that is accepted with some values has passed, before what it gives
pub record Passed (p : Plain) (slot : ℕ) (last : Row) (a : Answer (List ℕ)) (vs : List ℕ) : Type 0 where
  pub there : slot < length p.slots
  pub written : holds_nothing (content_of (view_of p) slot) ≡ false
  pub unmet : last.met ≡ false
  pub given : a ≡ accepted vs

module _ (p : Plain) (slot : ℕ) (last : Row) where
  written_refused : has plain_numbers last.number ≡ true → (n : ℕ) → Refuses (rows_of (view_of p) slot last) n → Among n plain_numbers
  written_refused listed n e =
      let rows = no_slot (count_of (view_of p)) slot ∷ blank_slot (content_of (view_of p) slot) ∷ last ∷ [] in
      among_within (9 ∷ 11 ∷ last.number ∷ []) plain_numbers (rw listed) n (first_among rows n (rw (never_bad p slot) at e))

  pub written_passed : (a : Answer (List ℕ)) (vs : List ℕ) → unless (rows_of (view_of p) slot last) a ≡ accepted vs → Passed p slot last a vs
  written_passed a vs e =
      let v = view_of p in
      let inside = there p slot _ vs e in
      let fine = accepted_row (bad_slot (content_of v slot)) _ vs inside.1 in
      let full = accepted_row (blank_slot (content_of v slot)) _ vs fine.1 in
      let end = accepted_row last _ vs full.1 in
      record { there = inside.0; written = full.0; unmet = end.0; given = end.1 }

-- a flip's and a mark's position is in the word, and a load's count is not above its width
pub position_inside : (p : Plain) (position : ℕ) → (no_position (view_of p).code position).met ≡ false → position < width (projection_of p)
position_inside p position e = leb-false _ position (rw plain_code at e)

pub count_fits : (p : Plain) (k : ℕ) → (too_many (view_of p).code k).met ≡ false → k ≤ width (projection_of p)
count_fits p k e = ltb-false _ k (rw plain_code at e)

-- what all three leave, by what each makes of a slot and of a content
module _ (f : Projection → Slot → Slot) (g : Projection → Content → Content) (last : Projection → Row) (a : Answer (List ℕ))
    (held : (π : Projection) (x : Slot) → holds π (f π x) ≡ g π (holds π x))
    (fits : (p : Plain) → (last (view_of p).code).met ≡ false → (x : Slot) → Fits (projection_of p) x → Fits (projection_of p) (f (projection_of p) x)) where
  written_left : (slot : ℕ) (p : Plain) → Sound p → (vs : List ℕ) → unless (rows_of (view_of p) slot (last (view_of p).code)) a ≡ accepted vs
      → Left p (stored slot (g (projection_in (bytes p)) (content_of (view_in (bytes p)) slot)) (bytes p))
      (with_slot slot (f (projection_of p) (slot_of p slot)) p)
  written_left slot p s vs e =
      let π = projection_of p in
      let passed = written_passed p slot (last (view_of p).code) a vs e in
      changed p s slot passed.there (f π (slot_of p slot)) (fits p passed.unmet (slot_of p slot) (s.slots slot)) _
      (rw (projection_in_lem p s, seen_alike p s, plain_content p slot, held π))

-- the positions of a load are the word's
pub drawn_inside : (π : Projection) (seed k : ℕ) → k ≤ width π → (i : ℕ) → i < length (positions_of π seed k) → get_or (positions_of π seed k) i 0 < width π
drawn_inside π seed k h i inside = let draws = load_draws π seed k h in draws.inside i (rw draws.count at inside)

-- ---- read

-- what mending finds is given
found_given : (x : Option Correction) → is_far x ≡ false → (vs : List ℕ) × (map_answer reading_values (read_corrected x) ≡ accepted vs)
unfolding read_corrected
found_given (some c) e = (reading_values (reading_of c), refl)
found_given none e = absurd (false≢true (sym e))

content_given : (π : Projection) (c : Content) → Passes (content_rows π c) → (vs : List ℕ) × (map_answer reading_values (read_content π c) ≡ accepted vs)
unfolding read_content
content_given π Content.Blank e = let z : ◌≡◌ {A = ℕ} 0 1 = cc in absurd (omega arith)
content_given π Content.Bad e = let z : ◌≡◌ {A = ℕ} 0 1 = cc in absurd (omega arith)
content_given π (Content.Written word marks) e = found_given (correct π word marks) (passes_first (lost_slot π (Content.Written word marks)) [] e).0

read_plainly : (slot : ℕ) (p : Plain) (n : ℕ) → Refuses (refusals (read slot) (view_of p)) n → Among n plain_numbers
read_plainly slot p n e =
    let v = view_of p in
    let rows = no_slot (count_of v) slot ∷ blank_slot (content_of v slot) ∷ lost_slot v.code (content_of v slot) ∷ [] in
    among_within (9 ∷ 11 ∷ 5 ∷ []) plain_numbers refl n (first_among rows n (rw (never_bad p slot) at e))

-- ---- the table

-- a call that only changes
done : (vs : List ℕ) × (accepted [] ≡ accepted vs)
done = ([], refl)

pub facts : (c : Call) → CallFacts c
facts (put slot step reading) =
    record {
      ordered = λ v. refl;
      accepts = λ v t. done;
      plainly = λ p n e. among_within (9 ∷ 13 ∷ []) plain_numbers refl n (first_among (refusals (put slot step reading) (view_of p)) n e);
      left = put_left slot step reading;
    }
facts (put_list start steps readings) =
    record {
      ordered = λ v. refl;
      accepts = λ v t. done;
      plainly =
          λ p n e. among_within (9 ∷ 15 ∷ 16 ∷ 13 ∷ []) plain_numbers refl n (first_among (refusals (put_list start steps readings) (view_of p)) n e);
      left =
          λ p s vs e.
          let passed = (plain_passed p start steps readings vs e).0 in
          fits_left start steps readings p s passed.inside passed.small_steps passed.small_readings;
    }
facts (flip slot position) =
    record {
      ordered = λ v. refl;
      accepts = λ v t. done;
      plainly = λ p. written_refused p slot (no_position (view_of p).code position) refl;
      left =
          written_left (λ π. flipped π position) (λ π. flip_content π position) (λ π. no_position π position) _ (λ π. flip_holds π position)
          (λ p e. flip_fits (projection_of p) position (position_inside p position e)) slot;
    }
facts (mark slot position) =
    record {
      ordered = λ v. refl;
      accepts = λ v t. done;
      plainly = λ p. written_refused p slot (no_position (view_of p).code position) refl;
      left =
          written_left (λ π. marked π position) (λ π. mark_content π position) (λ π. no_position π position) _ (λ π. mark_holds π position)
          (λ p e. mark_fits (projection_of p) position (position_inside p position e)) slot;
    }
facts (load slot seed k) =
    record {
      ordered = λ v. refl;
      accepts = λ v t. (_, refl);
      plainly = λ p. written_refused p slot (too_many (view_of p).code k) refl;
      left =
          written_left (λ π. in_turn (flipped π) (positions_of π seed k)) (λ π. in_turn (flip_content π) (positions_of π seed k)) (λ π. too_many π k)
          _ (λ π. flips_hold π (positions_of π seed k))
          (λ p e. flips_fit (projection_of p) (positions_of (projection_of p) seed k) (drawn_inside (projection_of p) seed k (count_fits p k e))) slot;
    }
facts (clear slot) =
    record {
      ordered = λ v. refl;
      accepts = λ v t. done;
      plainly = λ p n e. among_within (9 ∷ []) plain_numbers refl n (first_among (refusals (clear slot) (view_of p)) n e);
      left = λ p s vs e. changed p s slot (there p slot _ vs e).0 Slot.blank tt _ refl;
    }
facts (read slot) =
    record {
      ordered = λ v. refl;
      accepts = λ v t. content_given v.code (content_of v slot) (passes_first (no_slot (count_of v) slot) (content_rows v.code (content_of v slot)) t).1;
      plainly = read_plainly slot;
      left = λ p s vs e. unchanged p s;
    }
facts survey =
    record {
      ordered = λ v. refl;
      accepts = λ v t. (_, refl);
      plainly = λ p n e. let z : ◌≡◌ {A = ℕ} 0 1 = cc in absurd (omega arith);
      left = λ p s vs e. unchanged p s;
    }
