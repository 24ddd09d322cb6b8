-- A change of a slot in a buffer: its rows are those of the trailer, that of its slot, and its own. Where the first refuse, so does the call,
-- and nothing changes; where they pass, its own rows decide, by the slot's content alone; where all pass, the new content is stored.
use Rattle.std.proofs.Common.{◌≡◌, ℕ, ◌<◌, ◌≤◌, List, [], ◌∷◌, refl, ◌∙◌, ⊎_elim, le-ltb}
use lib.Bits.{bit_xor, bit_or}
use borrow.Author.Tests.{lt-leb}
use Rattle.std.specs.Prelude.{Result, Ok, Err}
use Rattle.codes.specs.Answer.{Answer, accepted, refused, Passes, Refuses}
use Rattle.codes.specs.Projection.{Projection, width}
use Rattle.codes.specs.Codes.{projection, step_limit}
use Rattle.trace.specs.declared.layout.Header.{Header}
use Rattle.trace.specs.declared.layout.Found.{Found}
use Rattle.trace.specs.declared.slot.Content.{Content}
use Rattle.trace.specs.declared.slot.Held.{Held}
use Rattle.trace.specs.declared.answer.Refusal.{Refusal}
use Rattle.trace.specs.Layout.{count_in, place_from, content_bytes, store_at}
use Rattle.trace.specs.Calls.{Call, put, put_list, flip, mark, load, clear, after}
use Rattle.trace.specs.Answers.{refusal_number, done_answer, load_answer}
use Rattle.trace.specs.Load.{positions_of}
use Rattle.trace.specs.View.{View, count_of, content_of, flip_content}
use Rattle.trace.specs.Refusals.{no_slot}
use Rattle.trace.specs.Rules.{bit_rows, refusals, gives, put_all}
use Rattle.trace.specs.Trace.{projection_in, slot_rows_in, view_in, trailer_rows, refusals_in, content_at, leaves, stored, put_in, on_bytes}
use Rattle.trace.specs.ContractsOfSteps.{OpenedAs, FoundAt, Change, put_change, flip_change, mark_change, load_change, clear_change}
use Rattle.trace.specs.ContractsOfSteps.{Changing, Step, StoredBy, RefusedBy, ChangedBy, BitIn, list_rows_of}
use Rattle.trace.specs.ContractsOfLoad.{LoadOf}
use Rattle.codes.proofs.Rows.{unless_passes, unless_refuses, passes_append, refuses_front, refuses_behind}
use Rattle.trace.proofs.Views.{view_code, view_count}
use Rattle.trace.proofs.PickLaws.{in_turn_lem}
use Rattle.trace.proofs.TrailerKept.{stored_trailer, same_opened}

-- ---- what each step gives

-- a flip's and a mark's position
module _ (π : Projection) (old : Content) (position w m x : ℕ) (t : BitIn π old position w m x) where
  bit_passes : Passes (bit_rows π old position)
  bit_passes = rw (t.content, lt-leb _ _ t.inside)

  pub flip_changed : Changing done_answer (flip_change π old position) (Ok (Content.Written (bit_xor w x) m, tt))
  flip_changed = (bit_passes, rw (t.content, t.bit), refl)

  pub mark_changed : Changing done_answer (mark_change π old position) (Ok (Content.Written w (bit_or m x), tt))
  mark_changed = (bit_passes, rw (t.content, t.bit), refl)

-- a load's draws
pub load_changed : (π : Projection) (old : Content) (seed k w m last word : ℕ) → old ≡ Content.Written w m → k ≤ width π → LoadOf (width π) seed k last word
    → Changing load_answer (load_change π old seed k) (Ok (Content.Written (bit_xor w word) m, last))
load_changed π old seed k w m last word holds few drawn =
    let word_in_turn = in_turn_lem (width π) (flip_content π) (λ x. Content.Written x m) (λ p x. refl) (positions_of π seed k) w in
    (rw (holds, le-ltb _ _ few), rw (holds, word_in_turn, drawn.picked), rw drawn.number)

-- ---- a change in a buffer

-- a call that is a change of a slot: it asks first whether the slot is there
pub record ChangesSlot (call : Call) (slot : ℕ) (change : Projection → Content → Change) : Type 0 where
  pub rows : (v : View) → refusals call v ≡ no_slot (count_of v) slot ∷ (change v.code (content_of v slot)).rows
  pub gives : (v : View) → gives call v ≡ accepted (change v.code (content_of v slot)).given
  pub leaves : (b : List ℕ) → leaves call b ≡ stored slot (change (projection_in b) (content_of (view_in b) slot)).new b

pub put_changes : (slot step reading : ℕ) → ChangesSlot (put slot step reading) slot (λ π c. put_change π step reading)
put_changes slot step reading = record { rows = λ v. refl; gives = λ v. refl; leaves = λ b. refl }

pub flip_changes : (slot position : ℕ) → ChangesSlot (flip slot position) slot (λ π c. flip_change π c position)
flip_changes slot position = record { rows = λ v. refl; gives = λ v. refl; leaves = λ b. refl }

pub mark_changes : (slot position : ℕ) → ChangesSlot (mark slot position) slot (λ π c. mark_change π c position)
mark_changes slot position = record { rows = λ v. refl; gives = λ v. refl; leaves = λ b. refl }

pub load_changes : (slot seed k : ℕ) → ChangesSlot (load slot seed k) slot (λ π c. load_change π c seed k)
load_changes slot seed k = record { rows = λ v. refl; gives = λ v. refl; leaves = λ b. refl }

pub clear_changes : (slot : ℕ) → ChangesSlot (clear slot) slot (λ π c. clear_change)
clear_changes slot = record { rows = λ v. refl; gives = λ v. refl; leaves = λ b. refl }

-- a refused call leaves all as it is
module _ (call : Call) (b : List ℕ) (k : ℕ) where
  pub refused_by : Refuses (refusals_in call b) k → after (refused k) b ≡ on_bytes call b
  unfolding on_bytes
  refused_by e = rw (unless_refuses (refusals_in call b) (gives call (view_in b)) _ e)

module _ {T : Type 0} (answer : Result T Refusal → Answer (List ℕ)) (number : (r : Refusal) → answer (Err r) ≡ refused (refusal_number r))
    (call : Call) (slot : ℕ) (change : Projection → Content → Change) (is : ChangesSlot call slot change)
    (step : Step T) (steps : (held : Held) (y : Result (Content × T) Refusal) → step held y → Changing answer (change (projection held.code) held.content) y)
    (b : List ℕ) where
  own_rows : (f : Found) → FoundAt b slot f
      → refusals call (view_in b) ≡ no_slot (count_of (view_in b)) slot ∷ (change (projection f.code) (content_at (projection f.code) b f.place)).rows
  own_rows f at = is.rows (view_in b) ∙ rw (at.content, at.code, view_code b)

  changed_to : (b' : List ℕ) (t : T) → StoredBy step slot b b' t → after (answer (Ok t)) b' ≡ on_bytes call b
  unfolding on_bytes stored
  changed_to b' t s =
      let f = s.found in
      let given = steps _ _ s.stepped in
      let own : Passes (refusals call (view_in b)) = rw (own_rows s.at f, lt-leb _ _ f.there) given.0 in
      let passes = passes_append (trailer_rows b) (refusals call (view_in b)) f.opened own in
      rw (unless_passes (refusals_in call b) (gives call (view_in b)) passes, is.gives (view_in b), is.leaves b, given.2, s.stored, given.1, f.content, f.code, view_code b, f.place)

  not_changed : (r : Refusal) → RefusedBy step slot b r → Refuses (refusals_in call b) (refusal_number r)
  not_changed r s =
      let f = s.found in
      let own : Refuses (refusals call (view_in b)) (refusal_number r) = rw (own_rows s.at f, lt-leb _ _ f.there) (steps _ _ s.stepped) in
      refuses_behind (trailer_rows b) (refusals call (view_in b)) _ f.opened own

  not_found : (r : Refusal) → Refuses (slot_rows_in b slot) (refusal_number r) → Refuses (refusals_in call b) (refusal_number r)
  not_found r e = rw (is.rows (view_in b)) (refuses_front (slot_rows_in b slot) (change (view_in b).code (content_of (view_in b) slot)).rows _ e)

  pub changed_by : (b' : List ℕ) (r : Result T Refusal) → ChangedBy step slot b b' r → after (answer r) b' ≡ on_bytes call b
  changed_by b' (Ok t) s = changed_to b' t s
  changed_by b' (Err r) s = rw (s.0, number r) (refused_by call b _ (⊎_elim (not_found r) (not_changed r) s.1))

-- ---- a put into a slot of an opened buffer

module _ (b : List ℕ) (h : Header) (o : OpenedAs b h) (slot step reading : ℕ) (there : slot < h.slots)
    (hs : step < step_limit (projection h.code)) (hr : reading < 4096) where
  abbrev within : slot < count_in b
  within = rw o.slots at there

  abbrev code_same : projection_in b ≡ projection h.code
  code_same = rw o.code

  module _ (f : Found) (at : f ≡ record { place = place_from h.start slot; code = h.code }) (new : Content) (t : Unit {0})
      (e : Changing done_answer (put_change (projection h.code) step reading) (Ok (new, t))) where
    at_place : store_at b f.place (content_bytes new) ≡ stored slot new b
    unfolding stored
    at_place = rw (at, o.start)

    pub put_stored : store_at b f.place (content_bytes new) ≡ put_in slot step reading b
    put_stored = at_place ∙ rw (e.1, code_same)

    pub put_opened : OpenedAs (store_at b f.place (content_bytes new)) h
    put_opened = rw at_place (same_opened b (stored slot new b) (stored_trailer b o.passes slot within new) h o)

-- ---- a list of puts in a buffer

module _ (b : List ℕ) (start : ℕ) (steps readings : List ℕ) where
  abbrev call : Call
  call = put_list start steps readings

  pub list_not_opened : (r : Refusal) → Refuses (trailer_rows b) (refusal_number r) → after (done_answer (Err r)) b ≡ on_bytes call b
  list_not_opened r e = refused_by call b _ (refuses_front (trailer_rows b) (refusals call (view_in b)) _ e)

  module _ (h : Header) (o : OpenedAs b h) where
    pub list_refused : (r : Refusal) → Refuses (list_rows_of h start steps readings) (refusal_number r)
        → after (done_answer (Err r)) b ≡ on_bytes call b
    list_refused r e =
        let own : Refuses (refusals call (view_in b)) (refusal_number r) = rw (view_count b, view_code b, ← o.slots, ← o.code) e in
        refused_by call b _ (refuses_behind (trailer_rows b) (refusals call (view_in b)) _ o.passes own)

    pub list_accepted : Passes (list_rows_of h start steps readings) → after (accepted []) (put_all put_in start steps readings b) ≡ on_bytes call b
    unfolding on_bytes
    list_accepted fit =
        let own : Passes (refusals call (view_in b)) = rw (view_count b, view_code b, ← o.slots, ← o.code) fit in
        rw (unless_passes {A = List ℕ} (refusals_in call b) (accepted []) (passes_append (trailer_rows b) (refusals call (view_in b)) o.passes own))
