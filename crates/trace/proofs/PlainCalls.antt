-- What calls make of the plain trace. An accepted call leaves what its definition says, with another slot in the place of its own, which its rows say is
-- there; a refused one leaves the trace. So a message that was put stays in its slot through any list of calls of which none overwrites
-- it: by induction on the list, each call leaves the slot, or changes its F or M.
use Rattle.std.proofs.Common.{◌≡◌, ℕ, zero, suc, ◌+◌, ◌-◌, ◌*◌, ◌<◌, ◌≤◌, Bool, true, false, eqb, List, [], ◌∷◌, length, get_or, sym, refl, ap, ◌∙◌, inl, inr, add-zero, add-suc, suc-add, arith, length-set, get_or-set_other, get_or-set_same, le-ltb, lt-ltb, eqb-true}
use lib.ListN.{length-replicate}
use lib.Bits.{bit_xor}
use borrow.Author.Tests.{eqb-false, lt-leb}
use Rattle.codes.specs.Answer.{Answer, accepted, refused, unless}
use Rattle.codes.specs.Projection.{Projection, width}
use Rattle.codes.specs.Word.{bit}
use Rattle.codes.proofs.Rows.{not_refused}
use Rattle.trace.specs.Lists.{in_turn}
use Rattle.trace.specs.Calls.{Call, put, put_list, flip, mark, load, clear, read, survey, Making, run}
use Rattle.trace.specs.Load.{positions_of, handed_back}
use Rattle.trace.specs.Refusals.{no_position, too_many}
use Rattle.trace.specs.View.{message_of}
use Rattle.trace.specs.Rules.{refusals, gives, put_all}
use Rattle.trace.specs.Plain.{Slot, Plain, projection_of, slot_of, with_slot, view_of, fresh, plain_put, flipped, marked, plain_leaves, on_plain}
use Rattle.trace.specs.ContractsOfLoad.{toggle}
use Rattle.trace.specs.Claims.{SlotBecame, SlotsBecame, Toggled, Added, PlainCalls, Overwrites, Kept, plain_after, Puts, LastPut}
use Rattle.trace.proofs.Outcomes.{outcome_answer, outcome_same, outcome_accepted, outcome_refused}
use Rattle.trace.proofs.Views.{plain_code, plain_count, plain_content}
use Rattle.trace.proofs.Makings.{all_blank}
use Rattle.trace.proofs.Runs.{run_append}
use Rattle.trace.proofs.CallFacts.{there, plain_passed, written_passed, position_inside}
use Rattle.trace.proofs.Sets.{or_twice, toggled, added}
use Rattle.trace.proofs.PickLaws.{in_turn_lem}

-- ---- one call

became : (p : Plain) (slot : ℕ) (x : Slot) → slot < length p.slots → SlotBecame p slot x (with_slot slot x p)
became p slot x h =
    record {
      own = get_or-set_same p.slots slot x Slot.blank h;
      others = λ other differs. get_or-set_other p.slots slot other x Slot.blank differs;
      count = length-set p.slots slot x;
      code = refl;
      free = refl;
    }

-- an accepted call has passed its rows, and leaves what it says
pub accepted_leaves : (c : Call) (p : Plain) (vs : List ℕ) → (on_plain c p).answer ≡ accepted vs
    → (unless (refusals c (view_of p)) (gives c (view_of p)) ≡ accepted vs) × ((on_plain c p).state ≡ plain_leaves c p)
unfolding on_plain
accepted_leaves c p vs e = outcome_accepted (unless (refusals c (view_of p)) (gives c (view_of p))) (plain_leaves c p) p vs e

-- a list of puts changes its slots in turn: the first put changes the first slot, and the rest leave it
list_became : (start : ℕ) (steps readings : List ℕ) (p : Plain) → start + length steps ≤ length p.slots → length steps ≡ length readings
    → SlotsBecame p start steps readings (put_all plain_put start steps readings p)
unfolding put_all
list_became start [] readings p inside even =
    record { own = λ i h. absurd (omega arith); others = λ other out. refl; count = refl; code = refl; free = refl }
list_became start (step ∷ steps) [] p inside even = absurd (omega arith)
list_became start (step ∷ steps) (reading ∷ readings) p inside even =
    let first = became p start (Slot.written (message_of step reading) 0 0) (omega arith) in
    let rest = list_became (suc start) steps readings (plain_put start step reading p) (rw length-set (omega arith)) (omega arith) in
    record {
      own = own first.own rest;
      others = λ other out. rest.others other (λ k. out (omega arith, omega arith)) ∙ first.others other (λ same. out (omega arith, omega arith));
      count = rest.count ∙ first.count;
      code = rest.code;
      free = rest.free;
    }
  where
    own : {q r : Plain} → slot_of q start ≡ Slot.written (message_of step reading) 0 0 → SlotsBecame q (suc start) steps readings r
        → (i : ℕ) → i < length (step ∷ steps)
        → slot_of r (start + i) ≡ Slot.written (get_or (step ∷ steps) i 0 * 4096 + get_or (reading ∷ readings) i 0) 0 0
    own first rest zero h = rw add-zero (rest.others start (λ k. omega arith) ∙ first)
    own first rest (suc i) h = rw (add-suc, ← suc-add) (rest.own i (omega arith))

module _ (p : Plain) (slot : ℕ) where
  puts : (step reading : ℕ) (vs : List ℕ) → (on_plain (put slot step reading) p).answer ≡ accepted vs
      → SlotBecame p slot (Slot.written (message_of step reading) 0 0) (on_plain (put slot step reading) p).state
  puts step reading vs e =
      let u = accepted_leaves (put slot step reading) p vs e in
      rw u.1 (became p slot _ (there p slot _ vs u.0).0)

  put_lists : (steps readings : List ℕ) (vs : List ℕ) → (on_plain (put_list slot steps readings) p).answer ≡ accepted vs
      → SlotsBecame p slot steps readings (on_plain (put_list slot steps readings) p).state
  put_lists steps readings vs e =
      let u = accepted_leaves (put_list slot steps readings) p vs e in
      let passed = (plain_passed p slot steps readings vs u.0).0 in
      rw u.1 (list_became slot steps readings p passed.inside passed.even)

  clears : (vs : List ℕ) → (on_plain (clear slot) p).answer ≡ accepted vs → SlotBecame p slot Slot.blank (on_plain (clear slot) p).state
  clears vs e =
      let u = accepted_leaves (clear slot) p vs e in
      rw u.1 (became p slot Slot.blank (there p slot _ vs u.0).0)

  module _ (position m F M : ℕ) (written : slot_of p slot ≡ Slot.written m F M) (vs : List ℕ) where
    flips : (on_plain (flip slot position) p).answer ≡ accepted vs
        → (F' : ℕ) × Toggled (projection_of p) position F F' × SlotBecame p slot (Slot.written m F' M) (on_plain (flip slot position) p).state
    flips e =
        let u = accepted_leaves (flip slot position) p vs e in
        let passed = written_passed p slot (no_position (view_of p).code position) _ vs u.0 in
        (_, toggled (projection_of p) position F (position_inside p position passed.unmet), rw (u.1, written) (became p slot _ passed.there))

    marks : (on_plain (mark slot position) p).answer ≡ accepted vs
        → (M' : ℕ) × Added (projection_of p) position M M' × SlotBecame p slot (Slot.written m F M') (on_plain (mark slot position) p).state
    marks e =
        let u = accepted_leaves (mark slot position) p vs e in
        let passed = written_passed p slot (no_position (view_of p).code position) _ vs u.0 in
        (_, added (projection_of p) position M (position_inside p position passed.unmet), rw (u.1, written) (became p slot _ passed.there))

  -- a load changes F alone
  module _ (seed k m F M : ℕ) (written : slot_of p slot ≡ Slot.written m F M) (vs : List ℕ) where
    loads : (on_plain (load slot seed k) p).answer ≡ accepted vs
        → (F' : ℕ) × SlotBecame p slot (Slot.written m F' M) (on_plain (load slot seed k) p).state
    loads e =
        let u = accepted_leaves (load slot seed k) p vs e in
        let passed = written_passed p slot (too_many (view_of p).code k) _ vs u.0 in
        let π = projection_of p in
        let ps = positions_of (projection_of p) seed k in
        let flipped_all = in_turn_lem (width π) (flipped π) (λ x. Slot.written m x M) (λ q x. refl) ps F in
        (bit_xor F (in_turn (toggle (width π)) ps 0), rw (u.1, written, flipped_all) (became p slot _ passed.there))

  -- by its count
  module _ (seed k m F M : ℕ) (there : slot < length p.slots) (written : slot_of p slot ≡ Slot.written m F M) where
    load_fits : k ≤ width (projection_of p) → (on_plain (load slot seed k) p).answer ≡ accepted (handed_back k seed ∷ [])
    unfolding on_plain
    load_fits few = rw (outcome_answer, plain_count p, lt-leb _ _ there, plain_content p slot, written, plain_code p, le-ltb _ _ few)

    overloads : width (projection_of p) < k → (on_plain (load slot seed k) p).answer ≡ refused 14
    unfolding on_plain
    overloads many = rw (outcome_answer, plain_count p, lt-leb _ _ there, plain_content p slot, written, plain_code p, lt-ltb _ _ many)

reads : (p : Plain) (slot : ℕ) → (on_plain (read slot) p).state ≡ p
unfolding on_plain
reads p slot = rw outcome_same

surveys : (p : Plain) → (on_plain survey p).state ≡ p
unfolding on_plain
surveys p = refl

pub refused_keeps : (c : Call) (p : Plain) (n : ℕ) → (on_plain c p).answer ≡ refused n → (on_plain c p).state ≡ p
unfolding on_plain
refused_keeps c p n e = (outcome_refused (unless (refusals c (view_of p)) (gives c (view_of p))) (plain_leaves c p) p n e).1

-- 'a second mark changes nothing'
again : (π : Projection) (position : ℕ) (s : Slot) → marked π position (marked π position s) ≡ marked π position s
again π position Slot.blank = refl
again π position (Slot.written m F M) = ap (Slot.written m F) (or_twice M (bit π position))

-- 11: the slot is there, and blank
module _ (p : Plain) (slot position seed k : ℕ) (there : slot < length p.slots) (blank : slot_of p slot ≡ Slot.blank) where
  read_blank : (on_plain (read slot) p).answer ≡ refused 11
  unfolding on_plain
  read_blank = rw (outcome_answer, plain_count p, lt-leb _ _ there, plain_content p slot, blank)

  flip_blank : (on_plain (flip slot position) p).answer ≡ refused 11
  unfolding on_plain
  flip_blank = rw (outcome_answer, plain_count p, lt-leb _ _ there, plain_content p slot, blank)

  mark_blank : (on_plain (mark slot position) p).answer ≡ refused 11
  unfolding on_plain
  mark_blank = rw (outcome_answer, plain_count p, lt-leb _ _ there, plain_content p slot, blank)

  load_blank : (on_plain (load slot seed k) p).answer ≡ refused 11
  unfolding on_plain
  load_blank = rw (outcome_answer, plain_count p, lt-leb _ _ there, plain_content p slot, blank)

made_blank : (found : List ℕ) (m : Making) → (length (fresh m found).slots ≡ m.slots) × ((slot : ℕ) → slot_of (fresh m found) slot ≡ Slot.blank)
unfolding fresh
made_blank found m = (length-replicate m.slots Slot.blank, all_blank m.slots)

pub plain_calls : PlainCalls
plain_calls =
    record {
      made = made_blank;
      blanks =
          λ p slot position seed k there blank. (
            read_blank p slot position seed k there blank,
            (
              flip_blank p slot position seed k there blank,
              (mark_blank p slot position seed k there blank, load_blank p slot position seed k there blank),
            ),
          );
      puts = λ p slot step reading e. puts p slot step reading [] e;
      put_lists = λ p start steps readings e. put_lists p start steps readings [] e;
      flips = λ p slot position m F M written e. flips p slot position m F M written [] e;
      marks = λ p slot position m F M written e. marks p slot position m F M written [] e;
      loads =
          λ p slot seed k m F M there written few.
          let e = load_fits p slot seed k m F M there written few in
          (e, loads p slot seed k m F M written _ e);
      overloads = overloads;
      again = again;
      clears = λ p slot e. clears p slot [] e;
      reads = reads;
      surveys = surveys;
      refusals = refused_keeps;
    }

-- ---- a list of calls

-- a slot has a message, whatever its F and M
Has : Plain → ℕ → ℕ → Type 0
Has p slot m = (F M : ℕ) × (slot_of p slot ≡ Slot.written m F M)

module _ (slot m : ℕ) where
  -- where one slot is changed, another keeps its message
  by_slot : (p q : Plain) (changed : ℕ) (x : Slot) → q ≡ with_slot changed x p → Has p slot m → (slot ≡ changed → Has q slot m) → Has q slot m
  unfolding Has
  by_slot p q changed x left h own = go (eqb slot changed) refl
    where
      go : (t : Bool) → eqb slot changed ≡ t → (F M : ℕ) × (slot_of q slot ≡ Slot.written m F M)
      go true t = own (eqb-true slot changed t)
      go false t = (h.0, h.1, rw left (get_or-set_other p.slots changed slot x Slot.blank (eqb-false slot changed t) ∙ h.2))

  accepted_has : (c : Call) (p : Plain) (vs : List ℕ) → (on_plain c p).answer ≡ accepted vs → (Overwrites slot c → ⊥) → Has p slot m → Has (on_plain c p).state slot m
  unfolding Has
  accepted_has (put other step reading) p vs e stays h =
      by_slot p _ other _ (accepted_leaves (put other step reading) p vs e).1 h (λ same. absurd (stays (inl (step, reading, (sym same, refl, refl)))))
  accepted_has (put_list start steps readings) p vs e stays h =
      let named : (start ≤ slot) × (slot < start + length steps) → ⊥ =
      λ k. stays (inl (_, _, (slot - start, omega arith, omega arith, refl, refl))) in
      (h.0, h.1, (put_lists p start steps readings vs e).others slot named ∙ h.2)
  accepted_has (clear other) p vs e stays h =
      by_slot p _ other _ (accepted_leaves (clear other) p vs e).1 h (λ same. absurd (stays (inr (ap clear (sym same)))))
  accepted_has (flip other position) p vs e stays h =
      by_slot p _ other _ (accepted_leaves (flip other position) p vs e).1 h
      (λ same. let b = flips p other position m h.0 h.1 (rw (← same) h.2) vs e in (b.0, h.1, rw same b.2.own))
  accepted_has (mark other position) p vs e stays h =
      by_slot p _ other _ (accepted_leaves (mark other position) p vs e).1 h
      (λ same. let b = marks p other position m h.0 h.1 (rw (← same) h.2) vs e in (h.0, b.0, rw same b.2.own))
  accepted_has (load other seed k) p vs e stays h =
      by_slot p _ other _ (accepted_leaves (load other seed k) p vs e).1 h
      (λ same. let b = loads p other seed k m h.0 h.1 (rw (← same) h.2) vs e in (b.0, h.1, rw same b.1.own))
  accepted_has (read other) p vs e stays h = rw (reads p other) h
  accepted_has survey p vs e stays h = rw (surveys p) h

  call_has : (c : Call) (p : Plain) → (Overwrites slot c → (n : ℕ) × ((on_plain c p).answer ≡ refused n)) → Has p slot m → Has (on_plain c p).state slot m
  call_has c p kept h = go (on_plain c p).answer refl
    where
      go : (a : Answer (List ℕ)) → (on_plain c p).answer ≡ a → Has (on_plain c p).state slot m
      go (accepted vs) e = accepted_has c p vs e (λ o. let r = kept o in not_refused vs r.0 (sym e ∙ r.1)) h
      go (refused n) e = rw (refused_keeps c p n e) h

  list_has : (cs : List Call) (p : Plain) → Kept slot cs p → Has p slot m → Has (run on_plain cs p).state slot m
  unfolding run
  list_has [] p kept h = h
  list_has (c ∷ cs) p kept h = list_has cs (on_plain c p).state kept.1 (call_has c p kept.0 h)

-- a slot that a call puts into has its message then
put_has : (c : Call) (p : Plain) (slot step reading : ℕ) → Puts slot step reading c → (on_plain c p).answer ≡ accepted []
    → Has (on_plain c p).state slot (message_of step reading)
unfolding Has
put_has (put other step' reading') p slot step reading t e = (0, 0, rw (← t.0, ← t.1, ← t.2) (puts p other step' reading' [] e).own)
put_has (put_list start steps readings) p slot step reading t e =
    (0, 0, rw (← t.2, ← t.3, ← t.4) ((put_lists p start steps readings [] e).own t.0 t.1))
put_has (flip other position) p slot step reading t e = absurd t
put_has (mark other position) p slot step reading t e = absurd t
put_has (load other seed k) p slot step reading t e = absurd t
put_has (clear other) p slot step reading t e = absurd t
put_has (read other) p slot step reading t e = absurd t
put_has survey p slot step reading t e = absurd t

pub last_put : LastPut
unfolding run Has
last_put found m before behind c slot step reading puts e kept =
    let p = plain_after found m before in
    rw (run_append on_plain before (c ∷ behind) (fresh m found))
    (list_has slot (message_of step reading) behind (on_plain c p).state kept (put_has c p slot step reading puts e))
