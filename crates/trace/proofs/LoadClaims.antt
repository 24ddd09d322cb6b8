-- A load counts as its flips. On the plain trace each flip of a written slot whose position is the word's is accepted and stores the slot flipped,
-- which is written again; so the flips of a load's positions store what the load stores. The same flips again undo it, as exclusive or does. On the
-- bytes of a trace in use it is so by demand 3. Its table of refusals is a flip's but for the last row, so 7 to 11 are met alike.
use Rattle.std.proofs.Common.{◌≡◌, ℕ, zero, suc, ◌<◌, ◌≤◌, false, ◌↔◌, List, [], ◌∷◌, ◌++◌, map, length, get_or, refl, arith, length-set, get_or-set_same, set-set, le-ltb}
use lib.Seq.{set-get_or}
use borrow.Author.Tests.{lt-leb}
use Rattle.codes.specs.Answer.{Answer, accepted, refused, Row, unless, Refuses}
use Rattle.codes.specs.Projection.{Projection, width}
use Rattle.codes.specs.Claims.{Among}
use Rattle.codes.proofs.Rows.{front_decides}
use Rattle.trace.specs.Lists.{in_turn}
use Rattle.trace.specs.Load.{positions_of, handed_back}
use Rattle.trace.specs.Calls.{flip, load, after, run}
use Rattle.trace.specs.Refusals.{bad_slot, holds_nothing, blank_slot, no_position, too_many}
use Rattle.trace.specs.Plain.{Slot, Plain, projection_of, slot_of, with_slot, holds, view_of, bytes, fresh, flipped, on_plain}
use Rattle.trace.specs.View.{content_of}
use Rattle.trace.specs.Trace.{view_in, slot_rows_in, on_bytes}
use Rattle.trace.specs.Claims.{plain_after, flips_of, all_accepted, CountsAsFlips, LoadIsFlips, LoadInUse, LoadMeetsAsFlip}
use Rattle.trace.proofs.Views.{plain_code, plain_count, plain_content}
use Rattle.trace.proofs.LoadLaws.{drawn_length}
use Rattle.trace.proofs.PickLaws.{in_turn_twice}
use Rattle.trace.proofs.Runs.{imaged}
use Rattle.trace.proofs.CallFacts.{rows_of, never_bad, Passed, written_passed, count_fits, drawn_inside}
use Rattle.trace.proofs.PlainCalls.{accepted_leaves, refused_keeps}
use Rattle.trace.proofs.Refinement.{SoundAs, step_same, run_same, run_kept}
use Rattle.trace.proofs.Makings.{fresh_sound}
use Rattle.trace.proofs.Among.{among_apart}
use Rattle.trace.proofs.Demand1.{demand1}
use Rattle.trace.proofs.Demand3.{demand3}

-- ---- changes of a slot that is written

module _ (slot : ℕ) where
  -- the slot is there, and written
  record Written (p : Plain) : Type 0 where
    there : slot < length p.slots
    written : holds_nothing (holds (projection_of p) (slot_of p slot)) ≡ false

  -- so it is behind flips in turn
  flips_written : (π : Projection) (ps : List ℕ) (x : Slot) → holds_nothing (holds π x) ≡ false → holds_nothing (holds π (in_turn (flipped π) ps x)) ≡ false
  flips_written π [] x e = e
  flips_written π (q ∷ ps) Slot.blank e = flips_written π ps Slot.blank e
  flips_written π (q ∷ ps) (Slot.written m F M) e = flips_written π ps (flipped π q (Slot.written m F M)) refl

  -- a trace with that slot flipped in turn
  abbrev flipped_at : List ℕ → Plain → Plain
  flipped_at ps p = with_slot slot (in_turn (flipped (projection_of p)) ps (slot_of p slot)) p

  module _ (p : Plain) (w : Written p) where
    own_slot : (x : Slot) → slot_of (with_slot slot x p) slot ≡ x
    own_slot x = get_or-set_same p.slots slot x Slot.blank w.there

    still_written : (ps : List ℕ) → Written (flipped_at ps p)
    still_written ps =
        record {
          there = rw length-set w.there;
          written = rw (own_slot (in_turn (flipped (projection_of p)) ps (slot_of p slot))) (flips_written (projection_of p) ps (slot_of p slot) w.written);
        }

    -- where the last row isn't met either, a flip and a load are accepted
    module _ (last : Row) (fits : last.met ≡ false) where
      passes : (a : Answer (List ℕ)) → unless (rows_of (view_of p) slot last) a ≡ a
      passes a = rw (plain_count p, lt-leb _ _ w.there, never_bad p slot, plain_content p slot, w.written, fits)

    flip_step : (position : ℕ) → position < width (projection_of p) → on_plain (flip slot position) p ≡ after (accepted []) (flipped_at (position ∷ []) p)
    unfolding on_plain
    flip_step position inside = rw (passes (no_position (view_of p).code position) (rw plain_code (lt-leb _ _ inside)) (accepted []))

    load_step : (seed k : ℕ) → k ≤ width (projection_of p)
        → on_plain (load slot seed k) p ≡ after (accepted (handed_back k seed ∷ [])) (flipped_at (positions_of (projection_of p) seed k) p)
    unfolding on_plain
    load_step seed k few = rw (passes (too_many (view_of p).code k) (rw plain_code (le-ltb _ _ few)) (accepted (handed_back k seed ∷ [])))

  flips_run : (ps : List ℕ) (p : Plain) → Written p → ((i : ℕ) → i < length ps → get_or ps i 0 < width (projection_of p))
      → run on_plain (map (flip slot) ps) p ≡ all_accepted (length ps) (flipped_at ps p)
  unfolding run
  flips_run [] p w inside = rw (set-get_or p.slots slot Slot.blank)
  flips_run (q ∷ ps) p w inside =
      let first = flip_step p w q (inside zero (omega arith)) in
      let rest = flips_run ps (flipped_at (q ∷ []) p) (still_written p w (q ∷ [])) (λ i h. inside (suc i) (omega arith)) in
      rw (first, rest, own_slot p w (flipped (projection_of p) q (slot_of p slot)), set-set)

  flips_twice : (π : Projection) (ps : List ℕ) (x : Slot) → in_turn (flipped π) ps (in_turn (flipped π) ps x) ≡ x
  flips_twice π ps (Slot.written m F M) = in_turn_twice (width π) (flipped π) (λ x. Slot.written m x M) (λ q x. refl) ps F
  flips_twice π ps Slot.blank = rw (blank ps, blank ps)
    where
      blank : (ps : List ℕ) → in_turn (flipped π) ps Slot.blank ≡ Slot.blank
      blank [] = refl
      blank (q ∷ ps) = blank ps

-- ---- on the plain trace

module _ (slot seed k : ℕ) (p : Plain) (vs : List ℕ) (e : (on_plain (load slot seed k) p).answer ≡ accepted vs) where
  abbrev drawn_positions : List ℕ
  drawn_positions = positions_of (projection_of p) seed k

  abbrev passed : Passed p slot (too_many (view_of p).code k) (accepted (handed_back k seed ∷ [])) vs
  passed = written_passed p slot (too_many (view_of p).code k) _ vs (accepted_leaves (load slot seed k) p vs e).0

  loaded_written : Written slot p
  loaded_written = record { there = passed.there; written = rw (plain_content p slot) at passed.written }

  few : k ≤ width (projection_of p)
  few = count_fits p k passed.unmet

  load_flips : (vs ≡ handed_back k seed ∷ []) × (run on_plain (flips_of (projection_of p) slot seed k) p ≡ all_accepted k (on_plain (load slot seed k) p).state)
  load_flips =
      let given = passed.given in
      let turns = flips_run slot drawn_positions p loaded_written (drawn_inside (projection_of p) seed k few) in
      (cc, rw (load_step slot p loaded_written seed k few) (rw (drawn_length k seed _) at turns))

  load_again : on_plain (load slot seed k) (on_plain (load slot seed k) p).state ≡ after (accepted vs) p
  load_again =
      let first = load_step slot p loaded_written seed k few in
      let second = load_step slot (flipped_at slot drawn_positions p) (still_written slot p loaded_written drawn_positions) seed k few in
      rw (
        first,
        second,
        own_slot slot p loaded_written (in_turn (flipped (projection_of p)) drawn_positions (slot_of p slot)),
        set-set,
        flips_twice slot (projection_of p) drawn_positions (slot_of p slot),
        set-get_or p.slots slot Slot.blank,
        passed.given,
      )

pub load_is_flips : LoadIsFlips
load_is_flips p slot seed k =
    record { flips = load_flips slot seed k p; none = refused_keeps (load slot seed k) p; again = load_again slot seed k p }

-- ---- on the bytes of a trace in use

-- what holds of a sound plain trace holds of its bytes
module _ (code : ℕ) (p : Plain) (sound : SoundAs code p) (slot seed k : ℕ) where
  load_same : on_bytes (load slot seed k) (bytes p) ≡ imaged bytes (on_plain (load slot seed k) p)
  load_same = step_same (load slot seed k) p sound.sound

  loaded_sound : SoundAs code (on_plain (load slot seed k) p).state
  unfolding run
  loaded_sound = run_kept code (load slot seed k ∷ []) p sound

  on_bytes_lem : CountsAsFlips on_bytes (projection_of p) (bytes p) slot seed k
  on_bytes_lem =
      let plain = load_is_flips p slot seed k in
      record {
        flips =
            λ vs e.
            let r = plain.flips vs (rw load_same at e) in
            (r.0, rw (load_same, run_same code (flips_of (projection_of p) slot seed k) p sound, r.1));
        none = λ n e. rw (load_same, plain.none n (rw load_same at e));
        again =
            λ vs e.
            rw (load_same, step_same (load slot seed k) (on_plain (load slot seed k) p).state loaded_sound.sound, plain.again vs (rw load_same at e));
      }

pub load_in_use : LoadInUse
load_in_use found m calls slot seed k fit =
    let kept = run_kept m.code calls (fresh m found) (fresh_sound found m fit) in
    rw (demand3 found m calls fit).left (rw kept.code at (on_bytes_lem m.code (plain_after found m calls) kept slot seed k))

-- ---- refusals 7 to 11

module _ (b : List ℕ) (slot : ℕ) where
  -- the rows that flip and load share
  abbrev shared : List Row
  shared = slot_rows_in b slot ++ (bad_slot (content_of (view_in b) slot) ∷ blank_slot (content_of (view_in b) slot) ∷ [])

  by_shared : (a : Answer (List ℕ)) (last : Row) (n : ℕ) → (a ≡ refused n ↔ Refuses (shared ++ (last ∷ [])) n) → (Among n (last.number ∷ []) → ⊥)
      → a ≡ refused n ↔ Refuses shared n
  by_shared a last n table apart =
      let front = front_decides (last ∷ []) n apart shared in
      (λ e. front.0 (table.0 e), λ e. table.1 (front.1 e))

pub load_meets_as_flip : LoadMeetsAsFlip
load_meets_as_flip b slot seed k position n among =
    let π = (view_in b).code in
    let of_load = by_shared b slot _ (too_many π k) n ((demand1.calls (load slot seed k) b).answer.refuses n)
    (among_apart (7 ∷ 8 ∷ 9 ∷ 10 ∷ 11 ∷ []) (14 ∷ []) refl n among) in
    let of_flip = by_shared b slot _ (no_position π position) n ((demand1.calls (flip slot position) b).answer.refuses n)
    (among_apart (7 ∷ 8 ∷ 9 ∷ 10 ∷ 11 ∷ []) (12 ∷ []) refl n among) in
    (λ e. of_flip.1 (of_load.0 e), λ e. of_load.1 (of_flip.0 e))
