-- Demand 3. The run on the bytes is the plain run ('Refinement'), which starts with the bytes that making leaves ('Makings'). The read after it
-- is the plain trace's, which mends the message's codeword with F inverted under M; the codes' laws say what that gives. A plain trace's
-- refusals have their own numbers ('CallFacts'), which 7, 8 and 10 are not among.
use Rattle.std.proofs.Common.{◌≡◌, ℕ, ◌+◌, ◌*◌, ◌/◌, ◌%◌, ◌^◌, ◌<◌, Bool, true, false, leb, List, [], ◌∷◌, length, sym, refl, arith, leb-false, leb-true}
use mathlib.Core.Option.{Option, none, some}
use lib.Bits.{bit_xor}
use lib.ListN.{get_or-eq_default}
use borrow.Author.Tests.{lt-leb}
use Rattle.codes.specs.declared.code.Code.{Code}
use Rattle.codes.specs.declared.answer.Correction.{Correction}
use Rattle.codes.specs.Answer.{refused, unless, map_answer}
use Rattle.codes.specs.Projection.{message_bits}
use Rattle.codes.specs.Message.{encode}
use Rattle.codes.specs.Correction.{correct}
use Rattle.codes.specs.Codes.{projection, code_of}
use Rattle.codes.proofs.Rows.{not_refused, by_table}
use Rattle.codes.proofs.Laws.{correct_within, correct_eight, correct_none, none_correct, near_correct}
use Rattle.trace.specs.declared.slot.Content.{Content}
use Rattle.trace.specs.Answers.{reading_values}
use Rattle.trace.specs.Calls.{Call, read, Making, run}
use Rattle.trace.specs.View.{message_of, read_corrected, read_content}
use Rattle.trace.specs.Rules.{refusals, gives}
use Rattle.trace.specs.Trace.{on_bytes, make}
use Rattle.trace.specs.Plain.{Slot, Plain, projection_of, slot_of, view_of, bytes, fresh, plain_leaves, on_plain}
use Rattle.trace.specs.Claims.{MakeFit, ReadAfter, bytes_after, plain_after, Demand3, PlainReads, PlainNeverMeets}
use Rattle.trace.proofs.Among.{among_apart}
use Rattle.trace.proofs.Outcomes.{outcome_same, outcome_refused}
use Rattle.trace.proofs.Runs.{imaged_run}
use Rattle.trace.proofs.Views.{plain_code, plain_count, plain_content}
use Rattle.trace.proofs.Readings.{read_gives}
use Rattle.trace.proofs.CallFacts.{plain_numbers, facts}
use Rattle.trace.proofs.Refinement.{step_same, run_same, run_kept}
use Rattle.trace.proofs.Makings.{fresh_sound, make_accepted}

-- ---- what mending gives a read

refused_none : (x : Option Correction) → map_answer reading_values (read_corrected x) ≡ refused 5 → x ≡ none
unfolding read_corrected
refused_none (some c) e = not_refused _ 5 e
refused_none none e = refl

read_after : (c : Code) (step reading F M : ℕ) → reading < 4096 → message_of step reading < 2 ^ message_bits (projection c)
    → ReadAfter (projection c) step reading F M (bit_xor (encode (projection c) (message_of step reading)) F)
    (map_answer reading_values (read_corrected (correct (projection c) (bit_xor (encode (projection c) (message_of step reading)) F) M)))
unfolding read_corrected
read_after c step reading F M r fits =
    let m = message_of step reading in
    let w = bit_xor (encode (projection c) (message_of step reading)) F in
    let first : (step * 4096 + reading) / 4096 ≡ step = omega arith in
    let second : (step * 4096 + reading) % 4096 ≡ reading = omega arith in
    record {
      within = λ h. rw (correct_within c m F M fits h, first, second);
      eight = λ h. rw (correct_eight c m F M h);
      beyond =
          λ h. (
            (λ e. correct_none c w M (refused_none (correct (projection c) w M) e)),
            (λ far. rw (none_correct c w M far)),
          );
      otherwise = λ h x near. rw (near_correct c w M x near);
    }

-- ---- the slot that is read

module _ (p : Plain) (slot m F M : ℕ) (e : slot_of p slot ≡ Slot.written m F M) where
  -- a slot that is written is one of the slots
  written_below : slot < length p.slots
  written_below = go (leb (length p.slots) slot) refl
    where
      go : (t : Bool) → leb (length p.slots) slot ≡ t → slot < length p.slots
      go true t =
          let blank : Slot.blank ≡ slot_of p slot = sym (get_or-eq_default p.slots Slot.blank (leb-true _ slot t)) in
          let z : ◌≡◌ {A = ℕ} 0 1 = cc in
          absurd (omega arith)
      go false t = leb-false _ slot t

  read_written : (on_plain (read slot) p).answer ≡ map_answer reading_values (read_corrected (correct (projection_of p) (bit_xor (encode (projection_of p) m) F) M))
  unfolding on_plain read_content
  read_written =
      let π = projection_of p in
      let w = bit_xor (encode (projection_of p) m) F in
      rw (outcome_same, plain_count p, lt-leb _ _ written_below, plain_content p slot, e, plain_code p) (read_gives π (Content.Written w M))

-- ---- the claims

-- the run on the bytes is the plain run
run_after : (found : List ℕ) (m : Making) (cs : List Call) → MakeFit found m
    → run on_bytes cs (make m found).state ≡ imaged_run bytes (run on_plain cs (fresh m found))
run_after found m cs fit = rw (make_accepted found m fit) (run_same m.code cs (fresh m found) (fresh_sound found m fit))

pub demand3 : Demand3
demand3 found m cs fit =
    let same = run_after found m cs fit in
    let p = plain_after found m cs in
    let kept = run_kept m.code cs (fresh m found) (fresh_sound found m fit) in
    let left : bytes_after on_bytes found m cs ≡ bytes (plain_after found m cs) = cc same in
    record {
      making = rw (make_accepted found m fit);
      answers = rw same;
      left = left;
      reads =
          λ slot step reading F M r e.
          let fits = rw (e, kept.code) at (kept.sound.slots slot) in
          let given = read_written p slot (message_of step reading) F M e in
          rw (left, step_same (read slot) p kept.sound, rw kept.code at given) (read_after (code_of m.code) step reading F M r fits.0);
    }

pub plain_reads : PlainReads
unfolding read_corrected
plain_reads p slot m F M x e near =
    rw (read_written p slot m F M e, near_correct (code_of p.code) (bit_xor (encode (projection_of p) m) F) M x near)

pub plain_never_meets : PlainNeverMeets
unfolding on_plain
plain_never_meets c p n e k =
    let v = view_of p in
    let u = outcome_refused (unless (refusals c v) (gives c v)) (plain_leaves c p) p n e in
    let met = ((by_table (refusals c v) (gives c v) ((facts c).accepts v) refl).refuses n).0 u.0 in
    among_apart plain_numbers (7 ∷ 8 ∷ 10 ∷ []) refl n ((facts c).plainly p n met) k
