-- A replay taken call by call is the run of the calls that have room. How many have room follows from them and their answers alone; so on a
-- freshly made buffer, where the answers are the plain trace's by demand 3, as many run as on the plain trace, and they leave its bytes.
use Rattle.std.proofs.Common.{◌≡◌, Bool, true, false, cond, leb, ℕ, ◌+◌, ◌-◌, List, [], ◌∷◌, ◌++◌, length, take, drop, refl, sym, ◌∙◌, add-one}
use Rattle.codes.specs.Answer.{Answer}
use Rattle.trace.specs.Calls.{Call, Making, After, run}
use Rattle.trace.specs.Trace.{on_bytes, make}
use Rattle.trace.specs.Plain.{bytes, fresh, on_plain}
use Rattle.trace.specs.Claims.{MakeFit}
use Rattle.trace.proofs.Claims.{demand3}
use Rattle.trace.proofs.Laws.{run_none, run_more}
use Rattle.replay.specs.Numbers.{calls_of, answer_numbers, room_for}
use Rattle.replay.specs.Replay.{fitting, answers_numbers, Left, Replayed}

-- how many calls ran, the numbers of their answers, and the state after them
pub record Played (S : Type 0) : Type 0 where
  pub ran : ℕ
  pub answers : List ℕ
  pub state : S

-- no call ran
abbrev pub nothing : {S : Type 0} → S → Played S
nothing s = record { ran = 0; answers = []; state = s }

-- n calls, with their answers' numbers, that ran before others
abbrev pub before : {S : Type 0} → ℕ → List ℕ → Played S → Played S
before n xs p = record { ran = p.ran + n; answers = xs ++ p.answers; state = p.state }

-- the calls of a list, one after the other, while each has room
unfoldable pub play : {S : Type 0} → (Call → S → After S) → List Call → ℕ → S → Played S
play step [] room s = nothing s
play step (c ∷ cs) room s =
    cond (leb (room_for c (step c s).answer) room)
    (before 1 (answer_numbers (step c s).answer) (play step cs (room - length (answer_numbers (step c s).answer)) (step c s).state))
    (nothing s)

-- what the first n calls leave, taken at once
abbrev at_once : {S : Type 0} → (Call → S → After S) → List Call → S → ℕ → Played S
at_once step cs s n =
    record { ran = n; answers = answers_numbers (run step (take n cs) s).answers; state = (run step (take n cs) s).state }

play_run : {S : Type 0} (step : Call → S → After S) (cs : List Call) (room : ℕ) (s : S)
    → play step cs room s ≡ at_once step cs s (fitting step cs room s)
unfolding play fitting answers_numbers
play_run step [] room s = rw (run_none step s)
play_run {S = S} step (c ∷ cs) room s =
    let a = (step c s).answer in
    go (leb (room_for c a) room) _ _ (play_run step cs (room - length (answer_numbers a)) (step c s).state)
  where
    go : (t : Bool) (rest : Played S) (n : ℕ) → rest ≡ at_once step cs (step c s).state n
        → cond t (before 1 (answer_numbers (step c s).answer) rest) (nothing s) ≡ at_once step (c ∷ cs) s (cond t (n + 1) 0)
    go true rest n e = rw (e, add-one, run_more step s c)
    go false rest n e = rw (run_none step s)

-- ---- on a freshly made buffer

-- how many calls of a list, with these answers, have room
roomy : List Call → List (Answer (List ℕ)) → ℕ → ℕ
roomy [] answers room = 0
roomy (c ∷ cs) [] room = 0
roomy (c ∷ cs) (a ∷ rest) room = cond (leb (room_for c a) room) (roomy cs rest (room - length (answer_numbers a)) + 1) 0

fitting_answers : {S : Type 0} (step : Call → S → After S) (cs : List Call) (room : ℕ) (s : S)
    → fitting step cs room s ≡ roomy cs (run step cs s).answers room
unfolding fitting roomy
fitting_answers step [] room s = refl
fitting_answers step (c ∷ cs) room s =
    rw (run_more step s c cs, fitting_answers step cs (room - length (answer_numbers (step c s).answer)) (step c s).state)

module _ (found : List ℕ) (m : Making) (fit : MakeFit found m) (cs : List Call) (answers : List ℕ) where
  -- as many calls have room as on the plain trace
  fitting_same : fitting on_bytes cs (length answers) (make m found).state ≡ fitting on_plain cs (length answers) (fresh m found)
  fitting_same =
      fitting_answers on_bytes cs (length answers) (make m found).state
      ∙ rw (demand3 found m cs fit).answers (sym (fitting_answers on_plain cs (length answers) (fresh m found)))

  left_fresh : {ran : ℕ} {b' answers' : List ℕ} → Left (λ l. l) on_bytes cs (make m found).state answers ran b' answers'
      → Left bytes on_plain cs (fresh m found) answers ran b' answers'
  left_fresh h =
      let same = demand3 found m (take (fitting on_plain cs (length answers) (fresh m found)) cs) fit in
      record {
        calls = h.calls ∙ fitting_same;
        buffer = h.buffer ∙ rw fitting_same same.left;
        written = rw (fitting_same, same.answers) at h.written;
      }

-- ---- the contract

-- what a replay left, by its play: the answers' numbers begin the slice that was lent for them
pub record LeftBy (p : Played (List ℕ)) (answers : List ℕ) (ran : ℕ) (b' answers' : List ℕ) : Type 0 where
  pub calls : ran ≡ p.ran
  pub buffer : b' ≡ p.state
  pub written : answers' ≡ p.answers ++ drop (length p.answers) answers

left_any : {cs : List Call} {b answers : List ℕ} {ran : ℕ} {b' answers' : List ℕ}
    → LeftBy (play on_bytes cs (length answers) b) answers ran b' answers' → Left (λ l. l) on_bytes cs b answers ran b' answers'
left_any {cs} {b} {answers} h =
    let k = rw (play_run on_bytes cs (length answers) b) at h in
    record { calls = k.calls; buffer = k.buffer; written = k.written }

pub replayed : {b calls answers : List ℕ} {ran : ℕ} {b' answers' : List ℕ}
    → LeftBy (play on_bytes (calls_of calls) (length answers) b) answers ran b' answers' → Replayed b calls answers ran b' answers'
replayed {calls = calls} {answers} h =
    record {
      on_any = left_any h;
      on_fresh = λ found m fit e. left_fresh found m fit (calls_of calls) answers (rw e at (left_any h));
    }
