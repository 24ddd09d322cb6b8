-- The replay of a list of calls that is given as numbers: what it answers, and what it leaves.
use Rattle.std.specs.Prelude.{◌≡◌, cond, List, [], ◌∷◌, ◌++◌, ℕ, ◌+◌, ◌-◌, leb, length, take, drop}
use Rattle.codes.specs.Answer.{Answer}
use Rattle.trace.specs.Calls.{Call, Making, After, Run, run}
use Rattle.trace.specs.Trace.{on_bytes, make}
use Rattle.trace.specs.Plain.{bytes, fresh, on_plain}
use Rattle.trace.specs.Claims.{MakeFit}
use Rattle.replay.specs.Numbers.{calls_of, answer_numbers, room_for}

-- how many calls of a list run: the first that lacks room, and all after it, do not
unfoldable pub fitting : {S : Type 0} → (Call → S → After S) → List Call → ℕ → S → ℕ
fitting step [] room s = 0
fitting step (c ∷ cs) room s =
    cond (leb (room_for c (step c s).answer) room)
    (fitting step cs (room - length (answer_numbers (step c s).answer)) (step c s).state + 1)
    0

-- the numbers of a list of answers
unfoldable pub answers_numbers : List (Answer (List ℕ)) → List ℕ
answers_numbers [] = []
answers_numbers (a ∷ rest) = answer_numbers a ++ answers_numbers rest

-- the run of the calls of a list that have room
abbrev pub roomy_run : {S : Type 0} → (Call → S → After S) → List Call → ℕ → S → Run S
roomy_run step cs room s = run step (take (fitting step cs room s) cs) s

-- what a replay leaves, by a run: the answers' numbers begin the slice that was lent for them
pub record Left {S : Type 0} (layout : S → List ℕ) (step : Call → S → After S) (cs : List Call) (s : S)
    (answers : List ℕ) (ran : ℕ) (b' answers' : List ℕ) : Type 0 where
  pub calls : ran ≡ fitting step cs (length answers) s
  pub buffer : b' ≡ layout (roomy_run step cs (length answers) s).state
  pub written : answers'
      ≡ answers_numbers (roomy_run step cs (length answers) s).answers
      ++ drop (length (answers_numbers (roomy_run step cs (length answers) s).answers)) answers

-- on any buffer, the calls on its bytes; on a freshly made one, the calls on the plain trace
pub record Replayed (b numbers answers : List ℕ) (ran : ℕ) (b' answers' : List ℕ) : Type 0 where
  pub on_any : Left (λ l. l) on_bytes (calls_of numbers) b answers ran b' answers'
  pub on_fresh : (found : List ℕ) (m : Making) → MakeFit found m → b ≡ (make m found).state
      → Left bytes on_plain (calls_of numbers) (fresh m found) answers ran b' answers'
