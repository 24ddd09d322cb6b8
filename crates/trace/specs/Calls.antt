-- Making, the calls of a list, what a call leaves, and runs of lists: 'any list of puts, flips, marks, clears, surveys and reads, refused ones
-- included, on a freshly made trace', of loads and of lists of puts.
use Rattle.std.specs.Prelude.{ℕ, List, [], ◌∷◌}
use Rattle.codes.specs.Answer.{Answer, accepted, refused}

-- the numbers of a making
pub record Making : Type 0 where
  pub code : ℕ
  pub slots : ℕ

-- a call with its numbers
pub data Call : Type 0 where
  -- slot, step, reading
  put : ℕ → ℕ → ℕ → Call
  -- start, 'a list of steps and a list of readings'
  put_list : ℕ → List ℕ → List ℕ → Call
  -- slot, position
  flip : ℕ → ℕ → Call
  mark : ℕ → ℕ → Call
  -- slot, seed, count
  load : ℕ → ℕ → ℕ → Call
  -- slot
  clear : ℕ → Call
  read : ℕ → Call
  survey : Call

-- a call's answer in the scope's numbers, and the state that it leaves: a buffer's bytes, or a plain trace
pub record After (S : Type 0) : Type 0 where
  pub answer : Answer (List ℕ)
  pub state : S

abbrev pub after : {S : Type 0} → Answer (List ℕ) → S → After S
after a s = record { answer = a; state = s }

-- 'Refused calls change nothing': a call's answer, the state where it is accepted, and the state before
abbrev pub outcome : {S : Type 0} → Answer (List ℕ) → S → S → After S
outcome (accepted vs) new old = after (accepted vs) new
outcome (refused n) new old = after (refused n) old

-- the answers to a list of calls, and the state at its end: 'Each call gets the buffer as the call before it, accepted or refused, left it'
pub record Run (S : Type 0) : Type 0 where
  pub answers : List (Answer (List ℕ))
  pub state : S

unfoldable pub run : {C S : Type 0} → (C → S → After S) → List C → S → Run S
run step [] s = record { answers = []; state = s }
run step (c ∷ cs) s =
    record {
      answers = (step c s).answer ∷ (run step cs (step c s).state).answers;
      state = (run step cs (step c s).state).state;
    }
