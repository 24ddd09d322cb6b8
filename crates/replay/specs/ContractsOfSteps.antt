-- What the parts of a replay promise each other: the contracts of the functions below it. No claim rests on this file but by the proofs.
use Rattle.std.specs.Prelude.{◌≡◌, Bool, true, cond, ◌&&◌, eqb, List, ◌++◌, ℕ, ◌+◌, ◌≤◌, ◌<◌, length, get_or, drop, Option, MatchOption, Result, Ok, Err}
use Rattle.arrayvec.specs.ArrayVec.{ArrayVec}
use Rattle.codes.specs.Answer.{Answer, accepted, refused}
use Rattle.trace.specs.declared.answer.Refusal.{Refusal}
use Rattle.trace.specs.Answers.{refusal_number}
use Rattle.trace.specs.Calls.{Call, put, put_list, flip, mark, load, clear, read, survey}
use Rattle.trace.specs.Trace.{on_bytes}
use Rattle.replay.specs.declared.calls.Call as given
use Rattle.replay.specs.Numbers.{count_fits, seed_fits, is_call, call_with, list_with, call_in, answer_numbers, room_for}

-- what a call answered
abbrev pub answer_of : Result (ArrayVec ℕ) Refusal → Answer (List ℕ)
answer_of (Ok values) = accepted values.items
answer_of (Err r) = refused (refusal_number r)

-- the call that one of the program is
abbrev pub call_of : given.Call → Call
call_of (given.Call.Put slot step reading) = put slot step reading
call_of (given.Call.Flip slot position) = flip slot position
call_of (given.Call.Mark slot position) = mark slot position
call_of (given.Call.Clear slot) = clear slot
call_of (given.Call.Read slot) = read slot
call_of given.Call.Survey = survey
call_of (given.Call.Load slot seed count) = load slot seed count
call_of (given.Call.PutList start steps readings) = put_list start steps.now readings.now

-- the numbers that follow a call's kind and count fit its kind
abbrev pub fits : ℕ → List ℕ → Bool
fits kind numbers = count_fits kind (length numbers) (get_or numbers 1 0) && seed_fits kind (get_or numbers 1 0)

-- and the call that they name
abbrev pub named : ℕ → List ℕ → Call
named kind numbers =
    cond (eqb kind 7)
    (list_with (get_or numbers 0 0) (get_or numbers 1 0) (drop 2 numbers))
    (call_with kind (get_or numbers 0 0) (get_or numbers 1 0) (get_or numbers 2 0))

-- the call that a list of numbers begins with, and the numbers after it
pub record BeginsWith (xs : List ℕ) (c : Call) (rest : List ℕ) : Type 0 where
  pub whole : is_call xs ≡ true
  pub named : call_in xs ≡ c
  pub after : rest ≡ drop (2 + get_or xs 1 0) xs
  pub within : 2 + get_or xs 1 0 ≤ length xs

-- numbers that are written to the front of a slice, where it has room
pub record WrittenAs (xs out : List ℕ) (k : ℕ) (out' : List ℕ) : Type 0 where
  pub fits : length xs ≤ length out
  pub size : k ≡ length xs
  pub written : out' ≡ xs ++ drop (length xs) out

-- or where it has none
pub record Unwritten (xs out out' : List ℕ) : Type 0 where
  pub short : length out < length xs
  pub unchanged : out' ≡ out

abbrev pub Writes : List ℕ → List ℕ → List ℕ → Option ℕ → Type 0
Writes xs out out' written = MatchOption written (Unwritten xs out out') (λ k. WrittenAs xs out k out')

-- the room that a call needs before it runs: that of an answer without values, a load's that of an accepted one's
abbrev pub least_room : Call → ℕ
least_room (put slot step reading) = 2
least_room (put_list start steps readings) = 2
least_room (flip slot position) = 2
least_room (mark slot position) = 2
least_room (load slot seed k) = 3
least_room (clear slot) = 2
least_room (read slot) = 2
least_room survey = 2

-- a call may run before its answer is known to have room: a read or a survey, which leaves the buffer, or one whose answers have the least room
abbrev pub KeepsOrFits : Call → Answer (List ℕ) → List ℕ → List ℕ → Type 0
KeepsOrFits (read slot) a b b' = b' ≡ b
KeepsOrFits survey a b b' = b' ≡ b
KeepsOrFits c a b b' = length (answer_numbers a) ≤ least_room c

-- a call that ran and whose answer was written
pub record RanAs (c : Call) (b out : List ℕ) (k : ℕ) (b' out' : List ℕ) : Type 0 where
  pub room : room_for c (on_bytes c b).answer ≤ length out
  pub answer : WrittenAs (answer_numbers (on_bytes c b).answer) out k out'
  pub buffer : b' ≡ (on_bytes c b).state

-- and one that lacks room
pub record NotRun (c : Call) (b out b' out' : List ℕ) : Type 0 where
  pub short : length out < room_for c (on_bytes c b).answer
  pub buffer : b' ≡ b
  pub unchanged : out' ≡ out

abbrev pub RunsCall : Call → List ℕ → List ℕ → List ℕ → List ℕ → Option ℕ → Type 0
RunsCall c b out b' out' written = MatchOption written (NotRun c b out b' out') (λ k. RanAs c b out k b' out')
