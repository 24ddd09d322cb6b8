-- A call that runs where the least room is there. Where its answer has room too, the call had the room that it needs; where it has none, the call is a
-- read or a survey, and left the buffer.
use Rattle.std.proofs.Common.{◌≡◌, ℕ, ◌<◌, ◌≤◌, List, length, arith, Option, None, Some}
use Rattle.codes.specs.Answer.{Answer}
use Rattle.trace.specs.Calls.{Call, put, put_list, flip, mark, load, clear, read, survey, after}
use Rattle.trace.specs.Trace.{on_bytes}
use Rattle.replay.specs.Numbers.{answer_numbers, room_for}
use Rattle.replay.specs.ContractsOfSteps.{least_room, KeepsOrFits, Writes, RunsCall}

-- of n places
module _ (a : Answer (List ℕ)) {n : ℕ} where
  has_room : (c : Call) → least_room c ≤ n → length (answer_numbers a) ≤ n → room_for c a ≤ n
  has_room (put slot step reading) least fits = fits
  has_room (put_list start steps readings) least fits = fits
  has_room (flip slot position) least fits = fits
  has_room (mark slot position) least fits = fits
  has_room (load slot seed k) least fits = least
  has_room (clear slot) least fits = fits
  has_room (read slot) least fits = fits
  has_room survey least fits = fits

  no_room : {b b' : List ℕ} (c : Call) → KeepsOrFits c a b b' → least_room c ≤ n → n < length (answer_numbers a) → (n < room_for c a) × (b' ≡ b)
  no_room (put slot step reading) few least short = absurd (omega arith)
  no_room (put_list start steps readings) few least short = absurd (omega arith)
  no_room (flip slot position) few least short = absurd (omega arith)
  no_room (mark slot position) few least short = absurd (omega arith)
  no_room (load slot seed k) few least short = absurd (omega arith)
  no_room (clear slot) few least short = absurd (omega arith)
  no_room (read slot) kept least short = (short, kept)
  no_room survey kept least short = (short, kept)

-- what it comes to, by what was written of its answer
module _ (c : Call) (b b' out out' : List ℕ) (a : Answer (List ℕ)) where
  pub runs_call : least_room c ≤ length out → after a b' ≡ on_bytes c b → KeepsOrFits c a b b'
      → (written : Option ℕ) → Writes (answer_numbers a) out out' written → RunsCall c b out b' out' written
  runs_call least ran few (Some k) w =
      record { room = rw (← ran) (has_room a c least w.fits); answer = rw (← ran) w; buffer = rw (← ran) }
  runs_call least ran few None w =
      let lacks = no_room a c few least w.short in
      record { short = rw (← ran) lacks.0; buffer = lacks.1; unchanged = w.unchanged }
