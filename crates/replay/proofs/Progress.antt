-- A replay in the midst of its list: what ran, with what is left to run, is the whole. A call that runs moves from the one to the other; where the next
-- call does not run, or the list is at its end, nothing is left, and what ran is the whole.
use Rattle.std.proofs.Common.{◌≡◌, false, ℕ, ◌+◌, ◌-◌, ◌<◌, ◌≤◌, List, [], ◌++◌, length, take, drop, sym, ◌∙◌, arith, append_assoc, length-append, length-drop}
use Rattle.std.proofs.lemmas.Bool.{le-leb, lt-leb}
use Rattle.std.proofs.lemmas.List.{append-nil, length-take-le, take-append-drop, take_rest, take_at, drop_at, drop-drop}
use borrow.Rule.Slice.PartMut.{put_mid, put_same}
use Rattle.std.proofs.Math.ListN.{drop_of_length-le}
use Rattle.trace.specs.Calls.{Call}
use Rattle.trace.specs.Trace.{on_bytes}
use Rattle.replay.specs.Numbers.{is_call, calls_of, answer_numbers, room_for}
use Rattle.replay.specs.ContractsOfSteps.{BeginsWith, RanAs, NotRun}
use Rattle.replay.proofs.FirstCalls.{no_calls, first_call}
use Rattle.replay.proofs.Plays.{Played, nothing, before, play, LeftBy}

-- `b₀` and `answers₀` were lent, and became `b` and `answers`: `ran` calls took the numbers before `rest`, and wrote those before `written`
pub record Progress (calls b₀ answers₀ b answers rest : List ℕ) (ran written : ℕ) : Type 0 where
  pub ran_le : ran + length rest ≤ length calls
  pub written_le : written ≤ length answers₀
  pub room : length answers ≡ length answers₀
  pub whole : play on_bytes (calls_of calls) (length answers₀) b₀
      ≡ before ran (take written answers) (play on_bytes (calls_of rest) (length answers₀ - written) b)
  pub left : drop written answers ≡ drop written answers₀

before_one : (n : ℕ) (xs ys : List ℕ) (p : Played (List ℕ)) → before n xs (before 1 ys p) ≡ before (n + 1) (xs ++ ys) p
before_one n xs ys p =
    let e : p.ran + 1 + n ≡ p.ran + (n + 1) = omega arith in
    rw (e, append_assoc)

-- numbers that are written where the last ended
answers_next : (answers out numbers : List ℕ) (written : ℕ) → out ≡ numbers ++ drop (length numbers) (drop written answers)
    → put_mid written (length answers - written) answers out ≡ (take written answers ++ numbers) ++ drop (written + length numbers) answers
answers_next answers out numbers written e =
    let end : length answers ≤ written + (length answers - written) = omega arith in
    let none : drop (length answers - written) (drop written answers) ≡ [] = rw drop-drop (drop_of_length-le answers end) in
    simp (none, e, append-nil, drop-drop, append_assoc)

module _ {calls b₀ answers₀ b answers rest : List ℕ} {ran written : ℕ} (p : Progress calls b₀ answers₀ b answers rest ran written) where
  long : written ≤ length answers
  long = omega (arith, p.written_le, p.room)

  space : length (drop written answers) ≡ length answers₀ - written
  space = rw (length-drop, p.room)

  -- nothing is left to run
  finished : play on_bytes (calls_of rest) (length answers₀ - written) b ≡ nothing b
      → LeftBy (play on_bytes (calls_of calls) (length answers₀) b₀) answers₀ ran b answers
  finished stop =
      record {
        calls = rw (p.whole, stop) (omega arith);
        buffer = rw (p.whole, stop);
        written = rw (p.whole, stop, append-nil, length-take-le written answers long, ← p.left) (sym (take-append-drop written answers));
      }

  pub left_ended : is_call rest ≡ false → LeftBy (play on_bytes (calls_of calls) (length answers₀) b₀) answers₀ ran b answers
  unfolding play
  left_ended none = finished (rw (no_calls rest none))

  -- the next call is lent the part of the answers that is left
  module _ {c : Call} {after b' out : List ℕ} (begins : BeginsWith rest c after) where
    pub left_stopped : NotRun c b (take (length answers - written) (drop written answers)) b' out
        → LeftBy (play on_bytes (calls_of calls) (length answers₀) b₀) answers₀ ran b' (put_mid written (length answers - written) answers out)
    unfolding play
    left_stopped t =
        let short : length answers₀ - written < room_for c (on_bytes c b).answer = rw (take_rest, space) at t.short in
        rw (t.buffer, t.unchanged, put_same written (length answers - written) answers)
        (finished (rw (first_call begins, lt-leb _ _ short)))

    pub progress_ran : {size : ℕ} → RanAs c b (take (length answers - written) (drop written answers)) size b' out
        → Progress calls b₀ answers₀ b' (put_mid written (length answers - written) answers out) after (ran + 1) (written + size)
    unfolding play
    progress_ran {size} t =
        let numbers = answer_numbers (on_bytes c b).answer in
        let front = take written answers ++ numbers in
        let taken : 2 + length after ≤ length rest = rw (begins.after, length-drop) (omega (arith, begins.within)) in
        let few : length numbers ≤ length answers₀ - written = rw (take_rest, space) at t.answer.fits in
        let enough : room_for c (on_bytes c b).answer ≤ length answers₀ - written = rw (take_rest, space) at t.room in
        let behind : length answers₀ - written - length numbers ≡ length answers₀ - (written + size) = omega (arith, t.answer.size) in
        let end : length front ≡ written + size = simp (length-append, length-take-le written answers long, t.answer.size) in
        let joined : put_mid written (length answers - written) answers out ≡ front ++ drop (written + size) answers =
        rw t.answer.size (answers_next answers out numbers written (rw take_rest at t.answer.written)) in
        record {
          ran_le = omega (arith, p.ran_le);
          written_le = omega (arith, p.written_le, t.answer.size);
          room = rw joined (simp (length-append, length-drop) (omega (arith, end, length-append (take written answers) numbers, p.room, p.written_le, t.answer.size)));
          whole =
              p.whole
              ∙ rw (first_call begins, le-leb _ _ enough, behind, ← t.buffer, joined, take_at front (drop (written + size) answers) (written + size) end)
              (before_one ran (take written answers) numbers _);
          left =
              rw (
                joined,
                drop_at front (drop (written + size) answers) (written + size) end,
                ← drop-drop size written answers,
                ← drop-drop size written answers₀,
                p.left,
              );
        }
