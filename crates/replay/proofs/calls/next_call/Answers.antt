-- `replay::calls::next_call` meets its contract: the numbers that follow the kind and the count tell whether the list begins with a call, and which.
use Rattle.std.proofs.Common.{◌+◌, ◌≤◌, length, get_or, arith, length-drop}
use Rattle.std.proofs.lemmas.List.{take_rest, drop-drop}
use Rattle.replay.proofs.Rows.{row_whole, row_named}
use Rattle.replay.proofs.calls.next_call.Goals as goal

pub returns-in_err-call_with : goal.returns-in_err-call_with
returns-in_err-call_with c =
    let cut = c.in_ok-numbers.ensures.cases in
    let xs = c.args.xs.now in
    let within : 2 + get_or xs 1 0 ≤ length xs = omega (arith, simp (take_rest, length-drop) at cut.0) in
    rw (c.from_residual-in_err-call_with.ensures, row_whole xs within) (rw (cut.1, take_rest) at c.in_err-call_with.ensures)

pub returns : goal.returns
returns c =
    let cut = c.in_ok-numbers.ensures.cases in
    let xs = c.args.xs.now in
    let within : 2 + get_or xs 1 0 ≤ length xs = omega (arith, simp (take_rest, length-drop) at cut.0) in
    let with = rw (cut.1, take_rest) at c.in_ok-call_with.ensures in
    record {
      whole = rw (row_whole xs within) with.0;
      named = rw (row_named xs within with.0, with.1);
      after = rw (take_rest, drop-drop) at cut.2;
      within = within;
    }
