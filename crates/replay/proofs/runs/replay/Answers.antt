-- `replay::runs::replay` meets its contract: the invariant is the progress of its list.
use Rattle.replay.proofs.Plays.{replayed}
use Rattle.replay.proofs.Progress.{progress_ran, left_stopped, left_ended}
use Rattle.replay.proofs.runs.replay.Goals as goal

pub returns-in_default-run_call : goal.returns-in_default-run_call
returns-in_default-run_call c = replayed (left_stopped c.loop-call.invariant c.in-Some.ensures c.in_default-run_call.ensures)

pub loop-call-preserved : goal.loop-call-preserved
loop-call-preserved c = progress_ran c.loop-call.invariant c.in-Some.ensures c.in-Some-run_call.ensures

pub returns : goal.returns
returns c = replayed (left_ended c.loop-call.invariant c.in_default.ensures)
