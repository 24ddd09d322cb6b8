-- `replay::runs::replay`: in the midst of its list; fewer numbers are left after each call.
use Rattle.std.proofs.Common.{length}
use Rattle.replay.proofs.Progress.{Progress}
use Rattle.replay.proofs.runs.replay.Given as goal

abbrev pub invariant-loop-call : goal.invariant-loop-call
invariant-loop-call l = Progress l.calls l.fn.b l.fn.answers l.b l.answers l.rest l.ran l.written

abbrev pub decreases-loop-call : goal.decreases-loop-call
decreases-loop-call l = length l.rest
