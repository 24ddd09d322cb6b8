-- The position that is sought has as many unpicked ones before it, from here on, as are left to pass.
use Rattle.trace.proofs.PickLaws.{Seeking}
use Rattle.trace.proofs.loads.Load.unpicked_at.Given as goal

abbrev pub invariant-loop-position : goal.invariant-loop-position
invariant-loop-position l = Seeking l.self.width l.self.picked l.rank l.position l.before
