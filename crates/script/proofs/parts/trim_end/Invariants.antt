use Rattle.std.proofs.Common.{◌≡◌, length}
use Rattle.script.specs.Script.{trim_end}
use Rattle.script.proofs.parts.trim_end.Given as goal

abbrev pub invariant-loop-rest : goal.invariant-loop-rest
invariant-loop-rest l = trim_end l.rest ≡ trim_end l.text

abbrev pub decreases-loop-rest : goal.decreases-loop-rest
decreases-loop-rest l = length l.rest
