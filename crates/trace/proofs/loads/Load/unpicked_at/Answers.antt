-- `trace::loads::Load::unpicked_at` meets its contract: the position that is sought is found where none is left to pass, and comes nearer before.
use Rattle.std.proofs.Common.{arith}
use Rattle.trace.proofs.PickLaws.{seeks, seek_nearer, seek_on}
use Rattle.trace.proofs.loads.Load.unpicked_at.Goals as goal
use Rattle.trace.proofs.loads.Load.unpicked_at.Goals.{then-self-position-eq0+else-before-eq0, else-self-position-eq0}

pub loop-position-init : goal.loop-position-init
loop-position-init c = seeks _ _ _ c.requires

pub loop-position-preserved : goal.loop-position-preserved
loop-position-preserved c =
    let here = c.loop-position.invariant in
    elim c.if-self-position-eq0.branch [
      | then-self-position-eq0+else-before-eq0 w ↦ rw w.before-is (seek_nearer _ _ _ _ _ here w.if-self-position-eq0.true (omega (arith, w.if-before-eq0.false)))
      | else-self-position-eq0 w ↦ rw w.before-is (seek_on _ _ _ _ _ here w.if-self-position-eq0.false)
    ]
