-- One byte's digits more, and in the end all bytes'.
use Rattle.std.proofs.Common.{arith, refl}
use Rattle.lines.specs.Text.{each}
use Rattle.lines.proofs.Hexes.{nibbles_more}
use Rattle.lines.proofs.text.split_nibbles.Goals as goal

pub loop-i-init : goal.loop-i-init
unfolding each
loop-i-init c = refl

pub loop-i-preserved : goal.loop-i-preserved
loop-i-preserved c =
    nibbles_more c.args.bytes.now c.loop-i.digits c.loop-i.i (omega arith) (omega arith) c.loop-i.invariant
