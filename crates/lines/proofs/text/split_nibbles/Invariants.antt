-- The digits of the bytes so far are there.
use Rattle.std.proofs.Common.{◌≡◌, ◌*◌}
use lib.ListN.{take}
use Rattle.lines.specs.Text.{each}
use Rattle.lines.proofs.Hexes.{nibbles}
use Rattle.lines.proofs.text.split_nibbles.Given as goal

abbrev pub invariant-loop-i : goal.invariant-loop-i
invariant-loop-i l = take (2 * l.i) l.digits ≡ each nibbles (take l.i l.bytes)
