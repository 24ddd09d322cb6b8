-- The numbers so far are written.
use Rattle.std.proofs.Common.{◌≡◌, ◌++◌}
use lib.ListN.{take}
use Rattle.lines.specs.Text.{spaced}
use Rattle.lines.proofs.text.write_numbers.Given as goal

abbrev pub invariant-loop-number : goal.invariant-loop-number
invariant-loop-number g l = l.out.bytes ≡ l.initial.out.bytes ++ spaced (take l.number-index l.numbers)
