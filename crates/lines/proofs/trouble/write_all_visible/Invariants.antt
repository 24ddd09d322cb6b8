-- The bytes so far are written.
use Rattle.std.proofs.Common.{◌≡◌, ◌++◌}
use lib.ListN.{take}
use Rattle.lines.specs.Trouble.{visible}
use Rattle.lines.proofs.trouble.write_all_visible.Given as goal

abbrev pub invariant-loop-byte : goal.invariant-loop-byte
invariant-loop-byte g l = l.out.bytes ≡ l.initial.out.bytes ++ visible (take l.byte-index l.text)
