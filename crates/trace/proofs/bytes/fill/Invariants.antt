-- The bytes that are left to write, before those that stand, are the number's.
use Rattle.std.proofs.Common.{◌≡◌, ◌++◌, length, drop}
use Rattle.trace.specs.Layout.{bytes_of}
use Rattle.trace.proofs.bytes.fill.Given as goal

abbrev pub invariant-loop-i : goal.invariant-loop-i
invariant-loop-i l = bytes_of (length l.fn.part) l.value ≡ bytes_of l.i l.left ++ drop l.i l.part
