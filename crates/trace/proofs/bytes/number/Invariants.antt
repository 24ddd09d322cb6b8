-- The number of the bytes so far, with those that are left, is the whole, and it has room for them.
use Rattle.std.proofs.Common.{◌≡◌, ◌^◌, ◌<◌, drop}
use Rattle.trace.specs.Layout.{number_from}
use Rattle.trace.proofs.bytes.number.Given as goal

abbrev pub invariant-loop-byte : goal.invariant-loop-byte
invariant-loop-byte l = (l.value < 256 ^ l.byte-index) × (number_from 0 l.part ≡ number_from l.value (drop l.byte-index l.part))
