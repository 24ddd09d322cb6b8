use Rattle.std.proofs.Common.{◌≡◌, Some, drop}
use Rattle.script.specs.Script.{digits_on}
use Rattle.script.proofs.numbers.parse_number.Given as goal

abbrev pub invariant-loop-byte : goal.invariant-loop-byte
invariant-loop-byte l = digits_on (drop l.byte-index l.word) (Some l.number) ≡ digits_on l.word (Some 0)
