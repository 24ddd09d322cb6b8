-- The number so far, followed by the free values of the columns that are left, is the whole.
use Rattle.std.proofs.Common.{◌≡◌, map, drop}
use Rattle.symbols.specs.Column.{value}
use Rattle.codes.specs.Digits.{symbols}
use Rattle.codes.specs.Message.{chosen}
use Rattle.codes.specs.Codes.{projection}
use Rattle.codes.specs.ContractsOfWalk.{held, high_part}
use Rattle.codes.proofs.Horner.{followed}
use Rattle.codes.proofs.message.high_part.Given as goal

abbrev pub invariant-loop-i : goal.invariant-loop-i
invariant-loop-i l =
    let π = projection l.code in
    followed symbols l.number (chosen (drop l.i π.free) (map value (drop l.i (held π l.column-items)))) ≡ high_part π (held π l.column-items)
