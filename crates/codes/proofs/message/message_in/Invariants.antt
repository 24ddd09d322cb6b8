-- The number so far, followed by the top bits of the columns that are left, is the whole.
use Rattle.std.proofs.Common.{◌≡◌, map, drop}
use Rattle.symbols.specs.Column.{top}
use Rattle.codes.specs.Digits.{bits}
use Rattle.codes.specs.Message.{but_last, message_in, message_number}
use Rattle.codes.specs.Codes.{projection}
use Rattle.codes.specs.ContractsOfWalk.{held}
use Rattle.codes.proofs.Horner.{followed}
use Rattle.codes.proofs.message.message_in.Given as goal

abbrev pub invariant-loop-i : goal.invariant-loop-i
invariant-loop-i l =
    let π = projection l.code in
    followed bits l.number (drop l.i (but_last (map top (held π l.column-items)))) ≡ message_number π (message_in π (held π l.column-items))
