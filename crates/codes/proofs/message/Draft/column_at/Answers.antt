-- `codes::message::Draft::column_at` meets its contract: the column with the message's highest bit, the column's value and the top bit.
use Rattle.std.proofs.Common.{ap, ◌∙◌}
use Rattle.symbols.specs.Symbol.{symbol_of}
use Rattle.symbols.specs.Column.{column_of, column_with}
use Rattle.symbols.proofs.Claims.{numbers}
use Rattle.codes.proofs.message.Draft.column_at.Goals as goal

pub returns : goal.returns
returns c =
    let p = rw c.message_bits.ensures at c.has_bit-parity.ensures in
    ap column_of c.column_with.ensures
    ∙ numbers.columns.back (column_with c.has_bit-parity.result (symbol_of c.value_at.result) c.args.top)
    ∙ rw (p, c.value_at.ensures)
