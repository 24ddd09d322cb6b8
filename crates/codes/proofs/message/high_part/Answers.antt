-- `codes::message::high_part` meets its contract.
use Rattle.std.proofs.Common.{◌≡◌, ◌+◌, ◌*◌, false, cond, get_or, sym, ◌∙◌, add-one, arith}
use Rattle.symbols.specs.Symbol.{symbol_number}
use Rattle.symbols.specs.Column.{value, column_of}
use Rattle.codes.specs.Codes.{projection}
use Rattle.codes.proofs.Codes.{size_le, systematic}
use Rattle.codes.proofs.Readings.{read_value, high_so_far}
use Rattle.codes.proofs.message.high_part.Goals as goal
use Rattle.codes.proofs.message.high_part.Goals.{then-is_free, else-is_free}

pub overflow_mul-number : goal.overflow_mul-number
overflow_mul-number c = omega (arith, high_so_far c.args.code c.args.columns (omega arith) c.loop-i.i c.loop-i.number c.loop-i.invariant)

pub overflow_add-number : goal.overflow_add-number
overflow_add-number c = omega (arith, high_so_far c.args.code c.args.columns (omega arith) c.loop-i.i c.loop-i.number c.loop-i.invariant)

pub loop-i-preserved : goal.loop-i-preserved
loop-i-preserved c =
    let a = c.args in
    let l = c.loop-i in
    let π = projection a.code in
    let next : c.if-is_free.number ≡ cond (get_or π.free l.i false) (l.number * 4 + symbol_number (value (column_of (get_or a.columns l.i 0)))) l.number =
    elim c.if-is_free.branch [
      | then-is_free w ↦ rw (w.number-is, ← c.is_free.ensures, w.if-is_free.true, w.from.ensures, w.value.ensures)
      | else-is_free w ↦ rw (w.number-is, ← c.is_free.ensures, w.if-is_free.false)
    ] in
    rw (next, add-one l.i) (sym (read_value π (systematic a.code) a.columns (omega (arith, size_le a.code)) l.i l.number) ∙ l.invariant)
