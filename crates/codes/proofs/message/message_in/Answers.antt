-- `codes::message::message_in` meets its contract.
use Rattle.std.proofs.Common.{◌≡◌, ◌+◌, ◌*◌, cond, ltb, get_or, sym, ◌∙◌, add-one, arith, rules, le-ltb, lt-ltb}
use Rattle.symbols.specs.Column.{top, one, column_of}
use Rattle.symbols.proofs.Claims.{numbers}
use Rattle.codes.specs.Digits.{bits}
use Rattle.codes.specs.Projection.{top_bits}
use Rattle.codes.specs.Codes.{projection}
use Rattle.codes.proofs.Horner.{followed_none}
use Rattle.codes.proofs.Codes.{size_le, systematic}
use Rattle.codes.proofs.Readings.{read_tops, read_top, no_top, message_so_far}
use Rattle.codes.proofs.message.message_in.Goals as goal
use Rattle.codes.proofs.message.message_in.Goals.{then-i-columns, else-i-columns}

pub loop-i-init : goal.loop-i-init
loop-i-init c =
    let a = c.args in
    rw c.high_part-number.ensures (read_tops (projection a.code) (systematic a.code) a.columns (omega (arith, size_le a.code)))

pub overflow_mul-number : goal.overflow_mul-number
overflow_mul-number c = omega (arith, message_so_far c.args.code c.args.columns (omega arith) c.loop-i.i c.loop-i.number c.loop-i.invariant)

pub overflow_add-number : goal.overflow_add-number
overflow_add-number c =
    let bit : c.from.result ≡ one c.top.result = search rules in
    let small = message_so_far c.args.code c.args.columns (omega arith) c.loop-i.i c.loop-i.number c.loop-i.invariant in
    omega (arith, bit, numbers.bits.small c.top.result, small)

pub loop-i-preserved : goal.loop-i-preserved
loop-i-preserved c =
    let a = c.args in
    let l = c.loop-i in
    let π = projection a.code in
    let next : c.if-i-columns.number ≡ cond (ltb l.i (top_bits π)) (l.number * 2 + one (top (column_of (get_or a.columns l.i 0)))) l.number =
    elim c.if-i-columns.branch [
      | then-i-columns w ↦
          let bit : w.from.result ≡ one w.top.result = search rules in
          rw (w.number-is, bit, w.top.ensures, lt-ltb l.i (top_bits π) (omega (arith, c.columns.ensures)))
      | else-i-columns w ↦ rw (w.number-is, le-ltb l.i (top_bits π) (omega (arith, c.columns.ensures)))
    ] in
    rw (next, add-one l.i) (sym (read_top π (systematic a.code) a.columns (omega (arith, size_le a.code)) l.i l.number) ∙ l.invariant)

pub returns : goal.returns
returns c =
    let a = c.args in
    let l = c.loop-i in
    let none = no_top (projection a.code) (systematic a.code) a.columns (omega (arith, size_le a.code)) l.i (omega (arith, size_le a.code)) in
    sym (followed_none bits l.number) ∙ (rw (none) at l.invariant)
