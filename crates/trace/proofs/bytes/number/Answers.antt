-- `trace::bytes::number` meets its contract: a byte more multiplies the number so far by 256 and adds the byte.
use Rattle.std.proofs.Common.{◌≡◌, length, sym, ◌∙◌, arith}
use lib.Seq.{drop-length}
use Rattle.trace.specs.Layout.{number_from}
use Rattle.trace.proofs.Numbers.{number_next, number_lt, power_le}
use Rattle.trace.proofs.bytes.number.Goals as goal

pub overflow_mul-value : goal.overflow_mul-value
overflow_mul-value c = omega (arith, power_le c.loop-byte.byte-index (omega arith))

pub loop-byte-preserved : goal.loop-byte-preserved
loop-byte-preserved c =
    let l = c.loop-byte in (
      number_lt l.value _ l.byte-index l.invariant.0 (omega arith),
      l.invariant.1 ∙ number_next l.value _ l.byte-index c.loop-byte-test.true ∙ rw c.from.ensures,
    )

pub returns : goal.returns
unfolding number_from
returns c =
    let l = c.loop-byte in
    let e : l.byte-index ≡ length c.args.part.now = omega arith in
    (sym (l.invariant.1 ∙ simp (e, drop-length)), rw (← e) l.invariant.0)
