-- `trace::bytes::fill` meets its contract: a byte is the remainder by 256, and what is left to write is the quotient.
use Rattle.std.proofs.Common.{◌≡◌, ◌-◌, sym, ◌∙◌, arith}
use Rattle.trace.specs.Layout.{bytes_of}
use Rattle.trace.proofs.Numbers.{bytes_next}
use Rattle.trace.proofs.bytes.fill.Goals as goal

pub loop-i-preserved : goal.loop-i-preserved
loop-i-preserved c =
    let l = c.loop-i in
    l.invariant ∙ bytes_next l.left l.i (l.i - 1) l.part (omega arith) (omega arith)

pub returns : goal.returns
unfolding bytes_of
returns c =
    let l = c.loop-i in
    let e : l.i ≡ 0 = omega arith in
    sym (l.invariant ∙ rw e)
