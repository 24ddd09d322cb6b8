-- `trace::bytes::number_at` meets its contract: the number of a part.
use Rattle.std.proofs.Common.{◌≡◌, ◌+◌, ◌-◌, ◌∙◌, arith}
use Rattle.trace.specs.Layout.{part}
use Rattle.trace.proofs.Parts.{length_part}
use Rattle.trace.proofs.bytes.number_at.Goals as goal

pub returns : goal.returns
unfolding part
returns c =
    let a = c.args in
    let size : a.at + a.size - a.at ≡ a.size = omega arith in
    let long = length_part a.b.now a.at a.size c.requires.0 in
    (c.number.ensures.0 ∙ rw size, rw (size, long) at c.number.ensures.1)
