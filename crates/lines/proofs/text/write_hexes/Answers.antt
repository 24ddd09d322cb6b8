-- What is left begins with the part, so there is room for it, and in the end nothing is left.
use Rattle.std.proofs.Common.{length, arith, rules, ap, append_assoc, append-nil, length-append, length-take-le}
use Rattle.std.proofs.lemmas.List.{nil_from_length}
use Rattle.lines.specs.Text.{each}
use Rattle.lines.proofs.Texts.{each_append}
use Rattle.lines.proofs.text.write_hexes.Goals as goal

pub write_part-requires : goal.write_part-requires
write_part-requires g c =
    let steps = c.in-Some.ensures.steps in
    let all = rw (steps.1.0, each_append) at c.loop-part.invariant.written in
    let long = simp length-append at (ap length all) in
    (search rules, (omega (arith, long, c.requires), length-take-le _ c.loop-part.digits (omega (arith, steps.1.1, c.loop-part.invariant.size))))

pub loop-part-preserved : goal.loop-part-preserved
loop-part-preserved g c =
    let steps = c.in-Some.ensures.steps in
    let all = rw (steps.1.0, each_append) at c.loop-part.invariant.written in
    record {
      can_next = search rules;
      finite = tt;
      size = search rules;
      written = rw (c.write_part.ensures, append_assoc) all;
    }

pub returns : goal.returns
unfolding each
returns g c = rw (nil_from_length _ c.in-None.ensures.steps.1.0, append-nil) at c.loop-part.invariant.written
