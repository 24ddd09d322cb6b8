-- One number more is written at each step, after a space.
use Rattle.std.proofs.Common.{arith, rules, append_assoc}
use Rattle.lines.specs.Text.{after_space}
use Rattle.lines.proofs.Texts.{each_more, each_room}
use Rattle.lines.proofs.text.write_numbers.Goals as goal

pub push_str-requires : goal.push_str-requires
push_str-requires g c =
    let room = each_room after_space c.args.numbers.now c.loop-number.number-index (omega arith) _ _ c.loop-number.invariant _ c.requires in
    (search rules, omega arith)

pub write_decimal-requires : goal.write_decimal-requires
write_decimal-requires g c =
    let room = each_room after_space c.args.numbers.now c.loop-number.number-index (omega arith) _ _ c.loop-number.invariant _ c.requires in
    (search rules, omega arith)

pub loop-number-preserved : goal.loop-number-preserved
loop-number-preserved g c =
    each_more after_space c.args.numbers.now c.loop-number.number-index (omega arith) _ _ c.loop-number.invariant
    _ (rw (c.write_decimal.ensures, c.push_str.ensures.bytes) (simp append_assoc))
