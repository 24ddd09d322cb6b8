-- There is room for one byte more at each step.
use Rattle.std.proofs.Common.{arith, rules}
use Rattle.lines.specs.Trouble.{visible_byte}
use Rattle.lines.proofs.Texts.{each_room}
use Rattle.lines.proofs.trouble.write_all_visible.Goals as goal

pub write_visible-requires : goal.write_visible-requires
write_visible-requires g c =
    (search rules, each_room visible_byte c.args.text.now c.loop-byte.byte-index (omega arith) _ _ c.loop-byte.invariant _ c.requires)
