-- The ones of a number are those of its columns.
use Rattle.std.proofs.Common.{◌∙◌}
use Rattle.codes.proofs.Nearness.{count_ones}
use Rattle.codes.proofs.correction.ones.Goals as goal

pub returns : goal.returns
returns c π h = c.from.ensures ∙ count_ones π c.args.packed h
