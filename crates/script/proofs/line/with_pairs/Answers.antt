-- The command, by how many bytes the argument is.
use Rattle.std.proofs.Common.{sym, ◌∙◌}
use Rattle.script.specs.Script.{hex_bytes}
use Rattle.script.proofs.Lends.{no_pairs, empty_pairs, some_pairs}
use Rattle.script.proofs.line.with_pairs.Goals as goal

pub returns-in_default : goal.returns-in_default
returns-in_default c = no_pairs (hex_bytes c.args.argument.now) (sym c.in_default.is ∙ c.count_pairs.ensures)

pub returns-then-n-eq0 : goal.returns-then-n-eq0
returns-then-n-eq0 c = empty_pairs (hex_bytes c.args.argument.now) c.in-Some.n c.in-Some.ensures c.if-n-eq0.true

pub returns : goal.returns
returns c = some_pairs (hex_bytes c.args.argument.now) c.in-Some.n c.in-Some.ensures c.if-n-eq0.false
