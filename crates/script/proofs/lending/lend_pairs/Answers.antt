-- What is lent, by how many bytes the text is.
use Rattle.std.proofs.Common.{sym, ap, ◌∙◌, Ok, arith}
use Rattle.script.specs.Script.{hex_bytes}
use Rattle.script.specs.Lending.{lending}
use Rattle.script.proofs.Walks.{sized}
use Rattle.script.proofs.Lends.{lent_all, lent_too_many, lent_nothing}
use Rattle.script.proofs.lending.lend_pairs.Goals as goal

pub returns-in_default-clause-lent : goal.returns-in_default-clause-lent
returns-in_default-clause-lent c = lent_nothing (hex_bytes c.args.text.now) c.args.buffer.now (sym c.in_default.is ∙ c.count_pairs.ensures)

pub returns-then-buffer-size-clause-lent : goal.returns-then-buffer-size-clause-lent
returns-then-buffer-size-clause-lent c =
    lent_too_many (hex_bytes c.args.text.now) c.args.buffer.now c.in-Some.size c.in-Some.ensures c.if-buffer-size.true

pub write_pairs-requires-clause-are : goal.write_pairs-requires-clause-are
write_pairs-requires-clause-are c = (sized (hex_bytes c.args.text.now) c.in-Some.size c.in-Some.ensures).0

pub write_pairs-requires-clause-fit : goal.write_pairs-requires-clause-fit
write_pairs-requires-clause-fit c = omega (arith, (sized (hex_bytes c.args.text.now) c.in-Some.size c.in-Some.ensures).1)

pub returns-clause-lent : goal.returns-clause-lent
returns-clause-lent c =
    ap (λ (b : _). lending (Ok c.in-Some.size) b) c.write_pairs.ensures
    ∙ lent_all (hex_bytes c.args.text.now) c.args.buffer.now c.in-Some.size c.in-Some.ensures c.if-buffer-size.false
