-- A byte that makes no number makes none of the word.
use Rattle.std.proofs.Common.{sym, ◌∙◌}
use Rattle.script.proofs.Numerals.{number_none}
use Rattle.script.proofs.numbers.parse_number.Goals as goal

pub returns-in_err-number : goal.returns-in_err-number
returns-in_err-number c =
    c.from_residual.ensures
    ∙ number_none c.args.word.now c.loop-byte.byte-index c.loop-byte.number c.loop-byte-test.true c.loop-byte.invariant (sym c.in_err-number.was ∙ c.with_digit.ensures)
