-- What is left are the words behind the first one; where no word is found, none is left.
use Rattle.std.proofs.Common.{length, ap, sym, ◌∙◌, eqb-true, false-eqb}
use Rattle.script.specs.Script.{word}
use Rattle.script.specs.ContractsOfSteps.{words_left}
use Rattle.script.proofs.Walks.{goes_on}
use Rattle.script.proofs.Blanks.{words_none, words_next}
use Rattle.script.proofs.words.WordsIterator.next.Goals as goal

pub returns-then-is_empty-clause-steps : goal.returns-then-is_empty-clause-steps
returns-then-is_empty-clause-steps c =
    let size = ap length (c.split_word.ensures.word ∙ ap word c.skip_blanks.ensures) in
    rw (c.split_word.ensures.rest, c.skip_blanks.ensures)
    (words_none c.args.self.now.0.now (sym size ∙ eqb-true _ 0 (sym c.is_empty.ensures ∙ c.if-is_empty.true)))

pub returns-else-is_empty-clause-steps : goal.returns-else-is_empty-clause-steps
returns-else-is_empty-clause-steps c =
    let size = ap length (c.split_word.ensures.word ∙ ap word c.skip_blanks.ensures) in
    rw (c.split_word.ensures.word, c.split_word.ensures.rest, c.skip_blanks.ensures)
    (words_next c.args.self.now.0.now (λ e. false-eqb _ 0 (sym c.if-is_empty.false ∙ c.is_empty.ensures) (size ∙ e)))

pub returns-else-is_empty-clause-goes : goal.returns-else-is_empty-clause-goes
returns-else-is_empty-clause-goes c = goes_on _ words_left _ _ _ _ tt (returns-else-is_empty-clause-steps c)
