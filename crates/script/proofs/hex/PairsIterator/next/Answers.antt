-- What is left are the bytes behind the first one.
use Rattle.script.specs.ContractsOfSteps.{pairs_left}
use Rattle.script.proofs.Walks.{goes_on}
use Rattle.script.proofs.Pairing.{pairs_none, pairs_one, pairs_two}
use Rattle.script.proofs.hex.PairsIterator.next.Goals as goal

pub returns-in-empty-clause-steps : goal.returns-in-empty-clause-steps
returns-in-empty-clause-steps c = pairs_none c.args.self.now.0.now c.skip_blanks-text.result.now c.skip_blanks-text.ensures c.in-empty.len_below

pub returns-in-len1-up-clause-steps : goal.returns-in-len1-up-clause-steps
returns-in-len1-up-clause-steps c = pairs_one c.args.self.now.0.now c.skip_blanks-text.result.now c.skip_blanks-text.ensures c.in-len1-up.len_at_least c.in-len1-up.len_below

pub returns-in-len1-up-clause-goes : goal.returns-in-len1-up-clause-goes
returns-in-len1-up-clause-goes c = goes_on _ pairs_left _ _ _ _ tt (returns-in-len1-up-clause-steps c)

pub returns-in-len2-up-clause-steps : goal.returns-in-len2-up-clause-steps
returns-in-len2-up-clause-steps c = rw c.hex_byte.ensures (pairs_two c.args.self.now.0.now c.skip_blanks-text.result.now c.skip_blanks-text.ensures c.in-len2-up.len_at_least)

pub returns-in-len2-up-clause-goes : goal.returns-in-len2-up-clause-goes
returns-in-len2-up-clause-goes c = goes_on _ pairs_left _ _ _ _ tt (returns-in-len2-up-clause-steps c)
