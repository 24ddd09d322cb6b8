-- With three columns taken away there are some left.
use Rattle.codes.specs.ContractsOfSearch.{cleared}
use Rattle.codes.proofs.Masks.{four_set}
use Rattle.codes.proofs.search.has_four.Goals as goal

pub returns : goal.returns
returns c l e =
    four_set l
    (c.without_first-3.ensures (cleared (cleared l)) (c.without_first-2.ensures (cleared l) (c.without_first.ensures l e)))
