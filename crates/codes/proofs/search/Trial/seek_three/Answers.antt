-- Each row of column i is tried, and the last two positions found in columns j and k.
use Rattle.std.proofs.Common.{rules}
use Rattle.codes.proofs.search.Trial.seek_three.Goals as goal

pub returns : goal.returns
returns c = c.by_rows.ensures _ _ (λ row hr r finds. search rules)
