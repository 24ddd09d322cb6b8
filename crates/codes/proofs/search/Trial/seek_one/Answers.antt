-- The codeword is a position away in the column, or what is left after one of its rows follows from the syndrome.
use Rattle.std.proofs.Common.{rules}
use Rattle.codes.proofs.Seeking.{further}
use Rattle.codes.proofs.search.Trial.seek_one.Goals as goal

pub returns-in-Some : goal.returns-in-Some
returns-in-Some c = further c.in-Some.ensures

pub returns : goal.returns
returns c = c.by_rows.ensures _ _ (λ row hr r finds. search rules)
