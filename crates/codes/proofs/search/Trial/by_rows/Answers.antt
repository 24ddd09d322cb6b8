-- A row that was tried finds nothing either; and what the search solves with a row inverted is solved.
use Rattle.std.specs.Prelude.{None, Some}
use Rattle.std.proofs.Common.{arith}
use Rattle.codes.proofs.Searches.{searchable}
use Rattle.codes.proofs.Seeking.{found_by_row, none_by_row}
use Rattle.codes.proofs.search.Trial.by_rows.Goals as goal

pub returns-in-Some : goal.returns-in-Some
returns-in-Some g c js k solves =
    let row = c.loop-row.row in
    found_by_row (searchable c.args.self.code) row c.loop-row-test.true
    (solves row c.loop-row-test.true (Some c.in-Some.found) (rw c.with_row.ensures at c.in-Some.ensures))

pub returns : goal.returns
returns g c js k solves =
    none_by_row (searchable c.args.self.code) (λ row hr. solves row hr None (c.loop-row.invariant row (omega arith)))
