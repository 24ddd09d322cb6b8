-- With none of the rows that were tried anything was found.
use Rattle.std.specs.Prelude.{None}
use Rattle.std.proofs.Common.{ℕ, ◌<◌}
use Rattle.codes.specs.Codes.{projection}
use Rattle.codes.specs.ContractsOfSearch.{row_inverted}
use Rattle.codes.proofs.search.Trial.by_rows.Given as goal

abbrev pub invariant-loop-row : goal.invariant-loop-row
invariant-loop-row g l = (row : ℕ) → row < l.row → goal.F-post g l.find (row_inverted (projection l.self.code) l.self l.column row) None
