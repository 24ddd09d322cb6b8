-- Of the rows that were tried none has the syndrome for its multiple of the column.
use Rattle.std.proofs.Common.{◌≡◌, ℕ, ◌<◌, ◌≤◌}
use Rattle.symbols.specs.Symbol.{symbol_of}
use Rattle.codes.specs.Codes.{projection}
use Rattle.codes.specs.ContractsOfWalk.{multiple}
use Rattle.codes.proofs.search.Trial.in_column.Given as goal

abbrev pub invariant-loop-row : goal.invariant-loop-row
invariant-loop-row l = (r : ℕ) → r < l.row → 1 ≤ r → l.self.syndrome ≡ multiple (projection l.self.code) l.j (symbol_of r) → ⊥
