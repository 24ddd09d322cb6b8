-- At the loop's head everything is collected of the columns from i on.
use Rattle.std.proofs.Common.{drop}
use Rattle.codes.specs.Codes.{projection}
use Rattle.codes.specs.ContractsOfWalk.{held, Collected}
use Rattle.codes.proofs.word.walk_columns.Given as goal

abbrev pub invariant-loop-i : goal.invariant-loop-i
invariant-loop-i l =
    let π = projection l.code in
    Collected π.rows (drop l.i π.matrix) (drop l.i (held π l.columns)) l.walk
