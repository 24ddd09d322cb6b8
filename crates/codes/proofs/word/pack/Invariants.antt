-- The number so far, followed by the columns that are left, is the whole.
use Rattle.std.proofs.Common.{◌≡◌, map, drop}
use Rattle.symbols.specs.Column.{column_of}
use Rattle.codes.specs.Digits.{columns}
use Rattle.codes.specs.Word.{word_number}
use Rattle.codes.proofs.Horner.{followed}
use Rattle.codes.proofs.word.pack.Given as goal

abbrev pub invariant-loop-column : goal.invariant-loop-column
invariant-loop-column l =
    followed columns l.number (map column_of (drop l.column-index l.column-items)) ≡ word_number (map column_of l.column-items)
