-- The word is shifted to fill ten columns; with the columns from i on stored, they are the lowest 10 − i digits of that number, and what is left is
-- the number divided by 16 to that power.
use Rattle.std.proofs.Common.{◌≡◌, ◌-◌, ◌/◌, ◌^◌, map, length, drop}
use Rattle.symbols.specs.Column.{column_of}
use Rattle.codes.specs.Digits.{columns, digits}
use Rattle.codes.proofs.word.unpack.Given as goal

abbrev pub invariant-loop-i : goal.invariant-loop-i
invariant-loop-i l = record {
  room : length l.columns ≡ 10;
  rest : l.rest ≡ l.initial.rest / 16 ^ (10 - l.i);
  stored : map column_of (drop l.i l.columns) ≡ digits columns (10 - l.i) l.initial.rest;
}
