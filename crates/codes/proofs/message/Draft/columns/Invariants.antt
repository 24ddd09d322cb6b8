-- At the loop's head the columns before i are stored, and with those from i on, whose top bits bring the top row's parity to `top`, they are the
-- draft.
use Rattle.std.proofs.Common.{◌≡◌, ◌++◌, map, length, take}
use Rattle.symbols.specs.Column.{column_of}
use Rattle.codes.specs.Codes.{projection}
use Rattle.codes.specs.ContractsOfWalk.{drafted}
use Rattle.codes.proofs.Drafts.{draft_from}
use Rattle.codes.proofs.message.Draft.columns.Given as goal

abbrev pub invariant-loop-i : goal.invariant-loop-i
invariant-loop-i l = record {
  room : length l.columns ≡ 10;
  drafted :
      map column_of (take l.i l.columns) ++ draft_from (projection l.self.code) l.self.message l.self.syndrome l.i l.top
      ≡ drafted (projection l.self.code) l.self.message l.self.syndrome;
}
