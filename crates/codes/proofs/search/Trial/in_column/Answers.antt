-- With the top row off it is row 0, which adds nothing to the syndrome, or none; else it is the row whose multiple of the column is the syndrome, or
-- none.
use Rattle.std.proofs.Common.{◌∙◌, arith}
use Rattle.codes.proofs.Searches.{searchable}
use Rattle.codes.proofs.Seeking.{last_top, last_off, last_row, last_others}
use Rattle.codes.proofs.search.Trial.in_column.Goals as goal

pub returns-then-self-eq0 : goal.returns-then-self-eq0
returns-then-self-eq0 c = rw c.inverted.ensures (last_top (searchable c.args.self.code) c.if-self.true c.if-self-eq0.true)

pub returns-then-self : goal.returns-then-self
returns-then-self c = last_off (searchable c.args.self.code) c.if-self.true c.if-self-eq0.false

pub returns-then-self-multiple : goal.returns-then-self-multiple
returns-then-self-multiple c =
    let row = c.loop-row.row in
    rw c.inverted-then-self-multiple.ensures
    (last_row (searchable c.args.self.code) row c.if-self.false (omega arith) c.loop-row-test.true
    (c.if-self-multiple.true ∙ (c.multiple.ensures ∙ c.multiples-scales.ensures row c.loop-row-test.true)))

pub returns : goal.returns
returns c = last_others (searchable c.args.self.code) c.if-self.false (λ r h. c.loop-row.invariant r (omega arith))
