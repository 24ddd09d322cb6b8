-- `trace::slot::Held::load` meets its contract: a written slot, and a count that its word has positions for.
use Rattle.codes.specs.Codes.{projection}
use Rattle.trace.proofs.Changes.{load_changed}
use Rattle.trace.proofs.slot.Held.load.Goals as goal

pub returns : goal.returns
returns c =
    let width = c.width-width.ensures in
    load_changed (projection c.args.self.code) _ _ _ _ _ _ _ c.in_ok-word.ensures (rw width at c.if-width-count.false) (rw width at c.draw_all-load.ensures)
