-- `trace::layout::Found::write` meets its contract: the state, the word and the marks of the content are stored.
use Rattle.trace.specs.Layout.{store_at}
use Rattle.trace.proofs.layout.Found.write.Goals as goal
use Rattle.trace.proofs.layout.Found.write.Goals.{in-Blank, in-Written, in-Bad}

pub returns : goal.returns
unfolding store_at
returns c =
    rw (c.store-3.ensures, c.store-2.ensures, c.store.ensures)
    (elim c.match-content.branch [
      | in-Blank w ↦ rw (w.in-Blank.is, w.state-is)
      | in-Written w ↦ rw (w.in-Written.is, w.state-is)
      | in-Bad w ↦ rw (w.in-Bad.is, w.state-is)
    ])
