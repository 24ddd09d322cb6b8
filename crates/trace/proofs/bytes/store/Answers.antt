-- `trace::bytes::store` meets its contract: a part is lent, filled and given back.
use Rattle.trace.proofs.Parts.{fill_part}
use Rattle.trace.proofs.bytes.store.Goals as goal

pub returns : goal.returns
returns c = let a = c.args in fill_part _ _ a.at a.size a.value c.requires c.fill.ensures
