-- `trace::slot::read_word` meets its contract: mending answers a correction, whose message is split, or refuses.
use Rattle.std.proofs.Common.{◌≡◌}
use Rattle.trace.proofs.Words.{read_near, read_refused}
use Rattle.trace.proofs.slot.read_word.Goals as goal

pub returns-in_default : goal.returns-in_default
returns-in_default c =
    let same : c.in_default.field-0 ≡ c.unwrap_err.result = cc in
    rw (c.into.ensures, ← same) (read_refused _ _ _ c.requires.0 c.requires.1 _ c.in_default.ensures)

pub returns : goal.returns
returns c = read_near _ _ _ c.requires.0 c.requires.1 _ c.in-Ok.ensures
