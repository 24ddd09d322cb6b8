-- `trace::layout::Found::read` meets its contract: what a slot holds is narrow.
use Rattle.std.proofs.Common.{sym, ◌∙◌}
use Rattle.trace.proofs.Contents.{narrow}
use Rattle.trace.proofs.layout.Found.read.Goals as goal

pub read_word-requires : goal.read_word-requires
read_word-requires c = narrow _ _ _ _ _ (sym c.in_ok-word.ensures ∙ c.content.ensures)
