-- `trace::calls::clear` meets its contract: its step changes the slot as the call does.
use Rattle.std.proofs.Common.{refl, rules}
use Rattle.trace.proofs.Changes.{changed_by, clear_changes}
use Rattle.trace.specs.Answers.{done_answer}
use Rattle.trace.proofs.calls.clear.Goals as goal

pub returns : goal.returns
returns c = changed_by done_answer (λ r. refl) _ _ _ (clear_changes c.args.slot) _ (λ held y s. search rules) _ _ _ c.change_slot.ensures
