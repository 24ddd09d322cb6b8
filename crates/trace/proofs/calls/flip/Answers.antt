-- `trace::calls::flip` meets its contract: its step changes the slot as the call does.
use Rattle.std.proofs.Common.{refl, rules}
use Rattle.trace.proofs.Changes.{changed_by, flip_changes}
use Rattle.trace.specs.Answers.{done_answer}
use Rattle.trace.proofs.calls.flip.Goals as goal

pub returns : goal.returns
returns c = changed_by done_answer (λ r. refl) _ _ _ (flip_changes c.args.slot c.args.position) _ (λ held y s. search rules) _ _ _ c.change_slot.ensures
