-- `trace::calls::load` meets its contract: its step changes the slot as the call does.
use Rattle.std.proofs.Common.{refl, rules}
use Rattle.trace.proofs.Changes.{changed_by, load_changes}
use Rattle.trace.specs.Answers.{load_answer}
use Rattle.trace.proofs.calls.load.Goals as goal

pub returns : goal.returns
returns c = changed_by load_answer (λ r. refl) _ _ _ (load_changes c.args.slot c.args.seed c.args.count) _ (λ held y s. search rules) _ _ _ c.change_slot.ensures
