-- A file of which a survey is accepted is not too long, so its trailer tells its slots: at most 4,000.
use mathlib.Core.Path.{◌≡◌, refl, sym, ◌∙◌}
use mathlib.Core.Bool.{Bool, true, false, cond}
use mathlib.Core.List.{List}
use Prim.Native.Nat.{ℕ, ◌≤◌}
use Rattle.std.specs.Prelude.{Result, Ok}
use Rattle.codes.specs.Answer.{accepted, refused}
use Rattle.trace.specs.declared.answer.Refusal.{Refusal}
use Rattle.trace.specs.declared.answer.Survey.{Survey}
use Rattle.trace.specs.Answers.{survey_answer}
use Rattle.trace.specs.Trace.{survey_in}
use Rattle.trace.proofs.Laws as trace
use Rattle.lines.specs.Input.{is_too_long, survey_file}

pub slots_few : (file : List ℕ) (answer : Result Survey Refusal) (s : Survey)
    → survey_answer answer ≡ survey_file file → answer ≡ Ok s → s.slots ≤ 4000
unfolding survey_file
slots_few file answer s e is = trace.slots_few file s (go (is_too_long file) (sym e ∙ rw is refl))
  where
    go : (long : Bool) → cond long (refused 7) (survey_in file) ≡ accepted s → survey_in file ≡ accepted s
    go true f = cc
    go false f = f
