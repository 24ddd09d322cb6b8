-- A survey's line in the parts that the code writes: behind the counts and the sum stand smallest, largest and mean, or a `-` for each.
use mathlib.Core.Path.{◌≡◌, ap, ◌∙◌}
use mathlib.Core.List.{List, ◌++◌, append_assoc}
use Prim.Native.Nat.{ℕ, ◌+◌, ◌≤◌}
use native.Mathlib.Omega.{arith}
use lib.ListN.{length, length-append}
use Rattle.codes.specs.Answer.{accepted}
use Rattle.trace.specs.declared.answer.Survey.{Survey}
use Rattle.trace.specs.Answers.{counts_and_sum, pressures_values}
use Rattle.lines.specs.Text.{text, after_space, spaced, noted}
use Rattle.lines.specs.Answers.{absences, survey_line}
use Rattle.lines.proofs.Texts.{each_append}

module _ (s : Survey) where
  pub survey_parts : survey_line (accepted s)
      ≡ text "ok" ++ (spaced (counts_and_sum s) ++ ((spaced (pressures_values s.pressures) ++ absences s.pressures) ++ text "\n"))
  unfolding noted
  survey_parts =
      ap (λ (t : List ℕ). text "ok" ++ (t ++ (absences s.pressures ++ text "\n"))) (each_append after_space (counts_and_sum s) (pressures_values s.pressures))
      ∙ simp append_assoc

  pub survey_room : (start capacity : ℕ) → start + length (survey_line (accepted s)) ≤ capacity
      → start + 2 + length (spaced (counts_and_sum s)) + length (spaced (pressures_values s.pressures)) + length (absences s.pressures) + 1 ≤ capacity
  survey_room start capacity room = omega (arith, simp length-append at (ap length survey_parts))
