-- What a C caller has after a call: the number that is returned, and what `out` or the buffer holds then.
use Rattle.std.specs.Prelude.{List, [], ◌∷◌, ◌++◌, ℕ, Option, None, Some}
use Rattle.codes.specs.Answer.{Answer, accepted, refused}
use Rattle.trace.specs.declared.answer.Pressures.{Pressures}
use Rattle.trace.specs.declared.answer.Survey.{Survey}
use Rattle.trace.specs.Calls.{After}
use Rattle.trace.specs.Answers.{counts_values, three_values}

pub record Returned : Type 0 where
  pub number : ℕ
  pub held : List ℕ

abbrev pub returned : ℕ → List ℕ → Returned
returned n h = record { number = n; held = h }

-- 0 where a call is accepted, else the refusal's number
abbrev pub number_of : Answer (List ℕ) → ℕ
number_of (accepted values) = 0
number_of (refused n) = n

-- of a call that answers values: `out` holds them, or what it held where the call is refused
abbrev pub returns : Answer (List ℕ) → List ℕ → Returned
returns (accepted values) out = returned 0 values
returns (refused n) out = returned n out

-- of a call that changes the buffer
abbrev pub leaves : After (List ℕ) → Returned
leaves a = returned (number_of a.answer) a.state

-- 1 where smallest, largest and mean are present, else 0
abbrev pub presence : Option Pressures → ℕ
presence None = 0
presence (Some p) = 1

-- smallest, largest and mean in three places, 0 where they are absent
abbrev pub pressures_in_three : Option Pressures → List ℕ
pressures_in_three None = 0 ∷ 0 ∷ 0 ∷ []
pressures_in_three (Some p) = three_values p

-- a survey in eleven values: that flag stands before the last three
abbrev pub survey_flagged : Survey → List ℕ
survey_flagged s = counts_values s.counts ++ (s.sum ∷ presence s.pressures ∷ pressures_in_three s.pressures)
