-- What a script's lines are answered with, over what the calls of the trace answer.
use Rattle.std.specs.Prelude.{List, [], ◌++◌, ℕ, take, Option, None, Some}
use Rattle.codes.specs.Answer.{Answer, accepted, refused}
use Rattle.trace.specs.declared.answer.Pressures.{Pressures}
use Rattle.trace.specs.declared.answer.Survey.{Survey}
use Rattle.trace.specs.Answers.{survey_values}
use Rattle.lines.specs.Text.{text, hex, each, noted, line}
use Rattle.lines.specs.Input.{longest}
use Rattle.lines.specs.Listing.{refused_line}

-- a call's line: `ok` and its values, or `refused` and its number; the value of a file that was opened or saved is how many bytes it had
abbrev pub answer_line : Answer (List ℕ) → List ℕ
answer_line (accepted values) = line (text "ok") values
answer_line (refused number) = refused_line number

-- a `-` for each of smallest, largest and mean that is absent
abbrev pub absences : Option Pressures → List ℕ
absences None = text " - - -"
absences (Some p) = []

-- a survey's line has ten places, whether or not there is a pressure
abbrev pub survey_line : Answer Survey → List ℕ
survey_line (accepted s) = noted (text "ok") (survey_values s) (absences s.pressures)
survey_line (refused number) = refused_line number

-- the bytes of a buffer in hexadecimal, and a newline; of a longer buffer than any that is lent, the first 65,536
unfoldable pub bytes_line : List ℕ → List ℕ
bytes_line bytes = each hex (take longest bytes) ++ text "\n"
