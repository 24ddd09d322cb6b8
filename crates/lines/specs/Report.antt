-- What the survey program prints for a file: what a limit is set from, and the counts that say whether to trust it, in words.
use Rattle.std.specs.Prelude.{cond, List, [], ◌∷◌, ◌++◌, ℕ, eqb, Option, None, Some}
use Rattle.codes.specs.Answer.{Answer, accepted, refused}
use Rattle.trace.specs.declared.answer.Counts.{Counts}
use Rattle.trace.specs.declared.answer.Pressures.{Pressures}
use Rattle.trace.specs.declared.answer.Survey.{Survey}
use Rattle.trace.specs.declared.status.Status.{Status}
use Rattle.lines.specs.Text.{text, noted}
use Rattle.lines.specs.Input.{survey_file}
use Rattle.lines.specs.Listing.{status_name}

-- a line of a report: a name, a number, and a note
abbrev pub report_line : List ℕ → ℕ → List ℕ → List ℕ
report_line name number note = noted name (number ∷ []) note

-- the pressures that limits are set from
abbrev pub pressure_lines : Option Pressures → List ℕ
pressure_lines None = text "no pressure: nothing to set a limit from\n"
pressure_lines (Some p) =
    report_line (text "smallest pressure") p.smallest []
    ++ (report_line (text "largest pressure") p.largest []
    ++ report_line (text "mean pressure") p.mean (text ", rounded down"))

-- what a status means
abbrev pub status_note : Status → List ℕ
status_note Status.Blank = text ": nothing is stored"
status_note Status.Read = text ": pressures, 1 to 4094; smallest, largest and mean are of these alone"
status_note Status.Over = text ": the converter topped out at 4095, and the pressure is unknown"
status_note Status.Under = text ": the converter gave 0, as with the plug out, and the pressure is unknown"
status_note Status.Lost = text ": too much is damaged to say what the reading was"
status_note Status.Bad = text ": bytes that no call writes"

-- how many slots have a status, with what it means
unfoldable pub status_line : Status → ℕ → List ℕ
status_line s n = report_line (status_name s) n (status_note s)

-- how many slots there are, and how many of each status: those that are read first, the blank ones last
abbrev pub count_lines : ℕ → Counts → List ℕ
count_lines slots c =
    report_line (text "slots") slots []
    ++ (status_line Status.Read c.read
    ++ (status_line Status.Over c.over
    ++ (status_line Status.Under c.under
    ++ (status_line Status.Lost c.lost
    ++ (status_line Status.Bad c.bad
    ++ status_line Status.Blank c.blank)))))

-- why a survey refuses a file: 7, or else 8
abbrev pub refusal_note : ℕ → List ℕ
refusal_note number =
    cond (eqb number 7)
    (text ": the file has fewer than 8 bytes, or more than 65536")
    (text ": the file does not end with the trailer of a trace that fits in it")

-- what is printed for a file, by what a survey of it answers
abbrev pub reported : Answer Survey → List ℕ
reported (accepted s) = pressure_lines s.pressures ++ count_lines s.slots s.counts
reported (refused number) = report_line (text "refused") number (refusal_note number)

unfoldable pub report : List ℕ → List ℕ
report file = reported (survey_file file)
