-- What the listing program prints for a file, over what reads of its slots and a survey of it answer.
use Rattle.std.specs.Prelude.{List, [], ◌∷◌, ◌++◌, ℕ, zero, suc}
use Rattle.codes.specs.Answer.{Answer, accepted, refused}
use Rattle.trace.specs.declared.answer.Reading.{Reading}
use Rattle.trace.specs.declared.answer.Counts.{Counts}
use Rattle.trace.specs.declared.answer.Survey.{Survey}
use Rattle.trace.specs.declared.status.Status.{Status}
use Rattle.trace.specs.Answers.{reading_values, counts_values}
use Rattle.trace.specs.Survey.{status_of}
use Rattle.trace.specs.Trace.{alone_in}
use Rattle.lines.specs.Text.{text, decimal, line}
use Rattle.lines.specs.Input.{survey_file}

-- ---- a slot's line

-- the word of a status, and after a space
abbrev pub status_name : Status → List ℕ
status_name Status.Blank = text "blank"
status_name Status.Read = text "read"
status_name Status.Over = text "over"
status_name Status.Under = text "under"
status_name Status.Lost = text "lost"
status_name Status.Bad = text "bad"

abbrev pub status_word : Status → List ℕ
status_word s = text " " ++ status_name s

-- '.. then step, reading, wrong, marks for read; step, wrong, marks for over'; 'the listing prints under as it prints over'; 'Each listing line of read,
-- over or under ends with' how many marked bits were wrong
abbrev pub status_values : Status → Reading → List ℕ
status_values Status.Blank v = []
status_values Status.Read v = reading_values v
status_values Status.Over v = v.step ∷ v.wrong ∷ v.marks ∷ v.marked_wrong ∷ []
status_values Status.Under v = v.step ∷ v.wrong ∷ v.marks ∷ v.marked_wrong ∷ []
status_values Status.Lost v = []
status_values Status.Bad v = []

-- what follows the slot, by what a read of it answers; one that is refused has no values
unfoldable pub ending : Answer Reading → List ℕ
ending (accepted v) = line (status_word (status_of (accepted v))) (status_values (status_of (accepted v)) v)
ending (refused n) = line (status_word (status_of (refused n))) []

-- 'A line is slot and status, then ..'
unfoldable pub slot_line : ℕ → Answer Reading → List ℕ
slot_line slot a = decimal slot ++ ending a

-- the lines of the first n slots, by what a read of each answers
unfoldable pub slot_lines : (ℕ → Answer Reading) → ℕ → List ℕ
slot_lines answers zero = []
slot_lines answers (suc n) = slot_lines answers n ++ slot_line n (answers n)

-- ---- a listing

-- 'The last line is total, N, blank, read, over, lost, bad'; 'The total line has under after over'
abbrev pub total_line : ℕ → Counts → List ℕ
total_line n c = line (text "total") (n ∷ counts_values c)

-- '"refused", a space and the number'
abbrev pub refused_line : ℕ → List ℕ
refused_line number = line (text "refused") (number ∷ [])

-- by what a survey of the file answers; each slot is read by what it alone holds
abbrev pub listed : List ℕ → Answer Survey → List ℕ
listed file (accepted s) = slot_lines (alone_in file) s.slots ++ total_line s.slots s.counts
listed file (refused number) = refused_line number

-- 'A refused file, or one above 64 KiB (as 7), prints one line only'
unfoldable pub listing : List ℕ → List ℕ
listing file = listed file (survey_file file)
