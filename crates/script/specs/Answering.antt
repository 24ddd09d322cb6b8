-- What a call of a script makes of the lent bytes, and the line that it is answered with: by what the trace call answers and leaves.
use Rattle.std.specs.Prelude.{List, ℕ}
use Rattle.trace.specs.Calls.{After, put, put_list, flip, mark, load, clear, read}
use Rattle.trace.specs.Trace.{on_bytes, make, survey_in}
use Rattle.lines.specs.Answers.{answer_line, survey_line, bytes_line}
use Rattle.script.specs.declared.line.Call.{Call}

-- a line, and the bytes afterwards
pub record Answered : Type 0 where
  pub line : List ℕ
  pub bytes : List ℕ

-- the line of a call's answer, and the bytes that the call leaves
abbrev pub called : After (List ℕ) → Answered
called a = record { line = answer_line a.answer; bytes = a.state }

-- a survey and `bytes` change nothing; a survey's line has ten places
abbrev pub answered : Call → List ℕ → Answered
answered (Call.Make code slots) b = called (make (record { code = code; slots = slots }) b)
answered (Call.Put slot step reading) b = called (on_bytes (put slot step reading) b)
answered (Call.Flip slot position) b = called (on_bytes (flip slot position) b)
answered (Call.Mark slot position) b = called (on_bytes (mark slot position) b)
answered (Call.Load slot seed count) b = called (on_bytes (load slot seed count) b)
answered (Call.Clear slot) b = called (on_bytes (clear slot) b)
answered (Call.Read slot) b = called (on_bytes (read slot) b)
answered Call.Survey b = record { line = survey_line (survey_in b); bytes = b }
answered Call.Bytes b = record { line = bytes_line b; bytes = b }

-- a list of puts
abbrev pub answered_list : ℕ → List ℕ → List ℕ → List ℕ → Answered
answered_list start steps readings b = called (on_bytes (put_list start steps readings) b)
