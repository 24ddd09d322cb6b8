-- What a program that reads a file takes from its buffer, and what a survey of it answers: one that is too long is refused.
use Rattle.std.specs.Prelude.{◌≡◌, Bool, cond, List, ℕ, ◌+◌, ltb, length, take}
use Rattle.codes.specs.Answer.{Answer, refused}
use Rattle.trace.specs.declared.answer.Survey.{Survey}
use Rattle.trace.specs.Trace.{survey_in}

-- '64 KiB', in bytes
abbrev pub longest : ℕ
longest = 65536

-- 'one above 64 KiB'
abbrev pub is_too_long : List ℕ → Bool
is_too_long input = ltb longest (length input)

-- a buffer has one byte more than the longest input, so that a longer one is seen
abbrev pub InputBuffer : List ℕ → Type 0
InputBuffer buffer = length buffer ≡ longest + 1

-- the first `size` bytes of a buffer, into which as many were read; all of them where it has no more
abbrev pub read_into : List ℕ → ℕ → List ℕ
read_into buffer size = take size buffer

-- 'A refused file, or one above 64 KiB (as 7)': what a survey of a file answers
unfoldable pub survey_file : List ℕ → Answer Survey
survey_file file = cond (is_too_long file) (refused 7) (survey_in file)
