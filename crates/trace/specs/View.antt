-- What a call sees of a trace: its code, and what each slot holds. A buffer and a plain trace are seen alike, so that what a call answers, and
-- which refusals it meets, is said once.
use Rattle.std.specs.Prelude.{ℕ, ◌+◌, ◌*◌, ◌/◌, ◌%◌, List, length, bit_or, bit_xor, slice_index_or}
use Rattle.std.proofs.Math.Option.{Option, none, some}
use Rattle.codes.specs.declared.answer.Correction.{Correction}
use Rattle.codes.specs.Answer.{Answer, accepted, refused}
use Rattle.codes.specs.Projection.{Projection}
use Rattle.codes.specs.Word.{bit}
use Rattle.codes.specs.Message.{encode}
use Rattle.codes.specs.Correction.{correct}
use Rattle.trace.specs.declared.slot.Content.{Content}
use Rattle.trace.specs.declared.answer.Reading.{Reading}

-- a slot is blank, is bad, or holds a word under marks
pub record View : Type 0 where
  pub code : Projection
  pub slots : List Content

-- N
abbrev pub count_of : View → ℕ
count_of v = length v.slots

abbrev pub content_of : View → ℕ → Content
content_of v slot = slice_index_or v.slots slot Content.Blank

-- ---- what a read gives

-- 'message = step·4096 + reading'
abbrev pub message_of : ℕ → ℕ → ℕ
message_of step reading = step * 4096 + reading

-- 'Read mends and gives step, reading, wrong, marks', and 'the number of marked positions where the stored bit differs from the codeword'
abbrev pub reading_of : Correction → Reading
reading_of c =
    record { step = c.message / 4096; reading = c.message % 4096; wrong = c.wrong; marks = c.marks; marked_wrong = c.marked_wrong }

unfoldable pub read_corrected : Option Correction → Answer Reading
read_corrected (some c) = accepted (reading_of c)
read_corrected none = refused 5

-- what a read gives by what the slot holds: 10, 11 or, after these, what mending gives
unfoldable pub read_content : Projection → Content → Answer Reading
read_content π Content.Blank = refused 11
read_content π Content.Bad = refused 10
read_content π (Content.Written word marks) = read_corrected (correct π word marks)

-- what a read of a slot gives by what that slot alone holds
abbrev pub read_alone : View → ℕ → Answer Reading
read_alone v slot = read_content v.code (content_of v slot)

-- ---- what a slot then holds

-- 'Put writes the codeword and no marks'
abbrev pub put_content : Projection → ℕ → Content
put_content π message = Content.Written (encode π message) 0

-- 'Flip inverts one stored bit'
abbrev pub flip_content : Projection → ℕ → Content → Content
flip_content π position Content.Blank = Content.Blank
flip_content π position Content.Bad = Content.Bad
flip_content π position (Content.Written word marks) = Content.Written (bit_xor word (bit π position)) marks

-- 'Mark marks one; a second mark changes nothing'
abbrev pub mark_content : Projection → ℕ → Content → Content
mark_content π position Content.Blank = Content.Blank
mark_content π position Content.Bad = Content.Bad
mark_content π position (Content.Written word marks) = Content.Written word (bit_or marks (bit π position))
