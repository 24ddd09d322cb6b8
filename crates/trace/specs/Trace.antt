-- What each trace call answers, and the bytes that it leaves, whatever the buffer holds: 'The smallest number that applies is returned, alone, but
-- 5 on a read is tried only after all others pass. No lent byte changes.'
use Rattle.std.specs.Prelude.{ℕ, cond, List, [], ◌∷◌, ◌++◌, map, length, ◌==◌}
use Rattle.codes.specs.Answer.{Answer, accepted, Row, unless}
use Rattle.codes.specs.Projection.{Projection}
use Rattle.codes.specs.Codes.{projection, code_of, unknown_code}
use Rattle.trace.specs.declared.layout.Place.{Place}
use Rattle.trace.specs.declared.slot.Content.{Content}
use Rattle.trace.specs.declared.answer.Reading.{Reading}
use Rattle.trace.specs.declared.answer.Survey.{Survey}
use Rattle.trace.specs.Lists.{span, in_turn}
use Rattle.trace.specs.Calls.{Call, put, put_list, flip, mark, load, clear, read, survey, Making, After, outcome}
use Rattle.trace.specs.Layout.{trailer_size, needed_for, trailer_at, distance_in, count_in, code_in, edition_in, place_in, state_at, word_at, marks_at}
use Rattle.trace.specs.Layout.{content_bytes, store_at, made}
use Rattle.trace.specs.Load.{positions_of}
use Rattle.trace.specs.View.{View, count_of, content_of, read_alone, message_of, put_content, flip_content, mark_content}
use Rattle.trace.specs.Survey.{survey_of}
use Rattle.trace.specs.Refusals.{wrong_count, too_short, trailer_unfit, no_slot, is_bad}
use Rattle.trace.specs.Rules.{refusals, gives, put_all}

-- ---- what a call sees of a buffer

abbrev pub projection_in : List ℕ → Projection
projection_in b = projection (code_of (code_in b))

-- what a slot with these numbers holds
unfoldable pub content_with : Projection → ℕ → ℕ → ℕ → Content
content_with π state word marks =
    cond (is_bad π state word marks) Content.Bad (cond (state == 0) Content.Blank (Content.Written word marks))

abbrev pub content_at : Projection → List ℕ → Place → Content
content_at π b p = content_with π (state_at b p) (word_at b p) (marks_at b p)

unfoldable pub view_in : List ℕ → View
view_in b = record { code = projection_in b; slots = map (λ slot. content_at (projection_in b) b (place_in b slot)) (span 0 (count_in b)) }

-- ---- refusals

-- the rows that look at a buffer's length and trailer
abbrev pub short : List ℕ → Row
short b = too_short (length b) trailer_size

abbrev pub unfit : List ℕ → Row
unfit b = trailer_unfit (trailer_at b) (distance_in b) (count_in b) (code_in b) (edition_in b)

abbrev pub trailer_rows : List ℕ → List Row
trailer_rows b = short b ∷ unfit b ∷ []

-- all refusals of a call on a buffer, in order
abbrev pub refusals_in : Call → List ℕ → List Row
refusals_in c b = trailer_rows b ++ refusals c (view_in b)

-- those that a call passes to come to its slot
abbrev pub slot_rows_in : List ℕ → ℕ → List Row
slot_rows_in b slot = trailer_rows b ++ (no_slot (count_of (view_in b)) slot ∷ [])

-- ---- what a call leaves

-- a buffer with another content in a slot
unfoldable pub stored : ℕ → Content → List ℕ → List ℕ
stored slot c b = store_at b (place_in b slot) (content_bytes c)

-- what a put into a slot leaves
abbrev pub put_in : ℕ → ℕ → ℕ → List ℕ → List ℕ
put_in slot step reading b = stored slot (put_content (projection_in b) (message_of step reading)) b

-- the bytes that each call leaves where it is accepted; a load's positions are flipped in turn; 'Clear blanks'
abbrev pub leaves : Call → List ℕ → List ℕ
leaves (put slot step reading) b = put_in slot step reading b
leaves (put_list start steps readings) b = put_all put_in start steps readings b
leaves (flip slot position) b = stored slot (flip_content (projection_in b) position (content_of (view_in b) slot)) b
leaves (mark slot position) b = stored slot (mark_content (projection_in b) position (content_of (view_in b) slot)) b
leaves (load slot seed k) b =
    stored slot (in_turn (flip_content (projection_in b)) (positions_of (projection_in b) seed k) (content_of (view_in b) slot)) b
leaves (clear slot) b = stored slot Content.Blank b
leaves (read slot) b = b
leaves survey b = b

-- ---- the calls

-- a call on a buffer's bytes
unfoldable pub on_bytes : Call → List ℕ → After (List ℕ)
on_bytes c b = outcome (unless (refusals_in c b) (gives c (view_in b))) (leaves c b) b

-- making
abbrev pub make_rows : Making → List ℕ → List Row
make_rows m b = unknown_code m.code ∷ wrong_count m.slots ∷ too_short (length b) (needed_for m.slots) ∷ []

unfoldable pub make : Making → List ℕ → After (List ℕ)
make m b = outcome (unless (make_rows m b) (accepted [])) (made m b) b

-- ---- what a survey and a listing take from a buffer

-- a read of a slot by what that slot alone holds
unfoldable pub alone_in : List ℕ → ℕ → Answer Reading
alone_in b slot = unless (slot_rows_in b slot) (read_alone (view_in b) slot)

unfoldable pub survey_in : List ℕ → Answer Survey
survey_in b = unless (trailer_rows b) (accepted (survey_of (view_in b)))
