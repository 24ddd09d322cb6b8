-- What each call meets and gives, by what it sees of a trace: one table for the bytes and for the plain trace.
use Rattle.std.specs.Prelude.{ℕ, suc, List, [], ◌∷◌}
use Rattle.codes.specs.Answer.{Answer, accepted, Row, map_answer}
use Rattle.codes.specs.Projection.{Projection}
use Rattle.trace.specs.declared.slot.Content.{Content}
use Rattle.trace.specs.Answers.{reading_values, survey_values}
use Rattle.trace.specs.Calls.{Call, put, put_list, flip, mark, load, clear, read, survey}
use Rattle.trace.specs.Load.{handed_back}
use Rattle.trace.specs.View.{View, count_of, content_of, read_alone}
use Rattle.trace.specs.Survey.{survey_of}
use Rattle.trace.specs.Refusals.{no_slot, bad_slot, blank_slot, lost_slot, no_position, too_large, too_many, past_end, uneven, one_too_large}

-- the rows of read, of flip and mark, and of load, behind their slot's
abbrev pub content_rows : Projection → Content → List Row
content_rows π c = bad_slot c ∷ blank_slot c ∷ lost_slot π c ∷ []

abbrev pub bit_rows : Projection → Content → ℕ → List Row
bit_rows π c position = bad_slot c ∷ blank_slot c ∷ no_position π position ∷ []

-- 'A load meets 7 to 11 as a flip does. 14 [..], checked after 11'
abbrev pub load_rows : Projection → Content → ℕ → List Row
load_rows π c k = bad_slot c ∷ blank_slot c ∷ too_many π k ∷ []

-- '15 [..], after 9. 16 [..], after 15; 13 stays last of these'
abbrev pub list_rows : Projection → ℕ → ℕ → List ℕ → List ℕ → List Row
list_rows π n start steps readings = no_slot n start ∷ past_end n start steps ∷ uneven steps readings ∷ one_too_large π steps readings ∷ []

-- a call's refusals in order, behind 7 and 8; 5 on a read 'is tried only after all others pass'
abbrev pub refusals : Call → View → List Row
refusals (put slot step reading) v = no_slot (count_of v) slot ∷ too_large v.code step reading ∷ []
refusals (put_list start steps readings) v = list_rows v.code (count_of v) start steps readings
refusals (flip slot position) v = no_slot (count_of v) slot ∷ bit_rows v.code (content_of v slot) position
refusals (mark slot position) v = no_slot (count_of v) slot ∷ bit_rows v.code (content_of v slot) position
refusals (load slot seed k) v = no_slot (count_of v) slot ∷ load_rows v.code (content_of v slot) k
refusals (clear slot) v = no_slot (count_of v) slot ∷ []
refusals (read slot) v = no_slot (count_of v) slot ∷ content_rows v.code (content_of v slot)
refusals survey v = []

-- what a call gives where none of them is met
abbrev pub gives : Call → View → Answer (List ℕ)
gives (put slot step reading) v = accepted []
gives (put_list start steps readings) v = accepted []
gives (flip slot position) v = accepted []
gives (mark slot position) v = accepted []
gives (load slot seed k) v = accepted (handed_back k seed ∷ [])
gives (clear slot) v = accepted []
gives (read slot) v = map_answer reading_values (read_alone v slot)
gives survey v = accepted (survey_values (survey_of v))

-- 'what the single puts in order would leave', by what a put of a step and a reading into a slot makes of a state
unfoldable pub put_all : {S : Type 0} → (ℕ → ℕ → ℕ → S → S) → ℕ → List ℕ → List ℕ → S → S
put_all one start [] readings s = s
put_all one start (step ∷ steps) [] s = s
put_all one start (step ∷ steps) (reading ∷ readings) s = put_all one (suc start) steps readings (one start step reading s)
