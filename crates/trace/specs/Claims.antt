-- What is claimed of a trace, in the words of the demands, of the scope and of the requests, which docs/CLAIMS.md has in full. Each claim is a
-- theorem of the same name, in lower case, in proofs/.
use Rattle.std.specs.Prelude.{◌≡◌, ℕ, zero, suc, ◌+◌, ◌-◌, ◌*◌, ◌/◌, ◌%◌, ◌^◌, ◌<◌, ◌≤◌, true, ◌⊎◌, ◌↔◌, List, [], ◌∷◌, ◌++◌, map, length, replicate, ◌≢◌, bit_xor, slice_index, Option, None, Some}
use Rattle.codes.specs.Answer.{Answer, accepted, refused, map_answer, Row, Passes, Refuses}
use Rattle.codes.specs.Projection.{Projection, width}
use Rattle.codes.specs.Word.{word, bit_at}
use Rattle.codes.specs.Message.{encode, decode}
use Rattle.codes.specs.Correction.{outside, wrong, inside, marked_wrong, ones, Near}
use Rattle.codes.specs.Claims.{RoundTrip, OneMessage, DecodesCodewords, CallsRoundTrip, EightApart, OneNear, EightIsFar, CorrectsNear, RefusesFar}
use Rattle.codes.specs.Claims.{Among, ByTable, WordCallsRefuse, WordRowsMean}
use Rattle.codes.specs.declared.code.Code.{Code}
use Rattle.codes.specs.Codes.{is_code, code_of, projection, step_limit}
use Rattle.trace.specs.declared.answer.Reading.{Reading}
use Rattle.trace.specs.declared.answer.Pressures.{Pressures}
use Rattle.trace.specs.declared.answer.Survey.{Survey}
use Rattle.trace.specs.declared.slot.Content.{Content}
use Rattle.trace.specs.declared.status.Status.{Status}
use Rattle.trace.specs.Layout.{needed_for, count_in, free_for}
use Rattle.trace.specs.Answers.{reading_values, pressures_values, survey_values}
use Rattle.trace.specs.Calls.{Call, put, put_list, flip, mark, load, clear, read, survey, Making, After, after, Run, run}
use Rattle.trace.specs.Load.{positions_of, handed_back}
use Rattle.trace.specs.Refusals.{is_count, wrong_count, too_short, trailer_unfit, no_slot, bad_slot, blank_slot, lost_slot}
use Rattle.trace.specs.Refusals.{no_position, too_large, too_many, past_end, uneven, one_too_large}
use Rattle.trace.specs.View.{content_of}
use Rattle.trace.specs.Survey.{status_of, count, pressures, total, extremes}
use Rattle.trace.specs.Trace.{content_with, projection_in, view_in, short, trailer_rows, refusals_in, stored, on_bytes, make_rows, make, alone_in, survey_in}
use Rattle.trace.specs.Plain.{Slot, Plain, projection_of, slot_of, bytes, fresh, marked, on_plain}

-- ---- demand 1

-- the numbers that the table of refusals, the scope's and the requests', gives a call, and a making, in the order in which they are tried
abbrev pub numbers_of : Call → List ℕ
numbers_of (put slot step reading) = 7 ∷ 8 ∷ 9 ∷ 13 ∷ []
numbers_of (put_list start steps readings) = 7 ∷ 8 ∷ 9 ∷ 15 ∷ 16 ∷ 13 ∷ []
numbers_of (flip slot position) = 7 ∷ 8 ∷ 9 ∷ 10 ∷ 11 ∷ 12 ∷ []
numbers_of (mark slot position) = 7 ∷ 8 ∷ 9 ∷ 10 ∷ 11 ∷ 12 ∷ []
numbers_of (load slot seed k) = 7 ∷ 8 ∷ 9 ∷ 10 ∷ 11 ∷ 14 ∷ []
numbers_of (clear slot) = 7 ∷ 8 ∷ 9 ∷ []
numbers_of (read slot) = 7 ∷ 8 ∷ 9 ∷ 10 ∷ 11 ∷ 5 ∷ []
numbers_of survey = 7 ∷ 8 ∷ []

abbrev pub making_numbers : List ℕ
making_numbers = 1 ∷ 6 ∷ 7 ∷ []

-- 'Unfit input gets one of the thirteen refusal numbers of [the scope], returns nothing else, and changes no lent byte': an answer by a table
-- with these numbers, in this order, and the bytes as they were where it is a refusal. 'Demand 1's numbers [..] take in this and each later number, at
-- the place its request names'
pub record Harmless (order : List ℕ) (rows : List Row) (b : List ℕ) (r : After (List ℕ)) : Type 0 where
  pub answer : ByTable order rows r.answer
  pub unchanged : (n : ℕ) → r.answer ≡ refused n → r.state ≡ b

-- a step or a reading of two lists is too large
abbrev pub SomeTooLarge : Projection → List ℕ → List ℕ → Type 0
SomeTooLarge π steps readings =
    ((step : ℕ) × Among step steps × (step_limit π ≤ step)) ⊎ ((reading : ℕ) × Among reading readings × (4096 ≤ reading))

-- when each row of the trace calls is met, in the words of the scope's table and of the requests
pub record TraceRowsMean : Type 0 where
  -- 6: 'N not 1 to 4,000'
  pub wrong_count_met : (n : ℕ) → ((wrong_count n).met ≡ true ↔ ((1 ≤ n) × (n ≤ 4000) → ⊥))
  -- 7: 'buffer under 8 bytes; making: under 11·N + 8'
  pub buffer_short : (b : List ℕ) → ((short b).met ≡ true ↔ length b < 8)
  pub no_room : (n : ℕ) (b : List ℕ) → ((too_short (length b) (needed_for n)).met ≡ true ↔ length b < 11 * n + 8)
  -- 8: 'edition, code, N or distance unfit, or distance beyond the bytes before the trailer'
  pub trailer_unfit_met : (before distance n code edition : ℕ)
      → ((trailer_unfit before distance n code edition).met ≡ true
      ↔ ((edition ≡ 1) × (((1 ≤ code) × (code ≤ 4)) × (((1 ≤ n) × (n ≤ 4000)) × ((distance ≡ 11 * n) × (distance ≤ before)))) → ⊥))
  -- 9: 'slot N or more'
  pub no_slot_met : (n slot : ℕ) → ((no_slot n slot).met ≡ true ↔ n ≤ slot)
  -- 10: 'named slot has another state, a set unused bit, or is blank and not zero'
  pub bad_slot_met : (π : Projection) (state word marks : ℕ)
      → ((bad_slot (content_with π state word marks)).met ≡ true
      ↔ ((2 ≤ state) ⊎ ((2 ^ width π ≤ word) ⊎ ((2 ^ width π ≤ marks) ⊎ ((state ≡ 0) × ((word ≡ 0) × (marks ≡ 0) → ⊥))))))
  -- 11: 'slot blank'; 'A blank slot is all zero'
  pub blank_slot_met : (π : Projection) (state word marks : ℕ)
      → ((blank_slot (content_with π state word marks)).met ≡ true ↔ (state ≡ 0) × ((word ≡ 0) × (marks ≡ 0)))
  -- 5 on a read: 'no near codeword'
  pub lost_slot_met : (c : Code) (word marks : ℕ)
      → ((lost_slot (projection c) (Content.Written word marks)).met ≡ true ↔ ((x : ℕ) → Near (projection c) word marks x → ⊥))
  -- 12: 'position not in the word'
  pub no_position_met : (π : Projection) (position : ℕ) → ((no_position π position).met ≡ true ↔ width π ≤ position)
  -- 13: 'step or reading too large'
  pub too_large_met : (π : Projection) (step reading : ℕ) → ((too_large π step reading).met ≡ true ↔ (step_limit π ≤ step) ⊎ (4096 ≤ reading))
  -- 14: 'k is above the word's width'
  pub too_many_met : (π : Projection) (k : ℕ) → ((too_many π k).met ≡ true ↔ width π < k)
  -- 15: 'start plus the number of steps passes N'
  pub past_end_met : (n start : ℕ) (steps : List ℕ) → ((past_end n start steps).met ≡ true ↔ n < start + length steps)
  -- 16: 'the lists differ in length'
  pub uneven : (steps readings : List ℕ) → ((uneven steps readings).met ≡ true ↔ (length steps ≢ length readings))
  -- 13 of lists: a step or a reading of them is too large
  pub one_too_large_met : (π : Projection) (steps readings : List ℕ)
      → ((one_too_large π steps readings).met ≡ true ↔ SomeTooLarge π steps readings)

pub record Demand1 : Type 0 where
  pub calls : (c : Call) (b : List ℕ) → Harmless (numbers_of c) (refusals_in c b) b (on_bytes c b)
  pub makings : (m : Making) (b : List ℕ) → Harmless making_numbers (make_rows m b) b (make m b)
  pub words : WordCallsRefuse
  pub word_rows : WordRowsMean
  pub trace_rows : TraceRowsMean

-- ---- making

-- none of making's refusals is met: code 1 to 4, N 1 to 4,000, 11·N + 8 bytes
pub record MakeFit (found : List ℕ) (m : Making) : Type 0 where
  pub code : is_code m.code ≡ true
  pub count : is_count m.slots ≡ true
  pub room : needed_for m.slots ≤ length found

-- 'Making is accepted whenever none of its refusals is met', and only then; it 'leaves the bytes before them'
abbrev pub Makes : Type 0
Makes =
    (found : List ℕ) (m : Making)
    → ((make m found).answer ≡ accepted [] ↔ MakeFit found m)
    × (MakeFit found m
    → (length (make m found).state ≡ length found) × (free_for m.slots (make m found).state ≡ free_for m.slots found))

-- ---- the layout, byte for byte

-- a trace of one slot, made under code 2 in 21 bytes, then with word 123456789 (hexadecimal) under marks A in its slot: free bytes, the slot's
-- state, word and marks, then distance, N, code and edition, 'high byte first'
abbrev pub example_bytes : List ℕ → List ℕ
example_bytes slot = 0xFF ∷ 0xFF ∷ (slot ++ (0 ∷ 0 ∷ 0 ∷ 11 ∷ 0 ∷ 1 ∷ 2 ∷ 1 ∷ []))

pub record LayoutExample : Type 0 where
  pub made : (make (record { code = 2; slots = 1 }) (replicate 21 0xFF)).state ≡ example_bytes (replicate 11 0)
  pub stored : stored 0 (Content.Written 0x123456789 0xA) (example_bytes (replicate 11 0))
      ≡ example_bytes (1 ∷ 0x01 ∷ 0x23 ∷ 0x45 ∷ 0x67 ∷ 0x89 ∷ 0 ∷ 0 ∷ 0 ∷ 0 ∷ 0xA ∷ [])

-- ---- demand 3

-- 'twice the bits that now differ unmarked plus the marks': 'The bits that now differ unmarked are those in F and not in M; the marks are those in M'
abbrev pub unmarked : Projection → ℕ → ℕ → ℕ
unmarked π F M = outside (word π F) (word π M)

-- the bits that now differ and are marked are those in F and in M
abbrev pub in_both : Projection → ℕ → ℕ → ℕ
in_both π F M = inside (word π F) (word π M)

abbrev pub sum : Projection → ℕ → ℕ → ℕ
sum π F M = 2 * unmarked π F M + ones π M

-- what the read of word w under marks M gives where x is the near codeword: its step and reading, and the three numbers counted against it
abbrev pub near_values : Projection → ℕ → ℕ → ℕ → List ℕ
near_values π w M x = decode π x / 4096 ∷ decode π x % 4096 ∷ wrong π w M x ∷ ones π M ∷ marked_wrong π w M x ∷ []

-- what the read of a slot gives that has a step's and a reading's message, F and M; w is 'the message's codeword with F inverted'
pub record ReadAfter (π : Projection) (step reading F M w : ℕ) (a : Answer (List ℕ)) : Type 0 where
  -- 'gives the step and reading last put there, and no other, while [the sum] is at most 7'
  pub within : sum π F M ≤ 7 → a ≡ accepted (step ∷ reading ∷ unmarked π F M ∷ ones π M ∷ in_both π F M ∷ [])
  -- 'Where that sum is exactly 8 the read refuses'
  pub eight : sum π F M ≡ 8 → a ≡ refused 5
  -- 'Beyond it, the read refuses exactly when no codeword is near, and otherwise gives the near one's step and reading'
  pub beyond : 8 < sum π F M → (a ≡ refused 5 ↔ ((x : ℕ) → Near π w M x → ⊥))
  pub otherwise : 8 < sum π F M → (x : ℕ) → Near π w M x → a ≡ accepted (near_values π w M x)

-- what calls answer and leave of a buffer's bytes, rightly or wrongly
abbrev pub Machine : Type 0
Machine = Call → List ℕ → After (List ℕ)

-- the buffer, and the plain trace, after a making and a list of calls
abbrev pub bytes_after : Machine → List ℕ → Making → List Call → List ℕ
bytes_after machine found m calls = (run machine calls (make m found).state).state

abbrev pub plain_after : List ℕ → Making → List Call → Plain
plain_after found m calls = (run on_plain calls (fresh m found)).state

-- the code that a making names
abbrev pub code_made : Making → Projection
code_made m = projection (code_of m.code)

-- a trace that was made in a buffer and then took a list of calls, beside the plain trace, which is fed the buffer found, the numbers and the list
pub record Follows (machine : Machine) (found : List ℕ) (m : Making) (calls : List Call) : Type 0 where
  pub making : (make m found).answer ≡ accepted []
  -- 'every answer in it and every byte of the buffer after it equal those of the plain trace'
  pub answers : (run machine calls (make m found).state).answers ≡ (run on_plain calls (fresh m found)).answers
  pub left : bytes_after machine found m calls ≡ bytes (plain_after found m calls)
  -- 'a read after it of a written slot'
  pub reads : (slot step reading F M : ℕ) → reading < 4096
      → slot_of (plain_after found m calls) slot ≡ Slot.written (step * 4096 + reading) F M
      → ReadAfter (code_made m) step reading F M (bit_xor (encode (code_made m) (step * 4096 + reading)) F)
      (machine (read slot) (bytes_after machine found m calls)).answer

-- what demand 3 asks of a machine, and that the calls are such a one
abbrev pub Demanded3 : Machine → Type 0
Demanded3 machine = (found : List ℕ) (m : Making) (calls : List Call) → MakeFit found m → Follows machine found m calls

abbrev pub Demand3 : Type 0
Demand3 = Demanded3 on_bytes

-- a put that changes no byte of a trace that was made and took calls, whatever it answers
abbrev pub PutsNothing : Machine → List ℕ → Making → List Call → Type 0
PutsNothing machine found m calls =
    (slot step reading : ℕ) → (machine (put slot step reading) (bytes_after machine found m calls)).state ≡ bytes_after machine found m calls

-- 'a put that stores nothing'
abbrev pub StoresNothing : Machine → Type 0
StoresNothing machine = (found : List ℕ) (m : Making) (calls : List Call) → MakeFit found m → PutsNothing machine found m calls

-- 'a trace that obeys the first put and afterwards only says yes': once a slot of it is written
abbrev pub OnlySaysYes : Machine → Type 0
OnlySaysYes machine =
    (found : List ℕ) (m : Making) (calls : List Call) → MakeFit found m
    → (written word marks : ℕ) → content_of (view_in (bytes_after machine found m calls)) written ≡ Content.Written word marks
    → PutsNothing machine found m calls

-- 'Demand 3 shuts out' both, whatever else they do
pub record Demand3ShutsOut : Type 0 where
  pub stores_nothing : (machine : Machine) → StoresNothing machine → Demanded3 machine → ⊥
  pub only_says_yes : (machine : Machine) → OnlySaysYes machine → Demanded3 machine → ⊥

-- a read gives, in the scope's values, what the named slot alone gives, whatever the buffer holds: so what is claimed of a read is claimed of
-- what survey and listing take from a slot
abbrev pub ReadsAlone : Type 0
ReadsAlone = (b : List ℕ) (slot : ℕ) → (on_bytes (read slot) b).answer ≡ map_answer reading_values (alone_in b slot)

-- the survey call gives, in the scope's values, what the slots' reads count: so what is claimed of the call is claimed of the function `survey`
abbrev pub SurveyGives : Type 0
SurveyGives = (b : List ℕ) → (on_bytes survey b).answer ≡ map_answer survey_values (survey_in b)

-- '7, 8 and 10 are never met' by the plain trace
abbrev pub PlainNeverMeets : Type 0
PlainNeverMeets = (c : Call) (p : Plain) (n : ℕ) → (on_plain c p).answer ≡ refused n → Among n (7 ∷ 8 ∷ 10 ∷ []) → ⊥

-- 'The plain trace gives the same number: the codeword against the stored bits under the marks', whatever the sum: the stored bits are the message's
-- codeword with F inverted, and the codeword is the near one, x
abbrev pub PlainReads : Type 0
PlainReads =
    (p : Plain) (slot m F M x : ℕ) → slot_of p slot ≡ Slot.written m F M
    → Near (projection_of p) (bit_xor (encode (projection_of p) m) F) M x
    → (on_plain (read slot) p).answer ≡ accepted (near_values (projection_of p) (bit_xor (encode (projection_of p) m) F) M x)

-- ---- what calls make of the plain trace

-- a slot became another, and nothing else changed
pub record SlotBecame (p : Plain) (slot : ℕ) (s : Slot) (q : Plain) : Type 0 where
  pub own : slot_of q slot ≡ s
  pub others : (other : ℕ) → (other ≢ slot) → slot_of q other ≡ slot_of p other
  pub count : length q.slots ≡ length p.slots
  pub code : q.code ≡ p.code
  pub free : q.free ≡ p.free

-- the slots from a start on have each a message of a step and a reading, in order, and nothing else changed
pub record SlotsBecame (p : Plain) (start : ℕ) (steps readings : List ℕ) (q : Plain) : Type 0 where
  pub own : (i : ℕ) → i < length steps → slot_of q (start + i) ≡ Slot.written (slice_index steps i * 4096 + slice_index readings i) 0 0
  pub others : (other : ℕ) → ((start ≤ other) × (other < start + length steps) → ⊥) → slot_of q other ≡ slot_of p other
  pub count : length q.slots ≡ length p.slots
  pub code : q.code ≡ p.code
  pub free : q.free ≡ p.free

-- sets are words whose ones are their positions: a position was moved into a set or out of it, and no other
pub record Toggled (π : Projection) (position set set' : ℕ) : Type 0 where
  pub own : bit_at π set' position ≡ 1 - bit_at π set position
  pub others : (other : ℕ) → other < width π → (other ≢ position) → bit_at π set' other ≡ bit_at π set other

-- a position was added to a set, and no other
pub record Added (π : Projection) (position set set' : ℕ) : Type 0 where
  pub own : bit_at π set' position ≡ 1
  pub others : (other : ℕ) → other < width π → (other ≢ position) → bit_at π set' other ≡ bit_at π set other

pub record PlainCalls : Type 0 where
  -- 'the plain trace then has N blank slots'
  pub made : (found : List ℕ) (m : Making) → (length (fresh m found).slots ≡ m.slots) × ((slot : ℕ) → slot_of (fresh m found) slot ≡ Slot.blank)
  -- a blank slot can't be read, flipped, marked or loaded
  pub blanks : (p : Plain) (slot position seed k : ℕ) → slot < length p.slots → slot_of p slot ≡ Slot.blank
      → ((on_plain (read slot) p).answer ≡ refused 11)
      × (((on_plain (flip slot position) p).answer ≡ refused 11)
      × (((on_plain (mark slot position) p).answer ≡ refused 11) × ((on_plain (load slot seed k) p).answer ≡ refused 11)))
  -- 'Put empties both'
  pub puts : (p : Plain) (slot step reading : ℕ) → (on_plain (put slot step reading) p).answer ≡ accepted []
      → SlotBecame p slot (Slot.written (step * 4096 + reading) 0 0) (on_plain (put slot step reading) p).state
  -- a list of puts, each of which 'empties both'
  pub put_lists : (p : Plain) (start : ℕ) (steps readings : List ℕ) → (on_plain (put_list start steps readings) p).answer ≡ accepted []
      → SlotsBecame p start steps readings (on_plain (put_list start steps readings) p).state
  -- 'flip moves a position into F or out of it'
  pub flips : (p : Plain) (slot position m F M : ℕ) → slot_of p slot ≡ Slot.written m F M → (on_plain (flip slot position) p).answer ≡ accepted []
      → (F' : ℕ) × Toggled (projection_of p) position F F' × SlotBecame p slot (Slot.written m F' M) (on_plain (flip slot position) p).state
  -- 'mark adds to M'
  pub marks : (p : Plain) (slot position m F M : ℕ) → slot_of p slot ≡ Slot.written m F M → (on_plain (mark slot position) p).answer ≡ accepted []
      → (M' : ℕ) × Added (projection_of p) position M M' × SlotBecame p slot (Slot.written m F M') (on_plain (mark slot position) p).state
  -- a load of a written slot is accepted exactly while k is at most the width; message and marks stay
  pub loads : (p : Plain) (slot seed k m F M : ℕ) → slot < length p.slots → slot_of p slot ≡ Slot.written m F M → k ≤ width (projection_of p)
      → ((on_plain (load slot seed k) p).answer ≡ accepted (handed_back k seed ∷ []))
      × ((F' : ℕ) × SlotBecame p slot (Slot.written m F' M) (on_plain (load slot seed k) p).state)
  pub overloads : (p : Plain) (slot seed k m F M : ℕ) → slot < length p.slots → slot_of p slot ≡ Slot.written m F M → width (projection_of p) < k
      → (on_plain (load slot seed k) p).answer ≡ refused 14
  -- 'a second mark changes nothing'
  pub again : (π : Projection) (position : ℕ) (s : Slot) → marked π position (marked π position s) ≡ marked π position s
  -- 'clear blanks'
  pub clears : (p : Plain) (slot : ℕ) → (on_plain (clear slot) p).answer ≡ accepted [] → SlotBecame p slot Slot.blank (on_plain (clear slot) p).state
  -- reads and surveys change nothing; 'Refused calls change nothing'
  pub reads : (p : Plain) (slot : ℕ) → (on_plain (read slot) p).state ≡ p
  pub surveys : (p : Plain) → (on_plain survey p).state ≡ p
  pub refusals : (c : Call) (p : Plain) (n : ℕ) → (on_plain c p).answer ≡ refused n → (on_plain c p).state ≡ p

-- a call that puts a step and a reading into a slot, by itself or in a list
abbrev pub Puts : ℕ → ℕ → ℕ → Call → Type 0
Puts slot step reading (put other step' reading') = (other ≡ slot) × (step' ≡ step) × (reading' ≡ reading)
Puts slot step reading (put_list start steps readings) =
    (i : ℕ) × (i < length steps) × (start + i ≡ slot) × (slice_index steps i ≡ step) × (slice_index readings i ≡ reading)
Puts slot step reading (flip other position) = ⊥
Puts slot step reading (mark other position) = ⊥
Puts slot step reading (load other seed k) = ⊥
Puts slot step reading (clear other) = ⊥
Puts slot step reading (read other) = ⊥
Puts slot step reading survey = ⊥

-- a call that puts into a slot, or clears it
abbrev pub Overwrites : ℕ → Call → Type 0
Overwrites slot c = ((step : ℕ) × (reading : ℕ) × Puts slot step reading c) ⊎ (c ≡ clear slot)

-- of a list of calls, those that would overwrite a slot are refused
abbrev pub Kept : ℕ → List Call → Plain → Type 0
Kept slot [] p = Unit {0}
Kept slot (c ∷ cs) p = (Overwrites slot c → (n : ℕ) × ((on_plain c p).answer ≡ refused n)) × Kept slot cs (on_plain c p).state

-- 'the step and reading last put there': a slot has them where a call that puts them was accepted, and no call behind it overwrote the slot
abbrev pub LastPut : Type 0
LastPut =
    (found : List ℕ) (m : Making) (before behind : List Call) (c : Call) (slot step reading : ℕ) → Puts slot step reading c
    → (on_plain c (plain_after found m before)).answer ≡ accepted [] → Kept slot behind (on_plain c (plain_after found m before)).state
    → (F M : ℕ) × (slot_of (plain_after found m (before ++ (c ∷ behind))) slot ≡ Slot.written (step * 4096 + reading) F M)

-- ---- a repeatable fault load

-- 'exactly k different positions are flipped'
pub record Draws (π : Projection) (seed k : ℕ) : Type 0 where
  pub count : length (positions_of π seed k) ≡ k
  pub inside : (i : ℕ) → i < k → slice_index (positions_of π seed k) i < width π
  pub different : (i j : ℕ) → i < j → j < k → slice_index (positions_of π seed k) i ≢ slice_index (positions_of π seed k) j

abbrev pub LoadDraws : Type 0
LoadDraws = (π : Projection) (seed k : ℕ) → k ≤ width π → Draws π seed k

-- three draws at 36 bits from the seed 1, and the number handed back
pub record LoadExample : Type 0 where
  pub positions : positions_of (projection Code.O36) 1 3 ≡ 16 ∷ 15 ∷ 34 ∷ []
  pub number : handed_back 3 1 ≡ 2165703038

-- the flips of a load, one after the other
abbrev pub flips_of : Projection → ℕ → ℕ → ℕ → List Call
flips_of π slot seed k = map (flip slot) (positions_of π seed k)

-- n calls that only change, all accepted, and the state that they leave
abbrev pub all_accepted : {S : Type 0} → ℕ → S → Run S
all_accepted n s = record { answers = replicate n (accepted []); state = s }

-- 'Such a load counts as k flips in any list of calls, a refused one as none; its one answer there, in the plain trace too, is the number handed
-- back, or its refusal': in a state of the bytes or of the plain trace
pub record CountsAsFlips {S : Type 0} (machine : Call → S → After S) (π : Projection) (s : S) (slot seed k : ℕ) : Type 0 where
  -- the flips, made one after the other, are all accepted and leave what the load leaves
  pub flips : (vs : List ℕ) → (machine (load slot seed k) s).answer ≡ accepted vs
      → (vs ≡ handed_back k seed ∷ []) × (run machine (flips_of π slot seed k) s ≡ all_accepted k (machine (load slot seed k) s).state)
  pub none : (n : ℕ) → (machine (load slot seed k) s).answer ≡ refused n → (machine (load slot seed k) s).state ≡ s
  -- the same load again undoes it
  pub again : (vs : List ℕ) → (machine (load slot seed k) s).answer ≡ accepted vs
      → machine (load slot seed k) (machine (load slot seed k) s).state ≡ after (accepted vs) s

abbrev pub LoadIsFlips : Type 0
LoadIsFlips = (p : Plain) (slot seed k : ℕ) → CountsAsFlips on_plain (projection_of p) p slot seed k

-- and so after any list of calls on the bytes
abbrev pub LoadInUse : Type 0
LoadInUse =
    (found : List ℕ) (m : Making) (calls : List Call) (slot seed k : ℕ) → MakeFit found m
    → CountsAsFlips on_bytes (code_made m) (bytes_after on_bytes found m calls) slot seed k

-- 'A load meets 7 to 11 as a flip does', whatever the buffer holds
abbrev pub LoadMeetsAsFlip : Type 0
LoadMeetsAsFlip =
    (b : List ℕ) (slot seed k position n : ℕ) → Among n (7 ∷ 8 ∷ 9 ∷ 10 ∷ 11 ∷ [])
    → ((on_bytes (load slot seed k) b).answer ≡ refused n ↔ (on_bytes (flip slot position) b).answer ≡ refused n)

-- ---- a whole shift at a time

-- the single puts of a list of steps and a list of readings, from a slot on, in order
abbrev pub single_puts : ℕ → List ℕ → List ℕ → List Call
single_puts start [] readings = []
single_puts start (step ∷ steps) [] = []
single_puts start (step ∷ steps) (reading ∷ readings) = put start step reading ∷ single_puts (suc start) steps readings

-- 'all or nothing: it leaves what the single puts in order would leave, or it changes no byte. In any list of calls it counts as those single puts, a
-- refused one as none; its one answer there, in the plain trace too, is that it was accepted, or its refusal': in a state of the bytes or of the
-- plain trace
pub record CountsAsPuts {S : Type 0} (machine : Call → S → After S) (s : S) (start : ℕ) (steps readings : List ℕ) : Type 0 where
  -- the single puts, one for each step, are all accepted and leave what the list leaves
  pub singles : (vs : List ℕ) → (machine (put_list start steps readings) s).answer ≡ accepted vs
      → (vs ≡ [])
      × (run machine (single_puts start steps readings) s ≡ all_accepted (length steps) (machine (put_list start steps readings) s).state)
  pub none : (n : ℕ) → (machine (put_list start steps readings) s).answer ≡ refused n → (machine (put_list start steps readings) s).state ≡ s

-- whatever the buffer holds, and so after any list of calls
pub record PutsArePuts : Type 0 where
  pub bytes : (b : List ℕ) (start : ℕ) (steps readings : List ℕ) → CountsAsPuts on_bytes b start steps readings
  pub plain : (p : Plain) (start : ℕ) (steps readings : List ℕ) → CountsAsPuts on_plain p start steps readings

-- a slot exists: the trailer is fit, and the slot is below its N
abbrev pub Exists : List ℕ → ℕ → Type 0
Exists b slot = Passes (trailer_rows b) × (slot < count_in b)

-- when a list of puts is refused, whatever the buffer holds
pub record ListMeets (b : List ℕ) (start : ℕ) (steps readings : List ℕ) (a : Answer (List ℕ)) : Type 0 where
  -- 7 and 8 as any call on that buffer
  pub trailer : (n : ℕ) → Among n (7 ∷ 8 ∷ []) → (a ≡ refused n ↔ Refuses (trailer_rows b) n)
  -- 9: 'slot N or more', of the start slot
  pub no_slot_met : a ≡ refused 9 ↔ Passes (trailer_rows b) × (count_in b ≤ start)
  -- '15 when start plus the number of steps passes N, after 9'
  pub past_end_met : a ≡ refused 15 ↔ Exists b start × (count_in b < start + length steps)
  -- '16 when the lists differ in length, after 15'
  pub uneven : a ≡ refused 16 ↔ Exists b start × (start + length steps ≤ count_in b) × (length steps ≢ length readings)
  -- '13 stays last of these'
  pub too_large_met : a ≡ refused 13
      ↔ Exists b start × (start + length steps ≤ count_in b) × (length steps ≡ length readings) × SomeTooLarge (projection_in b) steps readings

pub record PutListMeets : Type 0 where
  pub lists : (b : List ℕ) (start : ℕ) (steps readings : List ℕ)
      → ListMeets b start steps readings (on_bytes (put_list start steps readings) b).answer
  -- 'Empty lists are accepted if the start slot exists'
  pub empty : (b : List ℕ) (start : ℕ) → Exists b start → on_bytes (put_list start [] []) b ≡ after (accepted []) b

-- ---- the survey

-- what reads of a buffer's first n slots answer, and of all its slots
unfoldable pub reads_below : List ℕ → ℕ → List (Answer Reading)
reads_below b zero = []
reads_below b (suc n) = alone_in b n ∷ reads_below b n

abbrev pub reads_in : List ℕ → List (Answer Reading)
reads_in b = reads_below b (count_in b)

-- the number of slots that have a status by what a read of each answers
abbrev pub slots_in : List ℕ → Status → ℕ
slots_in b s = count s (reads_in b)

-- the number of slots of each status, in the order of the total line
abbrev pub status_counts_in : List ℕ → List ℕ
status_counts_in b =
    slots_in b Status.Blank ∷ slots_in b Status.Read ∷ slots_in b Status.Over ∷ slots_in b Status.Under ∷ slots_in b Status.Lost ∷ slots_in b Status.Bad ∷ []

-- the pressures that the reads give
abbrev pub pressures_in : List ℕ → List ℕ
pressures_in b = pressures (reads_in b)

-- 'the read status covers 1 to 4094'
abbrev pub IsPressure : ℕ → Type 0
IsPressure r = (1 ≤ r) × (r ≤ 4094)

-- what a slot's status says of the answer of its read: 'over (4095), lost (refusal 5) or bad (refusal 10)'; '0 means under range'
abbrev pub Means : Status → Answer Reading → Type 0
Means Status.Blank a = a ≡ refused 11
Means Status.Read a = (v : Reading) × (a ≡ accepted v) × IsPressure v.reading
Means Status.Over a = (v : Reading) × (a ≡ accepted v) × (v.reading ≡ 4095)
Means Status.Under a = (v : Reading) × (a ≡ accepted v) × (v.reading ≡ 0)
Means Status.Lost a = a ≡ refused 5
Means Status.Bad a = a ≡ refused 10

-- smallest, largest and mean of pressures: two of them that bound all, and 'mean (rounded down)'
abbrev pub Extremes : List ℕ → Option Pressures → Type 0
Extremes rs None = rs ≡ []
Extremes rs (Some p) =
    (Among p.smallest rs × Among p.largest rs)
    × (((r : ℕ) → Among r rs → (p.smallest ≤ r) × (r ≤ p.largest)) × ((p.mean * length rs ≤ total rs) × (total rs < (p.mean + 1) * length rs)))

-- 'A survey never takes 4095 for a pressure', nor 0, whatever the buffer holds
pub record Honest (b vs : List ℕ) : Type 0 where
  -- each count is the number of slots of that status; sum, smallest, largest and mean are those of the pressures alone
  pub values : vs ≡ status_counts_in b ++ (total (pressures_in b) ∷ pressures_values (extremes (pressures_in b)))
  -- a slot counts towards the status that its read's answer has, and towards no other
  pub means : (slot : ℕ) → slot < count_in b → Means (status_of (alone_in b slot)) (alone_in b slot)
  pub counted : (s : Status) (slot : ℕ) → slot < count_in b → Means s (alone_in b slot)
      → count s (reads_below b (suc slot)) ≡ count s (reads_below b slot) + 1
  pub uncounted : (s : Status) (slot : ℕ) → slot < count_in b → (Means s (alone_in b slot) → ⊥)
      → count s (reads_below b (suc slot)) ≡ count s (reads_below b slot)
  -- every slot is counted once: the six counts add up to N
  pub all : total (status_counts_in b) ≡ count_in b
  -- as many are read as there are pressures
  pub as_many : slots_in b Status.Read ≡ length (pressures_in b)
  -- they are the readings of the slots that are read, each once
  pub taken : (slot : ℕ) → slot < count_in b → (v : Reading) → alone_in b slot ≡ accepted v → IsPressure v.reading
      → pressures (reads_below b (suc slot)) ≡ v.reading ∷ pressures (reads_below b slot)
  pub untaken : (slot : ℕ) → slot < count_in b → (Means Status.Read (alone_in b slot) → ⊥)
      → pressures (reads_below b (suc slot)) ≡ pressures (reads_below b slot)
  -- a pressure is a reading of 1 to 4094 that a read of some slot gives
  pub pressures : (r : ℕ) → Among r (pressures_in b)
      → IsPressure r × ((slot : ℕ) × (slot < count_in b) × ((v : Reading) × ((on_bytes (read slot) b).answer ≡ accepted (reading_values v)) × (v.reading ≡ r)))
  -- smallest, largest and mean are those of the pressures, none of them 0 or 4095, and absent exactly where nothing is read
  pub extreme : Extremes (pressures_in b) (extremes (pressures_in b))
  pub in_range : (r : ℕ) → Among r (pressures_values (extremes (pressures_in b))) → IsPressure r
  pub absent : pressures_values (extremes (pressures_in b)) ≡ [] ↔ slots_in b Status.Read ≡ 0

abbrev pub SurveyHonest : Type 0
SurveyHonest = (b vs : List ℕ) → (on_bytes survey b).answer ≡ accepted vs → Honest b vs

-- the number of slots that a survey has, which a listing takes for N, is the trailer's
abbrev pub SurveySlots : Type 0
SurveySlots = (b : List ℕ) (s : Survey) → survey_in b ≡ accepted s → s.slots ≡ count_in b

-- ---- demand 2

pub record Demand2 : Type 0 where
  -- 'one codeword for each message, and that message back', of the four codes
  pub round_trip : RoundTrip
  pub one_message : OneMessage
  pub decodes_codewords : DecodesCodewords
  pub calls_round_trip : CallsRoundTrip
  pub eight_apart : EightApart
  -- 'Mending returns a codeword exactly when one is near [..], with its message and both counts'
  pub one_near : OneNear
  pub eight_is_far : EightIsFar
  pub corrects_near : CorrectsNear
  pub refuses_far : RefusesFar
  -- 'A survey never takes 4095 for a pressure', nor 0
  pub survey_honest : SurveyHonest
