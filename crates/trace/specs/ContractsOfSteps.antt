-- What the parts of a call promise each other: the contracts of the functions below the calls. No claim rests on this file but by the proofs.
use Rattle.std.specs.Prelude.{◌≡◌, ℕ, ◌+◌, ◌-◌, ◌<◌, ◌≤◌, ◌⊎◌, true, false, List, [], ◌∷◌, length, Result, Ok, Err}
use Rattle.codes.specs.Answer.{Answer, accepted, Row, Passes, Refuses}
use Rattle.codes.specs.Projection.{Projection, width}
use Rattle.codes.specs.Codes.{projection, code_of}
use Rattle.codes.specs.Word.{bit}
use Rattle.trace.specs.declared.answer.Refusal.{Refusal}
use Rattle.trace.specs.declared.answer.Refusal.TheVariants.{SlotBad, SlotBlank}
use Rattle.trace.specs.declared.layout.Place.{Place}
use Rattle.trace.specs.declared.layout.Header.{Header}
use Rattle.trace.specs.declared.layout.Found.{Found}
use Rattle.trace.specs.declared.slot.Content.{Content}
use Rattle.trace.specs.declared.slot.Held.{Held}
use Rattle.trace.specs.declared.change.BitFound.{BitFound}
use Rattle.trace.specs.Layout.{state_size, word_size, distance_of, needed_for, start_in, count_in, code_in, place_in, content_bytes, store_at}
use Rattle.trace.specs.Lists.{in_turn}
use Rattle.trace.specs.Load.{positions_of, handed_back}
use Rattle.trace.specs.View.{count_of, content_of, message_of, put_content, flip_content, mark_content}
use Rattle.trace.specs.Refusals.{is_fit, too_large}
use Rattle.trace.specs.Rules.{bit_rows, load_rows, list_rows}
use Rattle.trace.specs.Trace.{projection_in, content_at, view_in, trailer_rows, slot_rows_in}
use Rattle.trace.specs.Answers.{refusal_number}

-- ---- the trailer

-- a header that a fit trailer's numbers give
pub record FitAs (before distance n number edition : ℕ) (h : Header) : Type 0 where
  pub fit : is_fit before distance n number edition ≡ true
  pub start : h.start ≡ before - distance
  pub slots : h.slots ≡ n
  pub code : h.code ≡ code_of number
  pub inside : h.start + distance_of h.slots ≡ before
  pub few : h.slots ≤ 4000

abbrev pub Fitting : ℕ → ℕ → ℕ → ℕ → ℕ → Result Header Refusal → Type 0
Fitting before distance n code edition (Ok h) = FitAs before distance n code edition h
Fitting before distance n code edition (Err r) = (is_fit before distance n code edition ≡ false) × (refusal_number r ≡ 8)

-- a header of a buffer whose trailer is fit
pub record OpenedAs (b : List ℕ) (h : Header) : Type 0 where
  pub passes : Passes (trailer_rows b)
  pub start : h.start ≡ start_in b
  pub slots : h.slots ≡ count_in b
  pub code : h.code ≡ code_of (code_in b)
  pub inside : h.start + needed_for h.slots ≡ length b
  pub few : h.slots ≤ 4000

abbrev pub Opening : List ℕ → Result Header Refusal → Type 0
Opening b (Ok h) = OpenedAs b h
Opening b (Err r) = Refuses (trailer_rows b) (refusal_number r)

-- ---- a slot's place

-- a slot's bytes lie in a buffer
pub record Room (len : ℕ) (p : Place) : Type 0 where
  pub state : p.state + state_size ≤ len
  pub word : p.word + word_size ≤ len
  pub marks : p.marks + word_size ≤ len

pub record FoundAt (b : List ℕ) (slot : ℕ) (f : Found) : Type 0 where
  pub opened : Passes (trailer_rows b)
  pub there : slot < count_of (view_in b)
  pub place : f.place ≡ place_in b slot
  pub code : projection f.code ≡ projection_in b
  pub content : content_at (projection f.code) b f.place ≡ content_of (view_in b) slot
  pub room : Room (length b) f.place

abbrev pub Finding : List ℕ → ℕ → Result Found Refusal → Type 0
Finding b slot (Ok f) = FoundAt b slot f
Finding b slot (Err r) = Refuses (slot_rows_in b slot) (refusal_number r)

-- ---- a change of a slot

-- a change of one slot: its rows behind that of the slot, what the slot then holds, and the values that are given
pub record Change : Type 0 where
  pub rows : List Row
  pub new : Content
  pub given : List ℕ

abbrev pub put_change : Projection → ℕ → ℕ → Change
put_change π step reading = record { rows = too_large π step reading ∷ []; new = put_content π (message_of step reading); given = [] }

abbrev pub flip_change : Projection → Content → ℕ → Change
flip_change π c position = record { rows = bit_rows π c position; new = flip_content π position c; given = [] }

abbrev pub mark_change : Projection → Content → ℕ → Change
mark_change π c position = record { rows = bit_rows π c position; new = mark_content π position c; given = [] }

abbrev pub load_change : Projection → Content → ℕ → ℕ → Change
load_change π c seed k =
    record { rows = load_rows π c k; new = in_turn (flip_content π) (positions_of π seed k) c; given = handed_back k seed ∷ [] }

abbrev pub clear_change : Change
clear_change = record { rows = []; new = Content.Blank; given = [] }

-- what a step of a change answers: the new content and what is handed back, or a refusal
abbrev pub Changing : {T : Type 0} → (Result T Refusal → Answer (List ℕ)) → Change → Result (Content × T) Refusal → Type 0
Changing answer change (Ok (new, t)) = Passes change.rows × (new ≡ change.new) × (answer (Ok t) ≡ accepted change.given)
Changing answer change (Err r) = Refuses change.rows (refusal_number r)

-- a step, by what it may answer
abbrev pub Step : Type 0 → Type 1
Step T = Held → Result (Content × T) Refusal → Type 0

-- what a step is given of a found slot
abbrev pub held_at : List ℕ → Found → Held
held_at b at = record { code = at.code; content = content_at (projection at.code) b at.place }

-- a slot's content changed by a step that is accepted
pub record StoredBy {T : Type 0} (step : Step T) (slot : ℕ) (b b' : List ℕ) (t : T) : Type 0 where
  pub at : Found
  pub new : Content
  pub found : FoundAt b slot at
  pub stepped : step (held_at b at) (Ok (new, t))
  pub stored : b' ≡ store_at b at.place (content_bytes new)

-- a step that is refused
pub record RefusedBy {T : Type 0} (step : Step T) (slot : ℕ) (b : List ℕ) (r : Refusal) : Type 0 where
  pub at : Found
  pub found : FoundAt b slot at
  pub stepped : step (held_at b at) (Err r)

-- a slot's content changed by a step, or not: there is no such slot, or the step is refused
abbrev pub ChangedBy : {T : Type 0} → Step T → ℕ → List ℕ → List ℕ → Result T Refusal → Type 0
ChangedBy step slot b b' (Ok t) = StoredBy step slot b b' t
ChangedBy step slot b b' (Err r) = (b' ≡ b) × (Refuses (slot_rows_in b slot) (refusal_number r) ⊎ RefusedBy step slot b r)

-- a written slot's word and marks, or why a slot has none
abbrev pub Writing : Content → Result (ℕ × ℕ) Refusal → Type 0
Writing c (Ok (word, marks)) = c ≡ Content.Written word marks
Writing c (Err r) = ((c ≡ Content.Bad) × (r ≡ SlotBad)) ⊎ ((c ≡ Content.Blank) × (r ≡ SlotBlank))

-- a position's bit in a written slot
pub record BitIn (π : Projection) (c : Content) (position word marks x : ℕ) : Type 0 where
  pub content : c ≡ Content.Written word marks
  pub inside : position < width π
  pub bit : x ≡ bit π position

abbrev pub FindingBit : Projection → Content → ℕ → Result BitFound Refusal → Type 0
FindingBit π c position (Ok f) = BitIn π c position f.word f.marks f.bit
FindingBit π c position (Err r) = Refuses (bit_rows π c position) (refusal_number r)

-- ---- a list of puts

-- the rows of a list of puts in a trace with such a header
abbrev pub list_rows_of : Header → ℕ → List ℕ → List ℕ → List Row
list_rows_of h start steps readings = list_rows (projection h.code) h.slots start steps readings

abbrev pub Fitted : Header → ℕ → List ℕ → List ℕ → Result (Unit {0}) Refusal → Type 0
Fitted h start steps readings (Ok _) = Passes (list_rows_of h start steps readings)
Fitted h start steps readings (Err r) = Refuses (list_rows_of h start steps readings) (refusal_number r)
