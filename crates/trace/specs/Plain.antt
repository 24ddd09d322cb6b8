-- 'The plain trace, for demand 3, is fed the making with its numbers and the buffer it found, then the calls with their numbers, and none of their
-- answers.' It is an abstract state that knows no bytes. A set of positions is a word whose ones are those positions.
use Rattle.std.specs.Prelude.{ℕ, List, ◌++◌, map, length, replicate, bit_or, bit_xor, slice_index_or, slice_set}
use Rattle.codes.specs.Answer.{unless}
use Rattle.codes.specs.Projection.{Projection}
use Rattle.codes.specs.Word.{bit}
use Rattle.codes.specs.Message.{encode}
use Rattle.codes.specs.Codes.{projection, code_of}
use Rattle.trace.specs.declared.slot.Content.{Content}
use Rattle.trace.specs.Calls.{Call, put, put_list, flip, mark, load, clear, read, survey, Making, After, outcome}
use Rattle.trace.specs.Layout.{SlotBytes, content_bytes, body, trailer, free_for}
use Rattle.trace.specs.Lists.{in_turn}
use Rattle.trace.specs.Load.{positions_of}
use Rattle.trace.specs.View.{View, message_of}
use Rattle.trace.specs.Rules.{refusals, gives, put_all}

-- 'A slot is blank, or is written and has the message last put, a set F and a set M'
pub data Slot : Type 0 where
  blank : Slot
  written : ℕ → ℕ → ℕ → Slot

-- 'the free bytes are those found at making'
pub record Plain : Type 0 where
  pub free : List ℕ
  pub code : ℕ
  pub slots : List Slot

-- 'the plain trace then has N blank slots'
unfoldable pub fresh : Making → List ℕ → Plain
fresh m found = record { free = free_for m.slots found; code = m.code; slots = replicate m.slots Slot.blank }

abbrev pub projection_of : Plain → Projection
projection_of p = projection (code_of p.code)

abbrev pub slot_of : Plain → ℕ → Slot
slot_of p i = slice_index_or p.slots i Slot.blank

abbrev pub with_slot : ℕ → Slot → Plain → Plain
with_slot i s p = record { free = p.free; code = p.code; slots = slice_set p.slots i s }

-- what a call sees: a slot is never bad, and a written one holds 'the message's codeword with F inverted, under marks M'
abbrev pub holds : Projection → Slot → Content
holds π Slot.blank = Content.Blank
holds π (Slot.written m F M) = Content.Written (bit_xor (encode π m) F) M

unfoldable pub view_of : Plain → View
view_of p = record { code = projection_of p; slots = map (holds (projection_of p)) p.slots }

-- ---- its bytes

-- 'each written slot holding the codeword with F inverted, and M'
abbrev pub stored_as : Projection → Slot → SlotBytes
stored_as π s = content_bytes (holds π s)

-- 'Its bytes are those of the layout'
unfoldable pub bytes : Plain → List ℕ
bytes p = p.free ++ (body (map (stored_as (projection_of p)) p.slots) ++ trailer p.code (length p.slots))

-- ---- its calls

-- a put into a slot: its message, with both sets empty
abbrev pub plain_put : ℕ → ℕ → ℕ → Plain → Plain
plain_put slot step reading p = with_slot slot (Slot.written (message_of step reading) 0 0) p

-- 'flip moves a position into F or out of it'
abbrev pub flipped : Projection → ℕ → Slot → Slot
flipped π position Slot.blank = Slot.blank
flipped π position (Slot.written m F M) = Slot.written m (bit_xor F (bit π position)) M

-- 'mark adds to M'
abbrev pub marked : Projection → ℕ → Slot → Slot
marked π position Slot.blank = Slot.blank
marked π position (Slot.written m F M) = Slot.written m F (bit_or M (bit π position))

-- 'Put empties both; flip moves a position into F or out of it; mark adds to M; clear blanks'; a load 'counts as k flips', a
-- list of puts 'as those single puts'
abbrev pub plain_leaves : Call → Plain → Plain
plain_leaves (put slot step reading) p = plain_put slot step reading p
plain_leaves (put_list start steps readings) p = put_all plain_put start steps readings p
plain_leaves (flip slot position) p = with_slot slot (flipped (projection_of p) position (slot_of p slot)) p
plain_leaves (mark slot position) p = with_slot slot (marked (projection_of p) position (slot_of p slot)) p
plain_leaves (load slot seed k) p =
    with_slot slot (in_turn (flipped (projection_of p)) (positions_of (projection_of p) seed k) (slot_of p slot)) p
plain_leaves (clear slot) p = with_slot slot Slot.blank p
plain_leaves (read slot) p = p
plain_leaves survey p = p

-- a call on the plain trace: 'Refusals 9, 11, 12 and 13 follow from its slots and the call's numbers, 5 from mending; 7, 8 and 10 are never met';
-- 14 to 16 follow from its slots and the call's numbers
unfoldable pub on_plain : Call → Plain → After Plain
on_plain c p = outcome (unless (refusals c (view_of p)) (gives c (view_of p))) (plain_leaves c p) p
