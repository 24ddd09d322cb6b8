-- The layout of a trace: 'A lent buffer holds free bytes, then N slots, then a trailer of 8 bytes that ends it'.
-- Every function here answers for any list of bytes: past the end stands nothing, and a number of no bytes is 0.
use Rattle.std.specs.Prelude.{ℕ, zero, suc, ◌+◌, ◌-◌, ◌*◌, ◌/◌, ◌%◌, List, [], ◌∷◌, ◌++◌, length, take, drop, replicate}
use Rattle.trace.specs.declared.layout.Place.{Place}
use Rattle.trace.specs.declared.slot.Content.{Content}
use Rattle.trace.specs.Calls.{Making}

-- ---- numbers in bytes

-- a number in k bytes, 'high byte first'
unfoldable pub bytes_of : ℕ → ℕ → List ℕ
bytes_of zero v = []
bytes_of (suc k) v = bytes_of k (v / 256) ++ (v % 256 ∷ [])

-- the number whose high bytes have the value v and whose others are a list
unfoldable pub number_from : ℕ → List ℕ → ℕ
number_from v [] = v
number_from v (x ∷ xs) = number_from (v * 256 + x) xs

-- the k bytes of a buffer from a place on, and the number in them
unfoldable pub part : List ℕ → ℕ → ℕ → List ℕ
part b at k = take k (drop at b)

abbrev pub number_at : List ℕ → ℕ → ℕ → ℕ
number_at b at k = number_from 0 (part b at k)

-- a buffer with other bytes from a place on
unfoldable pub overwrite : List ℕ → ℕ → List ℕ → List ℕ
overwrite b at xs = take at b ++ (xs ++ drop (at + length xs) b)

-- ---- sizes, in bytes

-- of a slot's state, and of its word and its marks
abbrev pub state_size : ℕ
state_size = 1

abbrev pub word_size : ℕ
word_size = 5

-- 'A slot has 11 bytes'
abbrev pub slot_size : ℕ
slot_size = state_size + word_size + word_size

abbrev pub trailer_size : ℕ
trailer_size = 8

-- 'distance back from the trailer to slot 0', of n slots; and what making needs for them
abbrev pub distance_of : ℕ → ℕ
distance_of n = slot_size * n

abbrev pub needed_for : ℕ → ℕ
needed_for n = distance_of n + trailer_size

-- ---- the trailer

-- 'distance back from the trailer to slot 0 (4 bytes, high byte first, 11·N), N (2 bytes, high first, 1 to 4,000), code, edition 1'
unfoldable pub trailer : ℕ → ℕ → List ℕ
trailer code n = bytes_of 4 (distance_of n) ++ (bytes_of 2 n ++ (bytes_of 1 code ++ bytes_of 1 1))

abbrev pub trailer_at : List ℕ → ℕ
trailer_at b = length b - trailer_size

abbrev pub distance_in : List ℕ → ℕ
distance_in b = number_at b (trailer_at b) 4

abbrev pub count_in : List ℕ → ℕ
count_in b = number_at b (trailer_at b + 4) 2

abbrev pub code_in : List ℕ → ℕ
code_in b = number_at b (trailer_at b + 6) 1

abbrev pub edition_in : List ℕ → ℕ
edition_in b = number_at b (trailer_at b + 7) 1

-- where slot 0 lies
abbrev pub start_in : List ℕ → ℕ
start_in b = trailer_at b - distance_in b

-- ---- the slots

-- a slot's bytes: 'state (0 blank, 1 written), word and marks (5 bytes each, high byte first, unused high bits zero)'
pub record SlotBytes : Type 0 where
  pub state : List ℕ
  pub word : List ℕ
  pub marks : List ℕ

abbrev pub slot_bytes : ℕ → ℕ → ℕ → SlotBytes
slot_bytes state word marks = record { state = bytes_of state_size state; word = bytes_of word_size word; marks = bytes_of word_size marks }

-- the bytes of what a slot holds; 'A blank slot is all zero'. A bad one has another state, and no call stores it
abbrev pub content_bytes : Content → SlotBytes
content_bytes Content.Blank = slot_bytes 0 0 0
content_bytes (Content.Written word marks) = slot_bytes 1 word marks
content_bytes Content.Bad = slot_bytes 2 0 0

-- some bytes of each slot, one slot after the other
unfoldable pub each : (SlotBytes → List ℕ) → List SlotBytes → List ℕ
each f [] = []
each f (s ∷ ss) = f s ++ each f ss

-- all slots: state, word and marks of each
abbrev pub whole : SlotBytes → List ℕ
whole s = s.state ++ (s.word ++ s.marks)

unfoldable pub body : List SlotBytes → List ℕ
body ss = each whole ss

-- where a slot's state, word and marks lie, with slot 0 at a start
unfoldable pub place_from : ℕ → ℕ → Place
place_from start slot =
    record {
      state = start + slot_size * slot;
      word = start + slot_size * slot + state_size;
      marks = start + slot_size * slot + state_size + word_size;
    }

abbrev pub place_in : List ℕ → ℕ → Place
place_in b slot = place_from (start_in b) slot

-- a slot's numbers at its place
abbrev pub state_at : List ℕ → Place → ℕ
state_at b p = number_at b p.state state_size

abbrev pub word_at : List ℕ → Place → ℕ
word_at b p = number_at b p.word word_size

abbrev pub marks_at : List ℕ → Place → ℕ
marks_at b p = number_at b p.marks word_size

-- a buffer with other bytes in the slot at a place
unfoldable pub store_at : List ℕ → Place → SlotBytes → List ℕ
store_at b p s = overwrite (overwrite (overwrite b p.state s.state) p.word s.word) p.marks s.marks

-- ---- making

-- the free bytes of a buffer in which n slots and a trailer end it
abbrev pub free_for : ℕ → List ℕ → List ℕ
free_for n b = take (length b - needed_for n) b

-- 'Making writes N blank slots and the trailer at the buffer's end and leaves the bytes before them'; 'A blank slot is all zero'
unfoldable pub made : Making → List ℕ → List ℕ
made m b = free_for m.slots b ++ (replicate (distance_of m.slots) 0 ++ trailer m.code m.slots)
