-- The rows of the table of refusals that trace calls have, each under the words of the scope, or of its request, for when it is met. Refusal 1 is
-- the codes' own row. The calls' tables stand in 'Rules'.
use Rattle.std.specs.Prelude.{ℕ, ◌+◌, ◌^◌, Bool, true, false, not, ◌&&◌, ◌||◌, List, length, ◌==◌, nat_le, nat_lt}
use Rattle.codes.specs.Answer.{Row}
use Rattle.codes.specs.Projection.{Projection, width}
use Rattle.codes.specs.Correction.{correct, is_far}
use Rattle.codes.specs.Codes.{is_code, step_limit}
use Rattle.trace.specs.declared.slot.Content.{Content}
use Rattle.trace.specs.Lists.{reaches}
use Rattle.trace.specs.Layout.{distance_of}

-- 'N (2 bytes, high first, 1 to 4,000)'
abbrev pub is_count : ℕ → Bool
is_count n = nat_le 1 n && nat_le n 4000

-- 'N not 1 to 4,000'
abbrev pub wrong_count : ℕ → Row
wrong_count n = record { number = 6; met = not (is_count n) }

-- 'buffer under 8 bytes; making: under 11·N + 8': a length under a size
abbrev pub too_short : ℕ → ℕ → Row
too_short length size = record { number = 7; met = nat_lt length size }

-- 'edition, code, N or distance unfit, or distance beyond the bytes before the trailer'
unfoldable pub is_fit : ℕ → ℕ → ℕ → ℕ → ℕ → Bool
is_fit before distance n code edition = edition == 1 && (is_code code && (is_count n && (distance == distance_of n && nat_le distance before)))

abbrev pub trailer_unfit : ℕ → ℕ → ℕ → ℕ → ℕ → Row
trailer_unfit before distance n code edition = record { number = 8; met = not (is_fit before distance n code edition) }

-- 'slot N or more'
abbrev pub no_slot : ℕ → ℕ → Row
no_slot n slot = record { number = 9; met = nat_le n slot }

-- 'named slot has another state, a set unused bit, or is blank and not zero': of a slot's numbers, and so of what it holds
unfoldable pub is_bad : Projection → ℕ → ℕ → ℕ → Bool
is_bad π state word marks =
    nat_le 2 state || (nat_le (2 ^ width π) word || (nat_le (2 ^ width π) marks || (state == 0 && not (word == 0 && marks == 0))))

abbrev pub holds_bad : Content → Bool
holds_bad Content.Blank = false
holds_bad Content.Bad = true
holds_bad (Content.Written word marks) = false

abbrev pub bad_slot : Content → Row
bad_slot c = record { number = 10; met = holds_bad c }

-- 'slot blank'
abbrev pub holds_nothing : Content → Bool
holds_nothing Content.Blank = true
holds_nothing Content.Bad = false
holds_nothing (Content.Written word marks) = false

abbrev pub blank_slot : Content → Row
blank_slot c = record { number = 11; met = holds_nothing c }

-- 'no near codeword', on a read: to the word that the slot holds, under its marks
abbrev pub holds_lost : Projection → Content → Bool
holds_lost π Content.Blank = false
holds_lost π Content.Bad = false
holds_lost π (Content.Written word marks) = is_far (correct π word marks)

abbrev pub lost_slot : Projection → Content → Row
lost_slot π c = record { number = 5; met = holds_lost π c }

-- 'position not in the word'
abbrev pub no_position : Projection → ℕ → Row
no_position π position = record { number = 12; met = nat_le (width π) position }

-- 'step or reading too large': 'the reading is 0 to 4095'
abbrev pub too_large : Projection → ℕ → ℕ → Row
too_large π step reading = record { number = 13; met = nat_le (step_limit π) step || nat_le 4096 reading }

-- '14 when k is above the word's width'
abbrev pub too_many : Projection → ℕ → Row
too_many π k = record { number = 14; met = nat_lt (width π) k }

-- '15 when start plus the number of steps passes N'
abbrev pub past_end : ℕ → ℕ → List ℕ → Row
past_end n start steps = record { number = 15; met = nat_lt n (start + length steps) }

-- '16 when the lists differ in length'
abbrev pub uneven : List ℕ → List ℕ → Row
uneven steps readings = record { number = 16; met = not (length steps == length readings) }

-- 'step or reading too large', of a list of steps and a list of readings: one of them is
abbrev pub one_too_large : Projection → List ℕ → List ℕ → Row
one_too_large π steps readings = record { number = 13; met = reaches (step_limit π) steps || reaches 4096 readings }
