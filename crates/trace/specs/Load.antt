-- A repeatable fault load: 'From a 32-bit seed and a count k, exactly k different positions are flipped.' Which positions these are, and the number
-- that is handed back.
use Rattle.std.specs.Prelude.{ℕ, zero, suc, ◌+◌, ◌*◌, ◌/◌, ◌%◌, ◌^◌, Bool, List, [], ◌∷◌, length, nat_lt, slice_index}
use Rattle.codes.specs.Projection.{Projection, width}
use Rattle.trace.specs.Lists.{span, without}

-- 'a 32-bit seed'
abbrev pub is_seed : ℕ → Bool
is_seed seed = nat_lt seed (2 ^ 32)

-- 'The number goes on as seed times 1664525 plus 1013904223, modulo 2 to the power 32'
abbrev pub advance : ℕ → ℕ
advance number = (number * 1664525 + 1013904223) % 2 ^ 32

-- 'Each draw divides the new number by 65536, rounding down, takes the remainder by the count of positions still unpicked': of the draw after a number
abbrev pub rank_of : ℕ → ℕ → ℕ
rank_of number count = advance number / 65536 % count

-- 'and picks that one of them, counted upward from 0'
abbrev pub pick_of : ℕ → List ℕ → ℕ
pick_of number unpicked = slice_index unpicked (rank_of number (length unpicked))

-- the positions that k draws after a number pick, of those still unpicked
unfoldable pub drawn : ℕ → ℕ → List ℕ → List ℕ
drawn zero number unpicked = []
drawn (suc k) number unpicked = pick_of number unpicked ∷ drawn k (advance number) (without (pick_of number unpicked) unpicked)

-- the positions that a load of k flips in a word, in turn: at first none is picked
abbrev pub positions_of : Projection → ℕ → ℕ → List ℕ
positions_of π seed k = drawn k seed (span 0 (width π))

-- 'The bench keeps its number between draws and hands it back at the end': the number after k draws
unfoldable pub handed_back : ℕ → ℕ → ℕ
handed_back zero number = number
handed_back (suc k) number = handed_back k (advance number)
