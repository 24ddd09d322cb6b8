-- What the parts of a fault load promise each other. No claim rests on this file but by the proofs. A word of some width stands for the positions
-- that are picked: they are its ones.
use Rattle.std.specs.Prelude.{◌≡◌, ℕ, ◌-◌, ◌/◌, ◌%◌, ◌^◌, Bool, cond, List, [], ◌∷◌, ◌==◌, bit_xor, slice_index}
use Rattle.trace.specs.Lists.{span, in_turn}
use Rattle.trace.specs.Load.{drawn, handed_back}

-- the bit of a position
abbrev pub bit_in : ℕ → ℕ → ℕ
bit_in width position = 2 ^ (width - 1 - position)

-- a word with a position's bit inverted
abbrev pub toggle : ℕ → ℕ → ℕ → ℕ
toggle width position word = bit_xor word (bit_in width position)

-- whether a position is unpicked
abbrev pub is_unpicked : ℕ → ℕ → ℕ → Bool
is_unpicked width picked position = picked / bit_in width position % 2 == 0

-- those of some positions that are unpicked, and all that are
abbrev pub unpicked_of : ℕ → ℕ → List ℕ → List ℕ
unpicked_of width picked [] = []
unpicked_of width picked (p ∷ ps) = cond (is_unpicked width picked p) (p ∷ unpicked_of width picked ps) (unpicked_of width picked ps)

unfoldable pub unpicked_in : ℕ → ℕ → List ℕ
unpicked_in width picked = unpicked_of width picked (span 0 width)

-- the unpicked position of a rank, counted upward from 0; and a word with it picked
abbrev pub unpicked_at : ℕ → ℕ → ℕ → ℕ
unpicked_at width picked rank = slice_index (unpicked_in width picked) rank

abbrev pub with_rank : ℕ → ℕ → ℕ → ℕ
with_rank width picked rank = toggle width (unpicked_at width picked rank) picked

-- a load of so many draws from a seed has come to a number and a word
pub record LoadOf (width seed count last word : ℕ) : Type 0 where
  pub number : last ≡ handed_back count seed
  pub picked : word ≡ in_turn (toggle width) (drawn count seed (span 0 width)) 0
