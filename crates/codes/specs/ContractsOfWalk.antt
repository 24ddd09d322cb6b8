-- What the private steps of this crate say to each other in their contracts: a word in an array, and one walk over its columns. Nothing
-- public rests on it.
use Rattle.std.specs.Prelude.{◌≡◌, ℕ, suc, ◌+◌, ◌*◌, ◌/◌, ◌%◌, ◌^◌, ◌<◌, Bool, true, false, not, List, [], ◌∷◌, map, length, take, drop, slice_index_or}
use Rattle.symbols.specs.Symbol.{Symbol, s0, symbol_of}
use Rattle.symbols.specs.Column.{Column, value, parity, one, column_of}
use Rattle.codes.specs.declared.word.Walk.{Walk}
use Rattle.codes.specs.Digits.{symbols, digits, number_of, mask}
use Rattle.codes.specs.Vector.{scale}
use Rattle.codes.specs.Projection.{Projection, wanted, count, size}
use Rattle.codes.specs.Word.{syndrome, top_row}
use Rattle.codes.specs.Message.{message_of, place, all_tops, columns_with, chosen, first_parity}

-- the word that an array of columns holds: a code uses the first m of them
abbrev pub held : Projection → List ℕ → List Column
held π a = map column_of (take (size π) a)

-- a multiple of column j of the matrix, packed with the first row highest; behind the last column it is 0
abbrev pub multiple : Projection → ℕ → Symbol → ℕ
multiple π j v = number_of symbols (scale v (slice_index_or π.matrix j []))

-- a number has the four multiples of column j as bytes, that by 0 lowest
abbrev pub Multiples : Projection → ℕ → ℕ → Type 0
Multiples π j n = (v : ℕ) → v < 4 → n / 2 ^ (8 * v) % 256 ≡ multiple π j (symbol_of v)

-- a walk's numbers are the parities, the top row's parity and the syndrome of columns cs under the matrix H
pub record Collected (rows : ℕ) (H : List (List Symbol)) (cs : List Column) (w : Walk) : Type 0 where
  pub parities : w.parities ≡ mask (map parity cs)
  pub tops : w.top ≡ top_row cs
  pub syndromes : digits symbols rows w.syndrome ≡ syndrome rows H (map value cs)
  pub bounded : w.syndrome < 4 ^ rows

-- a walk over the columns behind column i, and one with that column, whose number is x; behind the last column there is none
abbrev pub OneMore : Projection → ℕ → ℕ → Walk → Walk → Type 0
OneMore π i x behind from =
    (cs : List Column) → length cs ≡ size π → (i < size π → slice_index_or cs i (column_of 0) ≡ column_of x) →
    Collected π.rows (drop (suc i) π.matrix) (drop (suc i) cs) behind → Collected π.rows (drop i π.matrix) (drop i cs) from

-- the value of the first column of some, where the free ones have the digits of x and the others those of s
abbrev pub value_at : List Bool → ℕ → ℕ → Symbol
value_at [] x s = s0
value_at (true ∷ l) x s = symbol_of (x / 4 ^ count l)
value_at (false ∷ l) x s = symbol_of (s / 4 ^ count (map not l))

-- a message's columns with the rows of a packed syndrome in the columns that are not free
abbrev pub drafted : Projection → ℕ → ℕ → List Column
drafted π n s =
    let m = message_of π n in
    columns_with m.parity (place π.free m.values (digits symbols π.rows s)) (all_tops (wanted π.rule m.parity) m.tops)

-- the parity and the free values of a word's columns, as the high part of a message
abbrev pub high_part : Projection → List Column → ℕ
high_part π cs = one (first_parity cs) * 4 ^ count π.free + number_of symbols (chosen π.free (map value cs))
