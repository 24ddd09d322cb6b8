-- What makes a code: its check matrix, its top rule and its free columns.
-- Everything else in this crate is defined over any such code.
use Rattle.std.specs.Prelude.{ℕ, suc, ◌+◌, ◌-◌, ◌*◌, Bool, true, false, List, [], ◌∷◌, length}
use Rattle.symbols.specs.Symbol.{Symbol, symbol_of}

-- the published projections: under O the top row's parity is that of the columns, under E it is 0
pub data TopRule : Type 0 where
  rule_o rule_e : TopRule

-- the parity of the top row where the columns have parity p
abbrev pub wanted : TopRule → Bool → Bool
wanted rule_o p = p
wanted rule_e p = false

-- a code: the check matrix as the list of its columns, each with a symbol for each row, the top rule, and which columns are free
pub record Projection : Type 0 where
  pub rows : ℕ
  pub matrix : List (List Symbol)
  pub rule : TopRule
  pub free : List Bool

-- the number of trues
abbrev pub count : List Bool → ℕ
count [] = 0
count (true ∷ l) = suc (count l)
count (false ∷ l) = count l

-- a code's columns (m), the bits of its words, its top bits that a message has, and the bits of its messages
abbrev pub size : Projection → ℕ
size π = length π.matrix

abbrev pub width : Projection → ℕ
width π = 4 * size π

abbrev pub top_bits : Projection → ℕ
top_bits π = size π - 1

abbrev pub message_bits : Projection → ℕ
message_bits π = 1 + 2 * count π.free + top_bits π

-- a matrix that is printed by its rows, as the list of its columns
abbrev pub with_row : List ℕ → List (List Symbol) → List (List Symbol)
with_row [] cs = []
with_row (x ∷ xs) [] = (symbol_of x ∷ []) ∷ with_row xs []
with_row (x ∷ xs) (c ∷ cs) = (symbol_of x ∷ c) ∷ with_row xs cs

abbrev pub printed : List (List ℕ) → List (List Symbol)
printed [] = []
printed (r ∷ rs) = with_row r (printed rs)

-- 'Nine columns [..], rows of H', published by Galvez and Kim; 'Free columns are 5 to 9'
abbrev pub nine : TopRule → Projection
nine r =
    record {
      rows = 4;
      matrix =
          printed
          ((1 ∷ 0 ∷ 0 ∷ 0 ∷ 1 ∷ 1 ∷ 3 ∷ 0 ∷ 1 ∷ [])
          ∷ (0 ∷ 1 ∷ 0 ∷ 0 ∷ 1 ∷ 0 ∷ 2 ∷ 3 ∷ 1 ∷ [])
          ∷ (0 ∷ 0 ∷ 1 ∷ 0 ∷ 2 ∷ 3 ∷ 1 ∷ 2 ∷ 1 ∷ [])
          ∷ (0 ∷ 0 ∷ 0 ∷ 1 ∷ 1 ∷ 3 ∷ 0 ∷ 1 ∷ 3 ∷ [])
          ∷ []);
      rule = r;
      free = false ∷ false ∷ false ∷ false ∷ true ∷ true ∷ true ∷ true ∷ true ∷ [];
    }

-- 'Ten columns', published by D. G. Kim; 'or 1, 2, 3, 5, 6, 7'
abbrev pub ten : TopRule → Projection
ten r =
    record {
      rows = 4;
      matrix =
          printed
          ((1 ∷ 1 ∷ 1 ∷ 1 ∷ 0 ∷ 0 ∷ 0 ∷ 0 ∷ 0 ∷ 0 ∷ [])
          ∷ (0 ∷ 0 ∷ 0 ∷ 0 ∷ 1 ∷ 1 ∷ 1 ∷ 1 ∷ 0 ∷ 0 ∷ [])
          ∷ (3 ∷ 2 ∷ 1 ∷ 0 ∷ 3 ∷ 2 ∷ 1 ∷ 0 ∷ 1 ∷ 0 ∷ [])
          ∷ (2 ∷ 3 ∷ 1 ∷ 0 ∷ 2 ∷ 3 ∷ 1 ∷ 0 ∷ 0 ∷ 1 ∷ [])
          ∷ []);
      rule = r;
      free = true ∷ true ∷ true ∷ false ∷ true ∷ true ∷ true ∷ false ∷ false ∷ false ∷ [];
    }
