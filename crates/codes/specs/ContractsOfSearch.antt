-- What the private steps of correction say to each other in their contracts. Nothing public rests on it.
use Rattle.std.specs.Prelude.{◌≡◌, ℕ, suc, ◌-◌, ◌*◌, ◌/◌, ◌^◌, ◌<◌, ◌≤◌, Bool, true, false, cond, List, [], ◌∷◌, map, length, ◌==◌, bit_xor, nat_eq, Option, MatchOption}
use Rattle.symbols.specs.Symbol.{◌⊻◌, Symbol, s0, s1, s2, s3, symbol_of}
use Rattle.symbols.specs.Column.{Column, parity}
use Rattle.codes.specs.declared.search.Trial.{Trial}
use Rattle.codes.specs.Digits.{symbols, digits, number_of, mask}
use Rattle.codes.specs.Vector.{scale}
use Rattle.codes.specs.Projection.{Projection, wanted, count, size, width}
use Rattle.codes.specs.Word.{word, syndrome_of, top_row, is_codeword_of, distance}
use Rattle.codes.specs.Correction.{Near}
use Rattle.codes.specs.ContractsOfWalk.{multiple}

-- the multiples by 0, 1, 2 and 3 of each column of a matrix, packed
abbrev pub all_multiples : List (List Symbol) → List ℕ
all_multiples [] = []
all_multiples (h ∷ hs) =
    number_of symbols (scale s0 h) ∷ number_of symbols (scale s1 h) ∷ number_of symbols (scale s2 h) ∷ number_of symbols (scale s3 h) ∷ all_multiples hs

-- the index of a number in a list, counted from e on; 0 where it isn't there
abbrev pub index_from : ℕ → List ℕ → ℕ → ℕ
index_from e [] s = 0
index_from e (x ∷ xs) s = cond (x == s) e (index_from (suc e) xs s)

-- the entry of a packed syndrome: 4 times a column, counted from 1, plus the scale, where it is that scale times that column, otherwise 0
abbrev pub entry : Projection → ℕ → ℕ
entry π s = cond (s == 0) 0 (index_from 4 (all_multiples π.matrix) s)

-- which columns lack parity p
abbrev pub lacking : Bool → List Column → List Bool
lacking p cs = map (λ c. p ⊻ parity c) cs

-- of some bits, the place of the first that is true, and all but that one
abbrev pub first : List Bool → ℕ
first [] = 0
first (true ∷ l) = 0
first (false ∷ l) = suc (first l)

abbrev pub cleared : List Bool → List Bool
cleared [] = []
cleared (true ∷ l) = false ∷ l
cleared (false ∷ l) = false ∷ cleared l

-- the places of all that are true
abbrev pub Places : List ℕ → List Bool → Type 0
Places [] l = count l ≡ 0
Places (j ∷ js) l = (0 < count l) × (j ≡ first l) × Places js (cleared l)

-- d is the mask of bits for a code's columns, of which some are set
pub record SomeSet (π : Projection) (l : List Bool) (d : ℕ) : Type 0 where
  pub masks : d ≡ mask l
  pub some : 0 < count l
  pub long : length l ≡ size π

-- a number is such a mask, and a place is that of its first column
abbrev pub Masks : Projection → ℕ → Type 0
Masks π d = (l : List Bool) × SomeSet π l d

abbrev pub FirstOf : Projection → ℕ → ℕ → Type 0
FirstOf π d j = (l : List Bool) → SomeSet π l d → j ≡ first l

-- a word with the bits q of column j inverted, columns counted from 0
abbrev pub inverted : Projection → ℕ → ℕ → ℕ → ℕ
inverted π x j q = bit_xor x (q * 2 ^ (4 * (size π - 1 - j)))

-- what is known of a trial on the search for a codeword of parity p: its packed syndrome, and whether its top row's parity is off
pub record Known (π : Projection) (p : Bool) (t : Trial) : Type 0 where
  pub fits : t.word < 2 ^ width π
  pub syndromes : digits symbols π.rows t.syndrome ≡ syndrome_of π (word π t.word)
  pub bounded : t.syndrome < 4 ^ π.rows
  pub tops : t.off ≡ top_row (word π t.word) ⊻ wanted π.rule p

-- the same where the columns that lack parity p are those at the places js
pub record Left (π : Projection) (p : Bool) (js : List ℕ) (t : Trial) : Type 0 where
  pub known : Known π p t
  pub places : Places js (lacking p (word π t.word))

-- the same where d is the mask of the columns that lack parity p
pub record Begun (π : Projection) (p : Bool) (d : ℕ) (t : Trial) : Type 0 where
  pub known : Known π p t
  pub masks : d ≡ mask (lacking p (word π t.word))

-- a trial with row r of column j inverted
abbrev pub row_inverted : Projection → Trial → ℕ → ℕ → Trial
row_inverted π t j r =
    record {
      code = t.code;
      word = inverted π t.word j (8 / 2 ^ r);
      syndrome = bit_xor t.syndrome (multiple π j (symbol_of r));
      off = t.off ⊻ nat_eq r 0;
    }

-- y is a word that passes a test and lies within k positions of x
pub record Within (π : Projection) (test : List Column → Bool) (k x y : ℕ) : Type 0 where
  pub fits : y < 2 ^ width π
  pub passes : test (word π y) ≡ true
  pub close : distance (word π x) (word π y) ≤ k

-- y is a near codeword that lies within k positions of x
pub record NearWithin (π : Projection) (w m k x y : ℕ) : Type 0 where
  pub is : Near π w m y
  pub close : distance (word π x) (word π y) ≤ k

-- an answer: what is found has P, and where nothing is, nothing has P
abbrev pub Sought : (ℕ → Type 0) → Option ℕ → Type 0
Sought P r = MatchOption r ((y : ℕ) → P y → ⊥) P

-- the answer at a trial whose columns at the places js lack a parity, and no others: the codeword of that parity within k positions. It is the same
-- within one more, since the distance of every codeword of that parity is odd or even as the number of these columns is
abbrev pub Solved : Projection → List ℕ → ℕ → Trial → Option ℕ → Type 0
Solved π js k t r =
    (n : ℕ) → k ≤ n → n ≤ suc k → (p : Bool) → Left π p js t → Sought (Within π (is_codeword_of π p) n t.word) r

-- the answer of a search that is made with each row of column j inverted: where it solves what is then left, the answer solves the trial
abbrev pub SolvedByRows : Projection → Trial → ℕ → (Trial → Option ℕ → Type 0) → Option ℕ → Type 0
SolvedByRows π t j Finds r =
    (js : List ℕ) (k : ℕ) →
    ((row : ℕ) → row < 4 → (s : Option ℕ) → Finds (row_inverted π t j row) s → Solved π js k (row_inverted π t j row) s) →
    Solved π (j ∷ js) (suc k) t r
