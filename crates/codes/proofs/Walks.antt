-- The walk over a word's columns, from the last to the first: each column puts its parity below those that are collected, and adds its top bit to
-- the top row's parity and its multiple of the matrix's column to the syndrome. What is collected of the columns behind one, and that column, make
-- up what is collected from there on: the parities are a mask, packed vectors add by exclusive or, and the syndrome and the top row's parity are
-- defined by the first column and the rest. A packed syndrome stays below 4 to the power of the rows, as each multiple does, since that is a
-- power of two.
use Rattle.std.proofs.Common.{◌≡◌, ℕ, zero, suc, ◌+◌, ◌*◌, ◌^◌, ◌<◌, ◌≤◌, true, not, eqb, List, [], ◌∷◌, map, length, get_or, take, drop, sym, ap, ◌∙◌, arith, length-take-le, drop-cons, get_or-take, eqb-true}
use mathlib.Core.Bool.{beq, and-eq-true_iff}
use lib.Bits.{bit_xor, xor_lt}
use lib.ListN.{get_or-map, length-map}
use Rattle.symbols.specs.Symbol.{Symbol}
use Rattle.symbols.specs.Column.{Column, value, parity, top, one, column_of}
use Rattle.symbols.proofs.Claims.{exclusive_or}
use Rattle.codes.specs.declared.code.Code.{Code}
use Rattle.codes.specs.declared.word.Walk.{Walk}
use Rattle.codes.specs.Digits.{symbols, number_of}
use Rattle.codes.specs.Vector.{scale}
use Rattle.codes.specs.Projection.{Projection, size}
use Rattle.codes.specs.Word.{word, syndrome, syndrome_of, top_row}
use Rattle.codes.specs.Codes.{projection}
use Rattle.codes.specs.Claims.{WalkCollects}
use Rattle.codes.specs.ContractsOfWalk.{held, Collected, OneMore}
use Rattle.codes.proofs.Digits.{symbols_fit, digits_again, number_again, number_lt, pow_mul}
use Rattle.codes.proofs.Masks.{mask_lt}
use Rattle.codes.proofs.Vectors.{add_v_comm, shaped, length_scale, length_syndrome}
use Rattle.codes.proofs.Codes.{systematic}
use Rattle.codes.proofs.Sums.{digits_add}

-- a column's multiple, packed
pub multiple_lt : (v : Symbol) (h : List Symbol) → number_of symbols (scale v h) < 4 ^ length h
multiple_lt v h = rw (← length_scale v h) (number_lt symbols symbols_fit (scale v h))

-- packed vectors of r rows, added
pub sum_lt : (r a b : ℕ) → a < 4 ^ r → b < 4 ^ r → bit_xor a b < 4 ^ r
sum_lt r a b ha hb = rw (pow_mul 2 2 r) (xor_lt (2 * r) a b (rw (← pow_mul 2 2 r) ha) (rw (← pow_mul 2 2 r) hb))

-- one column more in front
walked_more : (r : ℕ) (h : List Symbol) (H : List (List Symbol)) (c : Column) (cs : List Column) (behind from : Walk) (g : ℕ) →
    length h ≡ r → g ≡ number_of symbols (scale (value c) h) →
    from.parities ≡ behind.parities * 2 + one (parity c) → from.top ≡ not (beq behind.top (top c)) →
    from.syndrome ≡ bit_xor behind.syndrome g → Collected r H cs behind → Collected r (h ∷ H) (c ∷ cs) from
walked_more r h H c cs behind from g eh eg ep et es w =
    record {
      parities = rw (ep, w.parities);
      tops = rw (et, exclusive_or.unequal behind.top (top c), w.tops) (exclusive_or.comm (top_row cs) (top c));
      syndromes =
          rw (
            es,
            digits_add r behind.syndrome g,
            w.syndromes,
            eg,
            digits_again symbols symbols_fit r (scale (value c) h) (length_scale (value c) h ∙ eh),
          )
          (add_v_comm (syndrome r H (map value cs)) (scale (value c) h));
      bounded = rw (es, eg) (sum_lt r behind.syndrome (number_of symbols (scale (value c) h)) w.bounded (rw (← eh) (multiple_lt (value c) h)));
    }

-- a column of a matrix whose columns all have r symbols
pub shaped_at : (r : ℕ) (H : List (List Symbol)) (j : ℕ) → shaped r H ≡ true → j < length H → length (get_or H j []) ≡ r
shaped_at r [] j s l = absurd (omega arith)
shaped_at r (h ∷ hs) zero s l = eqb-true (length h) r ((and-eq-true_iff (eqb (length h) r) (shaped r hs)).0 s).0
shaped_at r (h ∷ hs) (suc j) s l = shaped_at r hs j ((and-eq-true_iff (eqb (length h) r) (shaped r hs)).0 s).1 (omega arith)

-- one step of the walk, at a column of the code
module _ (π : Projection) (i x : ℕ) where
  pub one_column_more : shaped π.rows π.matrix ≡ true → i < size π → (behind from : Walk) (g : ℕ) →
      g ≡ number_of symbols (scale (value (column_of x)) (get_or π.matrix i [])) →
      from.parities ≡ behind.parities * 2 + one (parity (column_of x)) → from.top ≡ not (beq behind.top (top (column_of x))) →
      from.syndrome ≡ bit_xor behind.syndrome g → OneMore π i x behind from
  one_column_more shape h behind from g eg ep et es cs long here w =
      rw (drop-cons π.matrix i [] h, drop-cons cs i (column_of 0) (omega arith), here h)
      (walked_more π.rows (get_or π.matrix i []) (drop (suc i) π.matrix) (column_of x) (drop (suc i) cs) behind from g
      (shaped_at π.rows π.matrix i shape h) eg ep et es w)

-- as many bits as columns have parities
pub parities_lt : {r : ℕ} {H : List (List Symbol)} {cs : List Column} {walk : Walk} → Collected r H cs walk → walk.parities < 2 ^ length cs
parities_lt {cs = cs} w = rw w.parities (rw (length-map cs parity) at (mask_lt (map parity cs)))

-- an array with room for a code's columns: its column j is the word's, with those behind it
module _ (π : Projection) (a : List ℕ) (room : size π ≤ length a) where
  pub length_held : length (held π a) ≡ size π
  length_held = length-map (take (size π) a) column_of ∙ length-take-le (size π) a room

  pub held_at : (j : ℕ) → j < size π → get_or (held π a) j (column_of 0) ≡ column_of (get_or a j 0)
  held_at j h = rw (get_or-map column_of (take (size π) a) j 0, get_or-take (size π) a j 0 h)

  pub held_from : (j : ℕ) → j < size π → drop j (held π a) ≡ column_of (get_or a j 0) ∷ drop (suc j) (held π a)
  held_from j h = rw (drop-cons (held π a) j (column_of 0) (omega (arith, length_held)), held_at j h)

-- what the walk over a word hands on, from what is collected, and back
module _ (c : Code) (w : ℕ) (walk : Walk) where
  abbrev π : Projection
  π = projection c

  pub collects : Collected (projection c).rows (projection c).matrix (word (projection c) w) walk → WalkCollects c w walk
  collects k =
      record {
        parities = k.parities;
        top = k.tops;
        syndrome = sym (number_again symbols symbols_fit π.rows walk.syndrome k.bounded) ∙ ap (number_of symbols) k.syndromes;
        bounded = k.bounded;
      }

  module _ (k : WalkCollects c w walk) where
    pub collected : Collected (projection c).rows (projection c).matrix (word (projection c) w) walk
    collected =
        let cs = word π w in
        record {
          parities = k.parities;
          tops = k.top;
          syndromes =
              rw k.syndrome (digits_again symbols symbols_fit π.rows (syndrome_of π cs)
              (length_syndrome π.rows π.matrix (systematic c).shape (map value cs)));
          bounded = k.bounded;
        }
