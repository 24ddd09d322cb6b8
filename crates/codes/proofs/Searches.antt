-- The search for a codeword: what it asks of a code, its answers, and a trial with bits of one column inverted.
-- Of a trial are known its packed syndrome and whether its top row is off; inverting bits of a column adds that column's multiple to the
-- one and the bit of the top row to the other. A packed syndrome stays below 4 to the power of the rows.
use Rattle.std.proofs.Common.{◌≡◌, ℕ, ◌+◌, ◌<◌, ◌≤◌, Bool, true, [], length, get_or, ◌∙◌, arith}
use lib.Bits.{bit_xor}
use Rattle.symbols.specs.Symbol.{◌⊻◌}
use Rattle.symbols.specs.Column.{value, top, weight, column_of}
use Rattle.symbols.proofs.Claims.{exclusive_or}
use Rattle.codes.specs.declared.code.Code.{Code}
use Rattle.codes.specs.declared.search.Trial.{Trial}
use Rattle.codes.specs.Digits.{symbols}
use Rattle.codes.specs.Vector.{scale}
use Rattle.codes.specs.Projection.{Projection, wanted, size, width}
use Rattle.codes.specs.Word.{word, top_row, distance}
use Rattle.codes.specs.Codes.{projection}
use Rattle.codes.specs.ContractsOfWalk.{multiple}
use Rattle.codes.specs.ContractsOfSearch.{inverted, Known}
use Rattle.codes.proofs.Vectors.{shaped, length_scale}
use Rattle.codes.proofs.Digits.{symbols_fit, digits_again}
use Rattle.codes.proofs.Distance.{Apart}
use Rattle.codes.proofs.Codes.{width_le, seven_le, systematic, apart}
use Rattle.codes.proofs.Sums.{digits_add}
use Rattle.codes.proofs.Walks.{shaped_at, multiple_lt, sum_lt}
use Rattle.codes.proofs.Flips.{syndrome_invert, top_row_invert, nearer_by, word_inverted, inverted_fits}
use Rattle.codes.proofs.Words.{length_word, same_length}

-- what a code has to satisfy for the search to be right
pub record Searchable (π : Projection) : Type 0 where
  pub apart : Apart π
  pub shape : shaped π.rows π.matrix ≡ true
  pub narrow : width π ≤ 40
  pub wide : 7 ≤ size π

-- the four codes do
pub searchable : (c : Code) → Searchable (projection c)
searchable c = record { apart = apart c; shape = (systematic c).shape; narrow = width_le c; wide = seven_le c }

-- a trial with the bits q of column j inverted
abbrev pub inverted_trial : Projection → Trial → ℕ → ℕ → Trial
inverted_trial π t j q =
    record {
      code = t.code;
      word = inverted π t.word j q;
      syndrome = bit_xor t.syndrome (multiple π j (value (column_of q)));
      off = t.off ⊻ top (column_of q);
    }

-- what is known of it
pub known_inverted : {π : Projection} {p : Bool} {t : Trial} → Searchable π → Known π p t → (j q : ℕ) → j < size π → q < 16 →
    Known π p (inverted_trial π t j q)
known_inverted {π} {p} {t} code known j q hj hq =
    let x = t.word in
    let v = value (column_of q) in
    let h = get_or π.matrix j [] in
    let rows = shaped_at π.rows π.matrix j code.shape hj in
    let ew = word_inverted π x j q hj hq in
    let inside : j < length (word π x) = omega (arith, length_word π x) in
    record {
      fits = inverted_fits π x j q known.fits hj hq;
      syndromes =
          rw (
            digits_add π.rows t.syndrome (multiple π j v),
            known.syndromes,
            digits_again symbols symbols_fit π.rows (scale v h) (length_scale v h ∙ rows),
            ew,
            syndrome_invert π.rows π.matrix j (column_of q) (word π x) (length_word π x) inside,
          );
      bounded = sum_lt π.rows t.syndrome (multiple π j v) known.bounded (rw (rows) at (multiple_lt v h));
      tops =
          rw (known.tops, ew, top_row_invert j (column_of q) (word π x) inside)
          (exclusive_or.last (top_row (word π x)) (wanted π.rule p) (top (column_of q)));
    }

-- a word gets nearer to another by no more than the bits that are inverted
pub inverted_nearer_by : (π : Projection) (x y j q : ℕ) → j < size π → q < 16 →
    distance (word π x) (word π y) ≤ distance (word π (inverted π x j q)) (word π y) + weight (column_of q)
inverted_nearer_by π x y j q hj hq =
    rw (word_inverted π x j q hj hq)
    (nearer_by j (column_of q) (word π x) (word π y) (same_length π x y) (omega (arith, length_word π x)))
