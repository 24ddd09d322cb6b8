-- What a syndrome says of a codeword of parity p close to a word whose columns all have parity p. The difference of the two is an even word.
-- Where the syndrome is zero the difference has no live column: it is empty, or the top row is off and the codeword at least four positions
-- away. Else at least one column of the difference is live and has two ones, and just one is live where the difference has at most three
-- ones. The table names that column and its value, and the top row says which two bits.
use Rattle.std.proofs.Common.{◌≡◌, ℕ, ◌+◌, ◌-◌, ◌*◌, ◌/◌, ◌%◌, ◌<◌, ◌≤◌, Bool, true, false, List, [], ◌∷◌, sym, refl, ap, ◌∙◌, arith}
use mathlib.Core.Bool.{beq}
use borrow.Author.Tests.{not-false}
use lib.Bits.{xor_self as xor_same}
use Rattle.symbols.specs.Symbol.{◌⊻◌, symbol_of}
use Rattle.symbols.specs.Column.{Column, value, parity, top, one, weight, column_of, column_number, column_with}
use Rattle.symbols.proofs.Claims.{exclusive_or, column_fixed, weights, numbers}
use Rattle.codes.specs.declared.search.Trial.{Trial}
use Rattle.codes.specs.Digits.{symbols, digits}
use Rattle.codes.specs.Vector.{is_zero_v}
use Rattle.codes.specs.Projection.{Projection, wanted}
use Rattle.codes.specs.Word.{word, ◌⊞◌, syndrome_of, all_parity, top_row, is_codeword_of, distance}
use Rattle.codes.specs.ContractsOfWalk.{multiple}
use Rattle.codes.specs.ContractsOfSearch.{entry, inverted, Known, Within}
use Rattle.codes.proofs.Vectors.{add_zero_vector, zeros_zero}
use Rattle.codes.proofs.Words.{beq_true, codeword_parts, codeword_passes, length_sum, top_row_sum, parity_sum, syndrome_sum, length_word, same_length}
use Rattle.codes.proofs.Distance.{even_light}
use Rattle.codes.proofs.Flips.{parity_invert, word_inverted}
use Rattle.codes.proofs.Differences.{Unmade, none_even}
use Rattle.codes.proofs.Entries.{Named, more_than_none, more_than_one}
use Rattle.codes.proofs.Sums.{digits_zero}
use Rattle.codes.proofs.Searches.{Searchable, known_inverted, inverted_nearer_by}

pub xor_equal : (a b : Bool) → a ⊻ b ≡ false → a ≡ b
xor_equal a b e = beq_true a b (not-false (beq a b) (exclusive_or.unequal a b ∙ e))

distance_self : (f : List Column) → distance f f ≡ 0
distance_self [] = refl
distance_self (c ∷ cs) = omega (arith, weights.itself c, distance_self cs)

-- a trial whose columns all have parity p, and the codewords of that parity within k positions
module _ {π : Projection} {p : Bool} {t : Trial} (known : Known π p t) (par : all_parity p (word π t.word) ≡ true) (k : ℕ) where
  abbrev x : ℕ
  x = t.word

  abbrev s : ℕ
  s = t.syndrome

  zero_syndrome : t.syndrome ≡ 0 → is_zero_v (syndrome_of π (word π t.word)) ≡ true
  zero_syndrome z = rw (← known.syndromes, z, digits_zero π.rows) (zeros_zero π.rows)

  -- with a zero syndrome and the right top row it is one itself
  pub zero_here : t.syndrome ≡ 0 → t.off ≡ false → Within π (is_codeword_of π p) k t.word t.word
  zero_here z o =
      record {
        fits = known.fits;
        passes =
            codeword_passes π p (word π x)
            (record { zero = zero_syndrome z; parities = par; tops = xor_equal (top_row (word π x)) (wanted π.rule p) (sym known.tops ∙ o) });
        close = omega (arith, distance_self (word π x));
      }

  even_difference : (y : ℕ) → Within π (is_codeword_of π p) k t.word y → all_parity false (word π t.word ⊞ word π y) ≡ true
  even_difference y w =
      rw (exclusive_or.self p) at (parity_sum p p (word π x) (word π y) par (codeword_parts π p (word π y) w.passes).parities)

  -- with a zero syndrome and the other top row there is none
  pub zero_off : Searchable π → t.syndrome ≡ 0 → t.off ≡ true → k ≤ 3 → (y : ℕ) → Within π (is_codeword_of π p) k t.word y → ⊥
  zero_off code z o h y w =
      let c = codeword_parts π p (word π y) w.passes in
      let e = same_length π x y in
      let tops : top_row (word π x ⊞ word π y) ≡ true =
      rw (top_row_sum (word π x) (word π y) e, c.tops, ← known.tops) o in
      let sums : is_zero_v (syndrome_of π (word π x ⊞ word π y)) ≡ true =
      rw (syndrome_sum π (word π x) (word π y) e, add_zero_vector (syndrome_of π (word π x)) (syndrome_of π (word π y)) c.zero) (zero_syndrome z) in
      let light =
      even_light π code.apart (word π x ⊞ word π y) (length_sum (word π x) (word π y) e ∙ length_word π x) sums
      (even_difference y w) (omega (arith, w.close)) in
      omega (arith, w.close, ap one tops)

  -- where no choice of at most l live values has the syndrome, there is none within 2·l + 1 positions
  none_of_few : (l : ℕ) → Unmade π l (digits symbols π.rows t.syndrome) → k ≤ 2 * l + 1 →
      (y : ℕ) → Within π (is_codeword_of π p) k t.word y → ⊥
  none_of_few l unmade h y w =
      none_even π l (digits symbols π.rows s) unmade (word π x) (word π y) known.syndromes (codeword_parts π p (word π y) w.passes).zero
      (length_word π x) (length_word π y) (even_difference y w) (omega (arith, w.close))

  -- with another syndrome there is none within one position, and none within three where the syndrome has no entry
  pub none_within_one : (t.syndrome ≡ 0 → ⊥) → k < 2 → (y : ℕ) → Within π (is_codeword_of π p) k t.word y → ⊥
  none_within_one n l = none_of_few 0 (more_than_none π s known.bounded n) (omega arith)

  pub none_unnamed : Searchable π → (t.syndrome ≡ 0 → ⊥) → entry π t.syndrome ≡ 0 → k ≤ 3 →
      (y : ℕ) → Within π (is_codeword_of π p) k t.word y → ⊥
  none_unnamed code n e l = none_of_few 1 (more_than_one π s known.bounded n code.shape e) (omega arith)

-- with two bits inverted in the column that the entry names, the word is one
pub pair_inverted : {π : Projection} {p : Bool} {t : Trial} → Known π p t → all_parity p (word π t.word) ≡ true →
    (k : ℕ) → Searchable π → 2 ≤ k → {e : ℕ} → Named π t.syndrome e → (q : ℕ) → q ≡ column_number (column_with false (symbol_of (e % 4)) t.off) →
    Within π (is_codeword_of π p) k t.word (inverted π t.word (e / 4 - 1) q)
pair_inverted {π} {p} {t} known par k code l {e} named q eq =
    let x = t.word in
    let v = symbol_of (e % 4) in
    let j = e / 4 - 1 in
    let y = inverted π x j q in
    let c = column_with false v t.off in
    let ec : column_of q ≡ c = ap column_of eq ∙ numbers.columns.back c in
    let small : q < 16 = rw eq (numbers.columns.small c) in
    let made : multiple π j (value (column_of q)) ≡ t.syndrome = rw (ap value ec ∙ column_fixed.values false v t.off) named.made in
    let there = known_inverted code known j q named.place small in
    let pars : all_parity p (word π y) ≡ true =
    rw (word_inverted π x j q named.place small) (parity_invert p j (column_of q) (word π x) (ap parity ec ∙ column_fixed.parities false v t.off) par) in
    let here =
    zero_here there pars 0 (rw made (xor_same t.syndrome)) (rw (ap top ec ∙ column_fixed.tops false v t.off) (exclusive_or.self t.off)) in
    let two = weights.even c (column_fixed.parities false v t.off) (rw (column_fixed.values false v t.off) named.scaling) in
    record {
      fits = here.fits;
      passes = here.passes;
      close = omega (arith, here.close, inverted_nearer_by π x y j q named.place small, ap weight ec, two);
    }
