-- Seeking: the columns that lack the parity p, from the first to the last.
-- A column that lacks the parity differs from the codeword's in a row, so with one of its four rows inverted the word is a position nearer,
-- and the column has the parity. With one such column left, just the row that makes syndrome and top row right gives a codeword one position
-- away. Where more than three columns lack the parity, no codeword is within three positions; of seven columns or more, that is so of one of
-- the two parities, and a codeword within three positions has the other.
use Rattle.std.specs.Prelude.{Option, None, Some}
use Rattle.std.proofs.Common.{◌≡◌, ℕ, zero, suc, ◌-◌, ◌/◌, ◌^◌, ◌<◌, ◌≤◌, Bool, true, false, not, eqb, ltb, List, [], ◌∷◌, length, get_or, sym, refl, ap, ◌∙◌, ap₂, arith, ltb→lt, ltb-false, ltb-true, ne_eqb, eqb-true}
use mathlib.Core.Bool.{Bool-discrete, false≢true}
use borrow.Author.Tests.{eqb-false}
use lib.Bits.{bit_xor, xor_add_and, and_le_l, and_le_r, xor_self as xor_same}
use Rattle.symbols.specs.Symbol.{◌⊻◌, s0, Symbol-discrete, symbol_of}
use Rattle.symbols.specs.Column.{Column, value, parity, top, weight, ◌⊕◌}
use Rattle.symbols.proofs.Every.{law_below, at_below, number_discrete}
use Rattle.symbols.proofs.Claims.{exclusive_or, columns_add}
use Rattle.codes.specs.declared.code.Code.{Code}
use Rattle.codes.specs.declared.search.Trial.{Trial}
use Rattle.codes.specs.declared.word.Walk.{Walk}
use Rattle.codes.specs.Vector.{scale}
use Rattle.codes.specs.Digits.{mask}
use Rattle.codes.specs.Projection.{Projection, wanted, count, size, width}
use Rattle.codes.specs.Word.{word, all_parity, is_codeword_of, is_codeword}
use Rattle.codes.specs.Codes.{projection}
use Rattle.codes.specs.Claims.{WalkCollects}
use Rattle.codes.specs.ContractsOfWalk.{multiple}
use Rattle.codes.specs.ContractsOfSearch.{lacking, first, cleared, inverted, row_inverted, Left, Begun}
use Rattle.codes.specs.ContractsOfSearch.{Within, Sought, Solved}
use Rattle.codes.proofs.Walks.{collected}
use Rattle.codes.proofs.Masks.{first_lt, length_lacking}
use Rattle.codes.proofs.Sums.{zero_number}
use Rattle.codes.proofs.Words.{length_word, same_length, parity_first, parity_rest}
use Rattle.codes.proofs.Words.{Codeword, codeword_parts, codeword_passes, is_codeword_lem, codeword_parity}
use Rattle.codes.proofs.Flips.{blank, invert, row_column, nearer, word_inverted}
use Rattle.codes.proofs.Differences.{lacks, lacks_distance, lacks_both, lacks_none}
use Rattle.codes.proofs.Entries.{scale_zero}
use Rattle.codes.proofs.Searches.{Searchable, inverted_trial, known_inverted, inverted_nearer_by}
use Rattle.codes.proofs.Syndromes.{xor_equal, zero_here, zero_off, none_within_one}

-- the column with a one in row r alone: its value is the row's symbol, and its top bit is one where r is 0
row_value : (r : ℕ) → r < 4 → value (row_column r) ≡ symbol_of r
row_value r h = law_below 4 Symbol-discrete (λ r. value (row_column r)) symbol_of tt r h

row_top : (r : ℕ) → r < 4 → top (row_column r) ≡ eqb r 0
row_top r h = law_below 4 Bool-discrete (λ r. top (row_column r)) (λ r. eqb r 0) tt r h

row_odd : (r : ℕ) → r < 4 → parity (row_column r) ≡ true
row_odd r h = law_below 4 Bool-discrete (λ r. parity (row_column r)) (λ r. true) tt r h

row_one : (r : ℕ) → r < 4 → weight (row_column r) ≡ 1
row_one r h = law_below 4 number_discrete (λ r. weight (row_column r)) (λ r. 1) tt r h

pub row_small : (r : ℕ) → r < 4 → 8 / 2 ^ r < 16
row_small r h = ltb→lt (8 / 2 ^ r) 16 (at_below 4 (λ r. ltb (8 / 2 ^ r) 16) tt r h)

-- each column of a word of one parity has it
parity_at : (p : Bool) (cs : List Column) (j : ℕ) → all_parity p cs ≡ true → j < length cs → parity (get_or cs j blank) ≡ p
parity_at p [] j t h = absurd (omega arith)
parity_at p (c ∷ cs) zero t h = parity_first p c cs t
parity_at p (c ∷ cs) (suc j) t h = parity_at p cs j (parity_rest p c cs t) (omega arith)

-- the first column that lacks the parity lacks it
first_lacks : (p : Bool) (cs : List Column) → 0 < lacks p cs → p ⊻ parity (get_or cs (first (lacking p cs)) blank) ≡ true
first_lacks p [] h = absurd (omega arith)
first_lacks p (c ∷ cs) h = go (p ⊻ parity c) refl h (first_lacks p cs)
  where
    go : (b : Bool) → p ⊻ parity c ≡ b → 0 < count (b ∷ lacking p cs) →
        (0 < lacks p cs → p ⊻ parity (get_or cs (first (lacking p cs)) blank) ≡ true) →
        p ⊻ parity (get_or (c ∷ cs) (first (b ∷ lacking p cs)) blank) ≡ true
    go true e h rest = e
    go false e h rest = rest h

-- with an odd number of its bits inverted it has the parity, and the others are as they were
cleared_invert : (p : Bool) (q : Column) (cs : List Column) → parity q ≡ true →
    lacking p (invert (first (lacking p cs)) q cs) ≡ cleared (lacking p cs)
cleared_invert p q [] e = refl
cleared_invert p q (c ∷ cs) e = go (p ⊻ parity c) refl (cleared_invert p q cs e)
  where
    go : (b : Bool) → p ⊻ parity c ≡ b → lacking p (invert (first (lacking p cs)) q cs) ≡ cleared (lacking p cs) →
        lacking p (invert (first (b ∷ lacking p cs)) q (c ∷ cs)) ≡ cleared (b ∷ lacking p cs)
    go true t rest =
        let has : p ⊻ parity (c ⊕ q) ≡ false = rw (columns_add.parities c q, e, ← exclusive_or.assoc p (parity c) true, t) in
        ap (λ b. b ∷ lacking p cs) has
    go false t rest = ap₂ ◌∷◌ t rest

-- a trial whose column j is the first that lacks the parity
module _ {π : Projection} {p : Bool} {j : ℕ} {js : List ℕ} {t : Trial} (left : Left π p (j ∷ js) t) where
  abbrev x : ℕ
  x = t.word

  inside_word : j < length (word π t.word)
  inside_word = omega (arith, left.places.1, first_lt (lacking p (word π x)) left.places.0, length_lacking p (word π x))

  inside : j < size π
  inside = omega (arith, inside_word, length_word π x)

  lack : p ⊻ parity (get_or (word π t.word) j blank) ≡ true
  lack = rw left.places.1 (first_lacks p (word π x) left.places.0)

  -- with row r of it inverted the other columns are left
  pub row_left : Searchable π → (r : ℕ) → r < 4 → Left π p js (row_inverted π t j r)
  row_left code r hr =
      let q = 8 / 2 ^ r in
      let trial : row_inverted π t j r ≡ inverted_trial π t j q = rw (row_value r hr, row_top r hr) in
      let columns : word π (inverted π x j q) ≡ invert (first (lacking p (word π x))) (row_column r) (word π x) =
      word_inverted π x j q inside (row_small r hr) ∙ ap (λ n. invert n (row_column r) (word π x)) left.places.1 in
      record {
        known = rw trial (known_inverted code left.known j q inside (row_small r hr));
        places = rw (columns, cleared_invert p (row_column r) (word π x) (row_odd r hr)) left.places.2;
      }

  -- a codeword that is within k positions is within k - 1 with one of the rows inverted
  pub row_none : (k : ℕ) → 1 ≤ k →
      ((r : ℕ) → r < 4 → (y : ℕ) → Within π (is_codeword_of π p) (k - 1) (inverted π t.word j (8 / 2 ^ r)) y → ⊥) →
      (y : ℕ) → Within π (is_codeword_of π p) k t.word y → ⊥
  row_none k h none y w =
      let c = codeword_parts π p (word π y) w.passes in
      let differ : parity (get_or (word π x) j blank) ⊻ parity (get_or (word π y) j blank) ≡ true =
      rw (parity_at p (word π y) j c.parities (omega (arith, inside, length_word π y)), exclusive_or.comm (parity (get_or (word π x) j blank)) p) lack in
      let near = nearer j (word π x) (word π y) (same_length π x y) inside_word differ in
      let r = near.0 in
      none r near.1 y
      (record {
        fits = w.fits;
        passes = w.passes;
        close = rw (word_inverted π x j (8 / 2 ^ r) inside (row_small r near.1)) (omega (arith, near.2, w.close));
      })

  -- what was found with a row inverted is at most one position further
  pub row_found : (k r y : ℕ) → 1 ≤ k → r < 4 → Within π (is_codeword_of π p) (k - 1) (inverted π t.word j (8 / 2 ^ r)) y →
      Within π (is_codeword_of π p) k t.word y
  row_found k r y h hr w =
      record {
        fits = w.fits;
        passes = w.passes;
        close = omega (arith, w.close, inverted_nearer_by π x y j (8 / 2 ^ r) inside (row_small r hr), row_one r hr);
      }

-- what solves the trial with a row of column j inverted solves the trial, and none does where none does with any of the four
module _ {π : Projection} {j : ℕ} {js : List ℕ} {k : ℕ} {t : Trial} (code : Searchable π) where
  pub found_by_row : {y : ℕ} (row : ℕ) → row < 4 → Solved π js k (row_inverted π t j row) (Some y) → Solved π (j ∷ js) (suc k) t (Some y)
  found_by_row {y} row hr solved n l h p left =
      row_found left n row y (omega arith) hr (solved (n - 1) (omega arith) (omega arith) p (row_left left code row hr))

  pub none_by_row : ((row : ℕ) → row < 4 → Solved π js k (row_inverted π t j row) None) → Solved π (j ∷ js) (suc k) t None
  none_by_row none n l h p left =
      row_none left n (omega arith) (λ row hr. none row hr (n - 1) (omega arith) (omega arith) p (row_left left code row hr))

-- what is within one position is within three and four
pub further : {π : Projection} {js : List ℕ} {t : Trial} {y : ℕ} → Solved π js 1 t (Some y) → Solved π js 3 t (Some y)
further solved k l h p left =
    let w = solved 1 (omega arith) (omega arith) p left in
    record { fits = w.fits; passes = w.passes; close = omega (arith, w.close) }

-- where one column is left, just the row that makes the syndrome and the top row right gives a codeword
xor_zero : (m n : ℕ) → bit_xor m n ≡ 0 → m ≡ n
xor_zero m n e = omega (arith, xor_add_and m n, and_le_l m n, and_le_r m n)

later : (r : ℕ) → eqb (suc r) 0 ≡ false
later r = ne_eqb (suc r) 0 (λ e. absurd (omega arith))

multiple_zero : (π : Projection) (j : ℕ) → multiple π j s0 ≡ 0
multiple_zero π j = zero_number (scale s0 (get_or π.matrix j [])) (scale_zero (get_or π.matrix j []))

-- row r of column j makes both right
abbrev Right : Projection → ℕ → Trial → ℕ → Type 0
Right π j t r = (t.syndrome ≡ multiple π j (symbol_of r)) × (t.off ≡ eqb r 0)

module _ {π : Projection} (code : Searchable π) {j : ℕ} {t : Trial} where
  last_found : (r : ℕ) → r < 4 → Right π j t r → Solved π (j ∷ []) 1 t (Some (inverted π t.word j (8 / 2 ^ r)))
  last_found r hr (es, eo) k l h p left =
      let next = row_left left code r hr in
      let here =
      zero_here next.known (lacks_none p (word π (row_inverted π t j r).word) next.places) (k - 1)
      (rw es (xor_same (multiple π j (symbol_of r)))) (rw eo (exclusive_or.self (eqb r 0))) in
      row_found left k r (row_inverted π t j r).word l hr here

  row_fails : (r : ℕ) → r < 4 → (Right π j t r → ⊥) → (k : ℕ) → 1 ≤ k → k ≤ 2 → (p : Bool) → Left π p (j ∷ []) t →
      (y : ℕ) → Within π (is_codeword_of π p) (k - 1) (inverted π t.word j (8 / 2 ^ r)) y → ⊥
  row_fails r hr fails k l h p left = go (eqb (row_inverted π t j r).syndrome 0) refl (row_inverted π t j r).off refl
    where
      next : Left π p [] (row_inverted π t j r)
      next = row_left left code r hr

      par : all_parity p (word π (row_inverted π t j r).word) ≡ true
      par = lacks_none p (word π (row_inverted π t j r).word) next.places

      go : (z : Bool) → eqb (row_inverted π t j r).syndrome 0 ≡ z → (o : Bool) → (row_inverted π t j r).off ≡ o →
          (y : ℕ) → Within π (is_codeword_of π p) (k - 1) (row_inverted π t j r).word y → ⊥
      go false ez o eo = none_within_one next.known par (k - 1) (eqb-false (row_inverted π t j r).syndrome 0 ez) (omega arith)
      go true ez true eo = zero_off next.known par (k - 1) code (eqb-true (row_inverted π t j r).syndrome 0 ez) eo (omega arith)
      go true ez false eo =
          absurd (fails (xor_zero t.syndrome (multiple π j (symbol_of r)) (eqb-true (row_inverted π t j r).syndrome 0 ez), xor_equal t.off (eqb r 0) eo))

  last_none : ((r : ℕ) → r < 4 → Right π j t r → ⊥) → Solved π (j ∷ []) 1 t None
  last_none fail k l h p left = row_none left k l (λ r hr. row_fails r hr (fail r hr) k l h p left)

  -- the top row is off: it is row 0 or none; it is not: it is one of the others
  pub last_top : t.off ≡ true → t.syndrome ≡ 0 → Solved π (j ∷ []) 1 t (Some (inverted π t.word j 8))
  last_top eo es = last_found 0 (omega arith) (es ∙ sym (multiple_zero π j), eo)

  pub last_off : t.off ≡ true → (t.syndrome ≡ 0 → ⊥) → Solved π (j ∷ []) 1 t None
  last_off eo n = last_none fail
    where
      fail : (r : ℕ) → r < 4 → Right π j t r → ⊥
      fail zero h (e, o) = n (e ∙ multiple_zero π j)
      fail (suc r) h (e, o) = false≢true (sym (o ∙ later r) ∙ eo)

  pub last_row : (r : ℕ) → t.off ≡ false → 1 ≤ r → r < 4 → t.syndrome ≡ multiple π j (symbol_of r) →
      Solved π (j ∷ []) 1 t (Some (inverted π t.word j (8 / 2 ^ r)))
  last_row zero eo l h es = absurd (omega arith)
  last_row (suc r) eo l h es = last_found (suc r) h (es, eo ∙ sym (later r))

  pub last_others : t.off ≡ false → ((r : ℕ) → r < 4 → 1 ≤ r → t.syndrome ≡ multiple π j (symbol_of r) → ⊥) → Solved π (j ∷ []) 1 t None
  last_others eo none = last_none fail
    where
      fail : (r : ℕ) → r < 4 → Right π j t r → ⊥
      fail zero h (e, o) = false≢true (sym eo ∙ o)
      fail (suc r) h (e, o) = none (suc r) h (omega arith) e

-- what the walk hands on begins the search
pub begun : (c : Code) (p : Bool) (x d : ℕ) (walk : Walk) (off : Bool) → x < 2 ^ width (projection c) → d ≡ mask (lacking p (word (projection c) x)) →
    WalkCollects c x walk → off ≡ walk.top ⊻ wanted (projection c).rule p →
    Begun (projection c) p d (record { code = c; word = x; syndrome = walk.syndrome; off = off })
begun c p x d walk off fits masks collects eo =
    record {
      known =
          record {
            fits = fits;
            syndromes = (collected c x walk collects).syndromes;
            bounded = collects.bounded;
            tops = rw (eo, collects.top);
          };
      masks = masks;
    }

-- where more than three columns lack the parity, no codeword is within three positions
pub too_many : (π : Projection) (p : Bool) (x : ℕ) → 3 < lacks p (word π x) → (y : ℕ) → Within π (is_codeword_of π p) 3 x y → ⊥
too_many π p x h y w =
    omega (arith, w.close, lacks_distance p (word π x) (word π y) (same_length π x y) (codeword_parts π p (word π y) w.passes).parities)

-- a word that is close, by another test that it passes
within_by : {π : Projection} {test test' : List Column → Bool} {k x y : ℕ} → Within π test k x y → test' (word π y) ≡ true → Within π test' k x y
within_by w e = record { fits = w.fits; passes = e; close = w.close }

-- a codeword of one parity is one, and it is the answer where none of the other parity is close
sought_parity : {π : Projection} {k x : ℕ} (p : Bool) → ((y : ℕ) → Within π (is_codeword_of π (not p)) k x y → ⊥) →
    (r : Option ℕ) → Sought (Within π (is_codeword_of π p) k x) r → Sought (Within π (is_codeword π) k x) r
sought_parity {π} {k} {x} p other (Some y) w = within_by w (is_codeword_lem π p (word π y) (codeword_parts π p (word π y) w.passes))
sought_parity {π} {k} {x} p other None none = λ y w. go y w (codeword_parity π (word π y) w.passes)
  where
    either : (p q : Bool) (y : ℕ) → Codeword π q (word π y) → (is_codeword_of π (not p) (word π y) ≡ true → ⊥) → is_codeword_of π p (word π y) ≡ true
    either true true y c n = codeword_passes π true (word π y) c
    either true false y c n = absurd (n (codeword_passes π false (word π y) c))
    either false true y c n = absurd (n (codeword_passes π true (word π y) c))
    either false false y c n = codeword_passes π false (word π y) c

    go : (y : ℕ) → Within π (is_codeword π) k x y → (q : Bool) × Codeword π q (word π y) → ⊥
    go y w (q, c) = none y (within_by w (either p q y c (λ e. other y (within_by w e))))

-- where more than three columns are odd the codeword is odd, else it is even
pub sought_majority : {π : Projection} (x : ℕ) → Searchable π → (p : Bool) → p ≡ ltb 3 (lacks false (word π x)) →
    (r : Option ℕ) → Sought (Within π (is_codeword_of π p) 3 x) r → Sought (Within π (is_codeword π) 3 x) r
sought_majority {π} x code true e r sought = sought_parity true (too_many π false x (ltb-true 3 (lacks false (word π x)) (sym e))) r sought
sought_majority {π} x code false e r sought =
    let few = ltb-false 3 (lacks false (word π x)) (sym e) in
    sought_parity false (too_many π true x (omega (arith, lacks_both (word π x), length_word π x, code.wide))) r sought
