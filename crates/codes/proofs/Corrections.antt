-- Mending finds the near codeword, and says that there is none exactly where no codeword is near.
-- The search through the messages stops at one whose codeword is near, or finds none. Each codeword is that of one message and at most
-- one is near, so the message where it stops is that of any near codeword.
-- A near codeword lies within three positions of one of the two fillings of the marked bits; a codeword that lies within three of a
-- filling is the only one that does. So it is enough to look there once for each filling.
use Rattle.std.proofs.Common.{◌≡◌, ℕ, zero, suc, ◌+◌, ◌*◌, ◌^◌, ◌<◌, ◌≤◌, Bool, true, false, cond, leb, ◌⊎◌, List, [], ◌∷◌, length, sym, refl, ap, ◌∙◌, ap₂, inl, inr, ⊎_elim, eq-or-lt_of_le, arith, le-leb, leb-false, leb-true}
use mathlib.Core.Bool.{false≢true}
use mathlib.Core.Option.{none, some}
use borrow.Author.Tests.{lt-leb}
use lib.Bits.{bit_xor, bit_or, xor_zero_r, or_zero_r}
use Rattle.symbols.specs.Column.{Column}
use Rattle.symbols.proofs.Claims.{columns_add}
use Rattle.codes.specs.declared.answer.Correction.{Correction}
use Rattle.codes.specs.Projection.{Projection, width, message_bits}
use Rattle.codes.specs.Word.{word, is_codeword, ◌⊞◌, distance}
use Rattle.codes.specs.Message.{encode, decode}
use Rattle.codes.specs.Correction.{outside, inside, wrong, marked_wrong, ones, is_near, Near, correction_of, near_from, correct}
use Rattle.codes.specs.Codes.{correction_answer, correcting}
use Rattle.codes.specs.ContractsOfSearch.{Within, NearWithin}
use Rattle.codes.proofs.Placing.{Systematic}
use Rattle.codes.proofs.Messages.{encode_below, encode_codeword, decode_below, encode_decode}
use Rattle.codes.proofs.Distance.{Apart}
use Rattle.codes.proofs.Nearness.{sum, one_codeword, filled}
use Rattle.codes.proofs.Sums.{word_xor}
use Rattle.codes.proofs.Words.{same_length}

-- near as a test and as a bound
pub near_sum : (π : Projection) (w m x : ℕ) → is_near π w m x ≡ true → sum π w m x ≤ 7
near_sum π w m x e = leb-true (sum π w m x) 7 e

pub sum_near : (π : Projection) (w m x : ℕ) → sum π w m x ≤ 7 → is_near π w m x ≡ true
sum_near π w m x h = le-leb (sum π w m x) 7 h

module _ (π : Projection) (w m : ℕ) where
  -- the search through n messages from k on stops at one, or finds none
  record Stops (n k : ℕ) : Type 0 where
    at : ℕ
    low : k ≤ at
    high : at < k + n
    close : is_near π w m (encode π at) ≡ true
    gives : near_from π w m n k ≡ some (correction_of π w m (encode π at))

  record Misses (n k : ℕ) : Type 0 where
    empty : (i : ℕ) → k ≤ i → i < k + n → is_near π w m (encode π i) ≡ true → ⊥
    gives : near_from π w m n k ≡ none

  searched : (n k : ℕ) → Stops n k ⊎ Misses n k
  unfolding near_from
  searched zero k = inr (record { empty = λ i a b t. absurd (omega arith); gives = refl })
  searched (suc n) k = go (is_near π w m (encode π k)) refl (searched n (suc k))
    where
      first : {b : Bool} → is_near π w m (encode π k) ≡ b → near_from π w m (suc n) k ≡ cond b (some (correction_of π w m (encode π k))) (near_from π w m n (suc k))
      first e = rw e

      later : (i : ℕ) → is_near π w m (encode π k) ≡ false → is_near π w m (encode π i) ≡ true → k ≤ i → k < i
      later i e t h =
          ⊎_elim (λ (q : k ≡ i). absurd (false≢true (sym e ∙ rw q t))) (λ l. l) (eq-or-lt_of_le h)

      go : (b : Bool) → is_near π w m (encode π k) ≡ b → Stops n (suc k) ⊎ Misses n (suc k) → Stops (suc n) k ⊎ Misses (suc n) k
      go true e s = inl (record { at = k; low = omega arith; high = omega arith; close = e; gives = first e })
      go false e (inl s) =
          inl (record { at = s.at; low = omega (arith, s.low); high = omega (arith, s.high); close = s.close; gives = first e ∙ s.gives })
      go false e (inr s) = inr (record { empty = λ i a b t. s.empty i (later i e t a) (omega arith) t; gives = first e ∙ s.gives })

  -- what mending gives is the codeword of a message of the code, and near
  pub corrected : (r : Correction) → correct π w m ≡ some r →
      (n : ℕ) × (n < 2 ^ message_bits π) × (r ≡ correction_of π w m (encode π n)) × (is_near π w m (encode π n) ≡ true)
  corrected r e = go (searched (2 ^ message_bits π) 0)
    where
      go : Stops (2 ^ message_bits π) 0 ⊎ Misses (2 ^ message_bits π) 0 →
          (n : ℕ) × (n < 2 ^ message_bits π) × (r ≡ correction_of π w m (encode π n)) × (is_near π w m (encode π n) ≡ true)
      go (inl s) = (s.at, omega (arith, s.high), cc s.gives, s.close)
      go (inr s) = let z : ◌≡◌ {A = ℕ} 0 1 = cc s.gives in absurd (omega arith)

  -- what is near and within three positions is a codeword within three
  within_of : (f y : ℕ) → NearWithin π w m 3 f y → Within π (is_codeword π) 3 f y
  within_of f y b = record { fits = b.is.fits; passes = b.is.codeword; close = b.close }

  module _ (sys : Systematic π) (far : Apart π) where
    of_message : (i : ℕ) → is_near π w m (encode π i) ≡ true → Near π w m (encode π i)
    of_message i t = record { fits = encode_below π sys i; codeword = encode_codeword π sys i; near = t }

    -- at most one codeword is near
    pub one_near : (x y : ℕ) → Near π w m x → Near π w m y → x ≡ y
    one_near x y a b =
        one_codeword π far w m x y a.fits b.fits a.codeword b.codeword
        (omega (arith, near_sum π w m x a.near, near_sum π w m y b.near))

    -- where a codeword's sum is 8, none is near
    pub eight_none : (x : ℕ) → x < 2 ^ width π → is_codeword π (word π x) ≡ true → sum π w m x ≡ 8 → (y : ℕ) → Near π w m y → ⊥
    eight_none x hx kx h y b =
        let close = near_sum π w m y b.near in
        let same = one_codeword π far w m x y hx b.fits kx b.codeword (omega arith) in
        omega (arith, ap (sum π w m) same)

    -- mending gives the near codeword; it gives nothing where none is near, and only there
    pub correct_near : (x : ℕ) → Near π w m x → correct π w m ≡ some (correction_of π w m x)
    correct_near x c = go (searched (2 ^ message_bits π) 0)
      where
        go : Stops (2 ^ message_bits π) 0 ⊎ Misses (2 ^ message_bits π) 0 → correct π w m ≡ some (correction_of π w m x)
        go (inl s) =
            let codeword : encode π s.at ≡ x = one_near (encode π s.at) x (of_message s.at s.close) c in
            rw (s.gives, codeword)
        go (inr s) =
            absurd (s.empty (decode π x) (omega arith) (omega (arith, decode_below π sys x c.fits c.codeword))
            (rw (encode_decode π sys x c.fits c.codeword) c.near))

    pub correct_none : ((y : ℕ) → Near π w m y → ⊥) → correct π w m ≡ none
    correct_none empty = go (searched (2 ^ message_bits π) 0)
      where
        go : Stops (2 ^ message_bits π) 0 ⊎ Misses (2 ^ message_bits π) 0 → correct π w m ≡ none
        go (inl s) = absurd (empty (encode π s.at) (of_message s.at s.close))
        go (inr s) = s.gives

    pub none_near_lem : correct π w m ≡ none → (y : ℕ) → Near π w m y → ⊥
    none_near_lem e y c = let given = correct_near y c in let z : ◌≡◌ {A = ℕ} 0 1 = cc in omega arith

    -- a codeword within three positions of a word is the only one
    one_within : (f x y : ℕ) → Within π (is_codeword π) 3 f x → Within π (is_codeword π) 3 f y → x ≡ y
    one_within f x y a b =
        one_codeword π far f 0 x y a.fits b.fits a.passes b.passes
        (omega (arith, a.close, b.close, sum_twice x, sum_twice y))
      where
        sum_twice : (x : ℕ) → sum π f 0 x ≡ 2 * distance (word π f) (word π x)
        sum_twice x =
            let e = filled π f 0 x in
            sym e ∙ rw (xor_zero_r (bit_or f 0), or_zero_r f) (omega arith)

    -- where the codeword within three positions of a filling is not near, no near one is within three
    pub fitting_far : (f x : ℕ) → Within π (is_codeword π) 3 f x → 7 < sum π w m x → (y : ℕ) → NearWithin π w m 3 f y → ⊥
    fitting_far f x a h y b =
        let same = one_within f x y a (within_of f y b) in
        let close = near_sum π w m y b.is.near in
        omega (arith, ap (sum π w m) same)

  -- one of the two fillings is within three positions of a near codeword
  pub neither_filling : ((y : ℕ) → NearWithin π w m 3 (bit_xor (bit_or w m) m) y → ⊥) → ((y : ℕ) → NearWithin π w m 3 (bit_or w m) y → ⊥) →
      (y : ℕ) → Near π w m y → ⊥
  neither_filling zeros ones y c = go (leb (distance (word π (bit_xor (bit_or w m) m)) (word π y)) 3) refl
    where
      go : (b : Bool) → leb (distance (word π (bit_xor (bit_or w m) m)) (word π y)) 3 ≡ b → ⊥
      go true e = zeros y (record { is = c; close = leb-true _ 3 e })
      go false e =
          let far = leb-false (distance (word π (bit_xor (bit_or w m) m)) (word π y)) 3 e in
          ones y (record { is = c; close = omega (arith, near_sum π w m y c.near, filled π w m y) })

  -- under more than seven marks nothing is near
  pub many_marks : 7 < ones π m → (y : ℕ) → Near π w m y → ⊥
  many_marks h y c = omega (arith, near_sum π w m y c.near)

-- in the word that is a codeword with positions f inverted, wrong is the number of those that are not marked, and marked_wrong that of those that are
word_twice : (a b : List Column) → length a ≡ length b → a ⊞ (a ⊞ b) ≡ b
word_twice [] [] e = refl
word_twice [] (b ∷ bs) e = absurd (omega arith)
word_twice (a ∷ xs) [] e = absurd (omega arith)
word_twice (a ∷ xs) (b ∷ bs) e = ap₂ ◌∷◌ (columns_add.twice a b) (word_twice xs bs (omega arith))

differs_inverted : (π : Projection) (x f : ℕ) → word π x ⊞ word π (bit_xor x f) ≡ word π f
differs_inverted π x f = rw (word_xor π x f) (word_twice (word π x) (word π f) (same_length π x f))

pub wrong_inverted : (π : Projection) (m x f : ℕ) → wrong π (bit_xor x f) m x ≡ outside (word π f) (word π m)
wrong_inverted π m x f = rw (differs_inverted π x f)

pub marked_wrong_inverted : (π : Projection) (m x f : ℕ) → marked_wrong π (bit_xor x f) m x ≡ inside (word π f) (word π m)
marked_wrong_inverted π m x f = rw (differs_inverted π x f)

-- what a call answers where no row of the widths is met
pub correcting_fits : (π : Projection) (w m : ℕ) → w < 2 ^ width π → m < 2 ^ width π → correcting π w m ≡ correction_answer (correct π w m)
correcting_fits π w m l h = rw (lt-leb (2 ^ width π) w l, lt-leb (2 ^ width π) m h)
