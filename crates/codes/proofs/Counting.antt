-- What is counted of words column by column is a number of positions. A word's columns are counted from the first on, and the four positions of a column
-- stand before those of the next. The ones outside some marks, and those inside them, are the ones of words that 'xor', 'or' and 'and' make of numbers
-- ('Nearness'), and the bit at a position of such a word is what the operation makes of the two bits there. A difference is such a word, too.
use Rattle.std.proofs.Common.{◌≡◌, ℕ, zero, suc, ◌+◌, ◌-◌, ◌*◌, ◌/◌, ◌%◌, ◌^◌, Bool, not, ◌&&◌, ◌||◌, T, eqb, sym, refl, ap, ◌∙◌, ap₂, mod-lt, arith, lit<, shr-shr}
use mathlib.Core.Bool.{Bool-discrete}
use lib.Bits.{bit_and, bit_xor, bit_or}
use Rattle.symbols.specs.Symbol.{◌⊻◌, has_bit}
use Rattle.symbols.specs.Column.{one}
use Rattle.symbols.proofs.Every.{bits, ◌⊗◌, law, below, passes, law_below_both, number_discrete}
use Rattle.codes.specs.Digits.{columns, digits}
use Rattle.codes.specs.Projection.{Projection, size, width}
use Rattle.codes.specs.Word.{word, bit_at, weight_of, distance}
use Rattle.codes.specs.Correction.{outside, inside, wrong, marked_wrong, ones}
use Rattle.codes.specs.Claims.{is_one, differ_at, how_many, PositionsCounted}
use Rattle.codes.proofs.Digits.{pow_mul}
use Rattle.codes.proofs.Sums.{word_xor, Bitwise, xor_bitwise, or_bitwise, and_bitwise}
use Rattle.codes.proofs.Nearness.{ones_outside, ones_inside}

-- ---- tests of positions

-- tests that agree count alike
alike : (f g : ℕ → Bool) → ((p : ℕ) → f p ≡ g p) → (n : ℕ) → how_many f n ≡ how_many g n
alike f g same zero = refl
alike f g same (suc n) = ap₂ ◌+◌ (ap one (same 0)) (alike (λ p. f (suc p)) (λ p. g (suc p)) (λ p. same (suc p)) n)

-- what passes one test passes a second one or doesn't
split_bit : (a k : Bool) → one (a && not k) + one (a && k) ≡ one a
split_bit a k = law (bits ⊗ bits) number_discrete (λ (a, k). one (a && not k) + one (a && k)) (λ (a, k). one a) tt (a, k)

split : (f g : ℕ → Bool) (n : ℕ) → how_many (λ p. f p && not (g p)) n + how_many (λ p. f p && g p) n ≡ how_many f n
split f g zero = refl
split f g (suc n) = omega (arith, split_bit (f 0) (g 0), split (λ p. f (suc p)) (λ p. g (suc p)) n)

-- ---- the ones of a word

-- whether a number of k bits has a one at a position
abbrev bit_of : ℕ → ℕ → ℕ → Bool
bit_of k n p = eqb (n / 2 ^ (k - 1 - p) % 2) 1

-- a bit of the column that has k columns behind it
column_bit : (n k r : ℕ) → has_bit r (n / 16 ^ k) ≡ eqb (n / 2 ^ (4 * k + r) % 2) 1
column_bit n k r = rw (pow_mul 2 4 k, shr-shr n (4 * k) r)

columns_counted : (k n : ℕ) → weight_of (digits columns k n) ≡ how_many (bit_of (4 * k) n) (4 * k)
columns_counted zero n = refl
columns_counted (suc k) n =
    let f = bit_of (4 * suc k) n in
    let row : (p r : ℕ) → 4 * suc k - 1 - p ≡ 4 * k + r → one (has_bit r (n / 16 ^ k)) ≡ one (bit_of (4 * suc k) n p) =
    λ p r e. rw (e, column_bit n k r) in
    let behind : (p : ℕ) → bit_of (4 * suc k) n (suc (suc (suc (suc p)))) ≡ bit_of (4 * k) n p = λ p. ap (λ i. eqb (n / 2 ^ i % 2) 1) (omega arith) in
    let four_more : 4 * suc k ≡ suc (suc (suc (suc (4 * k)))) = omega arith in
    omega (
      arith,
      row 0 3 (omega arith),
      row 1 2 (omega arith),
      row 2 1 (omega arith),
      row 3 0 (omega arith),
      columns_counted k n,
      alike (λ p. f (suc (suc (suc (suc p))))) (bit_of (4 * k) n) behind (4 * k),
      ap (how_many f) four_more,
    )

module _ (π : Projection) where
  ones_counted : (n : ℕ) → ones π n ≡ how_many (is_one π n) (width π)
  ones_counted n = columns_counted (size π) n

  -- ---- the bits of a word that an operation makes

  bit_made : (op : ℕ → ℕ → ℕ) → Bitwise op → (f : Bool → Bool → Bool)
      → T (below 2 (λ a. below 2 (λ b. passes (Bool-discrete (eqb (op a b) 1) (f (eqb a 1) (eqb b 1))))))
      → (a b p : ℕ) → is_one π (op a b) p ≡ f (is_one π a p) (is_one π b p)
  bit_made op bitwise f test a b p =
      let k = width π - 1 - p in
      ap (λ x. eqb (x % 2) 1) (bitwise.quotient a b k)
      ∙ ap (λ x. eqb x 1) (bitwise.remainder (a / 2 ^ k) (b / 2 ^ k) 1)
      ∙ law_below_both 2 Bool-discrete (λ a b. eqb (op a b) 1) (λ a b. f (eqb a 1) (eqb b 1)) test
      (a / 2 ^ k % 2) (b / 2 ^ k % 2) (mod-lt (a / 2 ^ k) (lit< tt)) (mod-lt (b / 2 ^ k) (lit< tt))

  differing : (w x p : ℕ) → is_one π (bit_xor x w) p ≡ differ_at π w x p
  differing w x p =
      bit_made bit_xor xor_bitwise ◌⊻◌ tt x w p
      ∙ law_below_both 2 Bool-discrete (λ b a. eqb b 1 ⊻ eqb a 1) (λ b a. not (eqb a b)) tt
      (bit_at π x p) (bit_at π w p) (mod-lt _ (lit< tt)) (mod-lt _ (lit< tt))

  left : (a m p : ℕ) → is_one π (bit_xor (bit_or a m) m) p ≡ is_one π a p && not (is_one π m p)
  left a m p =
      rw (bit_made bit_xor xor_bitwise ◌⊻◌ tt (bit_or a m) m p, bit_made bit_or or_bitwise ◌||◌ tt a m p)
      (law (bits ⊗ bits) Bool-discrete (λ (a, m). (a || m) ⊻ m) (λ (a, m). a && not m) tt (is_one π a p, is_one π m p))

  shared : (a m p : ℕ) → is_one π (bit_and a m) p ≡ is_one π a p && is_one π m p
  shared a m p = bit_made bit_and and_bitwise ◌&&◌ tt a m p

  -- ---- what is counted

  outside_counted : (a m : ℕ) → outside (word π a) (word π m) ≡ how_many (λ p. is_one π a p && not (is_one π m p)) (width π)
  outside_counted a m = sym (ones_outside π a m) ∙ ones_counted (bit_xor (bit_or a m) m) ∙ alike _ _ (left a m) (width π)

  inside_counted : (a m : ℕ) → inside (word π a) (word π m) ≡ how_many (λ p. is_one π a p && is_one π m p) (width π)
  inside_counted a m = sym (ones_inside π a m) ∙ ones_counted (bit_and a m) ∙ alike _ _ (shared a m) (width π)

  distance_counted : (w x : ℕ) → distance (word π x) (word π w) ≡ how_many (differ_at π w x) (width π)
  distance_counted w x = ap weight_of (sym (word_xor π x w)) ∙ ones_counted (bit_xor x w) ∙ alike _ _ (differing w x) (width π)

  module _ (w m x : ℕ) where
    wrong_counted : wrong π w m x ≡ how_many (λ p. differ_at π w x p && not (is_one π m p)) (width π)
    wrong_counted =
        ap (λ d. outside d (word π m)) (sym (word_xor π x w))
        ∙ outside_counted (bit_xor x w) m
        ∙ alike _ _ (λ p. ap (λ d. d && not (is_one π m p)) (differing w x p)) (width π)

    marked_wrong_counted : marked_wrong π w m x ≡ how_many (λ p. differ_at π w x p && is_one π m p) (width π)
    marked_wrong_counted =
        ap (λ d. inside d (word π m)) (sym (word_xor π x w))
        ∙ inside_counted (bit_xor x w) m
        ∙ alike _ _ (λ p. ap (λ d. d && is_one π m p) (differing w x p)) (width π)

    each_once : wrong π w m x + marked_wrong π w m x ≡ distance (word π x) (word π w)
    each_once = omega (arith, wrong_counted, marked_wrong_counted, distance_counted w x, split (differ_at π w x) (is_one π m) (width π))

pub positions_counted : PositionsCounted
positions_counted =
    record {
      unmarked = wrong_counted;
      marks = ones_counted;
      marked = marked_wrong_counted;
      differing = distance_counted;
      all = each_once;
      in_first_alone = outside_counted;
      in_both = inside_counted;
    }
