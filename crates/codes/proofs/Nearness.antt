-- Near codewords. Two codewords differ in at most wrong + wrong' + marks positions: at an unmarked one, one of the two is wrong.
-- So where their sums 2·wrong + marks add up to at most 15 they differ in at most seven positions and are one: at most one codeword is
-- near, and a codeword whose sum is 8 keeps every other from being near.
-- The marked bits filled with zeros, and with ones, give two words whose distances from a codeword add up to its sum: a position that is
-- wrong counts in both, a marked one in just one of them. So one of the two is within three positions of a near codeword.
-- The ones of a number are those of its columns, so that wrong and marks can be counted on numbers.
use Rattle.std.proofs.Common.{◌≡◌, ℕ, ◌+◌, ◌*◌, ◌^◌, ◌<◌, ◌≤◌, Bool, true, not, ◌&&◌, ◌||◌, List, [], ◌∷◌, length, sym, refl, ap, ◌∙◌, ap₂, arith}
use lib.Bits.{bit_and, bit_xor, bit_or}
use lib.Count.{ones_cat}
use lib.Count as count
use Rattle.symbols.specs.Symbol.{◌⊻◌}
use Rattle.symbols.specs.Column.{Column, column, one, weight, ◌⊕◌, column_of, column_number}
use Rattle.symbols.proofs.Every.{bits, columns as all_columns, ◌⊗◌, law, law_le, number_discrete}
use Rattle.symbols.proofs.Claims.{weights}
use Rattle.codes.specs.Digits.{columns, number_of}
use Rattle.codes.specs.Projection.{Projection, width}
use Rattle.codes.specs.Word.{word, ◌⊞◌, is_codeword, weight_of, distance}
use Rattle.codes.specs.Correction.{outside_in, outside, wrong, inside_in, inside, marked_wrong, ones}
use Rattle.codes.proofs.Digits.{columns_fit, number_lt, pow_mul}
use Rattle.codes.proofs.Words.{length_word, same_length, codeword_parity}
use Rattle.codes.proofs.Distance.{Apart, close_same}
use Rattle.codes.proofs.Messages.{number_word, word_injective}
use Rattle.codes.proofs.Sums.{zip, or_in, and_in, word_xor, word_or, word_and}

-- two words differ at most in the marked positions and in those, unmarked, where one of them differs from a third: a bit, a column, a word
between_bit : (a b w m : Bool) → one (a ⊻ b) ≤ one ((a ⊻ w) && not m) + one ((b ⊻ w) && not m) + one m
between_bit a b w m =
    law_le (bits ⊗ bits ⊗ bits ⊗ bits) (λ (a, (b, (w, m))). one (a ⊻ b))
    (λ (a, (b, (w, m))). one ((a ⊻ w) && not m) + one ((b ⊻ w) && not m) + one m) tt (a, (b, (w, m)))

between_column : (a b w m : Column) → weight (a ⊕ b) ≤ outside_in (a ⊕ w) m + outside_in (b ⊕ w) m + weight m
between_column (column a b c d) (column a' b' c' d') (column w x y z) (column k l m n) =
    omega (arith, between_bit a a' w k, between_bit b b' x l, between_bit c c' y m, between_bit d d' z n)

between : (a b w m : List Column) → length a ≡ length w → length b ≡ length w → length m ≡ length w →
    distance a b ≤ outside (a ⊞ w) m + outside (b ⊞ w) m + weight_of m
between [] b w m ea eb em = omega arith
between (a ∷ xs) [] w m ea eb em = omega arith
between (a ∷ xs) (b ∷ ys) [] m ea eb em = absurd (omega arith)
between (a ∷ xs) (b ∷ ys) (w ∷ ws) [] ea eb em = absurd (omega arith)
between (a ∷ xs) (b ∷ ys) (w ∷ ws) (m ∷ ms) ea eb em =
    omega (arith, between_column a b w m, between xs ys ws ms (omega arith) (omega arith) (omega arith))

-- what has to be at most 7 for a codeword to be near
abbrev pub sum : Projection → ℕ → ℕ → ℕ → ℕ
sum π w m x = 2 * wrong π w m x + ones π m

-- two codewords whose sums come to at most 15 are one
pub one_codeword : (π : Projection) → Apart π → (w m x y : ℕ) → x < 2 ^ width π → y < 2 ^ width π →
    is_codeword π (word π x) ≡ true → is_codeword π (word π y) ≡ true → sum π w m x + sum π w m y ≤ 15 → x ≡ y
one_codeword π far w m x y hx hy kx ky h =
    let p = codeword_parity π (word π x) kx in
    let q = codeword_parity π (word π y) ky in
    let near = between (word π x) (word π y) (word π w) (word π m) (same_length π x w) (same_length π y w) (same_length π m w) in
    word_injective π x y hx hy
    (close_same π far p.0 q.0 (word π x) (word π y) (length_word π x) (length_word π y) p.1 q.1 (omega arith))

-- the word w with its marked bits filled with zeros, and with ones: the distances from c
filled_bit : (c w m : Bool) → one ((w || m) ⊻ m ⊻ c) + one ((w || m) ⊻ c) ≡ 2 * one ((c ⊻ w) && not m) + one m
filled_bit c w m =
    law (bits ⊗ bits ⊗ bits) number_discrete (λ (c, (w, m)). one ((w || m) ⊻ m ⊻ c) + one ((w || m) ⊻ c))
    (λ (c, (w, m)). 2 * one ((c ⊻ w) && not m) + one m) tt (c, (w, m))

filled_column : (c w m : Column) → weight (or_in w m ⊕ m ⊕ c) + weight (or_in w m ⊕ c) ≡ 2 * outside_in (c ⊕ w) m + weight m
filled_column (column a b c d) (column w x y z) (column k l m n) =
    omega (arith, filled_bit a w k, filled_bit b x l, filled_bit c y m, filled_bit d z n)

filled_list : (c w m : List Column) → length c ≡ length w → length m ≡ length w →
    distance (zip or_in w m ⊞ m) c + distance (zip or_in w m) c ≡ 2 * outside (c ⊞ w) m + weight_of m
filled_list [] [] [] e g = refl
filled_list [] [] (m ∷ ms) e g = absurd (omega arith)
filled_list [] (w ∷ ws) m e g = absurd (omega arith)
filled_list (c ∷ cs) [] m e g = absurd (omega arith)
filled_list (c ∷ cs) (w ∷ ws) [] e g = absurd (omega arith)
filled_list (c ∷ cs) (w ∷ ws) (m ∷ ms) e g = omega (arith, filled_column c w m, filled_list cs ws ms (omega arith) (omega arith))

pub filled : (π : Projection) (w m x : ℕ) →
    distance (word π (bit_xor (bit_or w m) m)) (word π x) + distance (word π (bit_or w m)) (word π x) ≡ sum π w m x
filled π w m x =
    rw (word_xor π (bit_or w m) m, word_or π w m) (filled_list (word π x) (word π w) (word π m) (same_length π x w) (same_length π m w))

-- the ones outside the marks, with the marks set and taken away again
outside_bit : (a m : Bool) → one ((a || m) ⊻ m) ≡ one (a && not m)
outside_bit a m = law (bits ⊗ bits) number_discrete (λ (a, m). one ((a || m) ⊻ m)) (λ (a, m). one (a && not m)) tt (a, m)

outside_column : (c m : Column) → weight (or_in c m ⊕ m) ≡ outside_in c m
outside_column (column a b c d) (column k l m n) = omega (arith, outside_bit a k, outside_bit b l, outside_bit c m, outside_bit d n)

outside_list : (c m : List Column) → weight_of (zip or_in c m ⊞ m) ≡ outside c m
outside_list [] m = refl
outside_list (c ∷ cs) [] = refl
outside_list (c ∷ cs) (m ∷ ms) = ap₂ ◌+◌ (outside_column c m) (outside_list cs ms)

-- the ones of a number are those of its columns
count_column : (c : Column) → count.ones (column_number c) ≡ weight c
unfolding count.ones count.ones_in
count_column c = law all_columns number_discrete (λ c. count.ones (column_number c)) weight tt c

count_number : (cs : List Column) → count.ones (number_of columns cs) ≡ weight_of cs
count_number [] = count_column (column_of 0)
count_number (c ∷ cs) =
    let power : 16 ^ length cs ≡ 2 ^ (4 * length cs) = pow_mul 2 4 (length cs) in
    rw power
    (ones_cat (4 * length cs) (column_number c) (number_of columns cs) (rw (← power) (number_lt columns columns_fit cs))
    ∙ ap₂ ◌+◌ (count_column c) (count_number cs))

pub count_ones : (π : Projection) (x : ℕ) → x < 2 ^ width π → count.ones x ≡ ones π x
count_ones π x h = ap count.ones (sym (number_word π x h)) ∙ count_number (word π x)

-- the ones that are left are as many as positions are wrong
pub ones_outside : (π : Projection) (a m : ℕ) → ones π (bit_xor (bit_or a m) m) ≡ outside (word π a) (word π m)
ones_outside π a m = rw (word_xor π (bit_or a m) m, word_or π a m) (outside_list (word π a) (word π m))

pub ones_wrong : (π : Projection) (w m x : ℕ) → ones π (bit_xor (bit_or (bit_xor x w) m) m) ≡ wrong π w m x
ones_wrong π w m x = ones_outside π (bit_xor x w) m ∙ ap (λ d. outside d (word π m)) (word_xor π x w)

-- the ones that a difference shares with the marks are as many as marked positions are wrong
inside_list : (c m : List Column) → weight_of (zip and_in c m) ≡ inside c m
inside_list [] m = refl
inside_list (c ∷ cs) [] = refl
inside_list (c ∷ cs) (m ∷ ms) = ap₂ ◌+◌ (inside_column c m) (inside_list cs ms)
  where
    inside_column : (c m : Column) → weight (and_in c m) ≡ inside_in c m
    inside_column (column a b c d) (column k l m n) = refl

pub ones_inside : (π : Projection) (a m : ℕ) → ones π (bit_and a m) ≡ inside (word π a) (word π m)
ones_inside π a m = rw (word_and π a m) (inside_list (word π a) (word π m))

pub ones_marked_wrong : (π : Projection) (w m x : ℕ) → ones π (bit_and (bit_xor x w) m) ≡ marked_wrong π w m x
ones_marked_wrong π w m x = ones_inside π (bit_xor x w) m ∙ ap (λ d. inside d (word π m)) (word_xor π x w)

-- a word has no more ones than bits
weight_length : (cs : List Column) → weight_of cs ≤ 4 * length cs
weight_length [] = omega arith
weight_length (c ∷ cs) = omega (arith, weights.most c, weight_length cs)

pub ones_le : (π : Projection) (x : ℕ) → ones π x ≤ width π
ones_le π x = omega (arith, weight_length (word π x), length_word π x)

pub wrong_le : (π : Projection) (w m x : ℕ) → wrong π w m x ≤ width π
wrong_le π w m x = omega (arith, ones_wrong π w m x, ones_le π (bit_xor (bit_or (bit_xor x w) m) m))
