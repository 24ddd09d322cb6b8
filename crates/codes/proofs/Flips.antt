-- A word with some bits of one column inverted: its number, syndrome, top row, parities, and its distance from another word.
-- Only that column changes, so each is a law of columns at that place. Where a word and another differ in the parity of a column, the
-- column differs in an odd number of rows, so in one at least: with that row inverted the words are one position nearer. As a number, the
-- inverted bits are shifted to the column's place and added by exclusive or.
use Rattle.std.proofs.Common.{◌≡◌, ℕ, zero, suc, ◌+◌, ◌-◌, ◌*◌, ◌/◌, ◌^◌, ◌<◌, ◌≤◌, Bool, true, false, List, [], ◌∷◌, map, length, get_or, sym, refl, ap, ◌∙◌, ap₂, lt_of_lt_of_le, mul-lt-mul_of_pos_right, mul-div_cancel, arith, lit<, pow_mono, shl_lt}
use native.Mathlib.Nat.{div-eq_of_lt, zero-div, mul-mod_left, pow-succ', pow-le-pow_right}
use lib.Bits.{xor_lt}
use Rattle.symbols.specs.Symbol.{◌⊻◌, Symbol}
use Rattle.symbols.specs.Column.{Column, column, value, parity, top, weight, ◌⊕◌, column_of}
use Rattle.symbols.proofs.Every.{columns as all_columns, ◌⊗◌, law_le, law_where, number_discrete}
use Rattle.symbols.proofs.Claims.{exclusive_or, columns_add, weights}
use Rattle.codes.specs.Digits.{columns, digits}
use Rattle.codes.specs.Vector.{add_v, scale}
use Rattle.codes.specs.Projection.{Projection, size, width}
use Rattle.codes.specs.Word.{word, ◌⊞◌, syndrome, all_parity, top_row, distance}
use Rattle.codes.specs.ContractsOfSearch.{inverted}
use Rattle.codes.proofs.Vectors.{add_v_assoc, add_v_comm, scale_add}
use Rattle.codes.proofs.Digits.{columns_fit, place_pos, digits_remainder, pow_mul}
use Rattle.codes.proofs.Words.{length_word, parity_first, parity_rest, parity_cons}
use Rattle.codes.proofs.Sums.{columns_xor}

-- the column of no ones
abbrev pub blank : Column
blank = column false false false false

-- a word with the bits q of column j inverted
abbrev pub invert : ℕ → Column → List Column → List Column
invert j q [] = []
invert zero q (c ∷ cs) = (c ⊕ q) ∷ cs
invert (suc j) q (c ∷ cs) = c ∷ invert j q cs

pub syndrome_invert : (r : ℕ) (H : List (List Symbol)) (j : ℕ) (q : Column) (f : List Column) → length f ≡ length H → j < length f →
    syndrome r H (map value (invert j q f)) ≡ add_v (syndrome r H (map value f)) (scale (value q) (get_or H j []))
syndrome_invert r H j q [] e h = absurd (omega arith)
syndrome_invert r [] j q (c ∷ cs) e h = absurd (omega arith)
syndrome_invert r (x ∷ H) zero q (c ∷ cs) e h =
    let a = scale (value c) x in
    let b = scale (value q) x in
    let rest = syndrome r H (map value cs) in
    rw (columns_add.values c q, scale_add (value c) (value q) x) (add_v_assoc a b rest ∙ ap (add_v a) (add_v_comm b rest) ∙ sym (add_v_assoc a rest b))
syndrome_invert r (x ∷ H) (suc j) q (c ∷ cs) e h =
    ap (add_v (scale (value c) x)) (syndrome_invert r H j q cs (omega arith) (omega arith))
    ∙ sym (add_v_assoc (scale (value c) x) (syndrome r H (map value cs)) (scale (value q) (get_or H j [])))

pub top_row_invert : (j : ℕ) (q : Column) (f : List Column) → j < length f → top_row (invert j q f) ≡ top_row f ⊻ top q
top_row_invert j q [] h = absurd (omega arith)
top_row_invert zero q (c ∷ cs) h = rw (columns_add.tops c q) (exclusive_or.last (top c) (top q) (top_row cs))
top_row_invert (suc j) q (c ∷ cs) h = rw (top_row_invert j q cs (omega arith), exclusive_or.assoc (top c) (top_row cs) (top q))

-- an even number of bits inverted keeps every column's parity
pub parity_invert : (p : Bool) (j : ℕ) (q : Column) (f : List Column) → parity q ≡ false →
    all_parity p f ≡ true → all_parity p (invert j q f) ≡ true
parity_invert p j q [] e t = refl
parity_invert p zero q (c ∷ cs) e t =
    parity_cons p (c ⊕ q) cs
    (rw (columns_add.parities c q, e) (exclusive_or.comm (parity c) false ∙ parity_first p c cs t)) (parity_rest p c cs t)
parity_invert p (suc j) q (c ∷ cs) e t =
    parity_cons p c (invert j q cs) (parity_first p c cs t) (parity_invert p j q cs e (parity_rest p c cs t))

-- its distance from another word changes as that of the column does
distance_invert : (j : ℕ) (q : Column) (f c : List Column) → length f ≡ length c → j < length f →
    distance (invert j q f) c + weight (get_or f j blank ⊕ get_or c j blank) ≡ distance f c + weight (get_or f j blank ⊕ q ⊕ get_or c j blank)
distance_invert j q [] c e h = absurd (omega arith)
distance_invert j q (x ∷ xs) [] e h = absurd (omega arith)
distance_invert zero q (x ∷ xs) (y ∷ ys) e h = omega arith
distance_invert (suc j) q (x ∷ xs) (y ∷ ys) e h = omega (arith, distance_invert j q xs ys (omega arith) (omega arith))

-- a word gets nearer by no more than the bits that are inverted
pub nearer_by : (j : ℕ) (q : Column) (f c : List Column) → length f ≡ length c → j < length f →
    distance f c ≤ distance (invert j q f) c + weight q
nearer_by j q f c e h = omega (arith, distance_invert j q f c e h, weights.nearer (get_or f j blank) q (get_or c j blank))

-- the column that has a one in row r alone
abbrev pub row_column : ℕ → Column
row_column r = column_of (8 / 2 ^ r)

-- the first row that has a one, or the last
abbrev one_row : Column → ℕ
one_row (column true b c d) = 0
one_row (column false true c d) = 1
one_row (column false false true d) = 2
one_row (column false false false d) = 3

one_row_lt : (x : Column) → one_row x < 4
one_row_lt x = law_le all_columns (λ x. suc (one_row x)) (λ x. 4) tt x

-- with that row of their difference inverted, columns of different parity, and their words, are one position nearer
row_nearer : (x y : Column) → parity x ⊻ parity y ≡ true → weight (x ⊕ row_column (one_row (x ⊕ y)) ⊕ y) + 1 ≡ weight (x ⊕ y)
row_nearer x y e =
    law_where (all_columns ⊗ all_columns) number_discrete (λ (x, y). parity x ⊻ parity y)
    (λ (x, y). weight (x ⊕ row_column (one_row (x ⊕ y)) ⊕ y) + 1) (λ (x, y). weight (x ⊕ y)) tt (x, y) e

pub nearer : (j : ℕ) (f c : List Column) → length f ≡ length c → j < length f →
    parity (get_or f j blank) ⊻ parity (get_or c j blank) ≡ true →
    (r : ℕ) × (r < 4) × (distance (invert j (row_column r) f) c + 1 ≡ distance f c)
nearer j f c e h t =
    let x = get_or f j blank in
    let y = get_or c j blank in
    let r = one_row (x ⊕ y) in
    (r, one_row_lt (x ⊕ y), omega (arith, distance_invert j (row_column r) f c e h, row_nearer x y t))

-- the number of a word with bits of a column inverted: nothing is added to the other columns
sum_zero : (k : ℕ) (f : List Column) → length f ≡ k → f ⊞ digits columns k 0 ≡ f
sum_zero k [] e = refl
sum_zero zero (c ∷ cs) e = absurd (omega arith)
sum_zero (suc k) (c ∷ cs) e = ap₂ ◌∷◌ (rw (zero-div (16 ^ k)) (columns_add.blank c)) (sum_zero k cs (omega arith))

-- i columns stand behind column j
sum_shifted : (k j i q : ℕ) (f : List Column) → length f ≡ k → i + suc j ≡ k → q < 16 → f ⊞ digits columns k (q * 16 ^ i) ≡ invert j (column_of q) f
sum_shifted k j i q [] e h l = refl
sum_shifted zero j i q (c ∷ cs) e h l = absurd (omega arith)
sum_shifted (suc k) zero i q (c ∷ cs) e h l =
    let here : i ≡ k = omega arith in
    let none : digits columns k (q * 16 ^ k) ≡ digits columns k 0 = rw (← digits_remainder columns columns_fit k (q * 16 ^ k), mul-mod_left q (16 ^ k)) in
    rw here (ap₂ ◌∷◌ (rw (mul-div_cancel q (place_pos columns columns_fit k))) (rw none (sum_zero k cs (omega arith))))
sum_shifted (suc k) (suc j) i q (c ∷ cs) e h l =
    let next : q * 16 ^ i < 16 ^ suc i = rw (pow-succ' 16 i) (mul-lt-mul_of_pos_right l (place_pos columns columns_fit i)) in
    let small : q * 16 ^ i < 16 ^ k = lt_of_lt_of_le next (pow-le-pow_right (lit< tt) (omega arith)) in
    ap₂ ◌∷◌ (rw (div-eq_of_lt small) (columns_add.blank c)) (sum_shifted k j i q cs (omega arith) (omega arith) l)

pub word_inverted : (π : Projection) (x j q : ℕ) → j < size π → q < 16 → word π (inverted π x j q) ≡ invert j (column_of q) (word π x)
word_inverted π x j q h l =
    let i = size π - 1 - j in
    rw (columns_xor (size π) x (q * 2 ^ (4 * i)), ← pow_mul 2 4 i) (sum_shifted (size π) j i q (word π x) (length_word π x) (omega arith) l)

pub inverted_fits : (π : Projection) (x j q : ℕ) → x < 2 ^ width π → j < size π → q < 16 → inverted π x j q < 2 ^ width π
inverted_fits π x j q hx h l =
    let i = size π - 1 - j in
    let room : 4 + 4 * i ≤ width π = omega arith in
    xor_lt (width π) x (q * 2 ^ (4 * i)) hx (lt_of_lt_of_le (shl_lt 4 (4 * i) l) (pow_mono room))
