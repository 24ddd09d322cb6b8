-- Words add column by column: lengths, values, syndromes, top rows and parities of a sum, and the sum of two codewords of one code.
-- Value, parity and top bit of a column add, and the syndrome is linear. So a sum of codewords has a zero syndrome, columns of the parity
-- p ⊻ q where the two have p and q, and a top row of the parity that the rule wants, since each rule is linear in p.
use Rattle.std.proofs.Common.{◌≡◌, ℕ, suc, ◌+◌, Bool, true, false, ◌&&◌, ◌||◌, List, [], ◌∷◌, map, length, sym, refl, ap, ◌∙◌, ap₂, arith}
use mathlib.Core.Bool.{beq, Bool-discrete, and-eq-true_iff, or-true}
use lib.ListN.{length-map}
use Rattle.symbols.specs.Symbol.{◌⊻◌}
use Rattle.symbols.specs.Column.{Column, value, parity, top, one, ◌⊕◌}
use Rattle.symbols.proofs.Every.{bits, ◌⊗◌, law, law_where}
use Rattle.symbols.proofs.Claims.{exclusive_or, columns_add}
use Rattle.codes.specs.Digits.{columns}
use Rattle.codes.specs.Vector.{add_v, is_zero_v}
use Rattle.codes.specs.Projection.{Projection, TopRule, rule_o, rule_e, wanted, count, size}
use Rattle.codes.specs.Word.{word, ◌⊞◌, syndrome_of, all_parity, top_row, is_codeword_of, is_codeword}
use Rattle.codes.proofs.Vectors.{add_zero_vector, syndrome_add}
use Rattle.codes.proofs.Digits.{length_digits}

pub length_word : (π : Projection) (x : ℕ) → length (word π x) ≡ size π
length_word π x = length_digits columns (size π) x

pub same_length : (π : Projection) (x y : ℕ) → length (word π x) ≡ length (word π y)
same_length π x y = length_word π x ∙ sym (length_word π y)

pub length_sum : (a b : List Column) → length a ≡ length b → length (a ⊞ b) ≡ length a
length_sum [] b e = refl
length_sum (a ∷ xs) [] e = absurd (omega arith)
length_sum (a ∷ xs) (b ∷ ys) e = ap suc (length_sum xs ys (omega arith))

values_sum : (a b : List Column) → length a ≡ length b → map value (a ⊞ b) ≡ add_v (map value a) (map value b)
values_sum [] [] e = refl
values_sum [] (b ∷ ys) e = absurd (omega arith)
values_sum (a ∷ xs) [] e = absurd (omega arith)
values_sum (a ∷ xs) (b ∷ ys) e = ap₂ ◌∷◌ (columns_add.values a b) (values_sum xs ys (omega arith))

pub syndrome_sum : (π : Projection) (a b : List Column) → length a ≡ length b →
    syndrome_of π (a ⊞ b) ≡ add_v (syndrome_of π a) (syndrome_of π b)
syndrome_sum π a b e =
    rw (values_sum a b e) (syndrome_add π.rows π.matrix (map value a) (map value b) (length-map a value ∙ e ∙ sym (length-map b value)))

pub top_row_sum : (a b : List Column) → length a ≡ length b → top_row (a ⊞ b) ≡ top_row a ⊻ top_row b
top_row_sum [] [] e = refl
top_row_sum [] (b ∷ ys) e = absurd (omega arith)
top_row_sum (a ∷ xs) [] e = absurd (omega arith)
top_row_sum (a ∷ xs) (b ∷ ys) e =
    rw (columns_add.tops a b, top_row_sum xs ys (omega arith)) (exclusive_or.middle (top a) (top b) (top_row xs) (top_row ys))

-- two bits that a test finds equal, and the test of equal bits
pub beq_true : (a b : Bool) → beq a b ≡ true → a ≡ b
beq_true a b e = law_where (bits ⊗ bits) Bool-discrete (λ (a, b). beq a b) (λ (a, b). a) (λ (a, b). b) tt (a, b) e

eq_beq : (a b : Bool) → a ≡ b → beq a b ≡ true
eq_beq a b e = ap (beq a) (sym e) ∙ law bits Bool-discrete (λ a. beq a a) (λ a. true) tt a

-- columns of one parity, the first and the others
pub parity_first : (p : Bool) (c : Column) (cs : List Column) → all_parity p (c ∷ cs) ≡ true → parity c ≡ p
parity_first p c cs e = beq_true (parity c) p ((and-eq-true_iff (beq (parity c) p) (all_parity p cs)).0 e).0

pub parity_rest : (p : Bool) (c : Column) (cs : List Column) → all_parity p (c ∷ cs) ≡ true → all_parity p cs ≡ true
parity_rest p c cs e = ((and-eq-true_iff (beq (parity c) p) (all_parity p cs)).0 e).1

pub parity_cons : (p : Bool) (c : Column) (cs : List Column) → parity c ≡ p → all_parity p cs ≡ true → all_parity p (c ∷ cs) ≡ true
parity_cons p c cs e t = rw (eq_beq (parity c) p e, t)

pub parity_sum : (p q : Bool) (a b : List Column) → all_parity p a ≡ true → all_parity q b ≡ true → all_parity (p ⊻ q) (a ⊞ b) ≡ true
parity_sum p q [] b s t = refl
parity_sum p q (a ∷ xs) [] s t = refl
parity_sum p q (a ∷ xs) (b ∷ ys) s t =
    parity_cons (p ⊻ q) (a ⊕ b) (xs ⊞ ys)
    (rw (columns_add.parities a b, parity_first p a xs s, parity_first q b ys t))
    (parity_sum p q xs ys (parity_rest p a xs s) (parity_rest q b ys t))

-- the number of trues in a list, by its first
pub count_cons : (b : Bool) (l : List Bool) → count (b ∷ l) ≡ one b + count l
count_cons true l = omega arith
count_cons false l = omega arith

-- a codeword of parity p, by its parts
pub record Codeword (π : Projection) (p : Bool) (cs : List Column) : Type 0 where
  pub zero : is_zero_v (syndrome_of π cs) ≡ true
  pub parities : all_parity p cs ≡ true
  pub tops : top_row cs ≡ wanted π.rule p

pub codeword_parts : (π : Projection) (p : Bool) (cs : List Column) → is_codeword_of π p cs ≡ true → Codeword π p cs
codeword_parts π p cs e =
    let both = (and-eq-true_iff (is_zero_v (syndrome_of π cs)) (all_parity p cs && beq (top_row cs) (wanted π.rule p))).0 e in
    let rest = (and-eq-true_iff (all_parity p cs) (beq (top_row cs) (wanted π.rule p))).0 both.1 in
    record { zero = both.0; parities = rest.0; tops = beq_true (top_row cs) (wanted π.rule p) rest.1 }

pub codeword_passes : (π : Projection) (p : Bool) (cs : List Column) → Codeword π p cs → is_codeword_of π p cs ≡ true
codeword_passes π p cs k = rw (k.zero, k.parities, eq_beq (top_row cs) (wanted π.rule p) k.tops)

-- a codeword has one of the two parities
pub codeword_parity : (π : Projection) (cs : List Column) → is_codeword π cs ≡ true → (p : Bool) × Codeword π p cs
unfolding is_codeword
codeword_parity π cs e = go (is_codeword_of π false cs) refl e
  where
    go : (b : Bool) → is_codeword_of π false cs ≡ b → b || is_codeword_of π true cs ≡ true → (p : Bool) × Codeword π p cs
    go true f t = (false, codeword_parts π false cs f)
    go false f t = (true, codeword_parts π true cs t)

pub is_codeword_lem : (π : Projection) (p : Bool) (cs : List Column) → Codeword π p cs → is_codeword π cs ≡ true
unfolding is_codeword
is_codeword_lem π false cs k = rw (codeword_passes π false cs k)
is_codeword_lem π true cs k = rw (codeword_passes π true cs k) (or-true (is_codeword_of π false cs))

pub wanted_even : (r : TopRule) → wanted r false ≡ false
wanted_even rule_o = refl
wanted_even rule_e = refl

wanted_sum : (r : TopRule) (p q : Bool) → wanted r (p ⊻ q) ≡ wanted r p ⊻ wanted r q
wanted_sum rule_o p q = refl
wanted_sum rule_e p q = refl

pub codeword_sum : (π : Projection) (p q : Bool) (a b : List Column) → length a ≡ length b → Codeword π p a → Codeword π q b →
    Codeword π (p ⊻ q) (a ⊞ b)
codeword_sum π p q a b e s t =
    record {
      zero = rw (syndrome_sum π a b e, add_zero_vector (syndrome_of π a) (syndrome_of π b) t.zero) s.zero;
      parities = parity_sum p q a b s.parities t.parities;
      tops = rw (top_row_sum a b e, s.tops, t.tops, wanted_sum π.rule p q);
    }
