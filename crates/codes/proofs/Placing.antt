-- Values in their columns: free values and the others put together and taken apart again, and the others that follow from the matrix.
-- The columns that are not free have a one in a row of their own, in row order. So what is put into them comes out as the syndrome. A word's
-- syndrome is the sum of that and of the free values' syndrome; it is zero just where the two are equal, so the free values' syndrome is
-- what the other columns must have.
-- Of the code this takes computed tests of its matrix and its free columns (`Systematic`).
use Rattle.std.proofs.Common.{◌≡◌, ℕ, zero, suc, ◌<◌, Bool, true, false, not, ◌&&◌, T, List, [], ◌∷◌, map, length, sym, refl, ap, ◌∙◌, ap₂, arith}
use lib.ListN.{length-map}
use Rattle.symbols.specs.Symbol.{Symbol, s0, Symbol-discrete}
use Rattle.symbols.proofs.Every.{symbols, passes, passed, and_left, and_right}
use Rattle.symbols.proofs.Claims.{field}
use Rattle.codes.specs.Vector.{zeros, add_v, is_zero_v}
use Rattle.codes.specs.Projection.{Projection, count, size}
use Rattle.codes.specs.Word.{syndrome}
use Rattle.codes.specs.Message.{place, chosen, all_values}
use Rattle.codes.proofs.Vectors.{shaped, length_syndrome, add_v_self, syndrome_add, zero_sum_same}

pub length_place : (l : List Bool) (fs ds : List Symbol) → length (place l fs ds) ≡ length l
length_place [] fs ds = refl
length_place (true ∷ l) [] ds = ap suc (length_place l [] ds)
length_place (true ∷ l) (f ∷ fs) ds = ap suc (length_place l fs ds)
length_place (false ∷ l) fs [] = ap suc (length_place l fs [])
length_place (false ∷ l) fs (d ∷ ds) = ap suc (length_place l fs ds)

-- the free values out of their places
chosen_place : (l : List Bool) (fs ds : List Symbol) → length fs ≡ count l → chosen l (place l fs ds) ≡ fs
chosen_place [] [] ds e = refl
chosen_place [] (f ∷ fs) ds e = absurd (omega arith)
chosen_place (true ∷ l) [] ds e = absurd (omega arith)
chosen_place (true ∷ l) (f ∷ fs) ds e = rw (chosen_place l fs ds (omega arith))
chosen_place (false ∷ l) fs [] e = chosen_place l fs [] e
chosen_place (false ∷ l) fs (d ∷ ds) e = chosen_place l fs ds e

pub length_chosen : (l : List Bool) (vs : List Symbol) → length vs ≡ length l → length (chosen l vs) ≡ count l
length_chosen [] vs e = refl
length_chosen (b ∷ l) [] e = absurd (omega arith)
length_chosen (true ∷ l) (v ∷ vs) e = ap suc (length_chosen l vs (omega arith))
length_chosen (false ∷ l) (v ∷ vs) e = length_chosen l vs (omega arith)

-- the free values, and the others, put together again
place_chosen : (l : List Bool) (vs : List Symbol) → length vs ≡ length l → place l (chosen l vs) (chosen (map not l) vs) ≡ vs
place_chosen [] [] e = refl
place_chosen [] (v ∷ vs) e = absurd (omega arith)
place_chosen (b ∷ l) [] e = absurd (omega arith)
place_chosen (true ∷ l) (v ∷ vs) e = rw (place_chosen l vs (omega arith))
place_chosen (false ∷ l) (v ∷ vs) e = rw (place_chosen l vs (omega arith))

-- free values and others are placed by themselves and added
place_split : (l : List Bool) (fs ds : List Symbol) → add_v (place l fs []) (place l [] ds) ≡ place l fs ds
place_split [] fs ds = refl
place_split (true ∷ l) [] ds = rw (place_split l [] ds)
place_split (true ∷ l) (f ∷ fs) ds = ap₂ ◌∷◌ (field.add_zero f) (place_split l fs ds)
place_split (false ∷ l) fs [] = rw (place_split l fs [])
place_split (false ∷ l) fs (d ∷ ds) = ap₂ ◌∷◌ (field.add_comm s0 d ∙ field.add_zero d) (place_split l fs ds)

-- others that are 0 are like none
pub place_zeros : (l : List Bool) (fs : List Symbol) (k : ℕ) → place l fs (zeros k) ≡ place l fs []
place_zeros [] fs k = refl
place_zeros (true ∷ l) [] k = rw (place_zeros l [] k)
place_zeros (true ∷ l) (f ∷ fs) k = rw (place_zeros l fs k)
place_zeros (false ∷ l) fs zero = refl
place_zeros (false ∷ l) fs (suc k) = rw (place_zeros l fs k)

-- a test of every vector of k symbols
abbrev pub vectors : ℕ → (List Symbol → Bool) → Bool
vectors zero f = f []
vectors (suc k) f = symbols.all (λ s. vectors k (λ x. f (s ∷ x)))

at_vector : (k : ℕ) (f : List Symbol → Bool) → T (vectors k f) → (x : List Symbol) → length x ≡ k → T (f x)
at_vector zero f t [] e = t
at_vector zero f t (x ∷ xs) e = absurd (omega arith)
at_vector (suc k) f t [] e = absurd (omega arith)
at_vector (suc k) f t (x ∷ xs) e = at_vector k (λ y. f (x ∷ y)) (symbols.at (λ s. vectors k (λ y. f (s ∷ y))) t x) xs (omega arith)

-- a test that two vectors are equal
abbrev pub same_v : List Symbol → List Symbol → Bool
same_v [] [] = true
same_v [] (y ∷ ys) = false
same_v (x ∷ xs) [] = false
same_v (x ∷ xs) (y ∷ ys) = passes (Symbol-discrete x y) && same_v xs ys

same_vector : (x y : List Symbol) → T (same_v x y) → x ≡ y
same_vector [] [] t = refl
same_vector [] (y ∷ ys) t = absurd t
same_vector (x ∷ xs) [] t = absurd t
same_vector (x ∷ xs) (y ∷ ys) t =
    ap₂ ◌∷◌ (passed (Symbol-discrete x y) (and_left (passes (Symbol-discrete x y)) (same_v xs ys) t))
    (same_vector xs ys (and_right (passes (Symbol-discrete x y)) (same_v xs ys) t))

-- what a code has to satisfy for each message to have one codeword and each codeword one message: at least one column, each with a symbol
-- for each row, a flag for each whether it is free, and as many others as there are rows, each with a one in a row of its own, in row order
pub record Systematic (π : Projection) : Type 0 where
  pub shape : shaped π.rows π.matrix ≡ true
  pub flags : length π.free ≡ size π
  pub some : 0 < size π
  pub others : count (map not π.free) ≡ π.rows
  pub alone : T (vectors π.rows (λ ds. same_v (syndrome π.rows π.matrix (place π.free [] ds)) ds))

module _ (π : Projection) (sys : Systematic π) where
  -- the syndrome of values
  abbrev S : List Symbol → List Symbol
  S vs = syndrome π.rows π.matrix vs

  -- what the other columns hold comes out as the syndrome
  syndrome_others : (ds : List Symbol) → length ds ≡ π.rows → syndrome π.rows π.matrix (place π.free [] ds) ≡ ds
  syndrome_others ds e = same_vector _ _ (at_vector π.rows (λ ds. same_v (S (place π.free [] ds)) ds) sys.alone ds e)

  syndrome_placed : (fs ds : List Symbol) → length ds ≡ π.rows →
      syndrome π.rows π.matrix (place π.free fs ds) ≡ add_v (syndrome π.rows π.matrix (place π.free fs [])) ds
  syndrome_placed fs ds e =
      let long = length_place π.free fs [] ∙ sym (length_place π.free [] ds) in
      rw (← place_split π.free fs ds, syndrome_add π.rows π.matrix (place π.free fs []) (place π.free [] ds) long, syndrome_others ds e)

  pub length_values : (fs : List Symbol) → length (all_values π fs) ≡ size π
  length_values fs = length_place π.free fs (S (place π.free fs [])) ∙ sys.flags

  -- the syndrome of all values is zero
  pub values_zero : (fs : List Symbol) → is_zero_v (syndrome π.rows π.matrix (all_values π fs)) ≡ true
  values_zero fs =
      let s = S (place π.free fs []) in
      rw (syndrome_placed fs s (length_syndrome π.rows π.matrix sys.shape (place π.free fs []))) (add_v_self s)

  pub chosen_values : (fs : List Symbol) → length fs ≡ count π.free → chosen π.free (all_values π fs) ≡ fs
  chosen_values fs e = chosen_place π.free fs (S (place π.free fs [])) e

  -- and no other values have these free ones and a zero syndrome
  pub values_chosen : (vs : List Symbol) → length vs ≡ size π → is_zero_v (syndrome π.rows π.matrix vs) ≡ true →
      all_values π (chosen π.free vs) ≡ vs
  values_chosen vs e z =
      let l = π.free in
      let fs = chosen l vs in
      let ds = chosen (map not l) vs in
      let el : length vs ≡ length l = e ∙ sym sys.flags in
      let ed : length ds ≡ π.rows = length_chosen (map not l) vs (el ∙ sym (length-map l not)) ∙ sys.others in
      let whole = place_chosen l vs el in
      let zero : is_zero_v (add_v (S (place l fs [])) ds) ≡ true = rw (← syndrome_placed fs ds ed, whole) z in
      ap (place l fs) (zero_sum_same (S (place l fs [])) ds (length_syndrome π.rows π.matrix sys.shape (place l fs []) ∙ sym ed) zero) ∙ whole
