-- The table of entries: what an entry names, and what follows where a syndrome has none.
-- An entry is the place of a syndrome in the list of the matrix's columns times each symbol, so it names a column and a scale that make the
-- syndrome. Values of which none is live have the syndrome zero, and values of which one is live have its column times that value. So a
-- syndrome other than zero takes a live value to make it, and more than one if it isn't in the list.
use Rattle.std.proofs.Common.{◌≡◌, ℕ, zero, suc, ◌+◌, ◌-◌, ◌*◌, ◌/◌, ◌%◌, ◌^◌, ◌<◌, ◌≤◌, Bool, true, false, not, eqb, List, [], ◌∷◌, length, get_or, sym, refl, ap, ◌∙◌, arith, ne_eqb, eqb-true}
use borrow.Author.Tests.{eqb-false}
use Rattle.symbols.specs.Symbol.{Symbol, s0, s1, s2, s3, is_zero, symbol_of, symbol_number}
use Rattle.symbols.specs.Column.{one}
use Rattle.symbols.proofs.Claims.{field, numbers}
use Rattle.codes.specs.Digits.{symbols, digits, number_of}
use Rattle.codes.specs.Vector.{zeros, add_v, scale, is_zero_v}
use Rattle.codes.specs.Projection.{Projection, size}
use Rattle.codes.specs.Word.{syndrome}
use Rattle.codes.specs.ContractsOfSearch.{all_multiples, index_from, entry}
use Rattle.codes.proofs.Arrays.{tabulated, table_at, length_multiples, multiple_at}
use Rattle.codes.proofs.Digits.{symbols_fit, length_digits, number_again}
use Rattle.codes.proofs.Vectors.{add_v_assoc, add_v_comm, add_zero_vector, zeros_zero, zero_sum_same, shaped, length_scale}
use Rattle.codes.proofs.Sums.{zero_number}
use Rattle.codes.proofs.Walks.{shaped_at}
use Rattle.codes.proofs.Distance.{live}
use Rattle.codes.proofs.Differences.{Unmade}

-- the table of the entries of all packed syndromes of up to four rows holds them in order
unfoldable pub entry_table : Projection → List ℕ
entry_table π = tabulated 256 0 (entry π)

pub entry_at : (π : Projection) (l : List ℕ) (s : ℕ) → l ≡ entry_table π → s < 256 → get_or l s 0 ≡ entry π s
unfolding entry_table
entry_at π l s e h = rw e (table_at 256 (entry π) 0 s h)

-- the index of a number in a list, counted from e on: where it is not 0, it leads to the number
record Leads (e : ℕ) (xs : List ℕ) (s : ℕ) : Type 0 where
  place : ℕ
  inside : place < length xs
  index : index_from e xs s ≡ e + place
  there : get_or xs place 0 ≡ s

index_leads : (e : ℕ) (xs : List ℕ) (s : ℕ) → (index_from e xs s ≡ 0 → ⊥) → Leads e xs s
index_leads e [] s n = absurd (n refl)
index_leads e (x ∷ xs) s n = go (eqb x s) refl (index_leads (suc e) xs s)
  where
    go : (b : Bool) → eqb x s ≡ b → ((index_from (suc e) xs s ≡ 0 → ⊥) → Leads (suc e) xs s) → Leads e (x ∷ xs) s
    go true t rest = record { place = 0; inside = omega arith; index = rw (t) (omega arith); there = eqb-true x s t }
    go false t rest =
        let next = rest (λ z. n (rw (t) z)) in
        record { place = suc next.place; inside = omega (arith, next.inside); index = rw (t) (omega (arith, next.index)); there = next.there }

-- where it is 0, the number isn't there
index_none : (e : ℕ) (xs : List ℕ) (s : ℕ) → 0 < e → index_from e xs s ≡ 0 → (i : ℕ) → i < length xs → get_or xs i 0 ≡ s → ⊥
index_none e [] s p z i h g = absurd (omega arith)
index_none e (x ∷ xs) s p z i h g = go (eqb x s) refl (index_none (suc e) xs s (omega arith)) i h g
  where
    go : (b : Bool) → eqb x s ≡ b → (index_from (suc e) xs s ≡ 0 → (i : ℕ) → i < length xs → get_or xs i 0 ≡ s → ⊥) →
        (i : ℕ) → i < suc (length xs) → get_or (x ∷ xs) i 0 ≡ s → ⊥
    go true t rest i h g = omega (arith, rw (t) at z)
    go false t rest zero h g = eqb-false x s t g
    go false t rest (suc i) h g = rest (rw (t) at z) i (omega arith) g

-- the entry of a syndrome other than zero
entry_index : (π : Projection) (s : ℕ) → (s ≡ 0 → ⊥) → entry π s ≡ index_from 4 (all_multiples π.matrix) s
entry_index π s n = rw (ne_eqb s 0 n)

pub scale_zero : (h : List Symbol) → is_zero_v (scale s0 h) ≡ true
scale_zero [] = refl
scale_zero (x ∷ xs) = scale_zero xs

-- the packed syndrome of the column and the scale that an entry names
abbrev makes : Projection → ℕ → ℕ
makes π e = number_of symbols (scale (symbol_of (e % 4)) (get_or π.matrix (e / 4 - 1) []))

-- the entry e names a column, and a scale other than 0, that make the syndrome s
pub record Named (π : Projection) (s e : ℕ) : Type 0 where
  pub from : 4 ≤ e
  pub place : e / 4 - 1 < size π
  pub scaling : is_zero (symbol_of (e % 4)) ≡ false
  pub made : makes π e ≡ s

-- a multiple that is not zero has a scale other than 0
multiple_live : (v : Symbol) (h : List Symbol) → (number_of symbols (scale v h) ≡ 0 → ⊥) → is_zero v ≡ false
multiple_live s0 h n = absurd (n (zero_number (scale s0 h) (scale_zero h)))
multiple_live s1 h n = refl
multiple_live s2 h n = refl
multiple_live s3 h n = refl

listed_named : (π : Projection) (s : ℕ) → (s ≡ 0 → ⊥) → (leads : Leads 4 (all_multiples π.matrix) s) → Named π s (4 + leads.place)
listed_named π s other leads =
    let e = 4 + leads.place in
    let j = e / 4 - 1 in
    let v = e % 4 in
    let inside : j < size π = omega (arith, leads.inside, length_multiples π.matrix) in
    let place : leads.place ≡ 4 * j + v = omega arith in
    let made : makes π e ≡ s = sym (multiple_at π.matrix j v inside (omega arith)) ∙ rw (← place) leads.there in
    record { from = omega arith; place = inside; scaling = multiple_live (symbol_of v) (get_or π.matrix j []) (λ z. other (sym made ∙ z)); made = made }

pub entry_names : (π : Projection) (s : ℕ) → (entry π s ≡ 0 → ⊥) → Named π s (entry π s)
entry_names π s n =
    let other : s ≡ 0 → ⊥ = λ z. n (rw z) in
    let leads = index_leads 4 (all_multiples π.matrix) s (λ z. n (entry_index π s other ∙ z)) in
    rw (entry_index π s other ∙ leads.index) (listed_named π s other leads)

-- the syndrome of values of which none is live is zero
no_live : (r : ℕ) (H : List (List Symbol)) (vs : List Symbol) → live vs ≤ 0 → is_zero_v (syndrome r H vs) ≡ true
no_live r [] vs l = zeros_zero r
no_live r (h ∷ H) [] l = zeros_zero r
no_live r (h ∷ H) (v ∷ vs) l = go (is_zero v) refl (no_live r H vs (omega arith))
  where
    go : (b : Bool) → is_zero v ≡ b → is_zero_v (syndrome r H vs) ≡ true → is_zero_v (add_v (scale v h) (syndrome r H vs)) ≡ true
    go true z rest = rw (field.zero v z) (add_zero_vector (scale s0 h) (syndrome r H vs) rest ∙ scale_zero h)
    go false z rest = absurd (omega (arith, ap (λ b. one (not b)) z))

-- that of values of which at most one is live is no s that is neither zero nor a column times a symbol; equal is what adds up to zero
few_live : (r : ℕ) (H : List (List Symbol)) (s : List Symbol) → (is_zero_v s ≡ true → ⊥) →
    ((j : ℕ) → j < length H → (v : Symbol) → is_zero_v (add_v s (scale v (get_or H j []))) ≡ true → ⊥) →
    (vs : List Symbol) → live vs ≤ 1 → is_zero_v (add_v s (syndrome r H vs)) ≡ true → ⊥
few_live r [] s n u vs l e = n (sym (add_zero_vector s (zeros r) (zeros_zero r)) ∙ e)
few_live r (h ∷ H) s n u [] l e = n (sym (add_zero_vector s (zeros r) (zeros_zero r)) ∙ e)
few_live r (h ∷ H) s n u (v ∷ vs) l e = go (is_zero v) refl (few_live r H s n (λ j i w. u (suc j) (omega arith) w) vs)
  where
    go : (b : Bool) → is_zero v ≡ b → (live vs ≤ 1 → is_zero_v (add_v s (syndrome r H vs)) ≡ true → ⊥) → ⊥
    go true z others =
        let rest = syndrome r H vs in
        let none : is_zero_v (scale v h) ≡ true = rw (field.zero v z) (scale_zero h) in
        others (omega arith)
        (sym (add_zero_vector (add_v s rest) (scale v h) none) ∙ rw (add_v_assoc s rest (scale v h), add_v_comm rest (scale v h)) e)
    go false z others =
        let rest = syndrome r H vs in
        let none = no_live r H vs (omega (arith, ap (λ b. one (not b)) z)) in
        u 0 (omega arith) v (sym (add_zero_vector (add_v s (scale v h)) rest none) ∙ rw (add_v_assoc s (scale v h) rest) e)

-- a syndrome other than zero takes a live value to make it, and more than one if it has no entry
module _ (π : Projection) (s : ℕ) (small : s < 4 ^ π.rows) (other : s ≡ 0 → ⊥) where
  nonzero : is_zero_v (digits symbols π.rows s) ≡ true → ⊥
  nonzero z = other (sym (number_again symbols symbols_fit π.rows s small) ∙ zero_number (digits symbols π.rows s) z)

  pub more_than_none : Unmade π 0 (digits symbols π.rows s)
  more_than_none vs l z =
      nonzero (sym (add_zero_vector (digits symbols π.rows s) (syndrome π.rows π.matrix vs) (no_live π.rows π.matrix vs l)) ∙ z)

  module _ (shape : shaped π.rows π.matrix ≡ true) (none : entry π s ≡ 0) where
    unlisted : (j : ℕ) → j < size π → (v : Symbol) → is_zero_v (add_v (digits symbols π.rows s) (scale v (get_or π.matrix j []))) ≡ true → ⊥
    unlisted j h v z =
        let column = get_or π.matrix j [] in
        let long : length (scale v column) ≡ π.rows = length_scale v column ∙ shaped_at π.rows π.matrix j shape h in
        let same = zero_sum_same (digits symbols π.rows s) (scale v column) (length_digits symbols π.rows s ∙ sym long) z in
        index_none 4 (all_multiples π.matrix) s (omega arith) (sym (entry_index π s other) ∙ none) (4 * j + symbol_number v)
        (omega (arith, numbers.symbols.small v, length_multiples π.matrix))
        (multiple_at π.matrix j (symbol_number v) h (numbers.symbols.small v)
        ∙ rw (numbers.symbols.back v, ← same) (number_again symbols symbols_fit π.rows s small))

    pub more_than_one : Unmade π 1 (digits symbols π.rows s)
    more_than_one vs l z = few_live π.rows π.matrix (digits symbols π.rows s) nonzero unlisted vs l z
