-- What an answer says of the rows of refusals that stand before it. The layers above cite this file.
-- An answer behind rows that pass is the answer, and behind rows of which one is met it is the first one's number: so what is accepted wherever no row is
-- met is refused exactly where one is, with its number.
-- Rows may be split into two lists, and an answer's value may be put in another form before the rows or behind them.
use Rattle.std.proofs.Common.{◌≡◌, ℕ, Bool, true, false, cond, ◌⊎◌, ◌↔◌, List, [], ◌∷◌, ◌++◌, sym, refl, ap, ◌∙◌, inl, inr, arith}
use mathlib.Core.Bool.{false≢true}
use mathlib.Core.Option.{Option, none, some}
use Rattle.codes.specs.Answer.{Answer, accepted, refused, map_answer, Row, unless, first_met, Passes, Refuses}
use Rattle.codes.specs.Claims.{Among, numbers, ByTable}

-- ---- accepted answers

-- what is accepted is not refused
pub not_refused : {P A : Type 0} (v : A) (n : ℕ) → accepted v ≡ refused n → P
not_refused v n e = let z : ◌≡◌ {A = ℕ} 0 1 = cc in absurd (omega arith)

-- a call that is accepted passes its first row
pub accepted_row : {A : Type 0} (r : Row) (a : Answer A) (v : A) → unless (r ∷ []) a ≡ accepted v → (r.met ≡ false) × (a ≡ accepted v)
accepted_row r a v e = go r.met refl e
  where
    go : (t : Bool) → r.met ≡ t → cond t (refused r.number) a ≡ accepted v → (r.met ≡ false) × (a ≡ accepted v)
    go true t e = let z : ◌≡◌ {A = ℕ} 0 1 = cc in absurd (omega arith)
    go false t e = (t, e)

-- ---- an answer by its table

-- what the first row that is met makes of an answer
abbrev behind : {A : Type 0} → Option ℕ → Answer A → Answer A
behind none a = a
behind (some k) a = refused k

unless_first : {A : Type 0} (rs : List Row) (a : Answer A) → unless rs a ≡ behind (first_met rs) a
unless_first [] a = refl
unless_first (r ∷ rs) a = go r.met (unless_first rs a)
  where
    go : (t : Bool) → unless rs a ≡ behind (first_met rs) a → cond t (refused r.number) (unless rs a) ≡ behind (cond t (some r.number) (first_met rs)) a
    go true e = refl
    go false e = e

pub unless_passes : {A : Type 0} (rs : List Row) (a : Answer A) → Passes rs → unless rs a ≡ a
unless_passes rs a e = unless_first rs a ∙ rw e

pub unless_refuses : {A : Type 0} (rs : List Row) (a : Answer A) (k : ℕ) → Refuses rs k → unless rs a ≡ refused k
unless_refuses rs a k e = unless_first rs a ∙ rw e

-- what is accepted wherever no row of a table is met is an answer by that table
module _ {A : Type 0} (rs : List Row) (a : Answer A) (gives : Passes rs → (v : A) × (a ≡ accepted v)) where
  only_refused : (n : ℕ) → unless rs a ≡ refused n → Refuses rs n
  only_refused n e = go (first_met rs) refl (sym (unless_first rs a) ∙ e)
    where
      go : (o : Option ℕ) → first_met rs ≡ o → behind o a ≡ refused n → Refuses rs n
      go none t e = let given = gives t in not_refused given.0 n (sym given.1 ∙ e)
      go (some k) t e = let same : k ≡ n = cc in t ∙ ap some same

  only_accepted : (v : A) → unless rs a ≡ accepted v → Passes rs
  only_accepted v e = go (first_met rs) refl (sym (unless_first rs a) ∙ e)
    where
      go : (o : Option ℕ) → first_met rs ≡ o → behind o a ≡ accepted v → Passes rs
      go none t e = t
      go (some k) t e = not_refused v k (sym e)

  pub by_table : {order : List ℕ} → numbers rs ≡ order → ByTable order rs (unless rs a)
  by_table e =
      record {
        ordered = e;
        refuses = λ n. (only_refused n, unless_refuses rs a n);
        accepts = (λ e. only_accepted e.0 e.1, λ t. let given = gives t in (given.0, unless_passes rs a t ∙ given.1));
      }

-- a row of a table that passes is not met, and those behind it pass
pub passes_first : (r : Row) (rs : List Row) → Passes (r ∷ rs) → (r.met ≡ false) × Passes rs
passes_first r rs e = go r.met refl e
  where
    go : (t : Bool) → r.met ≡ t → cond t (some r.number) (first_met rs) ≡ none → (r.met ≡ false) × Passes rs
    go true t e = let z : ◌≡◌ {A = ℕ} 0 1 = cc in absurd (omega arith)
    go false t e = (t, e)

pub passes_behind : (rs ss : List Row) → Passes (rs ++ ss) → Passes ss
passes_behind [] ss e = e
passes_behind (r ∷ rs) ss e = passes_behind rs ss (passes_first r (rs ++ ss) e).1

-- the number of a first row stands in the table
pub first_among : (rs : List Row) (n : ℕ) → Refuses rs n → Among n (numbers rs)
first_among [] n e = let z : ◌≡◌ {A = ℕ} 0 1 = cc in absurd (omega arith)
first_among (r ∷ rs) n e = go r.met e (first_among rs n)
  where
    go : (t : Bool) → cond t (some r.number) (first_met rs) ≡ some n → (Refuses rs n → Among n (numbers rs)) → (n ≡ r.number) ⊎ Among n (numbers rs)
    go true e rest = inl (cc)
    go false e rest = inr (rest e)

-- so a refusal is one of the table's numbers
pub refused_among : {A : Type 0} {order : List ℕ} {rs : List Row} {a : Answer A} → ByTable order rs a → (n : ℕ) → a ≡ refused n → Among n order
refused_among {rs = rs} by n e = rw (← by.ordered) (first_among rs n ((by.refuses n).0 e))

-- ---- rows of two tables, and answers in another form

-- rows that stand one after another, in one list or in two
pub unless_append : {A : Type 0} (rs ss : List Row) (a : Answer A) → unless (rs ++ ss) a ≡ unless rs (unless ss a)
unless_append [] ss a = refl
unless_append (r ∷ rs) ss a = ap (cond r.met (refused r.number)) (unless_append rs ss a)

first_append : (rs ss : List Row) → Passes rs → first_met (rs ++ ss) ≡ first_met ss
first_append [] ss e = refl
first_append (r ∷ rs) ss e = go r.met e (first_append rs ss)
  where
    go : (t : Bool) → cond t (some r.number) (first_met rs) ≡ none → (Passes rs → first_met (rs ++ ss) ≡ first_met ss)
        → cond t (some r.number) (first_met (rs ++ ss)) ≡ first_met ss
    go true e rest = let z : ◌≡◌ {A = ℕ} 0 1 = cc in absurd (omega arith)
    go false e rest = rest e

pub passes_append : (rs ss : List Row) → Passes rs → Passes ss → Passes (rs ++ ss)
passes_append rs ss e f = first_append rs ss e ∙ f

pub refuses_behind : (rs ss : List Row) (k : ℕ) → Passes rs → Refuses ss k → Refuses (rs ++ ss) k
refuses_behind rs ss k e f = first_append rs ss e ∙ f

-- a table passes where all rows but the last do, and the last isn't met
pub passes_last : (front : List Row) (last : Row) → Passes (front ++ (last ∷ [])) ↔ Passes front × (last.met ≡ false)
passes_last front last =
    (λ e. (before front e, (passes_first last [] (passes_behind front (last ∷ []) e)).0), λ k. passes_append front (last ∷ []) k.0 (rw k.1))
  where
    before : (rs : List Row) → Passes (rs ++ (last ∷ [])) → Passes rs
    before [] e = refl
    before (r ∷ rs) e = let first = passes_first r (rs ++ (last ∷ [])) e in rw first.0 (before rs first.1)

-- where a number stands only before some rows, those before them decide
module _ (after : List Row) (n : ℕ) (apart : Among n (numbers after) → ⊥) where
  pub front_decides : (front : List Row) → Refuses (front ++ after) n ↔ Refuses front n
  front_decides [] = (λ e. absurd (apart (first_among after n e)), λ e. let z : ◌≡◌ {A = ℕ} 0 1 = cc in absurd (omega arith))
  front_decides (r ∷ front) = go r.met (front_decides front)
    where
      go : (t : Bool) → (Refuses (front ++ after) n ↔ Refuses front n)
          → cond t (some r.number) (first_met (front ++ after)) ≡ some n ↔ cond t (some r.number) (first_met front) ≡ some n
      go true rest = (λ e. e, λ e. e)
      go false rest = rest

-- where a row's number stands once in a table, it is the first that is met exactly where those before it pass and it is met
module _ (row : Row) (after : List Row) (later : Among row.number (numbers after) → ⊥) where
  pub row_decides : (front : List Row) → (Among row.number (numbers front) → ⊥)
      → Refuses (front ++ (row ∷ after)) row.number ↔ Passes front × (row.met ≡ true)
  row_decides [] apart = go row.met
    where
      go : (t : Bool) → cond t (some row.number) (first_met after) ≡ some row.number ↔ Passes [] × (t ≡ true)
      go true = (λ e. (refl, refl), λ k. refl)
      go false = (λ e. absurd (later (first_among after row.number e)), λ k. absurd (false≢true k.1))
  row_decides (r ∷ front) apart = go r.met (row_decides front (λ k. apart (inr k)))
    where
      go : (t : Bool) → (Refuses (front ++ (row ∷ after)) row.number ↔ Passes front × (row.met ≡ true))
          → cond t (some r.number) (first_met (front ++ (row ∷ after))) ≡ some row.number
          ↔ (cond t (some r.number) (first_met front) ≡ none) × (row.met ≡ true)
      go true rest = (
        (λ e. let same : r.number ≡ row.number = cc in absurd (apart (inl (sym same)))),
        (λ k. let e = k.0 in let z : ◌≡◌ {A = ℕ} 0 1 = cc in absurd (omega arith)),
      )
      go false rest = rest

pub refuses_front : (rs ss : List Row) (k : ℕ) → Refuses rs k → Refuses (rs ++ ss) k
refuses_front [] ss k e = let z : ◌≡◌ {A = ℕ} 0 1 = cc in absurd (omega arith)
refuses_front (r ∷ rs) ss k e = go r.met e (refuses_front rs ss k)
  where
    go : (t : Bool) → cond t (some r.number) (first_met rs) ≡ some k → (Refuses rs k → Refuses (rs ++ ss) k)
        → cond t (some r.number) (first_met (rs ++ ss)) ≡ some k
    go true e rest = e
    go false e rest = rest e

pub unless_behind : {A : Type 0} (rs ss : List Row) (a : Answer A) → Passes rs → unless (rs ++ ss) a ≡ unless ss a
unless_behind rs ss a e = unless_append rs ss a ∙ unless_passes rs (unless ss a) e

-- the rows stay as they are where an answer's value is put in another form
pub unless_map : {A B : Type 0} (f : A → B) (rs : List Row) (a : Answer A) → unless rs (map_answer f a) ≡ map_answer f (unless rs a)
unless_map f [] a = refl
unless_map f (r ∷ rs) a = go r.met (unless_map f rs a)
  where
    go : (t : Bool) → unless rs (map_answer f a) ≡ map_answer f (unless rs a) →
        cond t (refused r.number) (unless rs (map_answer f a)) ≡ map_answer f (cond t (refused r.number) (unless rs a))
    go true e = refl
    go false e = e
