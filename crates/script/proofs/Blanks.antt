-- Where blanks, words and lines end.
use Rattle.std.proofs.Common.{◌≡◌, ◌≢◌, Bool, true, false, cond, Option, Some, None, unwrap_or, position, MatchOption, List, [], ◌∷◌, ◌++◌, ℕ, suc, ◌+◌, ◌-◌, ◌<◌, ◌≤◌, nat_lt, length, get_or, take, drop, refl, sym, ap, ◌∙◌, arith, ne_eqb, Bor}
use Rattle.std.proofs.Math.Seq.{take-suc}
use Rattle.std.proofs.lemmas.List.{take_all}
use Rattle.std.specs.List.{position_or_len, slice_split, onto_first}
use Rattle.std.proofs.lemmas.Bool.Decides.{nat_tests}
use Rattle.std.proofs.lemmas.List.Recursion.{is_position_or_len}
use Rattle.std.proofs.lemmas.List.Sums.{prefix_len-le-length}
use Rattle.script.specs.Script.{is_blank, skip_blanks, keep, trim_end, without_return, up_to, word, filled, words}

-- ---- the end of a line

return_off : (xs : List ℕ) → without_return (xs ++ 13 ∷ []) ≡ xs
return_off [] = refl
return_off (x ∷ []) = refl
return_off (x ∷ (y ∷ ys)) = rw (return_off (y ∷ ys))

return_none : (l : List ℕ) → ((front : List ℕ) → l ≢ front ++ 13 ∷ []) → without_return l ≡ l
return_none [] other = refl
return_none (c ∷ []) other = rw (ne_eqb c 13 (λ e. other [] (ap (λ (x : ℕ). x ∷ []) e)))
return_none (c ∷ (d ∷ ds)) other = rw (return_none (d ∷ ds) (λ front e. other (c ∷ front) (ap (λ (xs : List ℕ). c ∷ xs) e)))

-- what is left of a line where a carriage return is stripped from its end, if it has one
pub stripped : (line : Bor (List ℕ)) (r : Option (Bor (List ℕ)))
    → MatchOption r ((front : List ℕ) → line.now ≢ front ++ 13 ∷ []) (λ x. line.now ≡ x.now ++ 13 ∷ []) → (unwrap_or r line).now ≡ without_return line.now
stripped line None other = sym (return_none line.now other)
stripped line (Some x) e = sym (ap without_return e ∙ return_off x.now)

keep_more : (x : ℕ) (xs : List ℕ) (c : ℕ) → keep x (xs ++ c ∷ []) ≡ x ∷ xs ++ c ∷ []
keep_more x [] c = refl
keep_more x (y ∷ ys) c = refl

trim_kept : (xs : List ℕ) (c : ℕ) → is_blank c ≡ false → trim_end (xs ++ c ∷ []) ≡ xs ++ c ∷ []
trim_kept [] c e = simp e
trim_kept (x ∷ xs) c e = rw (trim_kept xs c e, keep_more x xs c)

trim_blank : (xs : List ℕ) (c : ℕ) → is_blank c ≡ true → trim_end (xs ++ c ∷ []) ≡ trim_end xs
trim_blank [] c e = simp e
trim_blank (x ∷ xs) c e = rw (trim_blank xs c e)

-- the last byte of a text stays where it is no blank, and falls off where it is one
module _ (l : List ℕ) (some : 1 ≤ length l) where
  last : l ≡ take (length l - 1) l ++ get_or l (length l - 1) 0 ∷ []
  last =
      let size : length l ≡ suc (length l - 1) = omega arith in
      sym (take_all (length l) l (omega arith)) ∙ ap (λ (n : ℕ). take n l) size ∙ take-suc l (length l - 1) 0 (omega arith)

  pub trim_here : is_blank (get_or l (length l - 1) 0) ≡ false → trim_end l ≡ l
  trim_here e = ap trim_end last ∙ trim_kept (take (length l - 1) l) (get_or l (length l - 1) 0) e ∙ sym last

  pub trim_next : is_blank (get_or l (length l - 1) 0) ≡ true → trim_end l ≡ trim_end (take (length l - 1) l)
  trim_next e = ap trim_end last ∙ trim_blank (take (length l - 1) l) (get_or l (length l - 1) 0) e

-- ---- pieces

longer : (t : Bool) (x : ℕ) (ys : List ℕ) → length (cond t [] (x ∷ ys)) ≡ cond t 0 (1 + length ys)
longer true x ys = refl
longer false x ys = omega arith

-- a piece ends at the first byte that ends one
length-up_to : (ends : ℕ → Bool) (l : List ℕ) → length (up_to ends l) ≡ position_or_len ends l
length-up_to ends l = is_position_or_len (λ xs. length (up_to ends xs)) ends refl (λ x xs. longer (ends x) x (up_to ends xs)) l

pub take-up_to : (ends : ℕ → Bool) (l : List ℕ) → take (length (up_to ends l)) l ≡ up_to ends l
take-up_to ends [] = refl
take-up_to ends (c ∷ cs) = go (ends c) (take-up_to ends cs)
  where
    go : (t : Bool) → take (length (up_to ends cs)) cs ≡ up_to ends cs
        → take (length (cond t [] (c ∷ up_to ends cs))) (c ∷ cs) ≡ cond t [] (c ∷ up_to ends cs)
    go true e = refl
    go false e = rw e

position_or_end : (n m : ℕ) → n ≤ m → unwrap_or (cond (nat_lt n m) (Some n) None) m ≡ n
position_or_end n m h = grind (arith, nat_tests)

pub end_of_word : (l : List ℕ) → unwrap_or (position is_blank l) (length l) ≡ length (word l)
end_of_word l = position_or_end (position_or_len is_blank l) (length l) (prefix_len-le-length _ l) ∙ sym (length-up_to is_blank l)

-- ---- words

-- the pieces of what stands behind a piece: none at the end, else those after the byte that ends it
abbrev rest : (ℕ → Bool) → List ℕ → List (List ℕ)
rest ends [] = []
rest ends (c ∷ cs) = slice_split ends cs

pieces_first : (ends : ℕ → Bool) (l : List ℕ) → slice_split ends l ≡ up_to ends l ∷ rest ends (drop (length (up_to ends l)) l)
pieces_first ends [] = refl
pieces_first ends (c ∷ cs) = go (ends c) (pieces_first ends cs)
  where
    go : (t : Bool) → slice_split ends cs ≡ up_to ends cs ∷ rest ends (drop (length (up_to ends cs)) cs)
        → cond t ([] ∷ slice_split ends cs) (onto_first c (slice_split ends cs))
        ≡ cond t [] (c ∷ up_to ends cs) ∷ rest ends (drop (length (cond t [] (c ∷ up_to ends cs))) (c ∷ cs))
    go true e = refl
    go false e = rw e

words_rest : (l : List ℕ) → filled (rest is_blank (drop (length (word l)) l)) ≡ words (drop (length (word l)) l)
words_rest [] = refl
words_rest (c ∷ cs) = go (is_blank c) refl (words_rest cs)
  where
    go : (blank : Bool) → is_blank c ≡ blank
        → filled (rest is_blank (drop (length (word cs)) cs)) ≡ filled (slice_split is_blank (drop (length (word cs)) cs))
        → filled (rest is_blank (drop (length (cond blank [] (c ∷ word cs))) (c ∷ cs)))
        ≡ filled (slice_split is_blank (drop (length (cond blank [] (c ∷ word cs))) (c ∷ cs)))
    go true e more = rw e
    go false e more = more

words_skip : (l : List ℕ) → words (skip_blanks l) ≡ words l
words_skip [] = refl
words_skip (c ∷ cs) = go (is_blank c) refl (words_skip cs)
  where
    go : (blank : Bool) → is_blank c ≡ blank → words (skip_blanks cs) ≡ words cs → words (cond blank (skip_blanks cs) (c ∷ cs)) ≡ words (c ∷ cs)
    go true e more = rw e more
    go false e more = refl

-- a piece that is not empty is a word
word_on_lem : (w : List ℕ) (ps : List (List ℕ)) → 0 < length w → w ∷ filled ps ≡ filled (w ∷ ps)
word_on_lem [] ps h = absurd (omega arith)
word_on_lem (c ∷ cs) ps h = refl

-- blanks in front make no word; where none is in front, the first word is the first piece, and the others are the words of what is left
pub words_next : (l : List ℕ) → (length (word (skip_blanks l)) ≡ 0 → ⊥)
    → words l ≡ word (skip_blanks l) ∷ words (drop (length (word (skip_blanks l))) (skip_blanks l))
words_next l some = sym (words_skip l) ∙ first (skip_blanks l) some
  where
    first : (t : List ℕ) → (length (word t) ≡ 0 → ⊥) → words t ≡ word t ∷ words (drop (length (word t)) t)
    first t some = ap filled (pieces_first is_blank t) ∙ sym (word_on_lem (word t) (rest is_blank (drop (length (word t)) t)) (omega arith)) ∙ ap (λ (ws : List (List ℕ)). word t ∷ ws) (words_rest t)

-- where no word stands in front of what is left, nothing is left
skip_none : (l : List ℕ) → length (word (skip_blanks l)) ≡ 0 → skip_blanks l ≡ []
skip_none [] e = refl
skip_none (c ∷ cs) e = go (is_blank c) refl e (skip_none cs)
  where
    go : (blank : Bool) → is_blank c ≡ blank → length (word (cond blank (skip_blanks cs) (c ∷ cs))) ≡ 0
        → (length (word (skip_blanks cs)) ≡ 0 → skip_blanks cs ≡ []) → cond blank (skip_blanks cs) (c ∷ cs) ≡ []
    go true f e more = more e
    go false f e more = absurd (omega (arith, rw f at e))

pub words_none : (l : List ℕ) → length (word (skip_blanks l)) ≡ 0
    → (words l ≡ []) × (words (drop (length (word (skip_blanks l))) (skip_blanks l)) ≡ [])
words_none l e =
    let none = skip_none l e in
    (sym (words_skip l) ∙ ap words none, ap (λ (t : List ℕ). words (drop (length (word t)) t)) none)
