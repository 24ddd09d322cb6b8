-- Digit by digit: a byte that makes no number makes none of the word.
use Rattle.std.proofs.Common.{◌≡◌, Option, Some, None, List, [], ◌∷◌, ℕ, ◌<◌, length, get_or, drop, refl, sym, ap, ◌∙◌, arith, suc, option_map, ◌++◌}
use Rattle.std.proofs.Math.Seq.{drop-cons}
use Rattle.std.proofs.Common.{Result, Ok, Err, OnErr}
use Rattle.std.specs.Result.{result_ok}
use borrow.Author.Tests.{lt-leb}
use Rattle.script.specs.Script.{digit_on, digits_on, number_of, number_on, numbered}

pub digits_none : (l : List ℕ) → digits_on l None ≡ None
digits_none [] = refl
digits_none (c ∷ cs) = refl

pub number_none : (w : List ℕ) (i n : ℕ) → i < length w → digits_on (drop i w) (Some n) ≡ digits_on w (Some 0) → None ≡ digit_on n (get_or w i 0) → None ≡ number_of w
number_none [] i n h e f = absurd (omega arith)
number_none (c ∷ cs) i n h e f =
    let w : List ℕ = c ∷ cs in
    let left : drop i w ≡ get_or w i 0 ∷ drop (suc i) w = drop-cons w i 0 h in
    sym (digits_none (drop (suc i) w)) ∙ ap (digits_on (drop (suc i) w)) f ∙ ap (λ (l : List ℕ). digits_on l (Some n)) (sym left) ∙ e

-- a fourth number
pub too_many : (items : List ℕ) (n : ℕ) (o whole : Option (List ℕ)) → option_map (λ ns. items ++ ns) (number_on (Some n) o) ≡ whole → length items ≡ 3 → numbered whole ≡ []
too_many [] n o whole e size = absurd (omega arith)
too_many (a ∷ []) n o whole e size = absurd (omega arith)
too_many (a ∷ b ∷ []) n o whole e size = absurd (omega arith)
too_many (a ∷ b ∷ c ∷ d ∷ items) n o whole e size = absurd (omega arith)
too_many (a ∷ b ∷ c ∷ []) n None whole e size = sym (ap numbered e)
too_many (a ∷ b ∷ c ∷ []) n (Some ns) whole e size = sym (ap numbered e)

pub digit_below : (n c : ℕ) → c < 48 → None ≡ digit_on n c
digit_below n c h = simp (lt-leb 48 c h)

-- what holds of an error
pub refused : {T E P : Type 0} (r : Result T E) → OnErr r P → result_ok r ≡ None → P
refused (Ok x) h e = let z : ◌≡◌ {A = ℕ} 0 1 = cc in absurd (omega arith)
refused (Err y) h e = h
