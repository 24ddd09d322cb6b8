-- The numbers that the calls for C return. Each call answers by its table (demand 1), whose numbers are none of them 0; an accepted call returns 0
-- and a refused one the number, with what is lent as it was. A survey is refused alike in whatever form its values are given.
use Prim.Native.Nat.{ℕ}
use mathlib.Core.Path.{◌≡◌, refl, sym, ap, ◌∙◌, subst}
use mathlib.Core.Bool.{Bool, true, not}
use mathlib.Core.Logic.{inl, inr, ◌↔◌}
use mathlib.Core.List.{List, [], ◌∷◌}
use Rattle.codes.specs.Answer.{Answer, accepted, refused, Row, map_answer, Passes, Refuses}
use Rattle.codes.specs.Claims.{Among, ByTable}
use Rattle.codes.proofs.Rows.{not_refused, refused_among}
use Rattle.trace.specs.Calls.{Call, put, put_list, flip, mark, load, clear, read, survey, After}
use Rattle.trace.specs.Answers.{survey_values}
use Rattle.trace.specs.Trace.{survey_in}
use Rattle.trace.specs.Claims.{numbers_of, Harmless}
use Rattle.trace.proofs.Claims.{demand1, survey_gives}
use Rattle.trace.proofs.Among.{has, each, among_apart}
use Rattle.mizbulett.specs.Returned.{number_of, returns, leaves, survey_flagged}
use Rattle.mizbulett.specs.Claims.{ReturnsBy, ReturnNumbers, SurveyPlaces}

-- ---- tables have no 0

abbrev positive : List ℕ → Bool
positive = each (λ n. not (has (0 ∷ []) n))

calls_positive : (c : Call) → positive (numbers_of c) ≡ true
calls_positive (put slot step reading) = refl
calls_positive (put_list start steps readings) = refl
calls_positive (flip slot position) = refl
calls_positive (mark slot position) = refl
calls_positive (load slot seed count) = refl
calls_positive (clear slot) = refl
calls_positive (read slot) = refl
calls_positive survey = refl

-- ---- what is returned, by a table

module _ {order : List ℕ} {rows : List Row} (some : positive order ≡ true) where
  number_among : (a : Answer (List ℕ)) → ByTable order rows a → Among (number_of a) (0 ∷ order)
  number_among (accepted vs) by = inl refl
  number_among (refused n) by = inr (refused_among by n refl)

  number_zero : (a : Answer (List ℕ)) → ByTable order rows a → number_of a ≡ 0 ↔ Passes rows
  number_zero (accepted vs) by = (λ e. by.accepts.0 (vs, refl), λ t. refl)
  number_zero (refused n) by = (
    λ e. absurd (among_apart order (0 ∷ []) some 0 (rw e at (refused_among by n refl)) (inl refl)),
    λ t. let given = by.accepts.1 t in not_refused given.0 n (sym given.1),
  )

  number_first : (a : Answer (List ℕ)) → ByTable order rows a → (n : ℕ) → Refuses rows n → number_of a ≡ n
  number_first a by n e = ap number_of ((by.refuses n).1 e)

  -- of a call that answers values, and of one that changes the buffer
  by_values : (a : Answer (List ℕ)) (out : List ℕ) → ByTable order rows a → ReturnsBy order rows out (returns a out)
  by_values a out by =
      record {
        among = subst (λ n. Among n (0 ∷ order)) (sym (returned_number a)) (number_among a by);
        zero = rw (returned_number a) (number_zero a by);
        first = λ n e. returned_number a ∙ number_first a by n e;
        unchanged = λ n e. ap (λ a. (returns a out).held) ((by.refuses n).1 e);
      }
    where
      returned_number : (a : Answer (List ℕ)) → (returns a out).number ≡ number_of a
      returned_number (accepted vs) = refl
      returned_number (refused n) = refl

  by_bytes : (r : After (List ℕ)) (b : List ℕ) → Harmless order rows b r → ReturnsBy order rows b (leaves r)
  by_bytes r b h =
      record {
        among = number_among r.answer h.answer;
        zero = number_zero r.answer h.answer;
        first = number_first r.answer h.answer;
        unchanged = λ n e. h.unchanged n ((h.answer.refuses n).1 e);
      }

-- values in another form are refused alike
by_form : {A B C : Type 0} {order : List ℕ} {rows : List Row} (f : A → B) (g : A → C) (a : Answer A)
    → ByTable order rows (map_answer f a) → ByTable order rows (map_answer g a)
by_form f g (accepted v) by =
    record {
      ordered = by.ordered;
      refuses = λ n. (λ e. not_refused (g v) n e, λ e. not_refused (f v) n ((by.refuses n).1 e));
      accepts = (λ e. by.accepts.0 (f v, refl), λ t. (g v, refl));
    }
by_form f g (refused k) by =
    record {
      ordered = by.ordered;
      refuses = λ n. (λ e. (by.refuses n).0 (let same : k ≡ n = cc in ap refused same), λ e. let same : k ≡ n = (let r = (by.refuses n).1 e in cc) in ap refused same);
      accepts = (λ e. not_refused e.0 k (sym e.1), λ t. let given = by.accepts.1 t in not_refused given.0 k (sym given.1));
    }

pub return_numbers : ReturnNumbers
return_numbers =
    record {
      encode = λ code message out. by_values refl _ out (demand1.words.encodings code message);
      decode = λ code word out. by_values refl _ out (demand1.words.decodings code word);
      correct = λ code word marks out. by_values refl _ out (demand1.words.corrections code word marks);
      makings = λ m buf. by_bytes refl _ buf (demand1.makings m buf);
      changes = λ c buf. by_bytes (calls_positive c) _ buf (demand1.calls c buf);
      loads = λ slot seed count buf out. by_values refl _ out (demand1.calls (load slot seed count) buf).answer;
      reads = λ slot buf out. by_values refl _ out (demand1.calls (read slot) buf).answer;
      surveys = λ buf out. by_values refl _ out (by_form survey_values survey_flagged (survey_in buf) (rw (survey_gives buf) at (demand1.calls survey buf).answer));
    }

pub survey_places : SurveyPlaces
survey_places = record { present = λ slots sum smallest largest mean c. refl; absent = λ slots sum c. refl }
