-- What is claimed of the calls for C. Of the numbers that they return, a corollary of demand 1: 0 exactly where no row of the call's table is met,
-- else the number of the first that is, and then what is lent stays as it was. And of what stands where in a survey. Each claim is a theorem of the
-- same name, in lower case, in proofs/.
use Rattle.std.specs.Prelude.{◌≡◌, ◌↔◌, List, [], ◌∷◌, ℕ, None, Some}
use Rattle.codes.specs.Answer.{Row, map_answer, Passes, Refuses}
use Rattle.codes.specs.Codes.{encoding, decoding, correcting, under}
use Rattle.codes.specs.Claims.{Among, encoding_numbers, encoding_rows, decoding_numbers, decoding_rows, correcting_numbers, correcting_rows}
use Rattle.trace.specs.declared.answer.Counts.{Counts}
use Rattle.trace.specs.Calls.{Call, load, read, survey, Making}
use Rattle.trace.specs.Trace.{refusals_in, on_bytes, make_rows, make, survey_in}
use Rattle.trace.specs.Claims.{numbers_of, making_numbers}
use Rattle.mizbulett.specs.Returned.{Returned, returns, leaves, survey_flagged}

pub record ReturnsBy (order : List ℕ) (rows : List Row) (lent : List ℕ) (r : Returned) : Type 0 where
  -- 0, or a number of the table
  pub among : Among r.number (0 ∷ order)
  pub zero : r.number ≡ 0 ↔ Passes rows
  pub first : (n : ℕ) → Refuses rows n → r.number ≡ n
  pub unchanged : (n : ℕ) → Refuses rows n → r.held ≡ lent

pub record ReturnNumbers : Type 0 where
  pub encode : (code message : ℕ) (out : List ℕ)
      → ReturnsBy encoding_numbers (encoding_rows code message) out (returns (under code (λ π. encoding π message)) out)
  pub decode : (code word : ℕ) (out : List ℕ)
      → ReturnsBy decoding_numbers (decoding_rows code word) out (returns (under code (λ π. decoding π word)) out)
  pub correct : (code word marks : ℕ) (out : List ℕ)
      → ReturnsBy correcting_numbers (correcting_rows code word marks) out (returns (under code (λ π. correcting π word marks)) out)
  pub makings : (m : Making) (buf : List ℕ) → ReturnsBy making_numbers (make_rows m buf) buf (leaves (make m buf))
  -- put, list of puts, flip, mark, load and clear: what is lent to be written is the buffer, and to a load `out` too
  pub changes : (c : Call) (buf : List ℕ) → ReturnsBy (numbers_of c) (refusals_in c buf) buf (leaves (on_bytes c buf))
  pub loads : (slot seed count : ℕ) (buf out : List ℕ)
      → ReturnsBy (numbers_of (load slot seed count)) (refusals_in (load slot seed count) buf) out (returns (on_bytes (load slot seed count) buf).answer out)
  pub reads : (slot : ℕ) (buf out : List ℕ)
      → ReturnsBy (numbers_of (read slot)) (refusals_in (read slot) buf) out (returns (on_bytes (read slot) buf).answer out)
  pub surveys : (buf out : List ℕ) → ReturnsBy (numbers_of survey) (refusals_in survey buf) out (returns (map_answer survey_flagged (survey_in buf)) out)

-- what stands in the eleven places of a survey, with pressures and without
pub record SurveyPlaces : Type 0 where
  pub present : (slots sum smallest largest mean : ℕ) (c : Counts)
      → survey_flagged (record { slots = slots; counts = c; sum = sum; pressures = Some (record { smallest = smallest; largest = largest; mean = mean }) })
      ≡ c.blank ∷ c.read ∷ c.over ∷ c.under ∷ c.lost ∷ c.bad ∷ sum ∷ 1 ∷ smallest ∷ largest ∷ mean ∷ []
  pub absent : (slots sum : ℕ) (c : Counts)
      → survey_flagged (record { slots = slots; counts = c; sum = sum; pressures = None })
      ≡ c.blank ∷ c.read ∷ c.over ∷ c.under ∷ c.lost ∷ c.bad ∷ sum ∷ 0 ∷ 0 ∷ 0 ∷ 0 ∷ []
