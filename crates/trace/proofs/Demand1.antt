-- Demand 1: each call answers by its table, and a refused call leaves every byte. A call's rows have its numbers, and it gives values where none is
-- met ('CallFacts'); so does a making. A refused outcome keeps the bytes. The word calls' part is the codes' own claim.
use Rattle.std.proofs.Common.{◌≡◌, ℕ, List, [], refl}
use Rattle.codes.specs.Answer.{Answer, accepted, Row, unless, Passes}
use Rattle.codes.specs.Claims.{numbers}
use Rattle.codes.proofs.Rows.{by_table, passes_behind}
use Rattle.codes.proofs.Claims.{word_calls_refuse, word_rows_mean}
use Rattle.trace.specs.Calls.{outcome}
use Rattle.trace.specs.Layout.{made}
use Rattle.trace.specs.Rules.{refusals, gives}
use Rattle.trace.specs.Trace.{view_in, trailer_rows, refusals_in, leaves, on_bytes, make_rows, make}
use Rattle.trace.specs.Claims.{Harmless, Demand1}
use Rattle.trace.proofs.Outcomes.{outcome_answer, outcome_refused}
use Rattle.trace.proofs.CallFacts.{facts}
use Rattle.trace.proofs.TraceRows.{trace_rows_mean}

-- an outcome behind rows
harmless : {order : List ℕ} (rows : List Row) (a : Answer (List ℕ)) (new old : List ℕ) → numbers rows ≡ order
    → (Passes rows → (vs : List ℕ) × (a ≡ accepted vs)) → Harmless order rows old (outcome (unless rows a) new old)
harmless rows a new old e gives =
    record {
      answer = rw (outcome_answer (unless rows a) new old) (by_table rows a gives e);
      unchanged = λ n r. (outcome_refused (unless rows a) new old n r).1;
    }

pub demand1 : Demand1
unfolding on_bytes make
demand1 =
    record {
      calls =
          λ c b.
          let v = view_in b in
          harmless (refusals_in c b) (gives c v) (leaves c b) b ((facts c).ordered v)
          (λ t. (facts c).accepts v (passes_behind (trailer_rows b) (refusals c v) t));
      makings = λ m b. harmless (make_rows m b) (accepted []) (made m b) b refl (λ t. ([], refl));
      words = word_calls_refuse;
      word_rows = word_rows_mean;
      trace_rows = trace_rows_mean;
    }
