-- Demand 2: the codes' claims, and the survey's.
use Rattle.codes.proofs.Claims.{round_trip, one_message, decodes_codewords, calls_round_trip, eight_apart, one_near, eight_is_far}
use Rattle.codes.proofs.Claims.{corrects_near, refuses_far}
use Rattle.trace.specs.Claims.{Demand2}
use Rattle.trace.proofs.SurveyLaws.{survey_honest}

pub demand2 : Demand2
demand2 =
    record {
      round_trip = round_trip;
      one_message = one_message;
      decodes_codewords = decodes_codewords;
      calls_round_trip = calls_round_trip;
      eight_apart = eight_apart;
      one_near = one_near;
      eight_is_far = eight_is_far;
      corrects_near = corrects_near;
      refuses_far = refuses_far;
      survey_honest = survey_honest;
    }
