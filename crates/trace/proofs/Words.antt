-- What a trace takes from the word calls: a fit step and reading are a fit message, as the step limit times 4096 is the message limit; a fit word
-- under fit marks is corrected, since word calls whose numbers fit meet none of their other refusals.
use Rattle.std.proofs.Common.{◌≡◌, ℕ, ◌+◌, ◌*◌, ◌^◌, ◌<◌, ◌∙◌, arith}
use Rattle.codes.specs.declared.code.Code.{Code}
use Rattle.codes.specs.declared.answer.Correction.{Correction}
use Rattle.codes.specs.Answer.{accepted, refused}
use Rattle.codes.specs.Projection.{Projection, width, message_bits}
use Rattle.codes.specs.Correction.{correct}
use Rattle.codes.specs.Codes.{projection, step_limit, correction_values, correcting}
use Rattle.codes.proofs.Laws.{steps, correcting_fits, answer_near, answer_none}
use Rattle.trace.specs.View.{message_of, reading_of, read_corrected}

-- a fit step and reading make a fit message
pub message_lt : (c : Code) (step reading : ℕ) → step < step_limit (projection c) → reading < 4096 → message_of step reading < 2 ^ message_bits (projection c)
message_lt c step reading hs hr = sum _ _ (steps c) hs
  where
    sum : (limit messages : ℕ) → limit * 4096 ≡ messages → step < limit → step * 4096 + reading < messages
    sum limit messages e h = omega arith

-- a read of a fit word under fit marks gives what mending gives, its message split
module _ (π : Projection) (w m : ℕ) (word_fits : w < 2 ^ width π) (marks_fit : m < 2 ^ width π) where
  pub read_near : (c : Correction) → accepted (correction_values c) ≡ correcting π w m
      → accepted (reading_of c) ≡ read_corrected (correct π w m)
  unfolding read_corrected
  read_near c e = rw (answer_near (correct π w m) c (e ∙ correcting_fits π w m word_fits marks_fit))

  pub read_refused : (k : ℕ) → refused k ≡ correcting π w m → refused k ≡ read_corrected (correct π w m)
  unfolding read_corrected
  read_refused k e =
      let answer = e ∙ correcting_fits π w m word_fits marks_fit in
      let nothing = answer_none (correct π w m) k answer in
      let five : k ≡ 5 = let same = rw nothing at answer in cc in
      rw (nothing, five)
