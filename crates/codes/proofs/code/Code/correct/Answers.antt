-- Past the tests of the widths: the answer where nothing is near, and where a codeword is.
use Rattle.std.proofs.Common.{◌≡◌, ℕ, ◌^◌, ◌<◌, sym, ap, ◌∙◌}
use Rattle.codes.specs.declared.code.Code.{Code}
use Rattle.codes.specs.Answer.{accepted, refused}
use Rattle.codes.specs.Projection.{width}
use Rattle.codes.specs.Message.{decode}
use Rattle.codes.specs.Correction.{ones, Near, correction_of, correct}
use Rattle.codes.specs.Codes.{projection, correction_values, correction_answer, correcting}
use Rattle.codes.proofs.Codes.{systematic, apart}
use Rattle.codes.proofs.Corrections.{correct_near, correct_none, many_marks, correcting_fits}
use Rattle.codes.proofs.code.Code.correct.Goals as goal

module _ (code : Code) (w m : ℕ) (word_fits : w < 2 ^ width (projection code)) (marks_fit : m < 2 ^ width (projection code)) where
  fits : correcting (projection code) w m ≡ correction_answer (correct (projection code) w m)
  fits = correcting_fits (projection code) w m word_fits marks_fit

  none_answer : ((y : ℕ) → Near (projection code) w m y → ⊥) → refused 5 ≡ correcting (projection code) w m
  none_answer empty = sym (fits ∙ ap correction_answer (correct_none (projection code) w m (systematic code) (apart code) empty))

  near_answer : (x : ℕ) → Near (projection code) w m x →
      accepted (correction_values (correction_of (projection code) w m x)) ≡ correcting (projection code) w m
  near_answer x close = sym (fits ∙ ap correction_answer (correct_near (projection code) w m (systematic code) (apart code) x close))

pub returns-then-count-gt-MOST_MARKS : goal.returns-then-count-gt-MOST_MARKS
returns-then-count-gt-MOST_MARKS c =
    let a = c.args in
    let π = projection a.self in
    let word_fits : a.word < 2 ^ width (projection a.self) = rw c.word_limit.ensures at c.if-word_limit-word.false in
    let marks_fit : a.marks < 2 ^ width (projection a.self) = rw c.word_limit-else-word_limit-word.ensures at c.if-word_limit-marks.false in
    none_answer a.self a.word a.marks word_fits marks_fit
    (many_marks π a.word a.marks (rw (c.ones-count.ensures π marks_fit) at c.if-count-gt-MOST_MARKS.true))

pub returns-in_default : goal.returns-in_default
returns-in_default c =
    let a = c.args in
    none_answer a.self a.word a.marks
    (rw c.word_limit.ensures at c.if-word_limit-word.false)
    (rw c.word_limit-else-word_limit-word.ensures at c.if-word_limit-marks.false)
    c.in_default.ensures

pub returns : goal.returns
unfolding decode
returns c =
    let a = c.args in
    let π = projection a.self in
    let word_fits : a.word < 2 ^ width (projection a.self) = rw c.word_limit.ensures at c.if-word_limit-word.false in
    let marks_fit : a.marks < 2 ^ width (projection a.self) = rw c.word_limit-else-word_limit-word.ensures at c.if-word_limit-marks.false in
    let x = c.in-Some.codeword in
    let message : c.message_in.result ≡ decode (projection a.self) c.in-Some.codeword = rw c.unpack-columns.ensures at c.message_in.ensures in
    let marks : c.ones-count.result ≡ ones (projection a.self) a.marks = c.ones-count.ensures π marks_fit in
    cc (message, c.wrong.ensures, marks, c.marked_wrong.ensures, near_answer a.self a.word a.marks word_fits marks_fit x c.in-Some.ensures)
