-- At most one codeword is within three positions, and it is near or no near one is.
use Rattle.std.proofs.Common.{arith}
use Rattle.codes.specs.Codes.{projection}
use Rattle.codes.proofs.Codes.{size_le, systematic, apart}
use Rattle.codes.proofs.Nearness.{ones_le, wrong_le}
use Rattle.codes.proofs.Corrections.{fitting_far}
use Rattle.codes.proofs.correction.Marked.fitting.Goals as goal

pub overflow_mul-wrong : goal.overflow_mul-wrong
overflow_mul-wrong c =
    let s = c.args.self in
    omega (arith, c.wrong.ensures, wrong_le (projection s.code) s.word s.marks c.in_ok-found.found, size_le s.code)

pub overflow_add-wrong : goal.overflow_add-wrong
overflow_add-wrong c =
    let s = c.args.self in
    let π = projection s.code in
    omega
    (arith, c.wrong.ensures, wrong_le π s.word s.marks c.in_ok-found.found, c.ones.ensures π s.marks_fit, ones_le π s.marks, size_le s.code)

pub returns : goal.returns
returns c =
    let s = c.args.self in
    let π = projection s.code in
    fitting_far π s.word s.marks (systematic s.code) (apart s.code) c.args.filled c.in_ok-found.found c.in_ok-found.ensures
    (omega (arith, c.wrong.ensures, c.ones.ensures π s.marks_fit, c.if-wrong-ones-le-BUDGET.false))
