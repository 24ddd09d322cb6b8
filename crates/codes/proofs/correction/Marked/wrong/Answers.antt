-- The marks set and taken away leave the ones outside them.
use Rattle.std.proofs.Common.{◌∙◌}
use lib.Bits.{xor_lt, or_lt}
use Rattle.codes.specs.Projection.{width}
use Rattle.codes.specs.Codes.{projection}
use Rattle.codes.proofs.Nearness.{ones_wrong}
use Rattle.codes.proofs.correction.Marked.wrong.Goals as goal

pub returns : goal.returns
returns c =
    let s = c.args.self in
    let n = width (projection s.code) in
    c.ones.ensures (projection s.code)
    (xor_lt n _ s.marks (or_lt n _ s.marks (xor_lt n c.args.codeword s.word c.requires s.word_fits) s.marks_fit) s.marks_fit)
    ∙ ones_wrong (projection s.code) s.word s.marks c.args.codeword
