-- `codes::message::codeword` meets its contract: the draft without the other values is a word whose syndrome is what these must be.
use Rattle.std.proofs.Common.{ap, ◌∙◌}
use Rattle.codes.specs.Word.{syndrome_of}
use Rattle.codes.specs.Codes.{projection}
use Rattle.codes.proofs.Codes.{systematic}
use Rattle.codes.proofs.Drafts.{draft_codeword}
use Rattle.codes.proofs.message.codeword.Goals as goal

pub returns : goal.returns
returns c =
    let code = c.args.code in
    let π = projection code in
    c.columns-2.ensures
    ∙ draft_codeword π (systematic code) c.args.message c.walk_columns-syndrome.result.syndrome
    (c.walk_columns-syndrome.ensures.syndromes ∙ ap (syndrome_of π) c.columns.ensures)
