-- The message that a codeword's columns say: the walk's first parity is that of its first column.
use Rattle.std.proofs.Common.{◌≡◌, true, ◌^◌, ◌<◌, sym, ap, ◌∙◌}
use borrow.Author.Tests.{lt-leb}
use Rattle.symbols.specs.Symbol.{has_bit}
use Rattle.codes.specs.Projection.{width}
use Rattle.codes.specs.Word.{word, is_codeword}
use Rattle.codes.specs.Message.{first_parity, decode}
use Rattle.codes.specs.Codes.{projection}
use Rattle.codes.proofs.Strict.{first_parity_lem}
use Rattle.codes.proofs.code.Code.decode.Goals as goal

pub message_in-requires : goal.message_in-requires
message_in-requires c =
    c.is_first_odd.ensures
    ∙ ap (has_bit 0) c.walk-walk.ensures.parities
    ∙ first_parity_lem (word (projection c.args.self) c.args.word)
    ∙ ap first_parity (sym c.unpack.ensures)

pub returns-then-is_codeword : goal.returns-then-is_codeword
unfolding decode
returns-then-is_codeword c =
    let a = c.args in
    let fits : a.word < 2 ^ width (projection a.self) = rw c.word_limit.ensures at c.if-word_limit-word.false in
    let good : is_codeword (projection a.self) (word (projection a.self) a.word) ≡ true =
    sym (c.is_codeword.ensures a.word c.walk-walk.ensures) ∙ c.if-is_codeword.true in
    rw (c.message_in.ensures, c.unpack.ensures, lt-leb _ _ fits, good)
