-- The codeword's columns as a number, past the test of the message's size.
use Rattle.std.proofs.Common.{◌^◌, ◌<◌}
use borrow.Author.Tests.{lt-leb}
use Rattle.codes.specs.Projection.{message_bits}
use Rattle.codes.specs.Message.{encode}
use Rattle.codes.specs.Codes.{projection}
use Rattle.codes.proofs.code.Code.encode.Goals as goal

pub returns : goal.returns
unfolding encode
returns c =
    let a = c.args in
    let fits : a.message < 2 ^ message_bits (projection a.self) = rw c.message_limit.ensures at c.if-message_limit-message.false in
    rw (c.pack.ensures, c.codeword.ensures, lt-leb _ _ fits)
