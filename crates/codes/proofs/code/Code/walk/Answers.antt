-- `codes::Code::walk` meets its contract: the walk over the columns that are unpacked.
use Rattle.codes.proofs.Walks.{collects}
use Rattle.codes.proofs.code.Code.walk.Goals as goal

pub returns : goal.returns
returns c =
    collects c.args.self c.args.word c.walk_columns.result (rw c.unpack.ensures at c.walk_columns.ensures)
