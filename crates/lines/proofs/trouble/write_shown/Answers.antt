-- A longer text has as many bytes as are shown.
use Rattle.std.proofs.Common.{arith, sym, length-take-le}
use Rattle.lines.proofs.trouble.write_shown.Goals as goal

pub slice_bounds-write_all_visible-end : goal.slice_bounds-write_all_visible-end
slice_bounds-write_all_visible-end g c = sym (length-take-le 72 c.args.text.now (omega arith))
