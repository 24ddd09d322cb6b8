-- `trace::layout::write_blank` meets its contract: the slots are filled with zeros, and then the trailer is written.
use Rattle.std.proofs.Common.{◌-◌, ◌≤◌, length, ◌∙◌, arith}
use Rattle.trace.specs.Layout.{trailer_size, needed_for}
use Rattle.trace.proofs.Trailers.{zeros_written, made_written}
use Rattle.trace.proofs.layout.write_blank.Goals as goal

pub returns : goal.returns
returns c =
    let b = c.args.b.now in
    let n = c.args.slots.number in
    let size = c.distance-size.ensures in
    let needed : needed_for n ≤ length b = c.requires in
    let zeros = zeros_written b c.fill.new.self (length b - trailer_size) c.distance-size.result (omega arith) (omega arith) (c.fill.ensures.after (λ y h. h)) in
    c.write_trailer.ensures ∙ rw (zeros, size) (made_written b c.args.code n needed)
