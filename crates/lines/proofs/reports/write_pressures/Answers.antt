-- Each case as it is written.
use Rattle.std.proofs.Common.{append_assoc}
use Rattle.lines.proofs.reports.write_pressures.Goals as goal

pub returns-in-None : goal.returns-in-None
returns-in-None g c = rw c.in-None.is c.push_str.ensures.bytes

pub returns-in-Some : goal.returns-in-Some
returns-in-Some g c =
    rw (c.in-Some.is, c.write_number-in-Some-2.ensures, c.write_number-in-Some.ensures, c.write_number.ensures)
    (simp append_assoc)
