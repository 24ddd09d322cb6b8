-- The parts of the line are written one after the other.
use Rattle.std.proofs.Common.{ℕ, List, length, arith, rules, ap, append_assoc, length-append}
use Rattle.lines.specs.Text.{spaced}
use Rattle.lines.proofs.Surveyed.{survey_parts, survey_room}
use Rattle.lines.proofs.answers.write_survey.Goals as goal

pub push_str-requires : goal.push_str-requires
push_str-requires g c = let room = survey_room c.args.survey _ _ c.requires in (search rules, omega (arith, room))

pub write_numbers-requires : goal.write_numbers-requires
write_numbers-requires g c =
    let room = survey_room c.args.survey _ _ c.requires in
    (search rules, rw c.counts_and_sum.ensures (omega (arith, room, c.push_str.ensures.len)))

pub write_pressures-requires : goal.write_pressures-requires
write_pressures-requires g c =
    let room = survey_room c.args.survey _ _ c.requires in
    let numbers = simp length-append at (ap length c.write_numbers.ensures) in
    let same = ap (λ (l : List ℕ). length (spaced l)) c.counts_and_sum.ensures in
    (search rules, simp length-append (omega (arith, room, numbers, same, c.push_str.ensures.len)))

pub push_str-requires-2 : goal.push_str-requires-2
push_str-requires-2 g c =
    let room = survey_room c.args.survey _ _ c.requires in
    let numbers = simp length-append at (ap length c.write_numbers.ensures) in
    let behind = simp length-append at (ap length c.write_pressures.ensures) in
    let same = ap (λ (l : List ℕ). length (spaced l)) c.counts_and_sum.ensures in
    (search rules, omega (arith, room, numbers, behind, same, c.push_str.ensures.len))

pub returns : goal.returns
returns g c =
    rw (c.push_str-2.ensures.bytes, c.write_pressures.ensures, c.write_numbers.ensures, c.counts_and_sum.ensures, c.push_str.ensures.bytes, survey_parts c.args.survey)
    (simp append_assoc)
