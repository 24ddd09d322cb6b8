-- One number more becomes its character.
use Rattle.std.proofs.Common.{◌<◌, length, arith}
use Rattle.std.proofs.lemmas.List.{get_or_default}
use Rattle.std.proofs.lemmas.List.Edits.{map_over_more}
use Rattle.lines.specs.Text.{hex_digit}
use Rattle.lines.proofs.text.spell_digits.Goals as goal

pub loop-digit-preserved : goal.loop-digit-preserved
loop-digit-preserved c =
    let within : c.loop-digit.digit-index < length c.loop-digit.digits = omega arith in
    rw c.hex_digit.ensures.value
    (map_over_more hex_digit c.args.digits.now c.loop-digit.digits c.loop-digit.digit-index _ (omega arith) c.loop-digit.invariant
    (get_or_default c.loop-digit.digits c.loop-digit.digit-index 0 _ within))
