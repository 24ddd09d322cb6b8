-- The digits so far are characters, and the others numbers.
use Rattle.std.proofs.Common.{◌≡◌, ◌++◌, take, drop}
use Rattle.std.specs.Prelude.{map}
use Rattle.lines.specs.Text.{hex_digit}
use Rattle.lines.proofs.text.spell_digits.Given as goal

abbrev pub invariant-loop-digit : goal.invariant-loop-digit
invariant-loop-digit l = l.digits ≡ map hex_digit (take l.digit-index l.initial.digits) ++ drop l.digit-index l.initial.digits
