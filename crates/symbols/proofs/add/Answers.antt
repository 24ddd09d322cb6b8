-- An exclusive or modulo 4 is one of the two remainders, and the sixteen pairs are tested.
use mathlib.Core.Path.{◌∙◌}
use lib.Bits.{bit_xor, xor_mod}
use Rattle.symbols.specs.Symbol.{add}
use Rattle.symbols.proofs.Numbers.{by_symbols}
use Rattle.symbols.proofs.add.Goals as goal

pub returns : goal.returns
returns c = xor_mod c.args.x c.args.y 2 ∙ by_symbols bit_xor add tt c.args.x c.args.y
