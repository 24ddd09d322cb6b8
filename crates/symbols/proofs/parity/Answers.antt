-- The parity of the ones is tested at the sixteen columns.
use mathlib.Core.Path.{ap, ◌∙◌}
use mathlib.Core.Bool.{Bool-discrete}
use Prim.Native.Nat.{◌%◌}
use native.Mathlib.Nat.{mod-lt}
use lib.Dec.{lit<}
use lib.Count.{ones}
use Rattle.std.proofs.Common.{nat_eq}
use Rattle.symbols.specs.Column.{parity, column_of}
use Rattle.symbols.proofs.Every.{law_below}
use Rattle.symbols.proofs.Numbers.{column_mod}
use Rattle.symbols.proofs.parity.Goals as goal

pub returns : goal.returns
unfolding ones
returns c =
    law_below 16 Bool-discrete (λ n. nat_eq (ones n % 2) 1) (λ n. parity (column_of n)) tt (c.args.column % 16) (mod-lt c.args.column (lit< tt))
    ∙ ap parity (column_mod c.args.column)
