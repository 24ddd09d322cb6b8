-- The zeros below a mask's lowest one are the columns before its first.
use Rattle.std.proofs.Common.{ℕ, ◌<◌, ap, ◌∙◌, arith}
use lib.Count.{count_trailing_zeros}
use Rattle.codes.specs.declared.code.Code.{Code}
use Rattle.codes.specs.Projection.{size}
use Rattle.codes.specs.Codes.{projection}
use Rattle.codes.specs.ContractsOfSearch.{Masks}
use Rattle.codes.proofs.Codes.{size_le}
use Rattle.codes.proofs.Masks.{lowest_first, first_lt}
use Rattle.codes.proofs.search.first_column.Goals as goal

-- the place is one of the code's columns
inside : (code : Code) (columns : ℕ) → Masks (projection code) columns → count_trailing_zeros 64 columns < size (projection code)
inside code columns (l, set) =
    rw set.masks (omega (arith, lowest_first 64 l set.some (omega (arith, set.long, size_le code)), first_lt l set.some, set.long))

pub returns : goal.returns
returns c =
    let a = c.args in (
      inside a.code a.columns c.requires,
      λ l set. ap (count_trailing_zeros 64) set.masks ∙ lowest_first 64 l set.some (omega (arith, set.long, size_le a.code)),
    )
