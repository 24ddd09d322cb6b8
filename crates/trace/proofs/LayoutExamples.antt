-- The layout of one trace, computed by the definitions.
use Rattle.std.proofs.Common.{refl}
use Rattle.trace.specs.Layout.{bytes_of, number_from, part, overwrite, trailer, place_from, store_at, made}
use Rattle.trace.specs.Trace.{stored, make}
use Rattle.trace.specs.Claims.{LayoutExample}

pub layout_example : LayoutExample
unfolding bytes_of number_from part overwrite trailer place_from store_at made stored make
layout_example = record { made = refl; stored = refl }
