-- The claims about lines and calls: those that are stated here are computed by the definitions.
use Rattle.std.proofs.Common.{refl}
use Rattle.script.specs.Claims.{LinesMean, LinesLend, LinesPut}
pub use Rattle.script.proofs.Holds.{lines_held}
pub use Rattle.script.proofs.Commas.{lists_read}
pub use Rattle.script.proofs.Sizes.{lists_fit}
pub use Rattle.script.proofs.Calls.{calls_answer}

pub lines_mean : LinesMean
lines_mean =
    record {
      empty = refl;
      blank = refl;
      comment = refl;
      make = refl;
      put = refl;
      flip = refl;
      mark = refl;
      load = refl;
      clear = refl;
      read = refl;
      survey = refl;
      bytes = refl;
      return = refl;
      size = refl;
      no_size = refl;
      hex = refl;
      no_digit = refl;
      half_pair = refl;
      opened = refl;
      saved = refl;
      no_file = refl;
      below = refl;
      above = refl;
      fewer = refl;
      more = refl;
      largest = refl;
      too_large = refl;
      no_count = refl;
      largest_seed = refl;
      too_large_seed = refl;
      puts = refl;
      no_puts = refl;
      uneven = refl;
      empty_number = refl;
      comma_in_front = refl;
      comma_at_end = refl;
      two_dashes = refl;
      dash_in_list = refl;
      no_comma = refl;
      no_start = refl;
      fewer_lists = refl;
      more_lists = refl;
      too_large_in_list = refl;
    }

pub lines_lend : LinesLend
lines_lend = record { size = refl; pairs = refl; digits = refl; no_digits = refl; call = refl; name = refl; front = refl; fits = refl; too_many = refl; nothing = refl }

pub lines_put : LinesPut
lines_put = record { puts = refl; several = refl; empty = refl; uneven = refl; largest = refl; put = refl; front = refl; fits = refl; too_many = refl; nothing = refl }
