-- The items are the bytes.
use Rattle.std.proofs.Common.{◌<◌, ◌^◌, ◌∙◌, ap, length, refl, option_map, arith, rules}
use Rattle.script.specs.ContractsOfSteps.{pairs, pairs_left}
use Rattle.script.proofs.Walks.{gives_shown}
use Rattle.script.proofs.Pairing.{all_pairs, length-pairs}
use Rattle.script.proofs.hex.count_pairs.Goals as goal

pub count-requires : goal.count-requires
count-requires c =
    let text = c.args.text.now in
    let short : length text < 2 ^ 64 = search rules in
    record { can = tt; ends = tt; fit = (pairs text, gives_shown pairs_left (pairs text) _ refl, omega (arith, length-pairs text, short)) }

pub returns : goal.returns
returns c =
    let text = c.args.text.now in
    c.count.ensures (pairs text) (gives_shown pairs_left (pairs text) _ refl) ∙ ap (option_map length) (all_pairs text)
