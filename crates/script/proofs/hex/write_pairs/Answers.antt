-- The items are the bytes.
use Rattle.std.proofs.Common.{◌∙◌}
use Rattle.script.specs.Script.{hex_bytes}
use Rattle.script.specs.ContractsOfSteps.{pairs, pairs_left, list_of}
use Rattle.script.proofs.Walks.{all_some, gives_shown}
use Rattle.script.proofs.Pairing.{all_pairs}
use Rattle.script.proofs.hex.write_pairs.Goals as goal

pub write-requires : goal.write-requires
write-requires c =
    let text = c.args.text.now in
    let xs = list_of (hex_bytes text) in
    record { can = tt; ends = tt; fit = (xs, gives_shown pairs_left _ _ (all_some (pairs text) xs (all_pairs text ∙ c.requires.are)), c.requires.fit) }

pub returns : goal.returns
returns c =
    let text = c.args.text.now in
    let xs = list_of (hex_bytes text) in
    c.write.ensures xs (gives_shown pairs_left _ _ (all_some (pairs text) xs (all_pairs text ∙ c.requires.are))) c.requires.fit
