-- The numbers are below 16, so their characters are ASCII, and these are the text.
use Rattle.std.proofs.Common.{arith, rules}
use Rattle.std.specs.Str.{IsUtf8}
use Rattle.std.proofs.lemmas.Str.{IsUtf8-from_ascii}
use Rattle.lines.proofs.Hexes.{nibbles_spelled, nibbles_small, hexes_ascii}
use Rattle.lines.proofs.text.write_part.Goals as goal

pub spell_digits-requires : goal.spell_digits-requires
spell_digits-requires g c = λ i h. rw c.split_nibbles.ensures (nibbles_small c.args.bytes.now (λ k. omega (arith, c.type_inv.bytes k)) i)

pub unwrap-requires : goal.unwrap-requires
unwrap-requires g c =
    let ascii = hexes_ascii c.args.bytes.now (λ k. omega (arith, c.type_inv.bytes k)) in
    let text : IsUtf8 c.spell_digits.new.digits =
    rw (c.spell_digits.ensures, c.split_nibbles.ensures, nibbles_spelled) (IsUtf8-from_ascii _ ascii) in
    search rules

pub push_str-requires : goal.push_str-requires
push_str-requires g c =
    let text = rw c.unwrap.ensures at c.from_utf8.ensures.cases in
    (search rules, rw (text.0, c.spell_digits.ensures, c.split_nibbles.ensures, nibbles_spelled) c.requires.room)

pub returns : goal.returns
returns g c =
    let text = rw c.unwrap.ensures at c.from_utf8.ensures.cases in
    rw (c.push_str.ensures.bytes, text.0, c.spell_digits.ensures, c.split_nibbles.ensures, nibbles_spelled)
