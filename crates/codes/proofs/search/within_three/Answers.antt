-- The parities that the walk hands on say which parity a close codeword has, and which columns lack it.
use Rattle.std.proofs.Common.{◌≡◌, ℕ, Bool, not, ◌^◌, ◌<◌, List, map, length, sym, ap, ◌∙◌}
use mathlib.Core.Bool.{beq}
use lib.ListN.{length-map}
use Rattle.symbols.specs.Symbol.{◌⊻◌}
use Rattle.symbols.specs.Column.{parity}
use Rattle.symbols.proofs.Claims.{exclusive_or}
use Rattle.codes.specs.declared.code.Code.{Code}
use Rattle.codes.specs.declared.word.Walk.{Walk}
use Rattle.codes.specs.Claims.{WalkCollects}
use Rattle.codes.specs.Digits.{mask}
use Rattle.codes.specs.Projection.{size, width, wanted}
use Rattle.codes.specs.Word.{word}
use Rattle.codes.specs.Codes.{projection}
use Rattle.codes.specs.ContractsOfSearch.{Begun}
use Rattle.codes.proofs.Masks.{lacking_parities}
use Rattle.codes.proofs.Searches.{searchable}
use Rattle.codes.proofs.Seeking.{begun, sought_majority}
use Rattle.codes.proofs.Words.{length_word}
use Rattle.codes.proofs.search.within_three.Goals as goal

-- the trial and the mask with which the search begins
begins : (code : Code) (w : ℕ) → w < 2 ^ width (projection code) → (walk : Walk) → WalkCollects code w walk → (odd : Bool) →
    {top : Bool} → top ≡ wanted (projection code).rule odd → {d : ℕ} →
    ((l : List Bool) → length l ≡ size (projection code) → walk.parities ≡ mask l → d ≡ mask (map (λ b. odd ⊻ b) l)) →
    Begun (projection code) odd d (record { code = code; word = w; syndrome = walk.syndrome; off = not (beq walk.top top) })
begins code w fits walk collects odd {top} top_is {d} lacks =
    let cs = word (projection code) w in
    begun code odd w d walk (not (beq walk.top top)) fits
    (lacks (map parity cs) (length-map cs parity ∙ length_word (projection code) w) collects.parities ∙ ap mask (sym (lacking_parities odd cs)))
    collects (exclusive_or.unequal walk.top top ∙ ap (◌⊻◌ walk.top) top_is)

pub seek-requires : goal.seek-requires
seek-requires c =
    let a = c.args in
    (c.has_four-odd.result, begins a.code a.word c.requires c.walk-walk.result c.walk-walk.ensures c.has_four-odd.result c.top_parity.ensures c.lacking.ensures)

pub returns : goal.returns
returns c =
    let a = c.args in
    let odd = c.has_four-odd.result in
    sought_majority a.word (searchable a.code) odd (c.has_four-odd.ensures (map parity (word (projection a.code) a.word)) c.walk-walk.ensures.parities)
    c.seek.result
    (c.seek.ensures odd
    (begins a.code a.word c.requires c.walk-walk.result c.walk-walk.ensures odd c.top_parity.ensures c.lacking.ensures))
