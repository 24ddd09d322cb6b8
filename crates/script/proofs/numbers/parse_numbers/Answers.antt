-- A fourth number is none of a command's.
use Rattle.std.proofs.Common.{Option, List, ℕ, ◌++◌, option_map, sym, ◌∙◌, ap}
use Rattle.script.specs.Script.{number_on, numbers_of}
use Rattle.script.specs.ContractsOfSteps.{words_left}
use Rattle.script.proofs.Numerals.{too_many, refused}
use Rattle.script.proofs.numbers.parse_numbers.Goals as goal

pub returns-in_err-ok : goal.returns-in_err-ok
returns-in_err-ok c =
    let items = c.loop-word.numbers.items in
    let left = numbers_of (words_left c.next.new.self) in
    let read =
    ap (λ (o : Option ℕ). option_map (λ (ns : List ℕ). items ++ ns) (number_on o left)) c.in_ok-number.ensures
    ∙ ap (λ (ws : List (List ℕ)). option_map (λ (ns : List ℕ). items ++ ns) (numbers_of ws)) (sym c.in-Some.ensures.steps) ∙ c.loop-word.invariant in
    let size = refused c.try_push.result c.try_push.ensures.full (sym c.ok.ensures.value ∙ c.in_err-ok.was) in
    rw c.from_residual-in_err-ok.ensures (too_many items c.in_ok-number.number left _ read size)
