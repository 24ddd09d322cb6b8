-- The word ends at the first blank.
use Rattle.std.proofs.Common.{unwrap_or, length, take, drop, ap, ◌∙◌}
use Rattle.script.specs.Script.{is_blank}
use Rattle.script.proofs.Blanks.{end_of_word, take-up_to}
use Rattle.script.proofs.parts.split_word.Goals as goal

pub returns-clause-word : goal.returns-clause-word
returns-clause-word c =
    let text = c.args.text.now in
    let end = c.unwrap_or-end.ensures ∙ ap (λ o. unwrap_or o (length text)) c.first_blank.ensures ∙ end_of_word text in
    c.split_at.ensures.front ∙ ap (λ n. take n text) end ∙ take-up_to is_blank text

pub returns-clause-rest : goal.returns-clause-rest
returns-clause-rest c =
    let text = c.args.text.now in
    let end = c.unwrap_or-end.ensures ∙ ap (λ o. unwrap_or o (length text)) c.first_blank.ensures ∙ end_of_word text in
    c.split_at.ensures.back ∙ ap (λ n. drop n text) end
