use Rattle.std.proofs.Common.{[], ◌∷◌, ap, ◌∙◌}
use Rattle.std.proofs.lemmas.Bool.Decides.{Decides-eqb}
use Rattle.std.proofs.lemmas.Slice.Eq.{strip_suffix_is}
use Rattle.script.specs.Script.{skip_blanks, trim_end}
use Rattle.script.proofs.Blanks.{stripped}
use Rattle.script.proofs.parts.bare.Goals as goal

pub returns : goal.returns
returns c =
    let cut = strip_suffix_is Decides-eqb c.args.line.now (13 ∷ []) c.strip_suffix.result c.strip_suffix.ensures.cases in
    c.skip_blanks.ensures ∙ ap skip_blanks (c.trim_end.ensures ∙ ap trim_end (ap (λ t. t.now) c.unwrap_or-text.ensures ∙ stripped c.args.line c.strip_suffix.result cut))
