-- Each length's table is that of its matrix's entries, by computation.
use Rattle.std.proofs.Common.{refl, ap, ◌∙◌, arith, ⊎_elim}
use Rattle.codes.specs.declared.code.Code.TheVariants.{O36, O40}
use Rattle.codes.specs.Codes.{projection}
use Rattle.codes.specs.ContractsOfSearch.{entry}
use Rattle.codes.proofs.Entries.{entry_table, entry_at}
use Rattle.codes.proofs.table.entry.Goals as goal

pub returns-in-O36 : goal.returns-in-O36
unfolding entry_table
returns-in-O36 c =
    let e = entry_at (projection O36) (entry_table (projection O36)) c.from.result refl (omega (arith, c.from.ensures)) ∙ ap (entry (projection O36)) c.from.ensures in
    ⊎_elim (λ k. rw k e) (λ k. rw k e) c.in-O36.is

pub returns-in-O40 : goal.returns-in-O40
unfolding entry_table
returns-in-O40 c =
    let e = entry_at (projection O40) (entry_table (projection O40)) c.from-in-O40.result refl (omega (arith, c.from-in-O40.ensures)) ∙ ap (entry (projection O40)) c.from-in-O40.ensures in
    ⊎_elim (λ k. rw k e) (λ k. rw k e) c.in-O40.is
