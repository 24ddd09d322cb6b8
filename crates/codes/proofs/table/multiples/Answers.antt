-- Each length's table has the multiples of its matrix's columns as bytes, by computation.
use Rattle.std.proofs.Common.{◌≡◌, ℕ, ◌*◌, ◌/◌, ◌%◌, ◌^◌, ◌<◌, get_or, refl, ap, ◌∙◌, ⊎_elim}
use Rattle.codes.specs.declared.code.Code.{Code}
use Rattle.codes.specs.declared.code.Code.TheVariants.{O36, O40}
use Rattle.codes.specs.Codes.{projection}
use Rattle.codes.specs.ContractsOfWalk.{Multiples}
use Rattle.codes.proofs.Arrays.{multiples_of, tabulated, table_at}
use Rattle.codes.proofs.Codes.{multiples_in}
use Rattle.codes.proofs.table.multiples.Goals as goal

-- the multiples of a column of a code, by the code with whose matrix the table was made
abbrev packed : Code → ℕ → ℕ
packed k j = multiples_of (projection k) j

looked_up : (k code : Code) → (packed k ≡ packed code) → (j : ℕ) → j < 10 → Multiples (projection code) j (get_or (tabulated 10 0 (packed k)) j 0)
looked_up k code same j h v hv =
    ap (λ n. n / 2 ^ (8 * v) % 256) (table_at 10 (packed k) 0 j h ∙ ap (λ f. f j) same) ∙ multiples_in code j h v hv

pub returns-in-O36 : goal.returns-in-O36
returns-in-O36 c = looked_up O36 c.args.code (⊎_elim (λ k. rw k refl) (λ k. rw k refl) c.in-O36.is) c.args.column c.requires

pub returns-in-O40 : goal.returns-in-O40
returns-in-O40 c = looked_up O40 c.args.code (⊎_elim (λ k. rw k refl) (λ k. rw k refl) c.in-O40.is) c.args.column c.requires
