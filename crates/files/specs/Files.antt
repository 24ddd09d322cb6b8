-- How much was read, where it did not fail: no more than the buffer has. Of the bytes themselves nothing can be said.
use Rattle.std.specs.Prelude.{List, ℕ, ◌≤◌, length, Result, IfOk}
use Rattle.files.specs.declared.Failed.{Failed}

abbrev pub Within : List ℕ → Result ℕ Failed → Type 0
Within buffer answer = IfOk answer (λ end. end ≤ length buffer)
