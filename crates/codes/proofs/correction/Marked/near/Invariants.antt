-- No near codeword is within three positions of a filling that was tried.
use Rattle.std.proofs.Common.{ℕ, ◌<◌, slice_index_or}
use Rattle.codes.specs.Codes.{projection}
use Rattle.codes.specs.ContractsOfSearch.{NearWithin}
use Rattle.codes.proofs.correction.Marked.near.Given as goal

abbrev pub invariant-loop-filled : goal.invariant-loop-filled
invariant-loop-filled l =
    (i : ℕ) → i < l.filled-index → (y : ℕ) → NearWithin (projection l.self.code) l.self.word l.self.marks 3 (slice_index_or l.filled-items i 0) y → ⊥
