-- What a reader must believe: calls and answers as numbers, what a replay answers and leaves, and what is claimed of rows.
pub mod Numbers
pub mod Replay
pub mod Claims
-- What the private steps of a replay promise each other. No claim rests on it but by the proofs.
pub mod ContractsOfSteps
