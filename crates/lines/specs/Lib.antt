-- What a reader must believe, in reading order: text, numbers and lines, the input, the lines of a listing, of a script's answers and troubles, a
-- survey's report, the claims.
pub mod Text
pub mod Input
pub mod Listing
pub mod Answers
pub mod Trouble
pub mod Report
pub mod Claims
-- What the private steps of a text ask of each other. No claim rests on it but by the proofs.
pub mod ContractsOfSteps
