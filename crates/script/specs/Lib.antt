-- What a reader must believe: how a line of a script is taken, what it means, which bytes it lends, which list of puts it asks for, and what a call
-- prints and leaves.
pub mod Held
pub mod Script
pub mod Lending
pub mod Lists
pub mod Answering
pub mod Claims
-- What the private steps say to each other. No line's meaning rests on it but by the proofs.
pub mod ContractsOfSteps
