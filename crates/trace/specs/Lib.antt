-- What a reader must believe of a trace, in reading order.

-- small functions on lists
pub mod Lists
-- making and the calls, what a call leaves, runs of lists of calls
pub mod Calls
-- free bytes, slots, trailer: sizes and places
pub mod Layout
-- the scope's number and values for each case of an answer
pub mod Answers
-- which positions a fault load flips, and the number that it hands back
pub mod Load
-- what a call sees of a trace, what a read gives of a slot, what a change makes of it
pub mod View
-- statuses, counts and pressures
pub mod Survey
-- when each refusal is met
pub mod Refusals
-- which refusals each call meets, and what it gives
pub mod Rules
-- the calls on a buffer's bytes
pub mod Trace
-- the plain trace, and the calls on it
pub mod Plain
-- what is claimed
pub mod Claims
-- ---- what private steps promise each other: no claim rests on it but by the proofs
pub mod ContractsOfSteps
pub mod ContractsOfLoad
pub mod ContractsOfTally
