-- What the layers above may cite: the claims, laws made for them, numbers among lists of numbers.
pub mod Claims
pub mod Laws
pub mod Among
-- Numbers in bytes, and parts of a buffer that are read and written over; exclusive or is associative; lists of different numbers.
mod Numbers
mod Parts
mod Xor
mod Distinct
-- The layout, for any slots' bytes: what is read at a slot's place and what storing there makes of them; the trailer; one trace byte for byte.
mod Slots
mod Trailers
mod LayoutExamples
-- A fault load: the positions that it draws, and the word that the code picks them in. A list of puts: limits and rows.
mod LoadLaws
mod PickLaws
mod PutLists
-- What an answer leaves.
mod Outcomes
-- The steps of a call: what it sees of a buffer, how it comes to its slot, what the slot holds, what it takes from the word calls, a trailer that
-- stays, a change.
mod Views
mod Finding
mod Contents
mod Words
mod TrailerKept
mod Changes
mod Readings
-- The survey: a slot's status, tallies of answers, what a survey of any buffer counts.
mod Statuses
mod Tallies
mod SurveyLaws
-- The plain trace beside the bytes: what its bytes hold, its slots, one table with what is special to each call, any call, any list of calls.
mod Stored
mod PlainSlots
mod CallFacts
mod Runs
mod Refinement
mod Makings
-- What calls make of the plain trace, and its sets.
mod Sets
mod PlainCalls
-- The demands; when each row of demand 1's tables is met.
mod TraceRows
mod Demand1
mod Demand2
mod Demand3
-- What demand 3 shuts out; a load counts as its flips, and a list of puts as its puts.
mod Strength
mod LoadClaims
mod PutListClaims
