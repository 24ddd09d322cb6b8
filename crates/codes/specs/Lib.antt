-- ---- what a reader must believe of the codes, in reading order
-- numbers in digits: bits, symbols, columns; and masks
pub mod Digits
-- vectors of symbols: sum, multiple, zero
pub mod Vector
-- what makes a code: check matrix, top rule and free columns; the matrices of nine and ten columns
pub mod Projection
-- words, their syndrome, and which of them are codewords; the sum and distance of two words
pub mod Word
-- messages and their codewords: encoding and decoding
pub mod Message
-- near codewords, and mending: a search through all codewords
pub mod Correction
-- what a call answers, and the order of its refusals
pub mod Answer
-- the four codes by their numbers, and what each word call answers
pub mod Codes
-- the scope's starred words
pub mod Starred
-- the claims about all of this, one definition each
pub mod Claims
-- ---- what private steps say to each other in their contracts: no claim rests on it but by the proofs
-- a word in an array, one walk over its columns, and a message's columns with any syndrome
pub mod ContractsOfWalk
-- the table of entries, and what is known on the search for a codeword
pub mod ContractsOfSearch
