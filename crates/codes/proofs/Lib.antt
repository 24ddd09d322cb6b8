-- What is proved of the codes, in reading order.

-- ---- what the layers above may cite
-- the claims of specs/Claims.antt
pub mod Claims
-- limits, a code's number, and mending by its messages
pub mod Laws
-- what an answer says of the rows of refusals before it
pub mod Rows
-- what a test says, both ways
pub mod Tests
-- ---- numbers and words
-- numbers and their digits, there and back
mod Digits
-- digits read into a number, highest first
mod Horner
-- exclusive or and or of numbers, digit by digit
mod Sums
-- vectors add, and the syndrome is linear
mod Vectors
-- words add, and the sum of two codewords is a codeword
mod Words
-- positions of a word are the rows of its columns
mod Positions
-- ---- the theory: distance and nearness
-- two different codewords differ in at least eight positions
mod Distance
-- at most one codeword is near, and it is within three positions of a word with its marked bits filled
mod Nearness
-- what mending counts are positions
mod Counting
-- ---- messages
-- free values and the others in their columns
mod Placing
-- a message's columns are a codeword and say the message again
mod Encoding
-- the same of messages and words as numbers
mod Messages
-- ---- correction, the four codes
-- mending finds the near codeword, or none exactly where none is near
mod Corrections
-- the four codes have what the theory asks of a code
mod Codes
-- ---- private steps: one walk over a word's columns
-- words and tables in arrays
mod Arrays
-- some of a word's columns as the bits of a number
mod Masks
-- what the walk collects, column by column
mod Walks
-- what it collects decides whether a word is a codeword
mod Strict
-- a message's columns, written from the first to the last
mod Drafts
-- a message read out of a word's columns
mod Readings
-- ---- private steps: the search for a codeword within three positions
-- a word with bits of one column inverted
mod Flips
-- what parities and syndrome say of the difference from a codeword
mod Differences
-- what the table of entries names, and what takes more than one live value to make
mod Entries
-- what the search asks of a code, and one step of it
mod Searches
-- the end of the search, by the syndrome: all columns have the parity
mod Syndromes
-- the columns that lack the parity, one by one; which parity a close codeword has
mod Seeking
