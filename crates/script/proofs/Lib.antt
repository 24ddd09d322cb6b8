-- What the layers above may cite: the claims.
pub mod Claims
-- A line that is held byte by byte.
mod Holds
-- Calls on traces that are given byte for byte.
mod Calls
-- A line's ends, its words and their numbers.
mod Blanks
mod Numerals
-- A walk over bytes or numbers; bytes in hexadecimal; lists of numbers and of puts.
mod Walks
mod Pairing
mod Commas
mod BothLists
mod Lends
mod Sizes
