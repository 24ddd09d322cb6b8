-- What is proved of symbols and columns, in reading order.

-- ---- what the layers above may cite
-- the claims of specs/Claims.antt
pub mod Claims
-- a test at every value of a finite type, and the law that it shows: no law of symbols, but the way to one
pub mod Every
-- ---- numbers and packed tables
-- symbols and columns as numbers, there and back, and tables that are indexed by them
mod Numbers
