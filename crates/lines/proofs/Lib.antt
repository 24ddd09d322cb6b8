-- What the layers above may cite: the claims.
pub mod Examples
pub mod Visible
-- A file of which a survey is accepted has few slots.
mod Inputs
-- Texts: decimal digits, what the numbers of a list are written as, one after the other, bytes in hexadecimal, a text made visible, and the parts of a survey's line.
mod Decimals
mod Texts
mod Hexes
mod Troubles
mod Surveyed
-- How long each text is at most.
mod Lengths
