-- The claim of specs/Claims.antt.
pub mod Claims
