-- What a reader must believe of the calls for C, in reading order: what a C caller has after a call, and what is claimed of it.
pub mod Returned
pub mod Claims
