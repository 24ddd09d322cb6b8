-- What callers are told of what was read.
pub mod Files
