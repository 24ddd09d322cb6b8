-- What each row of numbers means.
mod Claims
-- Calls as numbers: the row that a list of numbers begins with, and its calls.
mod Rows
mod FirstCalls
-- A call and the room for its answer.
mod Rooms
-- A replay: taken call by call it is the run of the calls that have room; in the midst of its list.
mod Plays
mod Progress
