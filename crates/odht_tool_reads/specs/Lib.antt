-- Definitions for the contracts of the commands that read tables.
-- what a command writes and returns: `check` and `dump`
pub mod Outcomes
-- what a command writes and returns: `get`
pub mod Gets
-- its parts
pub mod GetParts
-- those of words
pub mod GetWords
-- of the lines of an input
pub mod GetLines
-- the bound of searches
pub mod Bounds
-- the same of a file that is read by position
pub mod Positions
-- and of the lines of an input
pub mod PositionLines
-- what a command writes and returns: `find`
pub mod FindLines
-- what `keys` and `count` do
pub mod Listings
-- what `order` does
pub mod Orders
-- what `diff` does
pub mod Diffs
