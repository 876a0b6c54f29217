-- what opens
pub mod Opened
-- arrays that are written in turn
pub mod Arrays
-- lookups of many keys
pub mod Got
-- no error has the status `done`
pub mod Statuses
-- the status of an error
pub mod Refused
-- what the calls for a new table and for its length answer
pub mod Made
-- the numbers in a header
pub mod Sizes
-- the length of a table at the front of longer bytes
pub mod Prefixes
-- a new table for as many pairs as there are
pub mod NewBuilds
-- tables that are handed out, and what the two calls answer that build one
pub mod HandedOut
-- walks into arrays
pub mod Walked
-- what an insert answers
pub mod Inserted
-- what the call for an order of inserts answers
pub mod Ordered
-- the errors of a growth, and what the call answers
pub mod Grown
-- calls for dynamic tables
pub mod Layouts
-- keys and values that lie one after the other
pub mod Pieces
-- pairs of them that have no bytes
pub mod EqualPairs
-- lists of them: lookups and walks
pub mod AnyLists
-- tables of bytes that grow while they are built
pub mod GrownBuilds
-- an insert that writes the former value into bytes of the caller
pub mod InsertedInto
