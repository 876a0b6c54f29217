-- Worked examples of the definitions for the calls of C, each a closed theorem.
-- the number of each status, and what calls require of their arguments
pub mod Statuses
-- the coding, the tables and the bytes of the examples
pub mod Tables
-- what lookups answer
pub mod Gets
-- what lookups of many keys answer
pub mod GetAlls
-- what the calls on opened tables answer
pub mod Views
-- the item count, and walks
pub mod Walks
-- the numbers of a header
pub mod Sizes
-- where opening or checking fails
pub mod Places
-- tables at the front of longer bytes
pub mod Prefixes
-- orders of inserts
pub mod Orders
-- growths
pub mod Grows
-- new tables in bytes
pub mod Inits
-- what an insert answers
pub mod Inserts
-- what inserts in turn may do to bytes
pub mod Runs
-- what a call for inserts in turn answers
pub mod InsertAlls
-- tables that are copied into bytes of the caller
pub mod HandedOut
-- tables that are built in memory
pub mod AfterInserts
-- what the calls answer that build a table
pub mod Builds
-- layouts
mod Layouts
-- keys and values that lie one after the other
pub mod Pieces
