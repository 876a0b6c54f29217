-- Definitions for the calls of C: what each returns, and what it leaves in the buffers that its caller passes.
-- the statuses, and what calls require of their arguments
pub mod Statuses
-- the calls that read a table
pub mod Reads
-- the calls that tell where opening or checking fails
pub mod Places
-- the call for the length of a table at the front of longer bytes
pub mod Prefixes
-- the call that walks over a table and writes its pairs to arrays
pub mod Walks
-- lookups of many keys
pub mod Lookups
-- the calls that open a table and read an opened one
pub mod Views
-- the call that looks for an order of inserts
pub mod Orders
-- the calls that make a table in bytes, and those that write to one
pub mod Writes
-- the calls that build a table from pairs
pub mod Builds
-- the call that writes the table into which another one grows
pub mod Grows
-- tables whose lengths and hash function are numbers
pub mod Layouts
-- keys and values that lie one after the other in bytes
pub mod Pieces
