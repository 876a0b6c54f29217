-- Worked examples of the definitions, each a closed theorem by computation.
-- one name that opens every definition
pub mod Opened
-- the configurations of the examples, and short forms for their tables
pub mod Configs
-- hashes, load factors and slot counts
pub mod Numbers
-- XXH64 of bytes of each kind of length
pub mod Xxh64
-- probe orders, and where searches end
pub mod Probing
-- tables of a few inserts, and their bytes
pub mod Tables
-- inserts at the maximum
pub mod Growth
-- a valid table that no list of inserts makes
pub mod Unmade
-- orders of inserts
pub mod InsertOrders
-- what a search of a group may report
pub mod Groups
