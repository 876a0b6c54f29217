-- The vocabulary of all contracts, from numbers up to tables and their bytes.
-- numbers as bytes
pub mod Numbers
-- lists of bytes: a range of them, and a write to them
pub mod Bytes
-- the bytes of a store after a borrow of them
pub mod AfterBorrow
-- the hash functions
pub mod Hashes
-- XXH64, the hash function that mixes all bits
pub mod Xxh64
-- the law of the hash functions: a hash has 32 bits
pub mod HashLaws
-- load factors and slot counts
pub mod Load
-- what a configuration fixes of a table's bytes
pub mod Format
-- the order in which a search goes through the slots
pub mod Probe
-- plain tables: a load factor and a list of cells
pub mod Table
-- walks over plain tables that begin at a slot
pub mod SlotWalks
-- plain tables as finite maps
pub mod Map
-- where the search for a key ends, and how many groups it reads
pub mod Search
-- inserts into plain tables, growth included
pub mod Insert
-- the rule of inserts by which the item count alone decides
pub mod CountRule
-- the bytes of a plain table
pub mod Image
-- which plain tables, and which bytes, are valid
pub mod Valid
-- which tables inserts make, and in which order of inserts
pub mod Made
-- one step of the search for such an order
pub mod Ready
-- what any bytes decode to as a table
pub mod Decoded
-- the writes of an insert
pub mod Writes
-- groups of control bytes
pub mod Groups
-- the set bits of a mask
pub mod Masks
-- how many groups a search may read, told from control bytes
pub mod Bounds
