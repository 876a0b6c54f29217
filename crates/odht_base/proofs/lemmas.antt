-- The library of laws over the definitions in specs/, lowest first.
-- ---- Lists
-- answers that are there or not
pub mod Options
-- the first item of a list that passes a test
pub mod FirstMatch
-- different items, all of them in a list no longer than theirs, are that list in another order
pub mod Pigeons
-- bytes read and written at an offset between two lists
pub mod ByteRanges
-- ---- Numbers, slot counts and the probe order
-- numbers and their bytes
pub mod Numbers
-- numbers as the machine reads and writes them; lists compared by words
pub mod Words
-- the pieces of `fx`, one after the other
pub mod Pieces
-- the pieces of XXH64, in turn
pub mod Stripes
-- slot counts are the powers of two from 16 to 2 ^ 63
pub mod SlotCounts
-- `slots_for` answers the least slot count that holds the items
pub mod Least
-- and the next power of two is that
pub mod NextPower
-- two positions of an order are two slots
pub mod Distinct
-- an order lists each slot once; the first of its slots that passes a test
pub mod Orders
-- ---- Cells
-- cells by the keys that they hold
pub mod Keys
-- how many pairs cells hold, and how many after a cell is set
pub mod Counts
-- tests that decide whether a table is placed
pub mod Placed
-- cells whose pairs are of the format, after a cell is set or taken away
pub mod Fits
-- ---- Bytes: parts, images and writes to them
-- slot entries within any bytes
pub mod PartsOf
-- the parts of cells: their lengths, their contents, and that they decode to the cells
pub mod Parts
-- the image of a table: what its header says and what it decodes to
pub mod Image
-- a pair written to a slot of the parts, and of an image
pub mod Writes
-- ---- Placing, growth and runs of inserts
-- where the search for a key ends in a placed table
pub mod SearchEnds
-- the pairs of cells and the map that they are
pub mod Pairs
-- what `place` does to a placed table
pub mod Places
-- a valid table has a free slot; empty and fresh tables
pub mod FreeSlots
-- inserts in turn, by any insert that keeps a property and overwrites the map at its key
pub mod InsertRuns
-- lists of pairs of different keys, such as a walk
pub mod DistinctKeys
-- pairs placed in turn, and the grown table
pub mod Grown
-- the inserts of both tables
pub mod TableInserts
-- both rules of inserts make the same tables, but where a pair overwrites in a full one
pub mod CountRules
-- inserts into a table that has room for them all
pub mod FreshRuns
-- the inserts that ask the count alone
pub mod CountedInserts
-- where a search in a placed table ends, and the map's value there
pub mod Lookups
-- ---- Tables that inserts make, and insert orders
-- the occupied slots of a table
pub mod OccupiedSlots
-- which slots are ready after others
pub mod ReadySlots
-- the slots taken so far in the search for an insert order
pub mod SoFar
-- their pairs, placed in turn, occupy just these slots
pub mod Rebuilt
-- inserts leave an order in which each slot is ready
pub mod OrdersKept
-- a search for an insert order finds one, or is stuck where there is none
pub mod InsertOrders
-- a valid table is made exactly where it has an insert order
pub mod MadeTables
-- a walk that goes on where another stopped
pub mod SlotWalks
-- ---- Masks of a group of control bytes
-- the positions of true answers
pub mod MarkedPositions
-- the set bits of a mask
pub mod MaskBits
-- the masks of sixteen lanes
pub mod LaneBits
-- the masks of eight bytes in a word, with the word's false positives
pub mod WordBits
