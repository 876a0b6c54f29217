-- The definitions about configurations, errors, and searches, inserts and walks in the parts of a table. Those about
-- numbers, plain tables and their bytes are in `odht_base`.
-- the words of the crates below that this crate names
pub mod Words
-- the parts of a table as code reads them
pub mod Parts
-- the lengths that searches and inserts require
pub mod PartLengths
-- what a search answers
pub mod SearchResults
-- the probe order, a group at a time
pub mod ProbeSeqs
-- a search at a position of the probe order
pub mod SearchSteps
-- the first look of a search
pub mod FirstLooks
-- what control bytes say of a slot
pub mod ControlBytes
-- what the whole check reads in the parts
pub mod Checks
-- what it knows of the slots that it has been through
pub mod Summaries
-- what an insert may do to bytes whose header and length fit, valid or not
pub mod Frame
-- a table at the front of longer bytes
pub mod Prefixes
-- where a search ends on any parts
pub mod SearchEnds
-- what a search by groups answers and leaves
pub mod Searches
-- what a find answers
pub mod Finds
-- what an insert into parts answers and leaves
pub mod PartsInserts
-- an insert into parts with room for that many new entries
pub mod Steps
-- items that are inserted in turn
pub mod Runs
-- the first slot that counts as free in a probe order
pub mod FreeSlots
-- what placing a pair with a new key into parts answers and leaves
pub mod PartsPlacings
-- what a walk over the slots gives
pub mod Walks
-- what `Debug` writes of a table
pub mod Dumps
-- the parts of a table, borrowed to be written
pub mod PartsMut
-- the slots that wait while an order of inserts is searched for
pub mod Waiting
-- and how far those in the probe orders of some homes are placed
pub mod Frontiers
-- where a search is expected to end
pub mod Expected
-- the parts of a table whose lengths of keys and values are numbers
pub mod DynParts
-- the passes in which an order of inserts takes the slots, as they are found by walks
pub mod Passes
-- a search in the parts of a table that are read by position
pub mod Reads
-- the entries of a table, whose lengths are types or numbers
pub mod Stored
-- what an insert answers of the value that a key had
pub mod Formers
-- a former value that an insert writes into bytes of the caller
pub mod FormerWrites
-- the write of a pair where the search for its key ended, in the bytes of a table
pub mod EndWrites
