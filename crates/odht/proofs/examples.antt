-- Worked examples of the definitions, each a closed theorem.
-- the tables of the examples
pub mod SmallTables
-- what a new table is, and what an insert leaves
pub mod Inserts
-- what an insert leaves of bytes that need not be valid
pub mod AnyInserts
-- how long new tables are, and why there is none
pub mod NewTables
-- lists of items that are inserted in turn
pub mod ListInserts
-- the table of a list of items
pub mod CollectedItems
-- the last value of a key in a list of items
pub mod LastValues
-- items that make a table again
pub mod Rebuilds
-- a table that is given room for more items
pub mod RoomForMore
-- what lookups return
pub mod Gets
-- what walks give, and bounds of searches
pub mod Walks
-- tables that are the same map
pub mod SameMaps
-- what is rejected, and what an insert returns, where lengths are known only at run time
pub mod DynInserts
-- the owned table of such lengths
pub mod DynOwned
-- lists and fronts of such tables
pub mod DynLists
-- tables that are read by position
pub mod FileTables
