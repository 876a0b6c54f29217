-- Laws of the tables over bytes; those of plain tables are in `odht_base`, those of parts and of bytes in `odht_raw`.
-- the errors of a new table
pub mod NewRefusals
-- pairs that are placed in turn and end within the maximum
pub mod FittingRuns
-- an insert into the bytes of a table that cannot grow
pub mod ViewInserts
-- a growth, slot by slot
pub mod Growths
-- the bytes of a growth
pub mod GrownBytes
-- a table whose pairs move to other slots
pub mod Moves
-- a growth by such a move
pub mod GrownMoves
-- tables that are the same map
pub mod SameMaps
-- inserts in turn
pub mod ListInserts
-- the error of the lengths of a key and a value
pub mod DynLengths
-- inserts in turn into a dynamic table
pub mod DynLists
-- a list of them: the accepted items, and the one that failed
pub mod DynRuns
-- keys and values that their bytes decode to
pub mod LosslessPairs
-- inserts in an insert order make a table again
pub mod Rebuilding
-- lookups of many keys
pub mod Lookups
-- many lookups by a lookup of each
pub mod ManyGets
-- an order of inserts of such a table
pub mod DynOrders
-- lookups of keys that are lists of bytes
pub mod DynLookups
-- valid bytes, opened with the lengths that their header states
pub mod DynOpens
-- such a table at the front of longer bytes
pub mod DynPrefixes
-- an insert that a view takes is one that a table that grows takes
pub mod OwnedInserts
-- an insert into the bytes of a borrowed store
pub mod StoreInserts
-- what the insert into a view says of that into a table that grows
pub mod DynOwned
-- tables that are read by position
pub mod Files
-- what is told of a former value that is written into bytes of the caller
pub mod DynFormers
-- valid bytes are the image of the table that they decode to
pub mod Plain
-- a value of a table is stored in its bytes
pub mod Stored
-- lists of inserts into an owned table
pub mod PlainLists
-- inserts in turn into the plain table of an owned table
pub mod PlainRuns
-- the owned table of lengths that are known only at run time, as its plain table
pub mod DynPlain
