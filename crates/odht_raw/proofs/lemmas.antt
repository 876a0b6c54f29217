-- The library of laws over the definitions in specs/; that of plain tables is in `odht_base`.
-- the lemmas of std and of the crates below that are cited here
pub mod Below
-- the cells that the parts of a placed table decode to
pub mod PartCells
-- a search slot by slot
pub mod PlainSearch
-- what the answer of a search says about a placed table
pub mod Lookups
-- what the writes of an insert leave on the parts
pub mod Inserts
-- which error a view gives for one slot
pub mod SlotChecks
-- slots for which the whole check has no error
pub mod SlotFits
-- bytes whose header and length fit, and writes that leave them so
pub mod Accepted
-- which error bytes give, stage by stage
pub mod Openings
-- bytes for which the whole check has no error
pub mod SoundBytes
-- valid bytes are never rejected by a view
pub mod ImagesOpen
-- a table at the front of longer bytes
pub mod Prefixes
-- the whole check has no error exactly for valid bytes
pub mod WholeChecks
-- bytes whose entries were overwritten with zeros
pub mod ClearedEntries
-- a store after a borrow of its bytes
pub mod Borrows
-- what the writes of a new table leave
pub mod NewTables
-- a walk over the slots
pub mod Walks
-- the same where lengths of keys and values are numbers
pub mod DynWalks
-- the lines of a dump, joined as they are written
pub mod Dumps
-- the probe order, a piece of a group at a time
pub mod ProbeSteps
-- a look at some positions of it
pub mod GroupLooks
-- a search by groups
pub mod GroupSearches
-- a search for the first free slot
pub mod FreeSearches
-- a search that passed each position
pub mod PassedSearches
-- the rest of a search from its first position on is the search
pub mod WholeSearches
-- the first look of a search
pub mod FirstLooks
-- a look at the mirror
pub mod MirrorChecks
-- the slots before a key's own, in its probe order
pub mod KeyPasses
-- which a look at a group tells
pub mod PartLooks
-- how many groups a search may read
pub mod Bounds
-- and that none reads more in a placed table
pub mod BoundedSearches
-- and the slot's own position there
pub mod KeyPositions
-- a look at the slots in turn
pub mod SlotSummary
-- a span at a time, first the free ones and then the others
pub mod SpanLooks
-- lists of different numbers that rise
pub mod RisingLists
-- parts whose keys have homes
pub mod Homes
-- the list of all occupied slots, as it is made
pub mod ListedSlots
-- slots that wait to be placed, as they are listed
pub mod WaitingSlots
-- what the whole check looks at beyond a view
pub mod LateStages
-- when a slot is ready, by the slots that wait
pub mod ReadyPositions
-- near the home of its key
pub mod NearSlots
-- a list whose placed slots are moved to its front
pub mod PartedSlots
-- one pass through the slots that wait, in the search for an order
pub mod PlacedFirst
-- whether one of some adjacent slots waits
pub mod WaitingRanges
-- the slots before one that waits, a group at a time
pub mod Frontiers
-- the last slot that a pass has left to wait
pub mod LeftSlots
-- frontiers stay where fewer slots wait
pub mod KeptFrontiers
-- that search from its start to its end
pub mod PendingSlots
-- one insert with room for that many new entries
pub mod Steps
-- items inserted in turn into parts
pub mod PartRuns
-- inserts that tell whether they add an entry
pub mod CountedSteps
-- inserts of bytes as inserts of the items of a configuration
pub mod EncodedRuns
-- items that are slices of bytes
pub mod ItemBytes
-- and what that leaves of whole bytes
pub mod JoinedRuns
-- the bytes of a table cut into its parts, and joined again
pub mod ListWrites
-- one insert into the bytes of a table
pub mod OneInsert
-- where a search is expected to end
pub mod Expected
-- runs of items in turn
pub mod RunsInTurn
-- slots by their passes, and walks
pub mod Passes
-- the slot at a position of a probe order, in 64 bits
pub mod ProbedSlots
-- and what passes say of a table
pub mod PassOrders
-- the parts of a table that are read by position
pub mod Reads
-- the former value that an insert answers, decoded
pub mod Formers
-- the search for a key in parts that are read to be written
pub mod SearchedParts
