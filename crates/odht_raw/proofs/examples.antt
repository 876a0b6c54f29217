-- Worked examples of the definitions, each a closed theorem by computation.
-- keys that a search does not find
pub mod Missing
-- inserts into bytes that a view accepts and the whole check rejects
pub mod Frames
-- what such an insert may not do
pub mod FrameRefusals
-- the dump of a table
pub mod Dumps
-- where a search ends
pub mod SearchEnds
-- where a pair is placed, and what an insert into parts may answer
pub mod Placings
-- what the whole check sees
pub mod Checked
-- and what it knows of the slots that it has been through
pub mod Summaries
-- what placing a key and an insert through borrowed parts may not do
pub mod MutPlacings
-- what items that are inserted in turn may not do
pub mod Runs
-- the first free slot, and a pair that is written there
pub mod FreePlacings
-- inserts into any parts
pub mod PartsFrames
-- the items of slots
pub mod WalkedSlots
-- slots that wait while an order of inserts is looked for
pub mod WaitingSlots
-- the passes in which an order takes slots
pub mod PassesOfSlots
-- parts that are read by position
pub mod ReadParts
-- the write of a pair where a search ended, in the bytes of a table
pub mod EndWrites
