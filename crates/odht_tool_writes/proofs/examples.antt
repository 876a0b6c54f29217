-- Worked examples of the definitions, each a closed theorem.
-- pairs that are inserted
pub mod Inserted
-- what `rebuild` makes
pub mod Rebuilds
-- what `delete` makes
pub mod Deletes
-- which keys the lines of an input are for `delete -`
pub mod KeyLines
-- which pairs `merge` inserts
pub mod Merges
