-- the lines that a loop has read as keys
pub mod KeyLines
-- pairs that are inserted in turn
pub mod OwnedRuns
-- the tables that `rebuild` makes, and their failures
pub mod NewTables
-- the tables that `delete` makes
pub mod Deletions
-- keys that a table has values for, and keys that are absent
pub mod AbsentKeys
-- the tables that `merge` makes
pub mod Merging
-- worked examples of the definitions
pub mod examples
