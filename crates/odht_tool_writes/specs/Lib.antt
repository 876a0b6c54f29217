-- Definitions for the contracts of the commands that make tables.
-- pairs that are inserted into a table that grows
pub mod Inserted
-- lines of which no pair is read
pub mod Faults
-- what `rebuild` makes
pub mod Rebuilds
-- what `delete` makes
pub mod Deletes
-- what `delete -` makes of one, by the lines of an input
pub mod DeleteLines
-- what `merge` makes
pub mod Merges
