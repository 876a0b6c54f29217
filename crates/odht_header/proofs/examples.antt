-- Worked examples of what is rejected, each a closed theorem by computation.
-- one name that opens every definition
pub mod Opened
-- what makes two things differ
pub mod Apart
-- forged headers and cut bytes
pub mod Refused
-- tables at the front of longer bytes
pub mod Prefixes
-- each header byte set to each of its values
pub mod HeaderBytes
-- bytes that a view accepts and the whole check rejects
pub mod Invalid
-- how large a new table is, and which keys bytes hold
pub mod Layouts
