-- the format of a shape
pub mod Formats
-- the lines of an input, and words that are texts of keys
pub mod Lines
-- tables that are rebuilt in memory
pub mod ShortRuns
-- worked examples of the definitions
pub mod examples
