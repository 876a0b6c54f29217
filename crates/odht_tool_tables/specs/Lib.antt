-- Definitions for the contracts of what all commands need.
-- which words and lines are texts of keys
pub mod KeyTexts
-- bytes that are opened as a table
pub mod Openings
-- rebuilds that make searches short
pub mod Trials
-- a file that is checked whole
pub mod Wholes
