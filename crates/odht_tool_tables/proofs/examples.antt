-- Worked examples of the definitions, each a closed theorem.
-- the bytes of a table of one pair
pub mod OneTable
-- which words are texts of keys
pub mod KeyTexts
-- bytes that are opened
pub mod Openings
-- a file that is checked whole
pub mod Wholes
