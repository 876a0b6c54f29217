-- Worked examples of the definitions, each a closed theorem.
-- the ready shapes, and the shape that bytes are read as
pub mod Shapes
-- lines of an input
pub mod Inputs
-- digits of numbers, some at a time
pub mod Digits
-- groups of a probe order
pub mod Groups
-- what `info` reports
pub mod Infos
-- what it writes
pub mod InfoTexts
-- the shape whose hash function the control bytes have
pub mod FoundShapes
-- the table that begins with some bytes, and what bytes are a table
pub mod Finds
-- which files are replaced, and what permissions the new one gets
pub mod Replaced
-- words that one slip makes of each other, commands and options
pub mod Slips
-- forms of keys and values, and what bytes are read as
pub mod Forms
-- plain texts, and what they are stored as
pub mod Texts
-- texts of JSON
pub mod JsonTexts
-- the texts of stored bytes
pub mod StoredTexts
-- those of bytes of a length that is known only at run time
pub mod DynTexts
-- lines of a key and a value, and the words that say how they are read
pub mod Pairs
-- the load factor of a table that is made of another, and what is written of a word that is no key
pub mod Percents
