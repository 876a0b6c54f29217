-- what all keys or values look like
pub mod Looks
-- laws over bytes' texts
pub mod Words
-- plain texts and the bytes that they are stored as
pub mod PlainTexts
-- digits that are read one after the other
pub mod Numerals
-- eight digits in a word and in lanes
pub mod Eights
-- the digits of a number, two and four at a time
pub mod Decimals
-- the tables of digits
pub mod Tables
-- laws over lines that are written one after the other
pub mod Answered
-- the first place of a byte
pub mod FirstPlaces
-- bytes that are cut at a byte
pub mod Cuts
-- where the first line of an input ends
pub mod LineEnds
-- in which group of a probe order a slot is
pub mod GroupPlaces
-- numbers of groups, by a bound
pub mod GroupBounds
-- what is written slot by slot
pub mod Counting
-- the slots of a table of any sizes
pub mod DynSlots
-- the stretches of a table's slots
pub mod StretchCounts
-- counts of numbers of groups
pub mod Tallies
-- the lines of `info`
pub mod InfoLines
-- words and their keys
pub mod KeyWords
-- which error opening gives, by its stages
pub mod Refusals
-- the table that begins with some bytes
pub mod Fronts
-- the search for tables inside some bytes
pub mod Finds
-- texts of JSON, and bytes that stand for themselves in them
pub mod JsonTexts
-- strings of JSON of what is displayed
pub mod Displayed
-- fields of objects of JSON that are written one after the other
pub mod JsonFields
-- reports that are written field by field
pub mod Reports
-- worked examples of the definitions
pub mod examples
-- pairs of bytes in one buffer
pub mod BytePairs
