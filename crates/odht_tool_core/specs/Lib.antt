-- Definitions for the contracts of what the program is made of.
-- the texts of keys, of values and of answers
pub mod Texts
-- digits of numbers, some at a time
pub mod Digits
-- where bytes are cut
pub mod Cuts
-- what is generated: the ready shapes, commands and their options
pub mod generated
-- what follows of the ready shapes
pub mod ReadyShapes
-- in which group of its probe order a slot is
pub mod GroupNumbers
-- the lines of an input
pub mod InputLines
-- words and lines that are read as keys
pub mod Keys
-- how a command ends
pub mod Endings
-- what `dump --slots` writes
pub mod Slots
-- what `info` reports
pub mod InfoNumbers
pub mod AllNumbers
-- what may help where searches are long
pub mod Advice
-- parts of its text
pub mod InfoTexts
-- the table that begins with some bytes
pub mod Fronts
-- the tables inside some bytes
pub mod Finds
-- the shape whose hash function the control bytes have
pub mod FoundShapes
-- the shape of a table of any sizes
pub mod AnyShapes
-- which files are replaced, and what permissions the new one gets
pub mod Replaced
-- words that one slip makes of each other
pub mod Near
-- bytes as they are shown
pub mod Shown
-- the errors of tables as they are written
pub mod Refusals
-- names and values that are written as a text or as an object of JSON
pub mod Reports
-- the first table inside of other bytes
pub mod Insides
-- numbers with a sign
pub mod Signed
-- the forms of keys and values
pub mod Forms
-- the form of keys or values of which something is said
pub mod ReadAs
-- plain texts, which are stored with zeros behind them
pub mod PlainTexts
-- texts of stored bytes
pub mod StoredTexts
-- those of bytes of a length that is known only at run time
pub mod DynTexts
-- texts that are no key or no value
pub mod Misreads
-- texts of JSON
pub mod Json
-- what `get --json` writes
pub mod JsonAnswers
-- the slots of a table as objects of JSON
pub mod JsonSlots
-- what `dump` writes of stored bytes
pub mod DumpTexts
-- the report of `info`
pub mod InfoReports
-- the lines of progress
pub mod Progress
-- the words that say which line of a key counts
pub mod DuplicateWords
-- lines of a key and a value, and what is said of others
pub mod PairLines
-- words that ask for a text of the program
pub mod Asking
-- what a table shows of its types
pub mod Evidence
-- the status of a command that failed
pub mod Statuses
-- the load factor of a table that is made of another
pub mod Percents
-- the pairs of lines, which are added one after the other
pub mod Pairs
