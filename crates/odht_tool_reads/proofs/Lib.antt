-- keys and their answers
pub mod KeyAnswers
-- answers of lists in two parts
pub mod AnswerLists
-- words and their answers
pub mod WordAnswers
-- the lines that a loop has taken
pub mod LinesTaken
-- lines that are answered one after the other
pub mod PositionLines
-- what a command does, from the shape of the bytes on
pub mod Shaped
-- what a command does that tests the bound of searches first
pub mod Bounded
-- bytes in which the whole check finds no error
pub mod Passes
-- how `count` ends
pub mod Counts
-- how `find` ends
pub mod FindEnds
-- the pairs of an insert order
pub mod Ordered
-- two tables that are compared
pub mod Diffed
-- tables that are read by position
pub mod FileReads
-- and what is answered of them
pub mod FileAnswers
-- worked examples of the definitions
pub mod examples
