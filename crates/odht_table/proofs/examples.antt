-- Worked examples of the definitions, each a closed theorem.
-- the texts of answers and of messages
pub mod Texts
-- words that are numbers, and pairs of them
pub mod NumberTexts
-- lines that are commands
pub mod CommandLines
-- lines that check bytes
pub mod CheckLines
-- what the examples below ask of a table
pub mod Tests
-- what a `put` is answered with and leaves
pub mod PutAnswers
-- what the other requests are answered with
pub mod Requests
-- what a line that checks bytes is answered with
pub mod CheckAnswers
-- what a `new` is answered with
pub mod NewAnswers
-- and what not
pub mod NewRefused
-- what the lines of a script are answered with, in their order
pub mod ScriptAnswers
