-- laws over the texts of commands
pub mod CommandTexts
-- laws over hexadecimal digits, and over lines that check bytes
pub mod HexTexts
-- laws over the answers to `new`
pub mod NewTexts
-- what a `put` is answered with and leaves
pub mod Puts
-- the lines of a script, and their answers
pub mod ScriptTexts
-- the dump has a text
pub mod DumpTexts
-- worked examples of the definitions
pub mod examples
