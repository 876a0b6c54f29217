-- What the contracts of the program say: its commands, its answers and its messages.
pub mod Answers
pub mod Commands
pub mod Messages
pub mod Scripts
-- how a command with numbers begins
pub mod Verbs
