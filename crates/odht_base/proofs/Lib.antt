-- laws over the definitions, for the crates above too
pub mod lemmas
-- worked examples of the definitions
pub mod examples
