-- laws over the definitions
pub mod lemmas
-- worked examples of the definitions
pub mod examples
