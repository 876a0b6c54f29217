-- laws that several proofs use
pub mod lemmas
-- worked examples of the definitions that contracts use
mod examples
