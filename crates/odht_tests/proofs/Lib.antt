-- what calls of `next` give where an iterator is modelled as the list of what is left
pub mod Drained
