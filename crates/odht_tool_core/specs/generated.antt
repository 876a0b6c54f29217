-- Definitions that are generated.
-- the list of ready shapes
pub mod ShapeList
-- the commands of the program and their options
pub mod Commands
