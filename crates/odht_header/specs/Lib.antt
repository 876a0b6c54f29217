-- The definitions about configurations, errors, and which bytes give which error. Those about numbers, plain tables and
-- their bytes are in `odht_base`.
-- how keys and values are encoded and decoded
pub mod Coding
-- how large a new table is
pub mod Layouts
-- which bytes are rejected as a table, and by which error
pub mod Refusals
-- what is written of an error
pub mod ErrorTexts
