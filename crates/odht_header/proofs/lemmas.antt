-- The library of laws over the definitions in specs/; that of plain tables is in `odht_base`.
-- formats of short lengths and of a hash fit
pub mod Formats
-- the first error of a list
pub mod FirstErrors
-- std's test for a power of two
pub mod PowersOfTwo
-- which error a header gives
pub mod HeaderChecks
-- which headers fit, and which bytes are opened
pub mod HeaderFits
-- a header that is written field by field
pub mod HeaderWrites
-- how an error's text writes bytes
pub mod ErrorTexts
