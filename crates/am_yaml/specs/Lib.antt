-- what a text in JSON or YAML is read as
pub mod Document
-- where a text is refused
pub mod Fault
-- lines and columns, which count from 1, the column in bytes
pub mod Location
-- the bytes of a text in YAML, and what can be between its pieces
pub mod Bytes
-- what the bytes of a scalar mean
pub mod Scalars
-- the text between double quotes
pub mod Escapes
-- the text between double quotes, as far as it was read
pub mod EscapedLines
-- what a key adds to a mapping, and what a merge key does
pub mod Merges
-- the members of a mapping, as far as it was read
pub mod Fields
-- how a text in YAML spells a value
pub mod Spelling
-- the text of a literal or folded block scalar
pub mod Blocks
-- the lines of a block scalar, as far as it was read
pub mod BlockLines
-- the words of a text of folded lines, as far as it was read
pub mod Folding
-- what goes on behind a part of a text that is confirmed
pub mod Behind
