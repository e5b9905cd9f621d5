-- how deep the items and the members of a longer part lie
mod Depths
-- lines and columns behind one more byte, and locations behind a byte order mark
mod Locations
-- what single values are seen as
mod Views
