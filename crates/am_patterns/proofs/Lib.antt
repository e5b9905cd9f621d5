-- one more character of a simple pattern
pub mod SimpleSteps
-- groups that aren't simple
pub mod Grouped
-- patterns that lack all characters with a meaning but bars
pub mod Lacking
