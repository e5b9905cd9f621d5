-- what is asked with words and without
pub mod Asked
-- lines, as a loop adds them
pub mod Lines
-- files that are read one after another
pub mod Ends
-- labels that are written as words, one more at a time
pub mod LabelWriting
-- matchers that are written as texts, one more at a time
pub mod Writing
