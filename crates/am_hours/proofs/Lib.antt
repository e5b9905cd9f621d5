-- lists of spans that are apart: what is at their ends, and what a span more does
pub mod Apart
-- times of day as texts
pub mod ClockTexts
-- how many spans there are at most
pub mod Counts
-- the spans of the minutes of a day, on a piece of a clock
pub mod DaySpans
-- the ends of a range
pub mod Ends
-- the gaps of a list of spans
pub mod Gaps
-- why times make no list of spans
pub mod Late
-- seconds and instants of clocks
pub mod Seconds
-- pushing a span onto a list, the merge of two lists, and the gaps of a list
pub mod Merges
-- the index of a text among names
pub mod Named
-- the numbers that texts write
pub mod Numbers
-- rows of pieces
pub mod Rows
