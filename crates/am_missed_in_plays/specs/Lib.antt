-- what every rehearsal has: its dispatchers ran, and what is listed of missed spans has its cause
pub mod Rehearsals
-- where a receiver answers, no span is missed for long
pub mod SpansInTime
