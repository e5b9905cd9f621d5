-- the alert and the silence of a call, of which a JSON value says one at most
pub mod Calls
-- bytes that are the text of a scenario
pub mod Texts
-- lists that are taken out of the values that hold them, and what was read of such a value
pub mod Lists
