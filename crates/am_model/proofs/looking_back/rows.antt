pub mod FoundRows
pub mod LoadedRows
pub mod RowSteps
pub mod RowsDelivered
