mod Arguments
pub mod ClientCalls
pub mod RawBoxes
mod Reports
pub mod Words
