pub mod Grammar
pub mod Options
pub mod Prelude
pub mod Seconds
pub mod Inside
