pub mod Discarding
pub mod Posting
pub mod Prelude
pub mod Stops
pub mod Watching
pub mod Inside
