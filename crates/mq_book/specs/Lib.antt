pub mod Connection
pub mod Ends
pub mod Pages
pub mod Prelude
pub mod Receipts
pub mod Replays
pub mod Workers
pub mod Inside
