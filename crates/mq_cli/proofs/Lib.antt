pub mod Commands
pub mod Counting
pub mod InTurn
pub mod MadeUp
pub mod Matches
pub mod Pieces
pub mod Printing
pub mod Streams
