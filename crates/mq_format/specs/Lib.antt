pub mod Format
pub mod Json
pub mod Layout
pub mod Moment
pub mod Prelude
pub mod Reading
