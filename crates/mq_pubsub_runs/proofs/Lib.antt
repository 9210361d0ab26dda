pub mod Postings
pub mod Watchings
pub mod Visits
