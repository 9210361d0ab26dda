pub mod Lists
pub mod Written
pub mod Encodings
pub mod Headers
