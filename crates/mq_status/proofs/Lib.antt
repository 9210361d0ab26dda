mod Growing
mod Heads
mod Joined
mod Logins
mod Padded
mod Safe
mod Visible
mod Written
pub mod Texts
