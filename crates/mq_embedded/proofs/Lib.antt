mod Codes
mod Fronts
mod Heard
mod Moved
mod Started
mod Texts
