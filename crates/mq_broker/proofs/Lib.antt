mod Begins
mod Fullness
mod Inputs
mod Counting
