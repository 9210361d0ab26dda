mod Drawings
mod Ends
mod Passwords
mod Runs
mod Servings
