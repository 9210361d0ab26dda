mod Appends
mod Configurations
mod Continuing
mod Lasting
mod Opens
mod Restores
mod Splits
