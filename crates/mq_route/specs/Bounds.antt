pub mod Costs
pub mod Waiting
pub mod Ends
pub mod Sharp
pub mod Broker
