pub mod Fronts
pub mod Sends
pub mod AuditedRuns
pub mod Reports
pub mod Pendings
pub mod Polleds
pub mod Jobs
pub mod Callings
