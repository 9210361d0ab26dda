mod Digits
mod Events
mod LawProofs
