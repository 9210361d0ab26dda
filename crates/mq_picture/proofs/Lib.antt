mod Escaping
mod Lines
mod Lanes
mod Charts
mod Recording
