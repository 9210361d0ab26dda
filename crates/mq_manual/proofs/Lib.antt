mod Cases
mod Options
mod Pages
