pub mod Steps
pub mod Places
pub mod Sofar
pub mod Stepping
pub mod Heads
pub mod FirstSteps
pub mod LastSteps
pub mod Next
