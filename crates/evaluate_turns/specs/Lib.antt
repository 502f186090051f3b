pub mod Asked
pub mod Turns
pub mod ByNumber
pub mod Turning
pub mod Beginning
