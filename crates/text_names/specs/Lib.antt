pub mod Word
pub mod Joint
