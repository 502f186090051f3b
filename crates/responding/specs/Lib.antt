pub mod Program
pub mod Short
pub mod Printed
pub mod Enough
