pub mod Hidden
pub mod Room
pub mod Said
pub mod Completed
pub mod EquationLaws
pub mod ItemLaws
