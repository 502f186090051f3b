pub mod ItemsFit
