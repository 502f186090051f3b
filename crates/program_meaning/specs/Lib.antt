-- the word of the first line
pub mod FirstLine
pub mod Program
pub mod Opened
-- trials of requests beyond normal forms
pub mod Samples
