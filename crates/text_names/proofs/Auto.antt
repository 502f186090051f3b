-- What the answers for a loop, a test and a call hand to `search`: as `text_spelling` has it.
pub use Rattle.text_spelling.proofs.Auto.{tests, on, done, over, told}
