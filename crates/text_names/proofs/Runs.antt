-- Laws of runs of bytes and of single bytes of a text: as `text_words` has them.
pub use Rattle.text_words.proofs.Runs.{run_on, run_stop, run_ends, run_from, run_to, run_fails, front, second, word_on}
