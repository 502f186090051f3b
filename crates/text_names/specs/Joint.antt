-- Two texts as one, as `text_spelling` has them.
pub use Rattle.text_spelling.specs.Joint.{name_in_text, name_in_library}
unfoldable pub use Rattle.text_spelling.specs.Joint.{joint}
