-- Names as words, as `text_spelling` has them.
pub use Rattle.text_spelling.specs.Word.{plain_form, prefix_form, infix_form, name_slice, no_name, plain_name, name_parts, name_short}
unfoldable pub use Rattle.text_spelling.specs.Word.{in_form, token_of, name_of, leading, trailing}
