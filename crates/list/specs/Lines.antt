-- What a listing is written as, whatever the words of the form hold.
use Rattle.std.specs.Prelude.{ℕ, List, ◌++◌}
use Rattle.meaning.specs.Names.{bytes}
use Rattle.text_names.specs.Word.{name_of}
use Rattle.form.specs.declared.Form.{Form}
use Rattle.list_lines.specs.Lines.{line_of}
use Rattle.list_parts.specs.Lines.{visible_text, hidden_text}

-- the name is a word of the text
unfoldable pub listing_text : (text tape w : List ℕ) (name : ℕ) → Form → List ℕ
listing_text text tape w name f =
    line_of (bytes "module") (name_of text name)
    ++ (visible_text text tape w f ++ (hidden_text text tape w f ++ line_of (bytes "end") (name_of text name)))
