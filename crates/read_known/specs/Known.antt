-- The names of modules that stand before a text.
use Rattle.std.specs.Prelude.{ℕ, List, map}
use Rattle.meaning.specs.Names.{Name}
use Rattle.text_names.specs.Word.{name_of}

-- the names of a text that these words stand for
unfoldable pub named_so : List ℕ → List ℕ → List Name
named_so text ws = map (name_of text) ws
