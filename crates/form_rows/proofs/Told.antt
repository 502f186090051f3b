-- What the test on two parameters tells of their sections, in the code's terms.
use mathlib.Core.Path.{◌≡◌}
use mathlib.Core.Bool.{Bool}
use mathlib.Core.List.{List}
use Prim.Native.Nat.{ℕ}
use Rattle.meaning.specs.Names.{same}
use Rattle.meaning.specs.Origins.{same_section}
use Rattle.text_names.specs.Word.{name_of}
use Rattle.form_sections.specs.declared.Section.{Section}
use Rattle.form_sections.specs.declared.Section.TheVariants.{Parameter}
use Rattle.form_rows.specs.Rows.{section_of}

pub parameters_told : (text : List ℕ) (a b : Section) (p q : ℕ) (r : Bool) → a ≡ Parameter p → b ≡ Parameter q
    → r ≡ same (name_of text p) (name_of text q) → r ≡ same_section (section_of text a) (section_of text b)
unfolding same_section section_of
parameters_told text a b p q r e f h = rw (e, f) h
