-- The parts that an origin and a declaration are written in.
use Rattle.std.specs.Prelude.{ℕ, ◌+◌, List, ◌++◌}
use Rattle.meaning.specs.Names.{bytes}
use Rattle.meaning.specs.Written.{type_text, section_text, declared_text}
use Rattle.form_sections.specs.declared.Section.{Section}
use Rattle.form_rows.specs.Entries.{name_at, names_from, arity_at, sort_place, declared_at}
use Rattle.form_rows.specs.Rows.{section_of}

-- the name at place i, after a mark
unfoldable pub marked_name : List ℕ → List ℕ → ℕ → List ℕ
marked_name text tape i = bytes "#" ++ name_at text tape i

-- a function, a variable and a sort that are declared at d
unfoldable pub declared_function_text : List ℕ → List ℕ → ℕ → List ℕ
declared_function_text text tape d =
    let n = arity_at tape d in
    bytes "function," ++ (name_at text tape d ++ type_text (names_from text tape (d + 1) n) (name_at text tape (d + 1 + n)))

unfoldable pub variable_type_text : List ℕ → List ℕ → ℕ → List ℕ
variable_type_text text tape d = bytes ":->" ++ name_at text tape (sort_place tape d)

unfoldable pub declared_variable_text : List ℕ → List ℕ → ℕ → List ℕ
declared_variable_text text tape d = bytes "variable," ++ (name_at text tape d ++ variable_type_text text tape d)

unfoldable pub declared_sort_text : List ℕ → List ℕ → ℕ → List ℕ
declared_sort_text text tape d = bytes "sort," ++ name_at text tape d

-- an origin from its section on
unfoldable pub placed_text : List ℕ → List ℕ → Section → ℕ → List ℕ
placed_text text tape s d = section_text (section_of text s) ++ (bytes "," ++ (declared_text (declared_at text tape d) ++ bytes "]"))
