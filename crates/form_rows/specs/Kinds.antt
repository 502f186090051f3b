-- What the code goes by on its way to the definitions: a declaration's kind, an item but for its name, and a row's parts.
use Rattle.std.specs.Prelude.{ℕ, zero, suc, ◌+◌, Bool, ◌&&◌, List, [], ◌∷◌, eqb, get_or}
use Rattle.meaning.specs.Lists.{pick}
use Rattle.meaning.specs.Origins.{Declared, declared_sort, declared_function, declared_variable, same_section, same_shape, same_origin}
use Rattle.tape.specs.Tape.{variable_role}
use Rattle.form_sections.specs.Sections.{section_word, word_section}
use Rattle.form_rows.specs.Entries.{role_at, name_at, names_from, is_function_role, arity_at, sort_place}
use Rattle.form_rows.specs.Rows.{section_of, shape_of, origin_of}
use Rattle.form_rows.specs.declared.Origin.{Origin}
use Rattle.form_rows.specs.declared.Row.{Row}

-- a row's kind for what is declared at d
unfoldable pub kind_at : List ℕ → ℕ → ℕ
kind_at tape d =
    let n = arity_at tape d + 2 in pick (is_function_role (role_at tape d)) n (pick (eqb (role_at tape d) variable_role) 1 0)

-- what is declared at d, by its kind
unfoldable pub declared_by : List ℕ → List ℕ → ℕ → ℕ → Declared
declared_by text tape d zero = declared_sort (name_at text tape d)
declared_by text tape d (suc zero) = declared_variable (name_at text tape d) (name_at text tape (sort_place tape d))
declared_by text tape d (suc (suc n)) =
    declared_function (name_at text tape d) (names_from text tape (d + 1) n) (name_at text tape (d + 1 + n))

unfoldable pub one_but_name : List ℕ → List ℕ → Row → Row → Bool
one_but_name text tape a b =
    same_section (section_of text a.standing) (section_of text b.standing)
    && same_shape (shape_of text tape a.kind a.sorts) (shape_of text tape b.kind b.sorts)
    && same_origin (origin_of text tape a.origin) (origin_of text tape b.origin)

-- ---- a row's origin

unfoldable pub read_origin : List ℕ → ℕ → Origin
read_origin w b = record { home = get_or w b 0; section = word_section (get_or w (b + 1) 0); place = get_or w (b + 2) 0 }

unfoldable pub origin_words : Origin → List ℕ
origin_words o = o.home ∷ section_word o.section ∷ o.place ∷ []
