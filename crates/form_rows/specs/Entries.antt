-- What the tape says at a place: roles and names, the declaration that stands there, and where it is from. All of it is total: a place
-- past the end has role 0 and no name.
use Rattle.std.specs.Prelude.{ℕ, zero, suc, ◌+◌, ◌-◌, ◌/◌, ◌%◌, Bool, true, List, [], ◌∷◌, eqb, length, get_or}
use Rattle.meaning.specs.Lists.{pick}
use Rattle.meaning.specs.Names.{Name}
use Rattle.meaning.specs.Numbers.{argument_limit}
use Rattle.meaning.specs.Origins.{Declared, declared_sort, declared_function, declared_variable}
use Rattle.text_names.specs.Word.{name_of}
use Rattle.tape.specs.Tape.{module_role, parameter_role, parameter_sort, parameter_function, export_sort, export_function, hidden_function, input_role, variable_role, variable_sort}
use Rattle.form_sections.specs.declared.Section.{Section}
use Rattle.form_sections.specs.declared.Section.TheVariants.{Export, Hidden, Parameter}
use Rattle.form_rows.specs.declared.Origin.{Origin}

abbrev pub role_at : List ℕ → ℕ → ℕ
role_at tape i = get_or tape i 0 % 32

-- the name's word, and the name
abbrev pub word_at : List ℕ → ℕ → ℕ
word_at tape i = get_or tape i 0 / 32

abbrev pub name_at : List ℕ → List ℕ → ℕ → Name
name_at text tape i = name_of text (word_at tape i)

-- the last place up to i that has the role; 0 if none has
unfoldable pub last_with : ℕ → List ℕ → ℕ → ℕ
last_with role tape zero = 0
last_with role tape (suc i) = let more = last_with role tape i in pick (eqb (role_at tape (suc i)) role) (suc i) more

-- the first of c places from i on that has the role; the place behind them if none has
unfoldable pub next_with : ℕ → List ℕ → ℕ → ℕ → ℕ
next_with role tape i zero = i
next_with role tape i (suc c) = let more = next_with role tape (suc i) c in pick (eqb (role_at tape i) role) i more

-- how many inputs stand from i on, at most c
unfoldable pub inputs_from : List ℕ → ℕ → ℕ → ℕ
inputs_from tape i zero = 0
inputs_from tape i (suc c) = let more = suc (inputs_from tape (suc i) c) in pick (eqb (role_at tape i) input_role) more 0

-- the names of c entries from i on
unfoldable pub names_from : List ℕ → List ℕ → ℕ → ℕ → List Name
names_from text tape i zero = []
names_from text tape i (suc c) = name_at text tape i ∷ names_from text tape (suc i) c

-- ---- declarations

unfoldable pub is_function_role : ℕ → Bool
is_function_role r = pick (eqb r parameter_function) true (pick (eqb r export_function) true (eqb r hidden_function))

unfoldable pub is_parameter_role : ℕ → Bool
is_parameter_role r = pick (eqb r parameter_sort) true (eqb r parameter_function)

unfoldable pub is_export_role : ℕ → Bool
is_export_role r = pick (eqb r export_sort) true (eqb r export_function)

-- how many inputs the function declared at d has
unfoldable pub arity_at : List ℕ → ℕ → ℕ
arity_at tape d = inputs_from tape (d + 1) argument_limit

-- where the sort of the variable declared at d stands
unfoldable pub sort_place : List ℕ → ℕ → ℕ
sort_place tape d = next_with variable_sort tape d (length tape - d)

-- what is declared at d: a function, a variable, or else a sort
unfoldable pub declared_at : List ℕ → List ℕ → ℕ → Declared
declared_at text tape d =
    let n = arity_at tape d in
    let f = declared_function (name_at text tape d) (names_from text tape (d + 1) n) (name_at text tape (d + 1 + n)) in
    let v = declared_variable (name_at text tape d) (name_at text tape (sort_place tape d)) in
    pick (is_function_role (role_at tape d)) f (pick (eqb (role_at tape d) variable_role) v (declared_sort (name_at text tape d)))

-- ---- where a declaration is from

-- the word of the name of the module that d stands in, and of the parameter
unfoldable pub home_at : List ℕ → ℕ → ℕ
home_at tape d = word_at tape (last_with module_role tape d)

unfoldable pub section_at : List ℕ → ℕ → Section
section_at tape d =
    let p = Parameter (word_at tape (last_with parameter_role tape d)) in
    pick (is_parameter_role (role_at tape d)) p (pick (is_export_role (role_at tape d)) Export Hidden)

unfoldable pub origin_at : List ℕ → ℕ → Origin
origin_at tape d = record { home = home_at tape d; section = section_at tape d; place = d }
