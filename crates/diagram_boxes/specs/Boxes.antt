-- What a diagram shows of a module on the tape: its parameters, and its import expressions with their bindings.
use Rattle.std.specs.Prelude.{ℕ, zero, suc, ◌+◌, ◌-◌, Bool, List, [], ◌∷◌, ◌++◌, map, eqb, ltb, get_or}
use Rattle.meaning.specs.Lists.{pick}
use Rattle.meaning.specs.Listing.{Line}
use Rattle.text_names.specs.Word.{name_of}
use Rattle.tape.specs.Tape.{parameter_role, import_role, renamed_role, bound_role, actual_role}
use Rattle.form_rows.specs.Entries.{role_at, word_at, name_at}
use Rattle.modules.specs.Modules.{Heads, picked}
use Rattle.diagram_meaning.specs.Diagram.{Binding, Expression, box_line, parameter_line, bind_line}

unfoldable pub is_parameter : ℕ → Bool
is_parameter r = eqb r parameter_role

-- the bindings among the clauses of one expression, which stand in the first of c entries from j on; q is the word of the parameter of the
-- one that goes on at j
unfoldable pub bindings_from : List ℕ → List ℕ → ℕ → ℕ → ℕ → List Binding
bindings_from text tape q j zero = []
bindings_from text tape q j (suc c) =
    let bound = bindings_from text tape (word_at tape j) (suc j) c in
    let other = bindings_from text tape q (suc j) c in
    let actual : List Binding = record { parameter = name_of text q; actual = name_at text tape j } ∷ other in
    let clause = pick (eqb (role_at tape j) bound_role) bound (pick (eqb (role_at tape j) actual_role) actual other) in
    pick (ltb (role_at tape j) renamed_role) [] (pick (ltb actual_role (role_at tape j)) [] clause)

-- the import expressions among c entries from j on
unfoldable pub expressions_from : List ℕ → List ℕ → ℕ → ℕ → List Expression
expressions_from text tape j zero = []
expressions_from text tape j (suc c) =
    let more = expressions_from text tape (suc j) c in
    let here : List Expression = record { name = name_at text tape j; bindings = bindings_from text tape 0 (suc j) c } ∷ more in
    pick (eqb (role_at tape j) import_role) here more

-- where module k begins, and where it ends
abbrev pub begin_of : Heads → ℕ → ℕ
begin_of h k = get_or h.places k 0

abbrev pub end_of : Heads → ℕ → ℕ
end_of h k = get_or h.places (k + 1) 0

-- the box of module k, brought in by an expression whose clauses stand from a on, before `end`
unfoldable pub box_lines : List ℕ → List ℕ → Heads → (depth k a end : ℕ) → List Line
box_lines text tape h depth k a end =
    box_line depth (name_at text tape (begin_of h k))
    ∷ (map (parameter_line depth) (picked is_parameter text tape (begin_of h k) (end_of h k - begin_of h k))
    ++ map (bind_line depth) (bindings_from text tape 0 a (end - a)))
