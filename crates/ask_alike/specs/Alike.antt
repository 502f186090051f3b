-- Entries of two tapes compared: which are the same, the entries from a place on, and how far a section of a module goes. All of it is total: a
-- place past the end has role 0 and no name.
use Rattle.std.specs.Prelude.{ℕ, zero, suc, Bool, true, false, List, [], ◌∷◌, eqb, leb, get_or}
use Rattle.meaning.specs.Lists.{pick}
use Rattle.meaning.specs.Names.{same}
use Rattle.tape.specs.Tape.{Entry, parameter_role, parameter_function, export_sort, export_function, input_role, output_role, import_role, actual_role, spelled}
use Rattle.form_rows.specs.Entries.{role_at}

-- the same role and the same name
unfoldable pub same_entry : Entry → Entry → Bool
same_entry e f = pick (eqb e.role f.role) (same e.name f.name) false

-- what stands at place i
abbrev pub entry_at : List ℕ → List ℕ → ℕ → Entry
entry_at text tape i = spelled text (get_or tape i 0)

-- the n entries from place i on
unfoldable pub entries_from : List ℕ → List ℕ → ℕ → ℕ → List Entry
entries_from text tape i zero = []
entries_from text tape i (suc n) = entry_at text tape i ∷ entries_from text tape (suc i) n

-- ---- sections

abbrev pub the_parameters : ℕ
the_parameters = 0

abbrev pub the_exports : ℕ
the_exports = 1

abbrev pub the_imports : ℕ
the_imports = 2

-- is the role one of those from a to b?
unfoldable pub between : ℕ → ℕ → ℕ → Bool
between a b r = pick (leb a r) (leb r b) false

-- or what follows a function?
unfoldable pub declaring : ℕ → ℕ → ℕ → Bool
declaring a b r = pick (between a b r) true (between input_role output_role r)

-- has an entry of the section the role?
unfoldable pub section_role : ℕ → ℕ → Bool
section_role s r =
    pick (eqb s the_parameters) (declaring parameter_role parameter_function r)
    (pick (eqb s the_exports) (declaring export_sort export_function r) (between import_role actual_role r))

-- how many entries from place i on, at most n, are of the section
unfoldable pub run_size : ℕ → List ℕ → ℕ → ℕ → ℕ
run_size s tape i zero = 0
run_size s tape i (suc n) = let more = suc (run_size s tape (suc i) n) in pick (section_role s (role_at tape i)) more 0
