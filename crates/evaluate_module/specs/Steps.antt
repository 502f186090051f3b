-- The first two steps on the tape, and what the imports of a module come to (meaning/specs/Evaluate.antt, `evaluate`).
use Rattle.std.specs.Prelude.{ℕ, ◌-◌, ◌≤◌, List, length, take}
use Rattle.meaning.specs.OrderLaws.{Every}
use Rattle.meaning.specs.Syntax.{Import}
use Rattle.meaning.specs.Checks.{Check, ◌>>◌}
use Rattle.meaning.specs.Evaluate.{Evaluated, names_right, imported}
use Rattle.tape.specs.Tape.{import_role}
use Rattle.form_rows.specs.Entries.{next_with}
use Rattle.form.specs.Verdicts.{Made}
use Rattle.form.specs.Memory.{part, Kept}
use Rattle.form.specs.Blocks.{Makes, MadeIn}
use Rattle.form_layout.specs.Layout.{joining_block, second_block}
use Rattle.modules.specs.Modules.{declared, named_in, Heads}
use Rattle.own_repeats.specs.Scans.{walked}
use Rattle.own_repeats.specs.Once.{once_at}
use Rattle.imports.specs.Clausal.{Ground}
use Rattle.imports.specs.Spelling.{ImportsAt}
use Rattle.imports.specs.Expressions.{FewClauses}
use Rattle.form_keeping.specs.Environment.{EnvStands}

-- ---- steps 1 and 2

unfoldable pub first_checks : List ℕ → List ℕ → Heads → ℕ → ℕ → ℕ → Check
first_checks text tape h k from end =
    names_right (declared text tape h) (take k (declared text tape h)) (named_in text tape h k) >> walked (once_at text tape from) from (end - from)

-- ---- imports

pub record ImportedRoom (w : List ℕ) (t : ℕ) (h : Heads) (from end : ℕ) : Type 0 where
  pub ground : Ground w t h
  pub begins : from ≤ end
  pub within : end ≤ t

abbrev pub imports_place : List ℕ → ℕ → ℕ → ℕ
imports_place tape from end = next_with import_role tape from (end - from)

pub record Imported (text : List ℕ) (t : ℕ) (w : List ℕ) (h : Heads) (from end : ℕ) (r : Made) (w' : List ℕ) : Type 0 where
  pub kept : Kept joining_block.low second_block.high w w'
  pub made_in : MadeIn joining_block r
  pub made : (is : List Import) (env : List Evaluated) → ImportsAt text (part w 0 t) (imports_place (part w 0 t) from end) is → length is ≤ 32768
      → Every FewClauses is → EnvStands text (part w 0 t) w (declared text (part w 0 t) h) env → Makes text (part w' 0 t) w' r (imported env is)
