-- 9 by places of the tape (meaning/specs/Evaluate.antt, step 2): each declaration is compared with those before it in its section.
use Rattle.std.specs.Prelude.{ℕ, ◌-◌, Bool, false, List, eqb, ltb}
use Rattle.meaning.specs.Lists.{pick}
use Rattle.meaning.specs.Numbers.{declared_twice}
use Rattle.meaning.specs.Origins.{same_declared}
use Rattle.meaning.specs.Checks.{lone, Check, fine, stop}
use Rattle.tape.specs.Tape.{parameter_role}
use Rattle.form_rows.specs.Entries.{role_at, name_at, last_with, is_parameter_role, declared_at}
use Rattle.own_repeats.specs.Scans.{found}

-- a parameter's name, a sort or a function
unfoldable pub is_declaring : ℕ → Bool
is_declaring r = pick (ltb r 2) false (ltb r 9)

-- the declaration at i says what the one at j says, with the same role
unfoldable pub repeats : List ℕ → List ℕ → ℕ → ℕ → Bool
repeats text tape i j =
    pick (eqb (role_at tape i) (role_at tape j)) (same_declared (declared_at text tape i) (declared_at text tape j)) false

-- where the section of the declaration at i begins: with its parameter, or else with the module, at a
unfoldable pub section_start : List ℕ → ℕ → ℕ → ℕ
section_start tape a i = pick (is_parameter_role (role_at tape i)) (last_with parameter_role tape i) a

-- the declaration at i repeats an earlier one of its section
unfoldable pub is_repeat : List ℕ → List ℕ → ℕ → ℕ → Bool
is_repeat text tape a i = found (repeats text tape i) (section_start tape a i) (i - section_start tape a i)

unfoldable pub once_at : List ℕ → List ℕ → ℕ → ℕ → Check
once_at text tape a i =
    pick (is_declaring (role_at tape i)) (pick (is_repeat text tape a i) (stop declared_twice (lone (name_at text tape i))) (fine tt)) (fine tt)
