-- What a name may stand for, as the rows tell it: an operator, for no sort, and for functions with as many arguments as it has.
use Rattle.std.specs.Prelude.{ℕ, Bool, true, eqb}
use Rattle.meaning.specs.Lists.{pick}
use Rattle.meaning.specs.Names.{Name, is_operator, is_infix}

-- by the kind of a row: 0 is a sort, 1 a variable, from 2 up a function with so many arguments and two
unfoldable pub kind_named : Name → ℕ → Bool
kind_named w k = pick (eqb k 1) true (pick (is_operator w) (pick (is_infix w) (eqb k 4) (eqb k 3)) true)
