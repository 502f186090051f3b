-- What two items of one name are tested for.
use Rattle.std.specs.Prelude.{Bool, not, ◌&&◌, ◌||◌, List, ℕ, ◌-◌}
use Rattle.meaning.specs.Lists.{agree}
use Rattle.meaning.specs.Origins.{same_sort, same_shape, is_sort, is_function, Item}
use Rattle.meaning.specs.Checks.{other_origin, other_output, both_in_one}
use Rattle.form_rows.specs.Rows.{type_of}
use Rattle.unite_pairs.specs.declared.Test.{Test}
use Rattle.unite_pairs.specs.declared.Test.TheVariants.{Sorts, Functions, Overloading}

-- the meaning's tests, but for the names
unfoldable pub two_sorts : Item → Item → Bool
two_sorts a b = is_sort a.shape && is_sort b.shape && other_origin a b

unfoldable pub two_functions : Item → Item → Bool
two_functions a b = is_function a.shape && same_shape a.shape b.shape && other_origin a b

unfoldable pub two_overloaded : Item → Item → Bool
two_overloaded a b = other_output a.shape b.shape || both_in_one a b

unfoldable pub but_name : Test → Item → Item → Bool
but_name Sorts a b = two_sorts a b
but_name Functions a b = two_functions a b
but_name Overloading a b = two_overloaded a b

-- equal inputs and different outputs
unfoldable pub overloaded_types : List ℕ → List ℕ → ℕ → List ℕ → ℕ → List ℕ → Bool
overloaded_types text tape k a l b =
    let t = type_of text tape (k - 2) a in
    let u = type_of text tape (l - 2) b in
    agree same_sort t.inputs u.inputs && not (same_sort t.output u.output)
