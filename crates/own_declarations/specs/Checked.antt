-- 13 and 12 by places of the tape and rows of the working memory (meaning/specs/Own.antt).
use Rattle.std.specs.Prelude.{ℕ, ◌+◌, ◌-◌, Bool, true, false, not, List, eqb, ltb}
use Rattle.meaning.specs.Lists.{pick}
use Rattle.meaning.specs.Numbers.{bad_sort, bad_variable}
use Rattle.meaning.specs.Checks.{lone, Check, fine, stop}
use Rattle.tape.specs.Tape.{hidden_function, variable_role}
use Rattle.form_rows.specs.Entries.{role_at, name_at, is_function_role, arity_at, sort_place}
use Rattle.own_repeats.specs.Scans.{found, first_of}
use Rattle.own_declarations.specs.Sorts.{is_named, is_row, is_seen, is_inside}
use Rattle.own_declarations.specs.declared.Own.{Own}

module _ (text tape w : List ℕ) (own : Own) where
  -- the sort that stands at i is not available, in the hidden section or in front of it
  unfoldable pub lacks : Bool → ℕ → Bool
  lacks hidden i = pick hidden (not (is_inside text tape w own (name_at text tape i))) (not (is_seen text tape w own (name_at text tape i)))

  -- an input of the function at d, or its output
  unfoldable pub lacks_function : Bool → ℕ → Bool
  lacks_function hidden d = found (lacks hidden) (d + 1) (arity_at tape d + 1)

  unfoldable pub lacks_variable : ℕ → Bool
  lacks_variable d = lacks true (sort_place tape d)

  unfoldable pub lacks_sort : ℕ → Bool
  lacks_sort d =
      let f = lacks_function (eqb (role_at tape d) hidden_function) d in
      let v = lacks_variable d in
      pick (is_function_role (role_at tape d)) f (pick (eqb (role_at tape d) variable_role) v false)

  unfoldable pub available_at : ℕ → Check
  available_at d = pick (lacks_sort d) (stop bad_sort (lone (name_at text tape d))) (fine tt)

  -- the variable at i is called like one before it, or like a constant among the visible rows or the n rows from b on
  unfoldable pub wrong_at : ℕ → ℕ → ℕ → Bool
  wrong_at b n i =
      pick (ltb (first_of (is_named text tape variable_role (name_at text tape i)) own.from (i - own.from)) i) true
      (pick (found (is_row text w own.rows 2 (name_at text tape i)) 0 own.count) true
      (found (is_row text w b 2 (name_at text tape i)) 0 n))

  unfoldable pub variable_at : ℕ → ℕ → ℕ → Check
  variable_at b n i =
      pick (eqb (role_at tape i) variable_role) (pick (wrong_at b n i) (stop bad_variable (lone (name_at text tape i))) (fine tt)) (fine tt)
