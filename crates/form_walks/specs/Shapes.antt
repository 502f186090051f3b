-- What a row's kind says of its shape: 0 is a sort, 1 a variable, from 2 up a function.
use Rattle.std.specs.Prelude.{◌≡◌, refl, ℕ, ◌-◌, ◌≤◌, Bool, true, false, List, get_or}
use Rattle.std.proofs.Math.Path.{sym}
use Rattle.std.proofs.Common.{arith}
use Rattle.std.proofs.Math.Dec.{eqb, leb}
use borrow.Author.Tests.{eq-eqb, ne_eqb, eqb-true, eqb-false, le-leb, lt-leb}
use Rattle.meaning.specs.Lists.{pick}
use Rattle.meaning.specs.Origins.{Shape, sort_shape, function_shape, variable_shape, is_sort, is_function}
use Rattle.form_rows.specs.Rows.{sort_of, type_of, shape_of}

module _ (text tape : List ℕ) (k : ℕ) (sorts : List ℕ) where
  abbrev shape : Shape
  shape = shape_of text tape k sorts

  abbrev variable : Shape
  variable = variable_shape (sort_of text tape (get_or sorts 8 0))

  abbrev function : Shape
  function = function_shape (type_of text tape (k - 2) sorts)

  pub shape_sort : k ≡ 0 → shape ≡ sort_shape
  unfolding shape_of pick
  shape_sort h = rw (eq-eqb k 0 h)

  pub shape_variable : k ≡ 1 → shape ≡ variable
  unfolding shape_of pick
  shape_variable h = rw h

  pub shape_function : 2 ≤ k → shape ≡ function
  unfolding shape_of pick
  shape_function h = rw (ne_eqb k 0 (λ e. omega arith), ne_eqb k 1 (λ e. omega arith))

  -- what holds of each shape where the kind says so
  pub by_kind : (P : Shape → Type 0) → (k ≡ 0 → P sort_shape) → (k ≡ 1 → P variable) → (2 ≤ k → P function) → P shape
  by_kind P s v f = go (eqb k 0) (eqb k 1) refl refl
    where
      go : (a b : Bool) → eqb k 0 ≡ a → eqb k 1 ≡ b → P shape
      go true b e g = rw (shape_sort (eqb-true k 0 e)) (s (eqb-true k 0 e))
      go false true e g = rw (shape_variable (eqb-true k 1 g)) (v (eqb-true k 1 g))
      go false false e g =
          let no_sort = eqb-false k 0 e in
          let no_variable = eqb-false k 1 g in
          let h : 2 ≤ k = omega (arith, no_sort, no_variable) in
          rw (shape_function h) (f h)

  pub is_sort_kind : is_sort shape ≡ eqb k 0
  unfolding is_sort
  is_sort_kind =
      by_kind (λ (s : Shape). is_sort s ≡ eqb k 0) (λ e. sym (eq-eqb k 0 e)) (λ e. sym (ne_eqb k 0 (λ q. omega arith))) (λ h. sym (ne_eqb k 0 (λ q. omega arith)))

  pub is_function_kind : leb 2 k ≡ is_function shape
  unfolding is_function
  is_function_kind =
      by_kind (λ (s : Shape). leb 2 k ≡ is_function s) (λ e. lt-leb 2 k (omega arith)) (λ e. lt-leb 2 k (omega arith)) (λ h. le-leb 2 k h)
