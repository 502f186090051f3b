-- What the places of the tests on two items ask, one law each: the hypotheses are the facts that the place has.
use mathlib.Core.Path.{◌≡◌, refl, sym, ap, ◌∙◌}
use mathlib.Core.Bool.{Bool, true, false, not, and-true, and-false}
use mathlib.Core.List.{List, map}
use Prim.Native.Nat.{ℕ, ◌-◌, ◌≤◌, ◌<◌, min}
use native.Mathlib.Omega.{arith}
use lib.ListN.{length, get_or, take, length-take, length-map}
use borrow.Author.Rules.{rules}
use borrow.Author.Tests.{eq-eqb, ne_eqb, lt-leb}
use Rattle.meaning.specs.Lists.{agree}
use Rattle.meaning.specs.Names.{same}
use Rattle.meaning.specs.Origins.{same_origin, same_sort, same_shape, is_sort, is_function, Shape, function_shape, in_parameter}
use Rattle.meaning.specs.Checks.{other_origin, other_output, in_one_parameter, both_in_one}
use Rattle.text_names.specs.Word.{name_of}
use Rattle.form_sections.specs.declared.Section.{Section}
use Rattle.form_sections.specs.declared.Section.TheVariants.{Export, Hidden, Parameter}
use Rattle.form_rows.specs.declared.Row.{Row}
use Rattle.form_rows.specs.Rows.{sort_of, type_of, section_of, shape_of, origin_of, item_of}
use Rattle.form_walks.specs.Shapes.{shape_function, by_kind, is_sort_kind, is_function_kind}
use Rattle.unite_pairs.specs.declared.Test.{Test}
use Rattle.unite_pairs.specs.declared.Test.TheVariants.{Sorts, Functions, Overloading}
use Rattle.unite_pairs.specs.Pairs.{two_sorts, two_functions, two_overloaded, overloaded_types, but_name}
use Rattle.form_rows.specs.RowLaws.{take_nine, agree_lengths}

-- ---- what a row's kind says

module _ (text tape : List ℕ) (k : ℕ) (sorts : List ℕ) where
  is_one : k ≡ 0 → is_sort (shape_of text tape k sorts) ≡ true
  is_one h = is_sort_kind text tape k sorts ∙ eq-eqb k 0 h

  no_sort : (k ≡ 0 → ⊥) → is_sort (shape_of text tape k sorts) ≡ false
  no_sort h = is_sort_kind text tape k sorts ∙ ne_eqb k 0 h

  no_function : k < 2 → is_function (shape_of text tape k sorts) ≡ false
  no_function h = sym (is_function_kind text tape k sorts) ∙ lt-leb 2 k h

-- ---- rows

module _ (text tape : List ℕ) (a b : Row) where
  module _ (p : Bool) (e : p ≡ same_origin (origin_of text tape a.origin) (origin_of text tape b.origin)) where
    pub origin_other : not p ≡ other_origin (item_of text tape a) (item_of text tape b)
    unfolding other_origin item_of
    origin_other = ap not e

  pub sorts_first : (a.kind ≡ 0 → ⊥) → false ≡ two_sorts (item_of text tape a) (item_of text tape b)
  unfolding two_sorts item_of
  sorts_first h = rw (no_sort text tape a.kind a.sorts h)

  module _ (h : a.kind ≡ 0) where
    pub sorts_second : (b.kind ≡ 0 → ⊥) → false ≡ two_sorts (item_of text tape a) (item_of text tape b)
    unfolding two_sorts item_of
    sorts_second l = rw (is_one text tape a.kind a.sorts h, no_sort text tape b.kind b.sorts l)

    pub sorts_told : (r : Bool) → b.kind ≡ 0 → r ≡ other_origin (item_of text tape a) (item_of text tape b)
        → r ≡ two_sorts (item_of text tape a) (item_of text tape b)
    unfolding two_sorts item_of
    sorts_told r l t = rw (is_one text tape a.kind a.sorts h, is_one text tape b.kind b.sorts l) t

  pub functions_first : a.kind < 2 → false ≡ two_functions (item_of text tape a) (item_of text tape b)
  unfolding two_functions item_of
  functions_first h = rw (no_function text tape a.kind a.sorts h)

  module _ (h : 2 ≤ a.kind) (p : Bool) (e : p ≡ same_shape (shape_of text tape a.kind a.sorts) (shape_of text tape b.kind b.sorts)) where
    function_here : is_function (shape_of text tape a.kind a.sorts) ≡ true
    unfolding is_function
    function_here = rw (shape_function text tape a.kind a.sorts h)

    pub functions_shapes : p ≡ false → false ≡ two_functions (item_of text tape a) (item_of text tape b)
    unfolding two_functions item_of
    functions_shapes g = rw (function_here, ← e, g)

    pub functions_told : (r : Bool) → p ≡ true → r ≡ other_origin (item_of text tape a) (item_of text tape b)
        → r ≡ two_functions (item_of text tape a) (item_of text tape b)
    unfolding two_functions item_of
    functions_told r g t = rw (function_here, ← e, g) t

  pub both_first : a.kind < 2 → false ≡ both_in_one (item_of text tape a) (item_of text tape b)
  unfolding both_in_one item_of
  both_first h = rw (no_function text tape a.kind a.sorts h)

  module _ (h : 2 ≤ a.kind) where
    pub both_second : b.kind < 2 → false ≡ both_in_one (item_of text tape a) (item_of text tape b)
    unfolding both_in_one item_of is_function
    both_second l = rw (shape_function text tape a.kind a.sorts h, no_function text tape b.kind b.sorts l)

    pub both_told : (r : Bool) → 2 ≤ b.kind → r ≡ in_one_parameter (section_of text a.standing) (section_of text b.standing)
        → r ≡ both_in_one (item_of text tape a) (item_of text tape b)
    unfolding both_in_one item_of is_function
    both_told r l t = rw (shape_function text tape a.kind a.sorts h, shape_function text tape b.kind b.sorts l) t

  module _ (p : Bool) (e : p ≡ other_output (shape_of text tape a.kind a.sorts) (shape_of text tape b.kind b.sorts)) where
    pub overloaded_output : p ≡ true → true ≡ two_overloaded (item_of text tape a) (item_of text tape b)
    unfolding two_overloaded item_of
    overloaded_output h = rw (← e, h)

    pub overloaded_told : (r : Bool) → p ≡ false → r ≡ both_in_one (item_of text tape a) (item_of text tape b)
        → r ≡ two_overloaded (item_of text tape a) (item_of text tape b)
    unfolding two_overloaded item_of
    overloaded_told r h t = rw (← e, h) t

  module _ (t : Test) (r : Bool) where
    pub test_sorts : t ≡ Sorts → r ≡ two_sorts (item_of text tape a) (item_of text tape b) → r ≡ but_name t (item_of text tape a) (item_of text tape b)
    unfolding but_name
    test_sorts h e = rw h e

    pub test_functions : t ≡ Functions → r ≡ two_functions (item_of text tape a) (item_of text tape b)
        → r ≡ but_name t (item_of text tape a) (item_of text tape b)
    unfolding but_name
    test_functions h e = rw h e

    pub test_overloading : t ≡ Overloading → r ≡ two_overloaded (item_of text tape a) (item_of text tape b)
        → r ≡ but_name t (item_of text tape a) (item_of text tape b)
    unfolding but_name
    test_overloading h e = rw h e

-- ---- sections

pub parameter_first : (text : List ℕ) (a b : Section) → ((p : ℕ) → a ≡ Parameter p → ⊥) → false ≡ in_one_parameter (section_of text a) (section_of text b)
unfolding in_one_parameter section_of
parameter_first text Export b n = refl
parameter_first text Hidden b n = refl
parameter_first text (Parameter p) b n = absurd (n p refl)

pub parameter_second : (text : List ℕ) (p : ℕ) (a b : Section) → a ≡ Parameter p → ((q : ℕ) → b ≡ Parameter q → ⊥)
    → false ≡ in_one_parameter (section_of text a) (section_of text b)
unfolding in_one_parameter in_parameter section_of
parameter_second text p a Export h n = rw h
parameter_second text p a Hidden h n = rw h
parameter_second text p a (Parameter q) h n = absurd (n q refl)

pub parameter_told : (text : List ℕ) (a b : Section) (p q : ℕ) (r : Bool) → a ≡ Parameter p → b ≡ Parameter q
    → r ≡ same (name_of text p) (name_of text q) → r ≡ in_one_parameter (section_of text a) (section_of text b)
unfolding in_one_parameter in_parameter section_of
parameter_told text a b p q r h g t = rw (h, g) t

-- ---- equal inputs and different outputs

module _ (text tape : List ℕ) (k : ℕ) (a : List ℕ) (l : ℕ) (b : List ℕ) where
  module _ (la : length a ≡ 9) (lb : length b ≡ 9) (n m : ℕ) (e : n ≡ min (k - 2) 9) (f : m ≡ min (l - 2) 9) where
    pub types_apart : (n ≡ m → ⊥) → false ≡ overloaded_types text tape k a l b
    unfolding overloaded_types type_of
    types_apart h =
        let s = sort_of text tape in
        let x : length (map s (take (k - 2) a)) ≡ n = length-map (take (k - 2) a) s ∙ omega (arith, length-take (k - 2) a) in
        let y : length (map s (take (l - 2) b)) ≡ m = length-map (take (l - 2) b) s ∙ omega (arith, length-take (l - 2) b) in
        rw (agree_lengths same_sort (map s (take (k - 2) a)) (map s (take (l - 2) b)) (λ q. h (sym x ∙ q ∙ y)))

    module _ (h : n ≡ m) (p : Bool) (g : p ≡ same_sort (sort_of text tape (get_or a 8 0)) (sort_of text tape (get_or b 8 0))) where
      pub types_one : p ≡ true → false ≡ overloaded_types text tape k a l b
      unfolding overloaded_types type_of
      types_one q =
          let s = sort_of text tape in
          rw (← g, q) (sym (and-false (agree same_sort (map s (take (k - 2) a)) (map s (take (l - 2) b)))))

      pub types_told : (r : Bool) → p ≡ false
          → r ≡ agree same_sort (map (sort_of text tape) (take n a)) (map (sort_of text tape) (take n b)) → r ≡ overloaded_types text tape k a l b
      unfolding overloaded_types type_of
      types_told r q t =
          let s = sort_of text tape in
          let x : take n a ≡ take (k - 2) a = ap (λ (i : ℕ). take i a) e ∙ take_nine (k - 2) a la in
          let y : take n b ≡ take (l - 2) b = ap (λ (i : ℕ). take i b) (h ∙ f) ∙ take_nine (l - 2) b lb in
          rw (← g, q) ((rw (x, y) at t) ∙ sym (and-true (agree same_sort (map s (take (k - 2) a)) (map s (take (l - 2) b)))))

  pub output_first : k < 2 → false ≡ other_output (shape_of text tape k a) (shape_of text tape l b)
  unfolding other_output
  output_first h =
      by_kind text tape k a (λ (s : Shape). false ≡ other_output s (shape_of text tape l b)) (λ e. refl) (λ e. refl) (λ m. absurd (omega (arith, h, m)))

  module _ (h : 2 ≤ k) where
    pub output_second : l < 2 → false ≡ other_output (shape_of text tape k a) (shape_of text tape l b)
    unfolding other_output
    output_second g =
        rw (shape_function text tape k a h)
        (by_kind text tape l b (λ (s : Shape). false ≡ other_output (function_shape (type_of text tape (k - 2) a)) s) (λ e. refl) (λ e. refl) (λ m. absurd (omega (arith, g, m))))

    pub output_told : (r : Bool) → 2 ≤ l → r ≡ overloaded_types text tape k a l b → r ≡ other_output (shape_of text tape k a) (shape_of text tape l b)
    unfolding other_output overloaded_types
    output_told r g t = rw (shape_function text tape k a h, shape_function text tape l b g) t

pub ruleset cases = (
  origin_other,
  sorts_first,
  sorts_second,
  sorts_told,
  functions_first,
  functions_shapes,
  functions_told,
  both_first,
  both_second,
  both_told,
  overloaded_output,
  overloaded_told,
  test_sorts,
  test_functions,
  test_overloading,
  parameter_first,
  parameter_second,
  parameter_told,
  types_apart,
  types_one,
  types_told,
  output_first,
  output_second,
  output_told,
  rules,
)
