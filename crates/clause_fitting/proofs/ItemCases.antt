-- Laws of what the actual module has for formal items, in the code's terms.
use mathlib.Core.Path.{◌≡◌, refl, sym, ap, ◌∙◌}
use Prim.Native.Nat.{ℕ, ◌-◌, ◌≤◌, ◌<◌}
use mathlib.Core.Bool.{Bool, true, false, not, ◌&&◌}
use mathlib.Core.List.{List}
use native.Mathlib.Omega.{arith}
use lib.Dec.{ltb, leb}
use borrow.Author.Rules.{rules}
use borrow.Author.Tests.{eq-eqb, ne_eqb}
use Rattle.meaning.specs.Lists.{pick, any, before}
use Rattle.meaning.specs.Names.{Name}
use Rattle.meaning.specs.Origins.{Shape, function_shape, Item, in_parameter}
use Rattle.meaning.specs.Normal.{sort_names, is_called, move_shape, move_item}
use Rattle.meaning.specs.Clauses.{kind_right, type_right, all_right}
use Rattle.text_names.specs.Word.{name_of}
use Rattle.form_rows.specs.declared.Row.{Row}
use Rattle.form_rows.specs.Rows.{type_of, shape_of, item_of}
use Rattle.form.specs.declared.Form.{Form}
use Rattle.form.specs.Forms.{items_at, visible_at}
use Rattle.clause_translation.specs.declared.Mode.{Mode}
use Rattle.clause_translation.specs.Translation.{formals_at, sort_name, function_name, moved, moved_in}
use Rattle.clause_translation.specs.Moved.{MovedRow}
use Rattle.clause_translation.specs.MovedLaws.{sort_name_bound, function_name_bound}
use Rattle.form_walks.specs.Lists.{any_keep}
use Rattle.clause_checks.specs.Searches.{function_called, like}
use Rattle.form_walks.specs.Shapes.{shape_function, by_kind}
use Rattle.form_walks.specs.Rows.{found_below, none_below}
use Rattle.clause_fitting.specs.Unpaired.{formal_called}
use Rattle.clause_fitting.specs.Fits.{sorts_fit, kind_there, function_there, kind_fits, type_fits, item_fits, misfit, all_fit}

module _ (text tape w : List ℕ) (m : Mode) (actual : Form) where
  -- the items of the actual module
  abbrev there : List Item
  there = items_at text tape w actual.visible actual.visible_count

  -- the kind tells the shape
  kind_told : (new : Name) (x : Row)
      → kind_there text tape w actual new x.kind ≡ kind_fits text tape w m actual new (shape_of text tape x.kind x.sorts)
  unfolding kind_there kind_fits kind_right function_called sort_names visible_at pick
  kind_told new x =
      by_kind text tape x.kind x.sorts (λ (s : Shape). kind_there text tape w actual new x.kind ≡ kind_fits text tape w m actual new s)
      (λ e. rw (eq-eqb x.kind 0 e)) (λ e. rw (ne_eqb x.kind 0 (λ q. omega arith), eq-eqb x.kind 1 e))
      (λ h. rw (ne_eqb x.kind 0 (λ q. omega arith), ne_eqb x.kind 1 (λ q. omega arith)))

  -- ---- the moved shape among the rows of the actual module

  shape_moved : (x y : Row) → MovedRow text tape w m true x y
      → shape_of text tape y.kind y.sorts ≡ move_shape (sort_name text tape w m) (function_name text tape w m) (shape_of text tape x.kind x.sorts)
  unfolding item_of moved_in moved move_item pick
  shape_moved x y h = ap (λ (i : Item). i.shape) h.item

  pub moved_there : (new i : ℕ) (x y : Row) → MovedRow text tape w m true x y
      → i ≡ before (like (name_of text new) (shape_of text tape y.kind y.sorts)) there
      → ltb i actual.visible_count ≡ function_there text tape w m actual (name_of text new) (shape_of text tape x.kind x.sorts)
  unfolding function_there
  moved_there new i x y h e =
      found_below text tape w actual.visible actual.visible_count i (like (name_of text new) (shape_of text tape y.kind y.sorts)) e
      ∙ ap (λ (s : Shape). any (like (name_of text new) s) there) (shape_moved x y h)

  -- ---- by type

  module _ (new : ℕ) (x : Row) where
    abbrev shape : Shape
    shape = shape_of text tape x.kind x.sorts

    abbrev Typed : Bool → Type 0
    Typed r = r ≡ type_fits text tape w m actual (name_of text new) shape

    pub type_plain : x.kind < 2 → Typed true
    unfolding type_fits type_right
    type_plain h =
        by_kind text tape x.kind x.sorts (λ (s : Shape). true ≡ type_fits text tape w m actual (name_of text new) s)
        (λ e. refl) (λ e. refl) (λ l. absurd (omega (arith, h, l)))

    module _ (two : m.kind ≡ 2) (h : 2 ≤ x.kind) (b : Bool) (e : b ≡ sorts_fit text tape w m actual (type_of text tape (x.kind - 2) x.sorts)) where
      function_kind : shape ≡ function_shape (type_of text tape (x.kind - 2) x.sorts)
      function_kind = shape_function text tape x.kind x.sorts h

      pub type_sorts : b ≡ false → Typed false
      unfolding type_fits type_right sorts_fit
      type_sorts q = rw (function_kind, ← e, q)

      pub type_function : (r : Bool) → b ≡ true → r ≡ function_there text tape w m actual (name_of text new) shape → Typed r
      unfolding type_fits type_right sorts_fit function_there like move_shape visible_at
      type_function r q f =
          let σ = sort_name_bound text tape w m two in
          let φ = function_name_bound text tape w m two in
          rw (function_kind, ← e, q) (rw (function_kind, σ, φ) at f)

    -- ---- by one of the two

    module _ (by_type r : Bool) where
      pub item_typed : by_type ≡ true → Typed r → r ≡ item_fits text tape w m actual by_type (name_of text new) shape
      unfolding item_fits pick
      item_typed h e = rw h e

      pub item_kinded : by_type ≡ false → r ≡ kind_there text tape w actual (name_of text new) x.kind
          → r ≡ item_fits text tape w m actual by_type (name_of text new) shape
      unfolding item_fits pick
      item_kinded h e = rw h (e ∙ kind_told (name_of text new) x)

  -- ---- the formal items of a name

  abbrev rows : List Item
  rows = items_at text tape w m.visible m.count

  abbrev inside : Item → Bool
  inside i = in_parameter (name_of text m.parameter) i.standing

  module _ (by_type : Bool) (old new : Name) where
    abbrev needing : Item → Bool
    needing i = is_called old i && not (item_fits text tape w m actual by_type new i.shape)

    one_misfit : (i : Item) → pick (inside i) (needing i) false ≡ misfit text tape w m actual by_type old new i
    unfolding misfit formal_called pick
    one_misfit i = go (inside i) (is_called old i) (not (item_fits text tape w m actual by_type new i.shape))
      where
        go : (a b c : Bool) → pick a (b && c) false ≡ pick (pick a b false) c false
        go true true c = refl
        go true false c = refl
        go false b c = refl

    none_misfit : all_fit text tape w m actual by_type old new ≡ not (any (misfit text tape w m actual by_type old new) rows)
    unfolding all_fit all_right formals_at
    none_misfit = ap not (any_keep inside needing rows ∙ ap (λ (p : Item → Bool). any p rows) (λ j i. one_misfit i j))

  pub none_left : (x y : ℕ) (by_type : Bool) (i : ℕ) → i ≡ before (misfit text tape w m actual by_type (name_of text x) (name_of text y)) rows
      → leb m.count i ≡ all_fit text tape w m actual by_type (name_of text x) (name_of text y)
  none_left x y by_type i e = none_below text tape w m.visible m.count i _ e ∙ sym (none_misfit by_type (name_of text x) (name_of text y))

pub ruleset types = (moved_there, type_plain, type_sorts, type_function, rules)

pub ruleset fits = (item_typed, item_kinded, rules)

pub ruleset alls = (none_left, rules)
