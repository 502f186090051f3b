-- Items that were absorbed are noted: where a row of the source went there stands its item under new names, and a node through the note is the
-- source's node under new names.
use Rattle.std.specs.Prelude.{◌≡◌, Bool, List, ℕ, ◌+◌, ◌*◌, ◌≤◌, ◌<◌, get_or}
use Rattle.std.proofs.Math.Path.{refl, sym, ap}
use Rattle.std.proofs.Common.{◌∙◌, arith}
use Rattle.std.proofs.Math.Bool.{true, false}
use Rattle.meaning.specs.Lists.{pick}
use Rattle.meaning.specs.Names.{Name}
use Rattle.meaning.specs.Origins.{Origin, Section, FunctionType, Shape, sort_shape, function_shape, variable_shape, Item}
use Rattle.meaning.specs.Normal.{move_sort, move_shape, move_name, move_item, move_hidden_item, move_head}
use Rattle.form_rows.specs.declared.Row.{Row}
use Rattle.form_rows.specs.Rows.{item_of, row_at, row_size}
use Rattle.form_rows.specs.RowLaws.{row_same}
use Rattle.form.specs.Memory.{Same}
use Rattle.form.specs.Forms.{items_at, node_shape, node_of}
use Rattle.form.specs.FormLaws.{item_at}
use Rattle.form.specs.FlatMoves.{move_node}
use Rattle.clause_translation.specs.declared.Mode.{Mode}
use Rattle.clause_translation.specs.Translation.{sort_name, function_name, moved, moved_hidden, moved_in}
use Rattle.unite_items.specs.Absorb.{Absorbed, taken}
use Rattle.unite_nodes.specs.Found.{Noted}

-- ---- what moves

module _ (σ : Name → Name) (φ : Name → FunctionType → Name) where
  -- an item of a table of visible items, or of hidden ones
  unfoldable pub item_moved : Bool → Item → Item
  item_moved visible x = pick visible (move_item σ φ x) (move_hidden_item σ φ x)

  node_by_shape : (visible : Bool) (k : ℕ) (standing : Section) (name : Name) (origin : Origin) (s : Shape)
      → node_of visible k (item_moved visible (record { standing = standing; name = name; shape = s; origin = origin }))
      ≡ move_node σ φ (node_of visible k (record { standing = standing; name = name; shape = s; origin = origin }))
  unfolding node_of node_shape item_moved pick move_item move_hidden_item move_shape move_name move_node move_head move_sort
  node_by_shape true k standing name origin sort_shape = refl
  node_by_shape true k standing name origin (function_shape t) = refl
  node_by_shape true k standing name origin (variable_shape s) = refl
  node_by_shape false k standing name origin sort_shape = refl
  node_by_shape false k standing name origin (function_shape t) = refl
  node_by_shape false k standing name origin (variable_shape s) = refl

  pub node_moved : (visible : Bool) (k : ℕ) (x : Item) → node_of visible k (item_moved visible x) ≡ move_node σ φ (node_of visible k x)
  node_moved visible k x = node_by_shape visible k x.standing x.name x.origin x.shape

  pub shape_moved : (visible : Bool) (x : Item) → (item_moved visible x).shape ≡ move_shape σ φ x.shape
  unfolding item_moved pick move_item move_hidden_item
  shape_moved true x = refl
  shape_moved false x = refl

-- ---- notes

module _ (text tape w : List ℕ) (m : Mode) (visible drop : Bool) (s ns d nd o r : ℕ) (w' : List ℕ)
    (x : Absorbed text tape w m visible drop s ns d nd o r w') (i : ℕ) (h : i < ns) where
  abbrev source : Item
  source = item_of text tape (row_at w (s + i * row_size))

  module _ (takes : taken text drop m.parameter source ≡ true) where
    takes_listed : taken text drop m.parameter (get_or (items_at text tape w s ns) i source) ≡ true
    takes_listed = ap (taken text drop m.parameter) (item_at text tape w s ns i source h) ∙ takes

    -- the note of a row that is taken lies within the table, and there stands its item under new names
    pub note_inside : get_or w' (o + i) 0 < r
    note_inside = x.noted i source h takes_listed

    pub note_item : item_of text tape (row_at w' (d + get_or w' (o + i) 0 * row_size))
        ≡ item_moved (sort_name text tape w m) (function_name text tape w m) visible source
    unfolding moved_in moved moved_hidden item_moved
    note_item =
        sym (item_at text tape w' d r (get_or w' (o + i) 0) source note_inside) ∙ x.notes i source h takes_listed
        ∙ ap (moved_in text tape w m visible) (item_at text tape w s ns i source h)

-- where all rows are taken, and the source is not written on, the notes are right
module _ (text tape w : List ℕ) (m : Mode) (visible : Bool) (s ns d nd o r : ℕ) (w' : List ℕ)
    (x : Absorbed text tape w m visible false s ns d nd o r w') (few : r ≤ 65536) (stays : Same s (s + ns * row_size) w w') where
  all_taken : (y : Item) → taken text false m.parameter y ≡ true
  unfolding taken pick
  all_taken y = refl

  row_stays : (i : ℕ) → i < ns → row_at w (s + i * row_size) ≡ row_at w' (s + i * row_size)
  row_stays i h = sym (row_same w w' (s + i * row_size) (λ j a b. stays j (omega arith) (omega arith)))

  pub all_noted : Noted (sort_name text tape w m) (function_name text tape w m) text tape w' visible o s ns d r
  all_noted =
      let σ = sort_name text tape w m in
      let φ = function_name text tape w m in
      record {
        small = few;
        inside = λ i h z. note_inside text tape w m visible false s ns d nd o r w' x i h (all_taken _);
        node = λ i h z k.
            ap (node_of visible k) (note_item text tape w m visible false s ns d nd o r w' x i h (all_taken _))
            ∙ node_moved σ φ visible k (item_of text tape (row_at w (s + i * row_size)))
            ∙ ap (λ (q : Row). move_node σ φ (node_of visible k (item_of text tape q))) (row_stays i h);
        shape = λ i h z.
            ap (λ (y : Item). y.shape) (note_item text tape w m visible false s ns d nd o r w' x i h (all_taken _))
            ∙ shape_moved σ φ visible (item_of text tape (row_at w (s + i * row_size)))
            ∙ ap (λ (q : Row). move_shape σ φ (item_of text tape q).shape) (row_stays i h);
      }
