-- The notes of a binding are right: rows that are not formal keep theirs, and a formal function's is where an actual item has the new name
-- and the moved type, by which it is known at nodes.
use Rattle.std.specs.Prelude.{◌≡◌, refl, Bool, false, List, [], ℕ, ◌+◌, ◌*◌, ◌≤◌, ◌<◌}
use Rattle.std.proofs.Common.{sym, ◌∙◌, arith}
use Rattle.std.proofs.Math.Path.{ap}
use Rattle.std.proofs.Math.Bool.{true}
use Rattle.std.proofs.lemmas.Bool.{false≢true}
use Rattle.std.proofs.Math.Option.{none}
use Rattle.std.proofs.Math.ListN.{get_or}
use Rattle.meaning.specs.Lists.{pick, union}
use Rattle.meaning.specs.Names.{Name}
use Rattle.meaning.specs.Origins.{FunctionType, Shape, sort_shape, function_shape, variable_shape, is_function, Item, one_item, in_parameter}
use Rattle.meaning.specs.Normal.{Visible, move_shape, move_item, formals}
use Rattle.meaning.specs.Checks.{fine}
use Rattle.meaning.specs.Clauses.{pairs_right, unpaired}
use Rattle.text_names.specs.Word.{name_of}
use Rattle.form_rows.specs.Rows.{item_of, row_at, row_size}
use Rattle.form.specs.declared.Form.{Form}
use Rattle.form.specs.Memory.{Same}
use Rattle.form.specs.Forms.{items_at, node_shape, node_of}
use Rattle.form.specs.FormLaws.{items_same}
use Rattle.form.specs.FlatMoves.{move_node}
use Rattle.clause_translation.specs.declared.Mode.{Mode}
use Rattle.clause_pairs.specs.Pairs.{pairs_at}
use Rattle.clause_translation.specs.Translation.{sort_name, function_name, moved, moved_in}
use Rattle.clause_translation.specs.MovedLaws.{moved_apart}
use Rattle.unite_items.specs.Absorb.{Absorbed, taken}
use Rattle.unite_nodes.specs.Found.{pointable, Noted, function_moved}
use Rattle.unite.specs.Noting.{item_moved, node_moved, shape_moved, note_inside, note_item}
use Rattle.clause_checks.specs.Notes.{mode_item, formal_row, moved_place, FormalsNoted}
use Rattle.clause_fitting.specs.Bound.{NotedAs, note_right}
use Rattle.form_rows.specs.RowLaws.{row_same}

-- ---- a visible function is known at nodes by its name and its type

node_known : (k : ℕ) (i j : Item) → is_function j.shape ≡ true → i.name ≡ j.name → i.shape ≡ j.shape → node_of true k i ≡ node_of true k j
unfolding node_of node_shape is_function pick
node_known k i j f e s = ap (node_shape true k i) s ∙ by j.shape f
  where
    by : (x : Shape) → is_function x ≡ true → node_shape true k i x ≡ node_shape true k j x
    by sort_shape h = absurd (false≢true h)
    by (variable_shape v) h = absurd (false≢true h)
    by (function_shape t) h = rw e

-- ---- rows absorbed, others absorbed behind them, and the notes of formal rows

-- what stays: the mode's table, the notes while the others are absorbed, and rows that are there
pub record StaysNoted (w w₁ w₂ w₃ : List ℕ) (m : Mode) (notes count : ℕ) (all : Form) : Type 0 where
  pub table : Same m.visible (m.visible + m.count * row_size) w w₂
  pub table_last : Same m.visible (m.visible + m.count * row_size) w w₃
  pub notes_stay : Same notes (notes + m.count) w₁ w₂
  pub rows : Same all.visible (all.visible + count * row_size) w₁ w₃
  pub rows_last : Same all.visible (all.visible + all.visible_count * row_size) w₂ w₃

module _ (text tape w w₁ w₂ w₃ : List ℕ) (m : Mode) (nd notes count : ℕ) (all : Form)
    (x : Absorbed text tape w m true true m.visible m.count all.visible nd notes count w₁) (grows : count ≤ all.visible_count)
    (z : FormalsNoted text tape w₂ w₃ m all notes) (stays : StaysNoted w w₁ w₂ w₃ m notes count all) where
  abbrev σ : Name → Name
  σ = sort_name text tape w m

  abbrev φ : Name → FunctionType → Name
  φ = function_name text tape w m

  abbrev source : ℕ → Item
  source i = item_of text tape (row_at w (m.visible + i * row_size))

  abbrev goal : ℕ → Item
  goal i = item_moved σ φ true (source i)

  abbrev note : ℕ → ℕ
  note i = get_or w₃ (notes + i) 0

  abbrev there : ℕ → Item
  there i = item_of text tape (row_at w₃ (all.visible + note i * row_size))

  table_then : items_at text tape w₂ m.visible m.count ≡ items_at text tape w m.visible m.count
  table_then = items_same w w₂ text tape m.visible m.count stays.table

  module _ (i : ℕ) (h : i < m.count) where
    source_then : mode_item text tape w₂ m i ≡ source i
    unfolding mode_item
    source_then = ap (item_of text tape) (row_same w w₂ (m.visible + i * row_size) (λ j a b. stays.table j (omega arith) (omega arith)))

    source_last : item_of text tape (row_at w₃ (m.visible + i * row_size)) ≡ source i
    source_last = ap (item_of text tape) (row_same w w₃ (m.visible + i * row_size) (λ j a b. stays.table_last j (omega arith) (omega arith)))

    formal : formal_row text tape w₂ m i ≡ in_parameter (name_of text m.parameter) (source i).standing
    unfolding formal_row
    formal = ap (λ (j : Item). in_parameter (name_of text m.parameter) j.standing) source_then

    -- a row that is not formal
    kept_right : formal_row text tape w₂ m i ≡ false → NotedAs text tape w₃ all (goal i) (note i)
    unfolding taken pick
    kept_right e =
        let takes : taken text true m.parameter (source i) ≡ true = rw (sym formal ∙ e) in
        let first = get_or w₁ (notes + i) 0 in
        let inside = note_inside text tape w m true true m.visible m.count all.visible nd notes count w₁ x i h takes in
        let same_note : note i ≡ first = z.others i h e ∙ stays.notes_stay (notes + i) (omega arith) (omega arith) in
        let row = row_same w₁ w₃ (all.visible + first * row_size) (λ j a b. stays.rows j (omega arith) (omega arith)) in
        let whole : there i ≡ goal i =
        ap (λ (n : ℕ). item_of text tape (row_at w₃ (all.visible + n * row_size))) same_note ∙ ap (item_of text tape) row
        ∙ note_item text tape w m true true m.visible m.count all.visible nd notes count w₁ x i h takes in
        record {
          inside = omega (arith, same_note, inside, grows);
          name = ap (λ (j : Item). j.name) whole;
          shape = ap (λ (j : Item). j.shape) whole;
        }

    -- a formal row whose new name and moved shape was found among all
    formal_right : formal_row text tape w₂ m i ≡ true
        → NotedAs text tape w₂ all (moved text tape w₂ m (mode_item text tape w₂ m i)) (moved_place text tape w₂ m all (mode_item text tape w₂ m i))
        → NotedAs text tape w₃ all (goal i) (note i)
    unfolding moved_in moved item_moved pick
    formal_right e found =
        let n = moved_place text tape w₂ m all (mode_item text tape w₂ m i) in
        let same_note : note i ≡ n = z.formals i h e in
        let inside = found.inside in
        let row = row_same w₂ w₃ (all.visible + n * row_size) (λ j a b. stays.rows_last j (omega arith) (omega arith)) in
        let whole : there i ≡ item_of text tape (row_at w₂ (all.visible + n * row_size)) =
        ap (λ (k : ℕ). item_of text tape (row_at w₃ (all.visible + k * row_size))) same_note ∙ ap (item_of text tape) row in
        let same_goal : moved text tape w₂ m (mode_item text tape w₂ m i) ≡ goal i =
        moved_apart text tape w w₂ m table_then true (mode_item text tape w₂ m i) ∙ ap (move_item σ φ) source_then in
        record {
          inside = omega (arith, same_note, inside);
          name = ap (λ (j : Item). j.name) whole ∙ found.name ∙ ap (λ (j : Item). j.name) same_goal;
          shape = ap (λ (j : Item). j.shape) whole ∙ found.shape ∙ ap (λ (j : Item). j.shape) same_goal;
        }

  -- the pairs are right, and the actual items were joined
  module _ (whole actual : Visible) (e : items_at text tape w m.visible m.count ≡ whole.items) (two : m.kind ≡ 2) (others : List Item)
      (joined : items_at text tape w₂ all.visible all.visible_count ≡ union one_item others actual.items)
      (right : pairs_right (formals (name_of text m.parameter) whole) (pairs_at text tape m.pairs) whole actual [] (pairs_at text tape m.pairs)
      ≡ fine tt)
      (paired_all : unpaired (formals (name_of text m.parameter) whole) (pairs_at text tape m.pairs) ≡ none) where
    noted : (i : ℕ) → i < m.count → is_function (source i).shape ≡ true → NotedAs text tape w₃ all (goal i) (note i)
    noted i h f = go (formal_row text tape w₂ m i) refl
      where
        go : (b : Bool) → formal_row text tape w₂ m i ≡ b → NotedAs text tape w₃ all (goal i) (note i)
        go true q =
            formal_right i h q
            (note_right text tape w₂ m i whole actual (table_then ∙ e) two right paired_all h q
            (ap (λ (j : Item). is_function j.shape) (source_then i h) ∙ f) all others joined)
        go false q = kept_right i h q

    function_last : (i : ℕ) → i < m.count → pointable true (item_of text tape (row_at w₃ (m.visible + i * row_size))).shape ≡ true
        → is_function (source i).shape ≡ true
    unfolding pointable pick
    function_last i h q = ap (λ (j : Item). is_function j.shape) (sym (source_last i h)) ∙ q

    pub bound_noted : all.visible_count ≤ 65536
        → Noted σ φ text tape w₃ true notes m.visible m.count all.visible all.visible_count
    bound_noted few = record {
      small = few;
      inside = λ i h q. (noted i h (function_last i h q)).inside;
      node = λ i h q k.
          let f = function_last i h q in
          let n = noted i h f in
          node_known k (there i) (goal i) (ap is_function (shape_moved σ φ true (source i)) ∙ function_moved σ φ (source i).shape ∙ f) n.name n.shape
          ∙ node_moved σ φ true k (source i) ∙ ap (λ (j : Item). move_node σ φ (node_of true k j)) (sym (source_last i h));
      shape = λ i h q.
          (noted i h (function_last i h q)).shape ∙ shape_moved σ φ true (source i) ∙ ap (λ (j : Item). move_shape σ φ j.shape) (sym (source_last i h));
    }
