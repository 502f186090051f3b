-- The checks of a binding in the meaning's own terms, and what they give: once the actual module's visible items are joined, the note of a
-- formal function is a row with its new name and its moved type.
use Rattle.std.specs.Prelude.{◌≡◌, ℕ, ◌+◌, ◌*◌, ◌<◌, Bool}
use Rattle.std.proofs.Math.Path.{sym, ap}
use Rattle.std.proofs.Common.{◌∙◌, arith}
use Rattle.std.proofs.Math.Bool.{true}
use Rattle.std.proofs.Math.Option.{none}
use mathlib.Core.List.{List, []}
use Rattle.std.proofs.Math.ListN.{length, get_or}
use Rattle.meaning.specs.Lists.{keep, any, before, union}
use Rattle.meaning.specs.Names.{Name}
use Rattle.meaning.specs.OrderLaws.{same_equal}
use Rattle.meaning.specs.Syntax.{Pair}
use Rattle.meaning.specs.Origins.{is_function, Item, one_item, in_parameter}
use Rattle.meaning.specs.Normal.{Visible, is_called, move_item, formals}
use Rattle.meaning.specs.Checks.{fine}
use Rattle.meaning.specs.Clauses.{new_sort, new_function, pairs_right, unpaired}
use Rattle.laws.specs.Decides.{shapes_decided, items_decided}
use Rattle.text_names.specs.Word.{name_of}
use Rattle.form_rows.specs.Rows.{item_of, row_at, row_size}
use Rattle.form.specs.declared.Form.{Form}
use Rattle.form.specs.Forms.{items_at}
use Rattle.form.specs.FormLaws.{length_items, item_at}
use Rattle.clause_translation.specs.declared.Mode.{Mode}
use Rattle.clause_pairs.specs.Pairs.{pairs_at}
use Rattle.clause_translation.specs.Translation.{formals_at, mode_formals, sort_name, function_name, moved}
use Rattle.clause_translation.specs.MovedLaws.{sort_name_bound, function_name_bound}
use Rattle.clause_checks.specs.Joined.{both_true, every_kept, first_passes, joined_there}
use Rattle.clause_checks.specs.Searches.{like}
use Rattle.clause_fitting.specs.Fits.{mode_whole, whole_any}
use Rattle.clause_fitting.specs.Formals.{formal_noted}
use Rattle.clause_checks.specs.Notes.{mode_item, formal_row, moved_place}

-- ---- the checks

module _ (text tape w : List ℕ) (m : Mode) (whole : Visible) (e : items_at text tape w m.visible m.count ≡ whole.items) where
  abbrev pairs : List Pair
  pairs = pairs_at text tape m.pairs

  abbrev bound : List Item
  bound = formals (name_of text m.parameter) whole

  pub formals_meant : mode_formals text tape w m ≡ bound
  unfolding formals_at formals
  formals_meant = ap (keep (λ (i : Item). in_parameter (name_of text m.parameter) i.standing)) e

  pub pairs_meant : (actual : Visible) (seen : List Name) (ps : List Pair)
      → pairs_right (mode_formals text tape w m) pairs (mode_whole text tape w m) actual seen ps ≡ pairs_right bound pairs whole actual seen ps
  unfolding mode_whole
  pairs_meant actual seen ps =
      whole_any (mode_formals text tape w m) pairs (mode_whole text tape w m) whole actual e seen ps
      ∙ ap (λ (formal : List Item). pairs_right formal pairs whole actual seen ps) formals_meant

  pub unpaired_meant : unpaired (mode_formals text tape w m) pairs ≡ unpaired bound pairs
  unpaired_meant = rw formals_meant

  module _ (two : m.kind ≡ 2) where
    pub sorts_meant : sort_name text tape w m ≡ new_sort bound pairs
    sorts_meant = sort_name_bound text tape w m two ∙ ap (λ (formal : List Item). new_sort formal pairs) formals_meant

    pub functions_meant : function_name text tape w m ≡ new_function bound pairs
    functions_meant = function_name_bound text tape w m two ∙ ap (λ (formal : List Item). new_function formal pairs) formals_meant

-- ---- the note of a formal function

-- row n of the form y has the name and the shape of the item i
pub record NotedAs (text tape w : List ℕ) (y : Form) (i : Item) (n : ℕ) : Type 0 where
  pub inside : n < y.visible_count
  pub name : (item_of text tape (row_at w (y.visible + n * row_size))).name ≡ i.name
  pub shape : (item_of text tape (row_at w (y.visible + n * row_size))).shape ≡ i.shape

module _ (text tape w : List ℕ) (m : Mode) (k : ℕ) where
  abbrev item : Item
  item = mode_item text tape w m k

  -- what is called as the item is when it is moved, and has the shape that it has then
  abbrev sought : Item → Bool
  sought = like (moved text tape w m item).name (moved text tape w m item).shape

  noted_as : (y : Form) → any sought (items_at text tape w y.visible y.visible_count) ≡ true
      → NotedAs text tape w y (moved text tape w m item) (moved_place text tape w m y item)
  unfolding moved_place like is_called
  noted_as y there =
      let items = items_at text tape w y.visible y.visible_count in
      let n = before sought items in
      let passes = first_passes sought item items there in
      let inside : n < y.visible_count = omega (arith, passes.0, length_items text tape w y.visible y.visible_count) in
      let row : get_or items n item ≡ item_of text tape (row_at w (y.visible + n * row_size)) =
      item_at text tape w y.visible y.visible_count n item inside in
      let parts = both_true _ _ passes.1 in
      record {
        inside = inside;
        name = sym (same_equal _ _ parts.0 ∙ ap (λ (i : Item). i.name) row);
        shape = sym (shapes_decided.equal _ _ parts.1 ∙ ap (λ (i : Item). i.shape) row);
      }

  module _ (whole actual : Visible) (e : items_at text tape w m.visible m.count ≡ whole.items) (two : m.kind ≡ 2)
      (right : pairs_right (bound text tape w m whole e) (pairs text tape w m whole e) whole actual [] (pairs text tape w m whole e) ≡ fine tt)
      (paired_all : unpaired (bound text tape w m whole e) (pairs text tape w m whole e) ≡ none) (h : k < m.count)
      (f : formal_row text tape w m k ≡ true) (g : is_function item.shape ≡ true) where
    row_item : get_or whole.items k item ≡ item
    unfolding mode_item
    row_item = ap (λ (is : List Item). get_or is k item) (sym e) ∙ item_at text tape w m.visible m.count k item h

    -- the actual module has the function
    pub formal_found : any sought actual.items ≡ true
    unfolding moved move_item formals formal_row
    formal_found =
        let size : length whole.items ≡ m.count = ap length (sym e) ∙ length_items text tape w m.visible m.count in
        let all = formal_noted (bound text tape w m whole e) (pairs text tape w m whole e) whole actual right paired_all in
        let stands : in_parameter (name_of text m.parameter) (get_or whole.items k item).standing ≡ true = rw row_item f in
        let noted = every_kept _ (λ (i : Item). in_parameter (name_of text m.parameter) i.standing) item whole.items k (omega arith) all stands in
        rw (sorts_meant text tape w m whole e two, functions_meant text tape w m whole e two) ((rw row_item at noted) g)

    -- and its note in a form that the actual module's items were joined to is right
    pub note_right : (y : Form) (others : List Item) → items_at text tape w y.visible y.visible_count ≡ union one_item others actual.items
        → NotedAs text tape w y (moved text tape w m item) (moved_place text tape w m y item)
    note_right y others joined = noted_as y (rw joined (joined_there sought one_item items_decided.equal others actual.items formal_found))
