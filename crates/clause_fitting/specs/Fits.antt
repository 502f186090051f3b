-- What the actual module has to have for a formal item (meaning/specs/Clauses.antt), of rows in the working memory: the mode's rows are
-- those of the module that is bound, the form is the actual one.
use Rattle.std.specs.Prelude.{◌≡◌, ℕ, Bool, true, false, eqb}
use Rattle.std.proofs.Math.Path.{refl, ap}
use Rattle.std.proofs.Math.Bool.{not}
use mathlib.Core.List.{List, [], ◌∷◌}
use Rattle.meaning.specs.Lists.{pick, any}
use Rattle.meaning.specs.Names.{Name, member}
use Rattle.meaning.specs.Syntax.{Pair}
use Rattle.meaning.specs.Origins.{Sort, visible_sort, hidden_sort, FunctionType, Shape, sort_shape, function_shape, variable_shape, Item}
use Rattle.meaning.specs.Normal.{Visible, names_in, sorts_among, move_shape, origin_of}
use Rattle.meaning.specs.Checks.{each_beside}
use Rattle.meaning.specs.Clauses.{same_origins, is_formal_sort, new_sort, new_function}
use Rattle.meaning.specs.Clauses.{sort_right, sorts_right, kind_right, type_right, all_right, pair_right, pairs_right}
use Rattle.text_names.specs.Word.{name_of}
use Rattle.form.specs.declared.Form.{Form}
use Rattle.form.specs.Forms.{items_at, visible_at}
use Rattle.clause_translation.specs.declared.Mode.{Mode}
use Rattle.clause_pairs.specs.Pairs.{pairs_at}
use Rattle.clause_translation.specs.Translation.{mode_formals, sort_name, function_name}
use Rattle.clause_checks.specs.Searches.{function_called, like}
use Rattle.clause_checks.specs.SortOrigins.{origin_among}
use Rattle.clause_fitting.specs.Unpaired.{formal_called}

-- two tables have the sort from one place, or both have it not
unfoldable pub one_origin : List ℕ → List ℕ → List ℕ → ℕ → ℕ → ℕ → ℕ → Name → Bool
one_origin text tape w b n c m a = same_origins (origin_among (items_at text tape w b n) a) (origin_among (items_at text tape w c m) a)

-- the actual module has `new` by the kind of a row: 0 is a sort, 1 a variable, from 2 up a function
unfoldable pub kind_there : List ℕ → List ℕ → List ℕ → Form → Name → ℕ → Bool
kind_there text tape w actual new k =
    let items = items_at text tape w actual.visible actual.visible_count in
    pick (eqb k 0) (member new (names_in (sorts_among items))) (pick (eqb k 1) true (any (function_called new) items))

module _ (text tape w : List ℕ) (m : Mode) where
  -- the visible part of the module that is bound; no check asks for its parameters
  unfoldable pub mode_whole : Visible
  mode_whole = record { parameters = []; items = items_at text tape w m.visible m.count }

  module _ (actual : Form) where
    unfoldable pub sort_fits : Sort → Bool
    sort_fits s = sort_right (mode_formals text tape w m) (pairs_at text tape m.pairs) mode_whole (visible_at text tape w actual) s

    unfoldable pub sorts_fit : FunctionType → Bool
    sorts_fit t = sorts_right (mode_formals text tape w m) (pairs_at text tape m.pairs) mode_whole (visible_at text tape w actual) t

    -- an item called `new` of the shape after the formal sorts are replaced
    unfoldable pub function_there : Name → Shape → Bool
    function_there new s =
        any (like new (move_shape (sort_name text tape w m) (function_name text tape w m) s)) (items_at text tape w actual.visible actual.visible_count)

    unfoldable pub kind_fits : Name → Shape → Bool
    kind_fits new s = kind_right (visible_at text tape w actual) new s

    unfoldable pub type_fits : Name → Shape → Bool
    type_fits new s = type_right (mode_formals text tape w m) (pairs_at text tape m.pairs) mode_whole (visible_at text tape w actual) new s

    -- one of the two tests
    unfoldable pub item_fits : Bool → Name → Shape → Bool
    item_fits by_type new s = pick by_type (type_fits new s) (kind_fits new s)

    -- a formal item called `old` that needs what is not there under the new name
    unfoldable pub misfit : Bool → Name → Name → Item → Bool
    misfit by_type old new i =
        let there = item_fits by_type new i.shape in pick (formal_called (name_of text m.parameter) old i) (not there) false

    -- all formal items that the pair binds pass the test
    unfoldable pub all_fit : Bool → Name → Name → Bool
    all_fit by_type old new =
        all_right (mode_formals text tape w m) (item_fits by_type)
        (record { old = old; new = new })

-- ---- the visible part that is bound counts by its items alone

module _ (formal : List Item) (rs : List Pair) (whole other actual : Visible) (e : whole.items ≡ other.items) where
  sort_any : (s : Sort) → sort_right formal rs whole actual s ≡ sort_right formal rs other actual s
  unfolding sort_right origin_of is_formal_sort
  sort_any (hidden_sort o) = refl
  sort_any (visible_sort a) = rw e

  sorts_any : (t : FunctionType) → sorts_right formal rs whole actual t ≡ sorts_right formal rs other actual t
  unfolding sorts_right
  sorts_any t = ap (λ (fits : Sort → Bool). not (any (λ (s : Sort). not (fits s)) (t.output ∷ t.inputs))) (λ i s. sort_any s i)

  type_any : (new : Name) (s : Shape) → type_right formal rs whole actual new s ≡ type_right formal rs other actual new s
  unfolding type_right new_sort new_function is_formal_sort
  type_any new sort_shape = refl
  type_any new (variable_shape s) = refl
  type_any new (function_shape t) = rw (sorts_any t)

  module _ (r : Pair) where
    all_types : all_right formal (type_right formal rs whole actual) r ≡ all_right formal (type_right formal rs other actual) r
    unfolding all_right
    all_types = ap (λ (fits : Name → Shape → Bool). all_right formal fits r) (λ i new s. type_any new s i)

    pair_any : (seen : List Name) → pair_right formal rs whole actual seen r ≡ pair_right formal rs other actual seen r
    unfolding pair_right
    pair_any seen = rw all_types

  pub whole_any : (seen : List Name) (ps : List Pair) → pairs_right formal rs whole actual seen ps ≡ pairs_right formal rs other actual seen ps
  unfolding pairs_right each_beside
  whole_any seen [] = refl
  whole_any seen (r ∷ ps) = rw (pair_any r seen, whole_any (r.old ∷ seen) ps)
