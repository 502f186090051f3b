-- What the code finds and leaves on words and rows: which items are formal, and a name, sorts and a row under new names.
use Rattle.std.specs.Prelude.{◌≡◌, ℕ, ◌^◌, ◌<◌, Bool, false, ◌&&◌, List, eqb, length}
use Rattle.meaning.specs.Lists.{pick, any}
use Rattle.meaning.specs.Names.{Name, same}
use Rattle.meaning.specs.Origins.{Shape, same_shape, is_sort, Item, in_parameter}
use Rattle.meaning.specs.Normal.{is_called, move_type}
use Rattle.meaning.specs.Clauses.{renaming}
use Rattle.text_names.specs.Word.{name_of}
use Rattle.form_rows.specs.declared.Row.{Row}
use Rattle.form_rows.specs.Rows.{item_of, type_of}
use Rattle.clause_pairs.specs.Pairs.{pairs_at}
use Rattle.clause_translation.specs.declared.Mode.{Mode}
use Rattle.clause_translation.specs.Translation.{mode_formals, sort_name, function_name, moved_in}

-- ---- formal items

-- a sort called a that stands in the parameter p
unfoldable pub formal_sort : Name → Name → Item → Bool
formal_sort p a i =
    let called = same a i.name in pick (is_sort i.shape) (pick (in_parameter p i.standing) called false) false

-- an item called f of the shape s that stands in the parameter p
unfoldable pub formal_function : Name → Name → Shape → Item → Bool
formal_function p f s i = pick (in_parameter p i.standing) (is_called f i && same_shape s i.shape) false

unfoldable pub is_formal_function : List Item → Name → Shape → Bool
is_formal_function formal f s = any (λ (i : Item). is_called f i && same_shape s i.shape) formal

-- ---- new names

module _ (text tape w : List ℕ) (m : Mode) where
  -- what becomes of a name by its shape, as of a function's by its type
  unfoldable pub shape_name : Name → Shape → Name
  shape_name f s =
      let renamed = renaming (pairs_at text tape m.pairs) f in
      let bound = pick (is_formal_function (mode_formals text tape w m) f s) renamed f in
      pick (eqb m.kind 0) f (pick (eqb m.kind 1) renamed bound)

pub record NewSort (text tape w : List ℕ) (m : Mode) (a r : ℕ) : Type 0 where
  pub name : name_of text r ≡ sort_name text tape w m (name_of text a)
  pub small : a < 2 ^ 31 → r < 2 ^ 31

-- ---- rows

pub record MovedSorts (text tape w : List ℕ) (m : Mode) (inputs : ℕ) (sorts r : List ℕ) : Type 0 where
  pub size : length r ≡ 9
  pub type : type_of text tape inputs r ≡ move_type (sort_name text tape w m) (function_name text tape w m) (type_of text tape inputs sorts)

-- the row r is x moved; it stands where x stood, and is from where x is from
pub record MovedRow (text tape w : List ℕ) (m : Mode) (visible : Bool) (x r : Row) : Type 0 where
  pub item : item_of text tape r ≡ moved_in text tape w m visible (item_of text tape x)
  pub standing : r.standing ≡ x.standing
  pub origin : r.origin ≡ x.origin
  pub size : length r.sorts ≡ 9
