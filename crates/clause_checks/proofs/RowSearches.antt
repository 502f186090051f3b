-- Laws of searches, in the code's terms: whether there is a parameter or a row, and the tests on one row and on two.
use mathlib.Core.Path.{◌≡◌, sym, ◌∙◌}
use Prim.Native.Nat.{ℕ, ◌+◌, ◌*◌, ◌≤◌, ◌<◌}
use mathlib.Core.Bool.{Bool, true, false}
use mathlib.Core.List.{List}
use lib.Dec.{ltb, leb}
use lib.ListN.{get_or}
use borrow.Author.Rules.{rules}
use borrow.Author.Tests.{eq-eqb, ne_eqb}
use Rattle.meaning.specs.Lists.{pick, any, before}
use Rattle.meaning.specs.Names.{same, member}
use Rattle.meaning.specs.Origins.{same_origin, same_shape, is_sort, Item}
use Rattle.meaning.specs.Normal.{Slot, names_in, sorts_among, is_called, slot_names}
use Rattle.text_names.specs.Word.{name_of}
use Rattle.form_rows.specs.declared.Row.{Row}
use Rattle.form_rows.specs.Rows.{origin_of, shape_of, item_of, row_at}
use Rattle.form.specs.Forms.{slot_at, slots_at, items_at, slot_size}
use Rattle.form_walks.specs.Lists.{any_keep}
use Rattle.form_walks.specs.Shapes.{is_sort_kind, is_function_kind}
use Rattle.form_walks.specs.Rows.{find_start, find_end, nowhere, find_again, find_here, somewhere, found_below, Seeking, seek_start, seek_end, seek_again, seek_found}
use Rattle.clause_checks.specs.Searches.{slot_called, sort_called, function_called, like, called_any, named_any}

-- ---- whether there is a parameter of the name

module _ (text w : List ℕ) (b n a : ℕ) where
  abbrev wanted : Slot → Bool
  wanted = slot_called (name_of text a)

  abbrev there : Bool
  there = member (name_of text a) (slot_names (slots_at text w b n))

  all_slots : there ≡ any wanted (slots_at text w b n)
  unfolding slot_names slot_called
  all_slots = called_any (λ (p : Slot). p.name) (name_of text a) (slots_at text w b n)

  pub parameter_start : Seeking wanted text w b n 0
  parameter_start = seek_start wanted text w b n

  pub parameter_end : (i : ℕ) → n ≤ i → Seeking wanted text w b n i → false ≡ there
  parameter_end i h inv = seek_end wanted text w b n i h inv ∙ sym all_slots

  module _ (i x : ℕ) (r : Bool) (h : i < n) (inv : Seeking wanted text w b n i) (e : x ≡ get_or w (b + i * slot_size) 0)
      (f : r ≡ same (name_of text a) (name_of text x)) where
    this : r ≡ wanted (slot_at text w (b + i * slot_size))
    unfolding slot_at slot_called
    this = rw (← e) f

    pub parameter_again : r ≡ false → Seeking wanted text w b n (i + 1)
    parameter_again q = seek_again wanted text w b n i r h inv this q

    pub parameter_found : r ≡ true → true ≡ there
    parameter_found q = seek_found wanted text w b n i r h inv this q ∙ sym all_slots

-- ---- whether there is a row

module _ (text tape w : List ℕ) (b n i : ℕ) where
  abbrev items : List Item
  items = items_at text tape w b n

  module _ (a : ℕ) where
    pub name_there : i ≡ before (is_called (name_of text a)) items → ltb i n ≡ member (name_of text a) (names_in items)
    name_there e = found_below text tape w b n i (is_called (name_of text a)) e ∙ sym (named_any (name_of text a) items)

    pub sort_there : i ≡ before (sort_called (name_of text a)) items → ltb i n ≡ member (name_of text a) (names_in (sorts_among items))
    unfolding sorts_among sort_called
    sort_there e =
        found_below text tape w b n i (sort_called (name_of text a)) e
        ∙ sym (named_any (name_of text a) (sorts_among items) ∙ any_keep (λ (x : Item). is_sort x.shape) (is_called (name_of text a)) items)

-- ---- the tests on one row

module _ (text tape : List ℕ) (a : ℕ) (x : Row) where
  pub called_row : (r : Bool) → r ≡ same (name_of text a) (name_of text x.name) → r ≡ is_called (name_of text a) (item_of text tape x)
  unfolding item_of is_called
  called_row r e = e

  pub called_sort : (r : Bool) → x.kind ≡ 0 → r ≡ same (name_of text a) (name_of text x.name) → r ≡ sort_called (name_of text a) (item_of text tape x)
  unfolding sort_called item_of is_called pick
  called_sort r h e = rw (is_sort_kind text tape x.kind x.sorts, eq-eqb x.kind 0 h) e

  pub called_other : (x.kind ≡ 0 → ⊥) → false ≡ sort_called (name_of text a) (item_of text tape x)
  unfolding sort_called item_of pick
  called_other h = rw (is_sort_kind text tape x.kind x.sorts, ne_eqb x.kind 0 h)

  module _ (c : Bool) (e : c ≡ same (name_of text a) (name_of text x.name)) where
    pub called_function : c ≡ true → leb 2 x.kind ≡ function_called (name_of text a) (item_of text tape x)
    unfolding function_called item_of is_called
    called_function h = rw (← e, h) (is_function_kind text tape x.kind x.sorts)

    pub called_not : c ≡ false → false ≡ function_called (name_of text a) (item_of text tape x)
    unfolding function_called item_of is_called
    called_not h = rw (← e, h)

module _ (text tape : List ℕ) (a : ℕ) (x y : Row) (c : Bool) (e : c ≡ same (name_of text a) (name_of text y.name)) where
  pub like_shape : (r : Bool) → c ≡ true → r ≡ same_shape (shape_of text tape x.kind x.sorts) (shape_of text tape y.kind y.sorts)
      → r ≡ like (name_of text a) (shape_of text tape x.kind x.sorts) (item_of text tape y)
  unfolding like item_of is_called
  like_shape r h f = rw (← e, h) f

  pub like_other : c ≡ false → false ≡ like (name_of text a) (shape_of text tape x.kind x.sorts) (item_of text tape y)
  unfolding like item_of is_called
  like_other h = rw (← e, h)

pub origins_told : (text tape w : List ℕ) (b c : ℕ) (x y : Row) (r : Bool) → x ≡ row_at w b → y ≡ row_at w c
    → r ≡ same_origin (origin_of text tape x.origin) (origin_of text tape y.origin)
    → r ≡ same_origin (origin_of text tape (row_at w b).origin) (origin_of text tape (row_at w c).origin)
origins_told text tape w b c x y r e f g = rw (← e, ← f) g

pub ruleset seeks = (parameter_start, parameter_again, parameter_found, parameter_end, rules)

pub ruleset theres = (name_there, sort_there, rules)

pub ruleset finds = (find_start, find_end, find_again, find_here, nowhere, somewhere, rules)

pub ruleset tests = (called_row, called_sort, called_other, called_function, called_not, like_shape, like_other, origins_told, rules)
