-- Laws of finding an item, in the code's terms: the rows before i are none of them x.
use mathlib.Core.Path.{◌≡◌, refl}
use Prim.Native.Nat.{ℕ, ◌+◌, ◌*◌}
use mathlib.Core.Bool.{Bool, true, false, ◌&&◌}
use mathlib.Core.List.{List}
use lib.ListN.{get_or}
use borrow.Author.Rules.{rules}
use Rattle.meaning.specs.Names.{same}
use Rattle.meaning.specs.Origins.{same_section, same_origin, same_shape, one_item}
use Rattle.text_names.specs.Word.{name_of}
use Rattle.form_rows.specs.declared.Row.{Row}
use Rattle.form_rows.specs.Rows.{item_of, row_at, row_size}
use Rattle.form_walks.specs.Rows.{find_start, find_end, find_again, find_here}

-- ---- `is_item`: v is the word of row i's name, and a says whether it is the name of x

module _ (text tape w : List ℕ) (b i : ℕ) (x : Row) where
  abbrev one_there : Bool
  one_there = one_item (item_of text tape x) (item_of text tape (row_at w (b + i * row_size)))

  pub item_other : (v : ℕ) (a : Bool) → v ≡ get_or w (b + i * row_size + 1) 0 → a ≡ same (name_of text x.name) (name_of text v) → a ≡ false → false ≡ one_there
  unfolding one_item item_of row_at
  item_other v a e f h = rw (← e, ← f, h) (go (same_section _ _) (same_shape _ _) (same_origin _ _))
    where
      go : (s z o : Bool) → false ≡ (s && false && z && o)
      go true z o = refl
      go false z o = refl

  pub item_there : (y : Row) (r : Bool) → y ≡ row_at w (b + i * row_size) → r ≡ one_item (item_of text tape x) (item_of text tape y) → r ≡ one_there
  item_there y r e f = rw (← e) f

pub ruleset finds = (find_start, find_end, find_again, find_here, rules)
