-- A module's own items by places of the tape (meaning/specs/Own.antt), and what the rows made of them stand for.
use Rattle.std.specs.Prelude.{◌≡◌, ℕ, zero, suc, ◌+◌, ◌-◌, ◌*◌, ◌≤◌, Bool, true, false, List, [], ◌∷◌, ◌++◌, map, eqb, ltb, length, take}
use Rattle.meaning.specs.Lists.{pick}
use Rattle.meaning.specs.Origins.{Sort, Shape, sort_shape, function_shape, variable_shape, Item}
use Rattle.tape.specs.Tape.{variable_role}
use Rattle.form_rows.specs.Entries.{role_at, name_at, section_at, origin_at, sort_place}
use Rattle.form_rows.specs.Kinds.{kind_at}
use Rattle.form_rows.specs.Rows.{section_of, origin_of, sort_of, shape_of, item_of, row_at, row_size}
use Rattle.form_rows.specs.RowLaws.{IsRow}
use Rattle.form_rows.specs.declared.Row.{Row}
use Rattle.form.specs.Memory.{part, Kept}
use Rattle.form.specs.Forms.{items_at}
use Rattle.form.specs.FormLaws.{Apart}
use Rattle.own_declarations.specs.Sorts.{resolved_in}
use Rattle.own_declarations.specs.declared.Own.{Own}

-- ---- one item

module _ (text tape w : List ℕ) (own : Own) where
  -- the sort that stands at i
  unfoldable pub resolved_at : ℕ → Sort
  resolved_at i = resolved_in text tape w own (name_at text tape i)

  -- the sorts that stand from i on, c of them
  unfoldable pub resolved_from : ℕ → ℕ → List Sort
  resolved_from i zero = []
  resolved_from i (suc c) = resolved_at i ∷ resolved_from (suc i) c

  -- the shape of the declaration at d, by its kind
  unfoldable pub own_shape : ℕ → ℕ → Shape
  own_shape d zero = sort_shape
  own_shape d (suc zero) = variable_shape (resolved_at (sort_place tape d))
  own_shape d (suc (suc n)) = function_shape (record { inputs = resolved_from (d + 1) n; output = resolved_at (d + 1 + n) })

  -- the item that is declared at d
  unfoldable pub own_item : ℕ → Item
  own_item d = record {
    standing = section_of text (section_at tape d);
    name = name_at text tape d;
    shape = own_shape d (kind_at tape d);
    origin = origin_of text tape (origin_at tape d);
  }

  -- ---- what rows stand for

  pub record InputSorts (d n : ℕ) (sorts : List ℕ) : Type 0 where
    pub nine : length sorts ≡ 9
    pub inputs : map (sort_of text tape) (take n sorts) ≡ resolved_from (d + 1) n

  pub record OwnSorts (d kind : ℕ) (sorts : List ℕ) : Type 0 where
    pub nine : length sorts ≡ 9
    pub shape : shape_of text tape kind sorts ≡ own_shape d kind

  pub record OwnRow (d : ℕ) (r : Row) : Type 0 where
    pub fits : IsRow r
    pub item : item_of text tape r ≡ own_item d

-- ---- all of a section's items

-- an entry with the role declares a hidden item, or a visible one
unfoldable pub own_role : Bool → ℕ → Bool
own_role hidden r = pick hidden (pick (eqb r variable_role) true (pick (ltb r 7) false (ltb r 9))) (pick (ltb r 3) false (ltb r 7))

unfoldable pub is_own : List ℕ → Bool → ℕ → Bool
is_own tape hidden i = own_role hidden (role_at tape i)

-- how many of c entries from i on do
unfoldable pub own_count : List ℕ → Bool → ℕ → ℕ → ℕ
own_count tape hidden i zero = 0
own_count tape hidden i (suc c) =
    let more = own_count tape hidden (suc i) c in let one = suc more in pick (is_own tape hidden i) one more

-- the items that they declare
unfoldable pub own_items : List ℕ → List ℕ → List ℕ → Own → Bool → ℕ → ℕ → List Item
own_items text tape w own hidden i zero = []
own_items text tape w own hidden i (suc c) =
    let more = own_items text tape w own hidden (suc i) c in
    let here = own_item text tape w own i ∷ more in
    pick (is_own tape hidden i) here more

-- the module's items behind n rows at base: they lie behind the tape, apart from the rows that are looked at, and there is room
pub record Roomy (t : ℕ) (own : Own) (hidden : Bool) (base n : ℕ) (w : List ℕ) : Type 0 where
  pub few : n ≤ 1073741824
  pub behind : t ≤ base + n * row_size
  pub room : base + (n + own_count (part w 0 t) hidden own.from (own.end - own.from)) * row_size ≤ length w
  pub apart : Apart (base + n * row_size) (base + (n + own_count (part w 0 t) hidden own.from (own.end - own.from)) * row_size) own.rows (own.rows + own.count * row_size)

-- the declaration at d is row k of the table at base
pub record Put (text : List ℕ) (t : ℕ) (own : Own) (base k d : ℕ) (w w' : List ℕ) : Type 0 where
  pub kept : Kept (base + k * row_size) (base + k * row_size + row_size) w w'
  pub item : base + k * row_size + row_size ≤ length w → item_of text (part w 0 t) (row_at w' (base + k * row_size)) ≡ own_item text (part w 0 t) w own d

-- the module's items are the rows from n up to r of the table at base, and all else stays
pub record Appended (text : List ℕ) (t : ℕ) (own : Own) (hidden : Bool) (base n : ℕ) (w w' : List ℕ) (r : ℕ) : Type 0 where
  pub kept : Kept (base + n * row_size) (base + r * row_size) w w'
  pub count : r ≡ n + own_count (part w 0 t) hidden own.from (own.end - own.from)
  pub items :
      items_at text (part w 0 t) w' base r
      ≡ items_at text (part w 0 t) w base n ++ own_items text (part w 0 t) w own hidden own.from (own.end - own.from)
