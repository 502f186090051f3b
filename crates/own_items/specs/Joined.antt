-- What joining a module's own declarations to what it imports asks for, and what it leaves.
use Rattle.std.specs.Prelude.{◌≡◌, false, List, [], ◌∷◌, ℕ, ◌+◌, ◌-◌, ◌*◌, ◌≤◌}
use Rattle.meaning.specs.Lists.{union}
use Rattle.meaning.specs.Syntax.{Module}
use Rattle.meaning.specs.Origins.{one_item}
use Rattle.meaning.specs.Normal.{Visible}
use Rattle.meaning.specs.Own.{own_hidden_items}
use Rattle.meaning.specs.Evaluate.{seen_sorts, joined_visible}
use Rattle.form_rows.specs.Rows.{row_size}
use Rattle.form.specs.Memory.{part, Kept, KeptTwo}
use Rattle.form.specs.Forms.{slots_at, items_at, slot_size}
use Rattle.form.specs.FormLaws.{Apart}
use Rattle.own_declarations.specs.Items.{own_item, own_count, own_items}
use Rattle.own_declarations.specs.DeclarationLaws.{Stands}
use Rattle.own_declarations.specs.ItemLaws.{FewInputs}
use Rattle.own_declarations.specs.declared.Own.{Own}
use Rattle.own_items.specs.declared.OwnRows.{OwnRows}

-- ---- visible items

-- behind k rows at base there is room for one more
pub record RowRoom (size base k : ℕ) : Type 0 where
  pub few : k ≤ 2147483648
  pub room : base + k * row_size + row_size ≤ size

-- the declaration at d joined to k rows at base: r rows are there then
pub record JoinedOne (text tape w : List ℕ) (own : Own) (base k d r : ℕ) (w' : List ℕ) : Type 0 where
  pub items : items_at text tape w' base r ≡ union one_item (items_at text tape w base k) (own_item text tape w own d ∷ [])
  pub grows : k ≤ r
  pub few : r ≤ k + 1
  pub kept : Kept (base + k * row_size) (base + k * row_size + row_size) w w'

-- the module's visible items joined to n rows at base: r rows are there then, and all else stays
pub record Joined (text : List ℕ) (t : ℕ) (own : Own) (base n : ℕ) (w w' : List ℕ) (r : ℕ) : Type 0 where
  pub kept : Kept (base + n * row_size) (base + (n + own_count (part w 0 t) false own.from (own.end - own.from)) * row_size) w w'
  pub grows : n ≤ r
  pub few : r ≤ n + own_count (part w 0 t) false own.from (own.end - own.from)
  pub items :
      items_at text (part w 0 t) w' base r
      ≡ union one_item (items_at text (part w 0 t) w base n) (own_items text (part w 0 t) w own false own.from (own.end - own.from))

-- ---- parameters and all items

-- behind the tape there is room: a parameter for each entry behind the n at q, a row for each entry behind the rows; both parts are apart
pub record OwnRoom (size t : ℕ) (own : Own) (q n : ℕ) : Type 0 where
  pub few_names : n ≤ 1073741824
  pub few_rows : own.count + (own.end - own.from) ≤ 1073741824
  pub behind_names : t ≤ q + n * slot_size
  pub behind_rows : t ≤ own.rows + own.count * row_size
  pub names : q + (n + (own.end - own.from)) * slot_size ≤ size
  pub rows : own.rows + (own.count + (own.end - own.from)) * row_size ≤ size
  pub apart : Apart q (q + (n + (own.end - own.from)) * slot_size) own.rows (own.rows + (own.count + (own.end - own.from)) * row_size)

-- the module m sees v of what it imports: its first rows. The parameters at q, the visible rows and the hidden ones behind them stand for all that
-- m sees and for its own hidden items
pub record OwnStands (text tape w : List ℕ) (own : Own) (q : ℕ) (r : OwnRows) (m : Module) (v : Visible) : Type 0 where
  pub imported : Stands text tape w own m v
  pub parameters : slots_at text w q r.parameter_count ≡ (joined_visible m v).parameters
  pub visible : items_at text tape w own.rows r.visible_count ≡ (joined_visible m v).items
  pub hidden : items_at text tape w (own.rows + r.visible_count * row_size) r.hidden_count ≡ own_hidden_items m (seen_sorts m v)

-- the module's own parameters and items, behind the n parameters at q and the rows
pub record OwnMade (text : List ℕ) (t : ℕ) (own : Own) (q n : ℕ) (w w' : List ℕ) (r : OwnRows) : Type 0 where
  pub kept :
      KeptTwo (q + n * slot_size) (q + (n + (own.end - own.from)) * slot_size) (own.rows + own.count * row_size)
      (own.rows + (own.count + (own.end - own.from)) * row_size) w w'
  pub names_grow : n ≤ r.parameter_count
  pub few_names : r.parameter_count ≤ n + (own.end - own.from)
  pub rows_grow : own.count ≤ r.visible_count
  pub few_rows : r.visible_count + r.hidden_count ≤ own.count + (own.end - own.from)
  pub meant :
      (m : Module) (v : Visible) → Stands text (part w 0 t) w own m v → slots_at text w q n ≡ v.parameters → FewInputs m
      → OwnStands text (part w' 0 t) w' own q r m v
