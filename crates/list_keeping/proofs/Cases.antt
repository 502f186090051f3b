-- What the code that copies a form in order asks, one law for each way through it.
use mathlib.Core.Path.{◌≡◌, refl}
use mathlib.Core.List.{List}
use Prim.Native.Nat.{ℕ, ◌+◌}
use lib.ListN.{length}
use borrow.Author.Rules.{rules}
use Rattle.meaning.specs.Written.{visible_order, hidden_order}
use Rattle.form.specs.Memory.{part}
use Rattle.form.specs.Forms.{items_at}
use Rattle.form.specs.declared.Form.{Form}
use Rattle.list_order.specs.declared.Table.TheVariants.{Visible}
use Rattle.list_order.specs.Copying.{NotedRoom, TableNoted}
use Rattle.list_keeping.specs.Kept.{ParametersPut, ItemsPut, sorts_in_order, KeepRoom, order_place, ItemsKept, EquationsKept, items_kept, visible_put, sorts_then_items, parameters_room, parameters_put}
use Rattle.list_keeping.specs.Keeps.{keeps_all}

-- ---- `put_visible`, `put_hidden`

pub visible_done : (text : List ℕ) (t from n order to notes m : ℕ) (w w' : List ℕ) → NotedRoom (length w) t from n order to notes
    → TableNoted text t (Visible from) from n order to notes m w w' → ItemsPut text t visible_order from n order to notes w w'
visible_done text t from n order to notes m w w' room put = visible_put text t from n order to notes m w w' room.sorting.source put

-- ---- `keep_items`

pub items_done : (text : List ℕ) (t : ℕ) (f k : Form) (p order h : ℕ) (w u₁ u₂ w' : List ℕ) → KeepRoom (length w) t f k p order → h ≡ p + f.visible_count
    → ParametersPut text f.parameters f.parameter_count order k.parameters w u₁
    → ItemsPut text t visible_order f.visible f.visible_count order k.visible p u₁ u₂
    → ItemsPut text t (hidden_order (sorts_in_order (items_at text (part u₂ 0 t) u₂ f.hidden f.hidden_count))) f.hidden f.hidden_count order
    k.hidden h u₂ w'
    → ItemsKept text t f k p order w w'
items_done text t f k p order h w u₁ u₂ w' room e parameters visible hidden =
    items_kept text t f k p order w u₁ u₂ w' room parameters visible (rw (← e) hidden)

-- ---- `order_place`, `keep_in_order`

pub place_told : (f : Form) (p : ℕ) → p + (f.visible_count + f.hidden_count) ≡ order_place f p
unfolding order_place
place_told f p = refl

pub ruleset whole = (place_told, keeps_all, rules)

pub ruleset keeps = (items_done, rules)

pub ruleset puts = (parameters_room, parameters_put, visible_done)

pub ruleset cases = (puts, sorts_then_items, rules)
