-- What uniting leaves: the counts, the words that change, and what the form stands for.
use Rattle.std.specs.Prelude.{◌≡◌, ◌⊎◌, ℕ, ◌+◌, ◌*◌, ◌≤◌, ◌<◌, Bool, true, false, not, List, [], ◌∷◌, ◌++◌, map, take}
use Rattle.meaning.specs.Lists.{keep, union}
use Rattle.meaning.specs.Names.{Name}
use Rattle.meaning.specs.Origins.{FunctionType, one_item, one_equation}
use Rattle.meaning.specs.Normal.{Slot, Visible, Hidden, Normal, is_parameter_of, move_item, move_hidden_item, move_equation}
use Rattle.form.specs.declared.Form.{Form}
use Rattle.form.specs.declared.Block.{Block}
use Rattle.form.specs.Memory.{part, Kept, KeptTwo}
use Rattle.form.specs.Forms.{slot_at, slots_at, items_at, visible_at, Stands, slot_size}
use Rattle.form.specs.Blocks.{Lies}
use Rattle.clause_translation.specs.declared.Mode.{Mode}
use Rattle.clause_translation.specs.Translation.{sort_name, function_name}
use Rattle.unite_items.specs.Absorb.{Absorbed, AbsorbedWithin}
use Rattle.unite_nodes.specs.Joined.{with_counts}
use Rattle.unite_nodes.specs.Found.{Noted}

-- ---- forms

-- the form in the block that has nothing
unfoldable pub empty_in : Block → Form
empty_in b = record {
  parameters = b.parameters;
  parameter_count = 0;
  visible = b.visible;
  visible_count = 0;
  hidden = b.hidden;
  hidden_count = 0;
  equations = b.equations;
  equation_count = 0;
  nodes = b.nodes;
  node_count = 0;
}

-- the form with other numbers of parameters, of visible and of hidden items
unfoldable pub with_items : Form → ℕ → ℕ → ℕ → Form
with_items f parameters visible hidden = record {
  parameters = f.parameters;
  parameter_count = parameters;
  visible = f.visible;
  visible_count = visible;
  hidden = f.hidden;
  hidden_count = hidden;
  equations = f.equations;
  equation_count = f.equation_count;
  nodes = f.nodes;
  node_count = f.node_count;
}

-- ---- normal forms

-- the parameters of b that are none of a's
unfoldable pub other_slots : Visible → Visible → List Slot
other_slots a b = keep (λ (q : Slot). not (is_parameter_of a b q)) b.parameters

module _ (σ : Name → Name) (φ : Name → FunctionType → Name) where
  -- what comes of a visible part and of another that is moved onto it: what is one becomes one; the other's parameters are held against it
  -- as they are, for nothing is moved but onto nothing, or as it is
  unfoldable pub visible_onto : Visible → Visible → Visible
  visible_onto to from = record {
    parameters = to.parameters ++ other_slots to from;
    items = union one_item to.items (map (move_item σ φ) from.items);
  }

  unfoldable pub hidden_onto : Hidden → Hidden → Hidden
  hidden_onto to from = record {
    items = union one_item to.items (map (move_hidden_item σ φ) from.items);
    equations = union one_equation to.equations (map (move_equation σ φ) from.equations);
  }

  unfoldable pub moved_onto : Normal → Normal → Normal
  moved_onto to from = record { visible = visible_onto to.visible from.visible; hidden = hidden_onto to.hidden from.hidden }

-- a hidden part with as many equations as there is room for
unfoldable pub within : ℕ → Hidden → Hidden
within room h = record { items = h.items; equations = take room h.equations }

-- ---- memory

-- the k-th parameter of g went behind n at f, unless it is one of f's
pub record SlotUnited (text : List ℕ) (t : ℕ) (w : List ℕ) (g f : Form) (k n r : ℕ) (w' : List ℕ) : Type 0 where
  pub slots : slots_at text w' f.parameters r
      ≡ slots_at text w f.parameters n
      ++ keep (λ (q : Slot). not (is_parameter_of (visible_at text (part w 0 t) w f) (visible_at text (part w 0 t) w g) q))
      (slot_at text w (g.parameters + k * slot_size) ∷ [])
  pub few : r ≤ n + 1
  pub grows : n ≤ r
  pub kept : Kept (f.parameters + n * slot_size) (f.parameters + (n + 1) * slot_size) w w'

-- the parameters of g that are none of f's stand behind those of f
pub record SlotsUnited (text : List ℕ) (t : ℕ) (w : List ℕ) (g f r : Form) (w' : List ℕ) : Type 0 where
  pub form : r ≡ with_items f r.parameter_count f.visible_count f.hidden_count
  pub few : r.parameter_count ≤ f.parameter_count + g.parameter_count
  pub grows : f.parameter_count ≤ r.parameter_count
  pub slots : slots_at text w' f.parameters r.parameter_count
      ≡ slots_at text w f.parameters f.parameter_count
      ++ other_slots (visible_at text (part w 0 t) w f) (visible_at text (part w 0 t) w g)
  pub kept : Kept (f.parameters + f.parameter_count * slot_size) (f.parameters + (f.parameter_count + g.parameter_count) * slot_size) w w'

-- the visible items of g are absorbed into those of f
pub record VisibleUnited (text : List ℕ) (t : ℕ) (w : List ℕ) (m : Mode) (drop : Bool) (g f : Form) (notes : ℕ) (r : Form) (w' : List ℕ) : Type 0 where
  pub form : r ≡ with_items f f.parameter_count r.visible_count f.hidden_count
  pub absorbed : Absorbed text (part w 0 t) w m true drop g.visible g.visible_count f.visible f.visible_count notes r.visible_count w'

-- the parameters of g that are none of f's stand behind those of f, and then its visible items are absorbed
pub record SeenUnited (text : List ℕ) (t : ℕ) (w : List ℕ) (m : Mode) (g f : Form) (notes : ℕ) (r : Form) (w' : List ℕ) : Type 0 where
  pub named : Form
  pub between : List ℕ
  pub parameters : SlotsUnited text t w g f named between
  pub rows : VisibleUnited text t between m false g named notes r w'

-- the hidden items of g are absorbed into those of f, up to `cap`
pub record ItemsUnited (text : List ℕ) (t : ℕ) (w : List ℕ) (m : Mode) (g f : Form) (notes cap : ℕ) (r : Form) (w' : List ℕ) : Type 0 where
  pub form : r ≡ with_items f f.parameter_count f.visible_count r.hidden_count
  pub absorbed :
      AbsorbedWithin text (part w 0 t) w m false false g.hidden g.hidden_count f.hidden f.hidden_count notes cap r.hidden_count w'

module _ (text : List ℕ) (t : ℕ) (w : List ℕ) (m : Mode) where
  abbrev pub sorts : Name → Name
  sorts = sort_name text (part w 0 t) w m

  abbrev pub functions : Name → FunctionType → Name
  functions = function_name text (part w 0 t) w m

-- all hidden items of g came into f: r is not full, or there was room for all
abbrev pub AllIn : ℕ → Form → Form → Form → Type 0
AllIn cap g f r = (r.hidden_count < cap) ⊎ (f.hidden_count + g.hidden_count ≤ cap)

-- the hidden items and the equations of g came into f, which has taken up the visible items of g, noted from `notes` on: no more than `cap`
-- hidden items, and where not all came in the equations say nothing
pub record HiddenUnitedWithin (text : List ℕ) (t : ℕ) (w : List ℕ) (m : Mode) (g f : Form) (b : Block) (notes cap : ℕ) (r : Form) (w' : List ℕ) : Type 0 where
  pub form :
      r ≡ with_counts (with_items f f.parameter_count f.visible_count r.hidden_count) r.equation_count r.node_count
  pub few : r.hidden_count ≤ cap
  pub equations : r.equation_count ≤ b.equation_room
  pub nodes : r.node_count ≤ b.node_room
  pub kept : KeptTwo f.hidden (f.nodes + b.node_room) b.hidden_notes (b.hidden_notes + g.hidden_count) w w'
  pub seen : visible_at text (part w' 0 t) w' r ≡ visible_at text (part w 0 t) w f
  pub items : (from to : Normal) → Stands text (part w 0 t) w g from → Stands text (part w 0 t) w f to
      → items_at text (part w' 0 t) w' r.hidden r.hidden_count
      ≡ take cap (hidden_onto (sorts text t w m) (functions text t w m) to.hidden from.hidden).items
  pub stands : AllIn cap g f r → (from to : Normal) → Stands text (part w 0 t) w g from → Stands text (part w 0 t) w f to
      → Noted (sorts text t w m) (functions text t w m) text (part w 0 t) w true notes g.visible g.visible_count f.visible f.visible_count
      → Stands text (part w' 0 t) w' r (record {
        visible = to.visible;
        hidden = within b.equation_room (hidden_onto (sorts text t w m) (functions text t w m) to.hidden from.hidden);
      })

-- with room for all of them
abbrev pub HiddenUnited : List ℕ → ℕ → List ℕ → Mode → Form → Form → Block → ℕ → Form → List ℕ → Type 0
HiddenUnited text t w m g f b notes r w' = HiddenUnitedWithin text t w m g f b notes (f.hidden_count + g.hidden_count) r w'

-- all of g came into f
pub record United (text : List ℕ) (t : ℕ) (w : List ℕ) (m : Mode) (g f : Form) (b : Block) (r : Form) (w' : List ℕ) : Type 0 where
  pub lies : Lies b r
  pub names : r.parameter_count ≤ f.parameter_count + g.parameter_count
  pub visible : r.visible_count ≤ f.visible_count + g.visible_count
  pub hidden : r.hidden_count ≤ f.hidden_count + g.hidden_count
  pub equations : r.equation_count ≤ b.equation_room
  pub nodes : r.node_count ≤ b.node_room
  pub kept : Kept b.low b.high w w'
  pub stands : (from to : Normal) → Stands text (part w 0 t) w g from → Stands text (part w 0 t) w f to
      → Stands text (part w' 0 t) w' r (record {
        visible = visible_onto (sorts text t w m) (functions text t w m) to.visible from.visible;
        hidden = within b.equation_room (hidden_onto (sorts text t w m) (functions text t w m) to.hidden from.hidden);
      })
