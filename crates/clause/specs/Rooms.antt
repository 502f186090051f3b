-- What a binding asks of places and counts, and the modes by which it translates.
use Rattle.std.specs.Prelude.{◌≡◌, ℕ, ◌+◌, ◌≤◌}
use Rattle.form.specs.declared.Form.{Form}
use Rattle.form.specs.declared.Block.{Block}
use Rattle.form.specs.Blocks.{Outside, Fits}
use Rattle.clause_translation.specs.declared.Mode.{Mode}
use Rattle.unite.specs.United.{empty_in, with_items}
use Rattle.unite_checks.specs.Steps.{MakeRoom}

-- ---- modes

unfoldable pub as_is : Mode
as_is = record { kind = 0; pairs = 0; parameter = 0; visible = 0; count = 0 }

unfoldable pub binding_mode : ℕ → ℕ → Form → Mode
binding_mode p pairs g = record { kind = 2; pairs = pairs; parameter = p; visible = g.visible; count = g.visible_count }

-- the mode binds items of g
pub record Binds (m : Mode) (g : Form) : Type 0 where
  pub kind : m.kind ≡ 2
  pub table : m.visible ≡ g.visible
  pub count : m.count ≡ g.visible_count

-- ---- room

-- a form that fits, outside the block, whose items the mode binds
pub record OwnRoom (size t : ℕ) (m : Mode) (g : Form) (b : Block) : Type 0 where
  pub room : MakeRoom size t g b
  pub mode : Binds m g

-- two forms that fit, outside the block, which has room for both
pub record BindRoom (size t : ℕ) (g actual : Form) (b : Block) : Type 0 where
  pub own : MakeRoom size t g b
  pub outside : Outside b.low b.high actual
  pub fits : Fits actual
  pub nodes : actual.nodes + actual.node_count ≤ size

pub record StepRoom (size t : ℕ) (m : Mode) (g actual : Form) (b : Block) : Type 0 where
  pub room : BindRoom size t g actual b
  pub mode : Binds m g

-- ---- the form that is made has parameters and visible items, and room for the rest

pub record Seen (g actual : Form) (b : Block) (f : Form) : Type 0 where
  pub form : f ≡ with_items (empty_in b) f.parameter_count f.visible_count 0
  pub parameters : f.parameter_count ≤ g.parameter_count + actual.parameter_count
  pub items : f.visible_count ≤ g.visible_count + actual.visible_count

pub record SeenRoom (size t : ℕ) (m : Mode) (g actual f : Form) (b : Block) : Type 0 where
  pub step : StepRoom size t m g actual b
  pub seen : Seen g actual b f
