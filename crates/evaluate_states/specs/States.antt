-- What is kept so far, and one normal form more.
use Rattle.std.specs.Prelude.{◌≡◌, ℕ, ◌+◌, List, Ok}
use Rattle.form.specs.declared.Form.{Form}
use Rattle.form_layout.specs.Layout.{kept_start}
use Rattle.own_completing.specs.declared.Totals.{Totals}
use Rattle.own_completing.specs.Room.{StillRight}
use Rattle.evaluate_storing.specs.Places.{StoreRoom}
use Rattle.evaluate_storing.specs.Storing.{Stored}
use Rattle.evaluate_states.specs.declared.State.{State}

-- nothing is kept
unfoldable pub first_state : State
first_state = record { cursor = kept_start; totals = record { items = 0; equations = 0; nodes = 0 } }

-- the sizes with those of f
unfoldable pub with_form : Totals → Form → Totals
with_form totals f = record {
  items = totals.items + (f.visible_count + f.hidden_count);
  equations = totals.equations + f.equation_count;
  nodes = totals.nodes + f.node_count;
}

pub record KeptRoom (size t k : ℕ) (f : Form) (s : State) : Type 0 where
  pub store : StoreRoom size t k f s.cursor
  pub right : StillRight s.totals (Ok f)

pub record KeptState (text : List ℕ) (t k : ℕ) (f : Form) (s r : State) (w w' : List ℕ) : Type 0 where
  pub stored : Stored text t k f s.cursor r.cursor w w'
  pub totals : r.totals ≡ with_form s.totals f
