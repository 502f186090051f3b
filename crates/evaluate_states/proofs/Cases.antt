-- One law for each way through the code.
use Rattle.std.specs.Prelude.{Ok}
use mathlib.Core.Path.{◌≡◌, ap}
use mathlib.Core.List.{List}
use Prim.Native.Nat.{ℕ, ◌+◌}
use borrow.Author.Rules.{rules}
use Rattle.form.specs.declared.Form.{Form}
use Rattle.form_layout.specs.Layout.{kept_start}
use Rattle.own_completing.specs.declared.Totals.{Totals}
use Rattle.own_completing.specs.Room.{StillRight}
use Rattle.evaluate_storing.specs.Places.{StoreRoom}
use Rattle.evaluate_storing.specs.Storing.{Stored}
use Rattle.evaluate_states.specs.declared.State.{State}
use Rattle.evaluate_states.specs.States.{first_state, with_form, KeptRoom, KeptState}

pub summed : (totals : Totals) (f : Form) (items : ℕ) → items ≡ f.visible_count + f.hidden_count
    → record { items = totals.items + items; equations = totals.equations + f.equation_count; nodes = totals.nodes + f.node_count } ≡ with_form totals f
unfolding with_form
summed totals f items e = rw e

pub store_room : (size t k : ℕ) (f : Form) (s : State) → KeptRoom size t k f s → StoreRoom size t k f s.cursor
store_room size t k f s c = c.store

pub sums_right : (size t k : ℕ) (f : Form) (s : State) → KeptRoom size t k f s → StillRight s.totals (Ok f)
sums_right size t k f s c = c.right

pub kept_more : (text : List ℕ) (t k : ℕ) (f : Form) (s : State) (c : ℕ) (sums : Totals) (w w' : List ℕ) → sums ≡ with_form s.totals f
    → Stored text t k f s.cursor c w w' → KeptState text t k f s (record { cursor = c; totals = sums }) w w'
kept_more text t k f s c sums w w' e x = record { stored = x; totals = e }

pub nothing_kept : (c : ℕ) → c ≡ kept_start → record { cursor = c; totals = record { items = 0; equations = 0; nodes = 0 } } ≡ first_state
unfolding first_state
nothing_kept c e = ap (λ (i : ℕ). record { cursor = i; totals = record { items = 0; equations = 0; nodes = 0 } }) e

pub ruleset cases = (nothing_kept, summed, store_room, sums_right, kept_more, rules)
