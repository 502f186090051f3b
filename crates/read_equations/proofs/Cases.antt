-- The cases of equations, one for each way through the code.
use mathlib.Core.Path.{◌≡◌, refl}
use borrow.Author.Rules.{rules}
use Rattle.std.specs.Prelude.{Ok}
use Rattle.read_steps.specs.declared.Place.{Place}
use Rattle.read_steps.specs.Model.{Reading, place, onward, no_nodes}
use Rattle.read_steps.specs.Steps.{still, Quiet}
use Rattle.read_steps.proofs.Cases.{refused_still}

-- an equation begins with no node
pub nodes_none : (r : Reading) (p : Place) → r ≡ Ok p → Ok (place p.token 0 p.entries) ≡ still no_nodes r
unfolding still onward no_nodes
nodes_none r p e = rw e

pub nodes_quiet : Quiet no_nodes
unfolding no_nodes
nodes_quiet = record { leaves = λ p t. refl }

pub ruleset cases = (nodes_none, refused_still, rules)
