-- One law for each way through the code: they are in diagram_open/specs/Turns.antt.
use mathlib.Core.Path.{◌≡◌, ap, ◌∙◌}
use Prim.Native.Nat.{ℕ, ◌≤◌}
use native.Mathlib.Omega.{arith}
use mathlib.Core.List.{List, [], ◌∷◌}
use borrow.Author.Rules.{rules}
use lib.ListN.{length}
use Rattle.meaning.specs.Syntax.{Module}
use Rattle.modules.specs.Modules.{Heads}
use lib.Seq.{sets, length-sets}
use Rattle.diagram_open.specs.Turns.{Begun, Walking, missed_so, opened_so, turn_closed, turn_next, top_walked, underway_start, underway_within, underway_walking, underway_few, underway_long, underway_sized, underway_on, underway_less, underway_end, underway_full}

-- the tape is still within the memory
pub within_sets : (t i x y z : ℕ) (w w' : List ℕ) → t ≤ length w → w' ≡ sets w i (x ∷ y ∷ z ∷ []) → t ≤ length w'
within_sets t i x y z w w' h e = omega (arith, h, ap length e ∙ length-sets w i (x ∷ y ∷ z ∷ []))

module _ (l : ℕ) (text : List ℕ) (ms : List Module) (h : Heads) (t base k : ℕ) (w o w' : List ℕ) (at lines : ℕ) (o' : List ℕ) (b : Begun l text ms h t base k w o w' at lines o') where
  pub begun_walking : Walking text ms h t base w' 1
  begun_walking = b.walking

pub ruleset opening = (missed_so, opened_so, within_sets, rules)

pub ruleset turns = (turn_closed, turn_next, rules)

pub ruleset walks = (underway_start, underway_within, underway_walking, underway_few, underway_long, underway_sized, underway_on, underway_less, underway_end, underway_full, rules)

pub ruleset wholes = (begun_walking, top_walked, rules)

pub ruleset cases = (rules)
