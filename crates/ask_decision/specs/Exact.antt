-- The decision is exact: it keeps where the premises of demand 3 hold but for acceptance, and nowhere else, and it names the modules that changed
-- (proofs/Exact.antt).
use Rattle.std.specs.Prelude.{◌≡◌, ℕ, false, ltb, length}
use Rattle.std.proofs.Common.{arith}
use Rattle.std.proofs.Math.Bool.{Bool, true}
use mathlib.Core.List.{List}
use Rattle.meaning.specs.Lists.{pick}
use Rattle.meaning.specs.Names.{Name}
use Rattle.meaning.specs.Numbers.{memory_size}
use Rattle.meaning.specs.Syntax.{Module}
use Rattle.meaning.specs.Reached.{reached}
use Rattle.meaning.specs.Texts.{Texts}
use Rattle.promises.specs.Demand.{ReadAs}
use Rattle.ask_decision.specs.Again.{Keeping}
use Rattle.ask_decision.specs.Decide.{Decision, memory_short, keep_after, changed, numbers, decide, deciding}

-- ---- nothing is objected where the test passes, and only there

-- each from the other
abbrev pub Iff : Type 0 → Type 0 → Type 0
Iff A B = (A → B) × (B → A)

-- ---- of two specifications

pub record Kept (asked : Name) (old new : Texts) (zs : List ℕ) : Type 0 where
  pub modules : List Module
  pub modules' : List Module
  pub read_as : ReadAs old modules
  pub read_as' : ReadAs new modules'
  pub keeping : Keeping asked modules modules'
  pub named : numbers (changed (reached asked modules) (reached asked modules')) ≡ zs

-- a call that keeps was lent enough
pub call_keeps : (memory : List ℕ) (asked : Name) (old new : Texts) (zs : List ℕ) → (deciding memory asked old new).decision ≡ keep_after zs
    → decide asked old new ≡ keep_after zs
unfolding deciding pick
call_keeps memory asked old new zs e = go (ltb (length memory) memory_size) (decide asked old new) e
  where
    go : (b : Bool) (r : Decision) → pick b memory_short r ≡ keep_after zs → r ≡ keep_after zs
    go true r e = let z : ◌≡◌ {A = ℕ} 0 1 = cc in absurd (omega arith)
    go false r e = e
