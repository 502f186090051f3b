-- `reader::visible_end` meets its contract: what is left of the front is passed as the whole is.
-- Assumes nothing.
use mathlib.Core.Path.{◌≡◌}
use Prim.Native.Nat.{◌-◌}
use Rattle.reader.specs.Visible.{front_end, visible_end}
use Rattle.reader.proofs.visible_end.Given as goal

abbrev pub invariant-loop : goal.invariant-loop
invariant-loop l = visible_end l.listing ≡ front_end l.listing (l.end - l.counter) l.at
