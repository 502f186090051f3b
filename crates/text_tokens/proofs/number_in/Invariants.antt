-- `text_tokens::number_in` meets its contract: what is left of the table is searched as the whole is, with the number of the next word.
-- Assumes nothing.
use mathlib.Core.Path.{◌≡◌}
use Prim.Native.Nat.{◌+◌, ◌-◌, ◌≤◌}
use lib.ListN.{length, drop}
use Rattle.meaning.specs.Names.{words}
use Rattle.meaning.specs.Tokens.{number_in}
use Rattle.text_tokens.proofs.number_in.Given as goal

abbrev pub invariant-loop-at : goal.invariant-loop-at
invariant-loop-at l = (l.at ≤ length l.table) × (l.n ≤ l.at + 1) × (number_in (words l.table) 1 l.w ≡ number_in (words (drop l.at l.table)) l.n l.w)

abbrev pub decreases-loop-at : goal.decreases-loop-at
decreases-loop-at l = length l.table - l.at
