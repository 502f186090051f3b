-- `reader::key_end` meets its contract.
-- Assumes nothing.
use mathlib.Core.Path.{◌≡◌}
use Rattle.meaning.specs.Tokens.{run_end}
use Rattle.meaning.specs.Reader.{in_key}
use Rattle.reader.proofs.key_end.Given as goal

abbrev pub invariant-loop-i : goal.invariant-loop-i
invariant-loop-i l = run_end in_key l.listing l.at ≡ run_end in_key l.listing l.i
