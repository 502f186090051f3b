-- Laws of the check of the formal names, in the code's terms.
use Rattle.std.specs.Prelude as std
use Rattle.std.specs.Prelude.{Some, None, Ok, Err}
use mathlib.Core.Path.{◌≡◌}
use Prim.Native.Nat.{ℕ}
use mathlib.Core.Option.{Option}
use mathlib.Core.List.{List}
use borrow.Author.Rules.{rules}
use Rattle.meaning.specs.Names.{Name}
use Rattle.meaning.specs.Checks.{unless}
use Rattle.meaning.specs.Numbers.{formal_unpaired}
use Rattle.form.specs.Verdicts.{refusal, told, lone_of}
use Rattle.clause_checks.specs.Pairs.{found}

module _ (text : List ℕ) (asked : Option Name) (x : std.Option ℕ) (e : found text x ≡ asked) where
  pub unpaired_stops : (v : ℕ) → x ≡ Some v → told text (Err (refusal formal_unpaired (record { name = v; actual = 0 }))) ≡ unless formal_unpaired asked
  unfolding told unless found
  unpaired_stops v h = rw (← e, h, lone_of text v)

  pub unpaired_fine : x ≡ None → told text (Ok tt) ≡ unless formal_unpaired asked
  unfolding told unless found
  unpaired_fine h = rw (← e, h)

pub ruleset verdicts = (unpaired_stops, unpaired_fine, rules)
