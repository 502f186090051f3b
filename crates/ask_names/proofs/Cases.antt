-- One law for each way through the code: r is a callee's answer.
use mathlib.Core.Path.{◌≡◌, ◌∙◌}
use mathlib.Core.List.{List, []}
use Prim.Native.Nat.{ℕ, ◌<◌, ◌≤◌}
use native.Mathlib.Omega.{arith}
use borrow.Author.Rules.{rules}
use borrow.Author.Tests.{lt-ltb, le-ltb}
use lib.ListN.{length}
use Rattle.meaning.specs.Lists.{pick}
use Rattle.meaning.specs.Numbers.{memory_size}
use Rattle.meaning.specs.Texts.{Texts}
use Rattle.meaning.specs.Answer.{memory_after}
use Rattle.answer.specs.declared.Name.{Name}
use Rattle.answer.specs.Answers.{held}
use Rattle.memory.proofs.Cases.{same_zeros}
use Rattle.ask_decision.specs.Decide.{module_called}
use Rattle.ask_names.specs.Named.{name_told, Named}
use Rattle.ask_names.specs.Meant.{name_absent, name_there}
use Rattle.ask_names.specs.Lying.{first_end, first_room, name_unread, first_within, first_spoken}

-- ---- a module's name

pub ruleset naming = (name_absent, name_there, rules)

pub ruleset reading = (first_end, first_room, name_unread, first_within, first_spoken, rules)

-- ---- the whole call

module _ (w : List ℕ) (size : ℕ) (e : size ≡ memory_size) (t : Texts) (k : ℕ) (r : Name) where
  pub named_short : (w' : List ℕ) → length w < size → w' ≡ memory_after w → r ≡ held [] → Named r w' w t k
  unfolding name_told pick
  named_short w' l z q = record { name_so = rw (lt-ltb (length w) memory_size (omega (arith, e, l))) q; memory_so = z }

  pub named_whole : (w₁ w₂ : List ℕ) → size ≤ length w → r ≡ held (module_called t k) → length w₁ ≡ length w → w₂ ≡ memory_after w₁ → Named r w₂ w t k
  unfolding name_told pick
  named_whole w₁ w₂ l q s z =
      record { name_so = rw (le-ltb (length w) memory_size (omega (arith, e, l))) q; memory_so = z ∙ same_zeros w₁ w s }

pub ruleset calling = (named_short, named_whole, rules)
