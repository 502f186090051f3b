-- What tests tell of a section's word, in the code's terms, and the set of lemmas that the answers of this crate hand to `search`.
use mathlib.Core.Path.{◌≡◌}
use Prim.Native.Nat.{ℕ, ◌+◌, ◌^◌, ◌<◌}
use native.Mathlib.Omega.{arith}
use borrow.Author.Rules.{rules}
use borrow.Author.Tests.{lt-ltb, le-ltb, eq-eqb, ne_eqb}
use Rattle.std.specs.Prelude.{Option, Some, None, SomeIff}
use Rattle.std.specs.Option.{unwrap_or}
use Rattle.meaning.specs.Lists.{pick}
use Rattle.form_sections.specs.Sections.{section_word}
use Rattle.form_sections.specs.declared.Section.{Section}
use Rattle.form_sections.specs.declared.Section.TheVariants.{Parameter}

-- n is the parameter's name and 2, if that is a word
pub parameter_word : (s : Section) (p r : ℕ) (n : Option ℕ) → s ≡ Parameter p → SomeIff n (p + 2 < 2 ^ 32) (p + 2) → r ≡ unwrap_or n 1 → r ≡ section_word s
unfolding section_word pick
parameter_word s p r None e h f = rw (e, f, le-ltb p 4294967294 (omega (arith, h)))
parameter_word s p r (Some x) e h f = rw (e, f, lt-ltb p 4294967294 (omega (arith, h.0)), h.1)

-- each test's value from the fact that a branch left
pub ruleset tests = (eq-eqb, ne_eqb, rules)
