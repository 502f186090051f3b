-- The sets of lemmas that the answers of this crate hand to `search`.
use mathlib.Core.Path.{◌≡◌, sym, ◌∙◌}
use borrow.Author.Rules.{rules}
use borrow.Author.Tests.{lt-ltb, le-ltb, eq-eqb, ne_eqb}

-- each test's value from the fact that a branch left
pub ruleset tests = (lt-ltb, le-ltb, eq-eqb, ne_eqb, rules)

-- a loop whose invariant says that what is wanted, w, is what is wanted from here, h: a turn goes on from h to n, and a return answers h
pub on : {A : Type 0} {w h n : A} → w ≡ h → h ≡ n → w ≡ n
on i e = i ∙ e

pub done : {A : Type 0} {w h r : A} → w ≡ h → h ≡ r → r ≡ w
done i e = sym (i ∙ e)
