-- One law for each way through the code, in the code's terms.
use mathlib.Core.Path.{◌≡◌, ap, ◌∙◌}
use mathlib.Core.List.{List, [], ◌++◌}
use Prim.Native.Nat.{ℕ, ◌+◌, ◌<◌, ◌≤◌}
use native.Mathlib.Omega.{arith}
use native.Mathlib.Nat.{zero-add}
use borrow.Author.Rules.{rules}
use borrow.Author.Tests.{le-leb, lt-leb}
use lib.ListN.{length, drop}
use Rattle.meaning.specs.Lists.{pick}
use Rattle.list_pen.specs.Pen.{pen, written}
use Rattle.list_pen.proofs.Laws.{then, count_over, count_fits, laid, reached, none_written}
use Rattle.std.specs.Prelude.{Some, None}
use Rattle.list.specs.Fit.{result_of, fitted}

-- all or nothing: k counted, having been lent nothing, and left e

module _ (bs o e : List ℕ) (k : ℕ) (c : pen k e ≡ written (length o + 1) bs (pen 0 [])) (x : List ℕ) (b : x ≡ e ++ o) where
  unchanged : x ≡ o
  unchanged = b ∙ ap (λ (y : List ℕ). y ++ o) (none_written (length o + 1) k 0 bs e c)

  pub too_long : length o < k → result_of None x ≡ fitted bs o
  unfolding fitted pick
  too_long h = rw (lt-leb (length bs) (length o) (count_over (length o) k bs e [] c h), unchanged)

  pub all_written : (m : ℕ) (o' : List ℕ) → k ≤ length o → pen m o' ≡ written (length o + 1) bs (pen 0 x) → result_of (Some m) o' ≡ fitted bs o
  unfolding fitted pick
  all_written m o' h g =
      let size : k ≡ length bs = count_fits (length o) k bs e [] c h in
      let f : pen m o' ≡ written (length o + 1) bs (pen 0 o) = rw unchanged at g in
      let all : m ≡ length bs = reached (length o + 1) 0 m bs o o' (omega arith) f ∙ zero-add (length bs) in
      let after : o' ≡ bs ++ drop (length bs) o =
      laid (length o + 1) 0 m bs o o' (omega arith) (omega arith) (omega arith) f ∙ ap (λ (n : ℕ). bs ++ drop n o) (zero-add (length bs)) in
      rw (le-leb (length bs) (length o) (omega arith), all, after)

pub ruleset cases = (then, too_long, all_written, rules)
