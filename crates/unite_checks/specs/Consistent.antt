-- The checks in their order, and what they leave of the memory: its order table alone changes.
use Rattle.std.specs.Prelude.{◌≡◌, refl, ◌&&◌, List, [], ◌++◌, ℕ, ◌+◌, ◌*◌, ◌^◌, ◌≤◌, ◌<◌, leb, Ok, Err}
use Rattle.std.proofs.Common.{sym, ap, ◌∙◌, append-nil}
use Rattle.meaning.specs.Lists.{pick}
use Rattle.meaning.specs.Numbers.{clashing, overloading, bad_parameter, no_room}
use Rattle.meaning.specs.Origins.{Item}
use Rattle.meaning.specs.Normal.{Slot, Visible}
use Rattle.meaning.specs.Checks.{Check, ◌>>◌, unless, consistent}
use Rattle.form_rows.specs.Rows.{row_size}
use Rattle.form.specs.declared.Culprit.{Culprit}
use Rattle.form.specs.Memory.{part, Kept}
use Rattle.form.specs.Forms.{slots_at, items_at, slot_size}
use Rattle.form.specs.FormLaws.{Apart, items_split}
use Rattle.form.specs.Verdicts.{Verdict, refusal, told}
use Rattle.unite_pairs.specs.declared.Test.TheVariants.{Sorts, Functions, Overloading}
use Rattle.unite_checks.specs.Clashes.{wrong, clash_name, repeated_name}

-- ---- room

-- 18 has no culprit
abbrev pub nobody : Culprit
nobody = record { name = 0; actual = 0 }

-- three numbers, each within its limit
unfoldable pub within : ℕ → ℕ → ℕ → ℕ → ℕ → ℕ → Verdict
within a a_limit b b_limit c c_limit = pick (leb a a_limit && leb b b_limit && leb c c_limit) (Ok tt) (Err (refusal no_room nobody))

-- ---- clashes and overloading

unfoldable pub overloading_check : List Item → Check
overloading_check items = unless overloading (clash_name Overloading items)

unfoldable pub functions_check : List Item → Check
functions_check items = unless clashing (clash_name Functions items) >> overloading_check items

unfoldable pub items_check : List Item → Check
items_check items = unless clashing (clash_name Sorts items) >> functions_check items

unfoldable pub names_check : List Slot → List Item → Check
names_check parameters items = unless bad_parameter (repeated_name parameters) >> items_check items

-- the checks one after the other are the meaning's
pub checks_consistent : (v : Visible) (own : List Item) → names_check v.parameters (v.items ++ own) ≡ consistent v own
unfolding names_check items_check functions_check overloading_check clash_name repeated_name wrong consistent
checks_consistent v own = refl

-- ---- where things lie

-- the tape ends at t; the order table of the n rows at b has n words from p on
pub record RowsLaid (size t b n p : ℕ) : Type 0 where
  pub tape : t ≤ p
  pub rows : Apart p (p + n) b (b + n * row_size)
  pub place : b < 2 ^ 31
  pub room : p + n ≤ size

-- and that of the np parameters at q stands in the same place: the part has np + n words
pub record Laid (size t q np b n p : ℕ) : Type 0 where
  pub tape : t ≤ p
  pub parameters : Apart p (p + (np + n)) q (q + np * slot_size)
  pub rows : Apart p (p + (np + n)) b (b + n * row_size)
  pub place : b < 2 ^ 31
  pub room : p + (np + n) ≤ size

-- ---- what comes of the checks

pub record ItemsChecked (text w w' : List ℕ) (t b n p : ℕ) (r : Verdict) : Type 0 where
  pub verdict : told text r ≡ items_check (items_at text (part w 0 t) w b n)
  pub kept : Kept p (p + n) w w'

pub record Checked (text w w' : List ℕ) (t q np b n p : ℕ) (r : Verdict) : Type 0 where
  pub verdict : told text r ≡ consistent (record { parameters = slots_at text w q np; items = items_at text (part w 0 t) w b n }) []
  pub kept : Kept p (p + (np + n)) w w'

-- ---- visible rows, and own hidden ones behind them

-- v visible rows and m of M's own behind them
pub checked_own : (text w w' : List ℕ) (t q np b v m p : ℕ) (r : Verdict) → Checked text w w' t q np b (v + m) p r
    → told text r ≡ consistent (record { parameters = slots_at text w q np; items = items_at text (part w 0 t) w b v }) (items_at text (part w 0 t) w (b + v * row_size) m)
checked_own text w w' t q np b v m p r c =
    let names = slots_at text w q np in
    let tape = part w 0 t in
    c.verdict ∙ sym (checks_consistent (record { parameters = names; items = items_at text tape w b (v + m) }) [])
    ∙ ap (names_check names) (append-nil (items_at text tape w b (v + m)) ∙ items_split text tape w b v m)
    ∙ checks_consistent (record { parameters = names; items = items_at text tape w b v }) (items_at text tape w (b + v * row_size) m)
