-- What the places of the checks ask, one law each: the hypotheses are the facts that the place has.
use Rattle.std.specs.Prelude.{Ok, Err}
use mathlib.Core.Path.{◌≡◌, sym, ap, ◌∙◌}
use mathlib.Core.Logic.{⊎_elim, inl, inr}
use mathlib.Core.List.{List, [], append-nil}
use Rattle.std.specs.Prelude.{Option, Some, None}
use Prim.Native.Nat.{ℕ, ◌+◌, ◌*◌, ◌≤◌, ◌<◌}
use native.Mathlib.Omega.{arith}
use lib.ListN.{length}
use borrow.Author.Rules.{rules}
use borrow.Author.Tests.{le-leb, lt-leb}
use Rattle.meaning.specs.Lists.{pick}
use Rattle.meaning.specs.Origins.{Item}
use Rattle.meaning.specs.Checks.{◌>>◌, unless, consistent}
use Rattle.meaning.specs.Numbers.{clashing, overloading, bad_parameter, no_room}
use Rattle.form_rows.specs.Rows.{row_size}
use Rattle.form.specs.Memory.{part, Same, Kept}
use Rattle.form.specs.Forms.{slots_at, items_at, slot_size}
use Rattle.form.specs.FormLaws.{Apart, kept_same, kept_wider, kept_then, slots_same, items_same, tape_same}
use Rattle.form.specs.Verdicts.{Verdict, refusal, lone_of, told}
use Rattle.form_order.specs.Order.{PutInOrder, NamesApart}
use Rattle.unite_pairs.specs.declared.Test.TheVariants.{Sorts, Functions, Overloading}
use Rattle.unite_checks.specs.Clashes.{named, clash_name, repeated_name}
use Rattle.unite_checks.specs.Consistent.{nobody, within, overloading_check, functions_check, items_check, names_check, checks_consistent, RowsLaid, Laid, ItemsChecked, Checked}

-- ---- `room`, `total_room`

module _ (a a_limit b b_limit c c_limit : ℕ) where
  pub within_fine : a ≤ a_limit → b ≤ b_limit → c ≤ c_limit → Ok tt ≡ within a a_limit b b_limit c c_limit
  unfolding within pick
  within_fine h k l = rw (le-leb a a_limit h, le-leb b b_limit k, le-leb c c_limit l)

  pub within_first : a_limit < a → Err (refusal no_room nobody) ≡ within a a_limit b b_limit c c_limit
  unfolding within pick
  within_first h = rw (lt-leb a a_limit h)

  pub within_second : a ≤ a_limit → b_limit < b → Err (refusal no_room nobody) ≡ within a a_limit b b_limit c c_limit
  unfolding within pick
  within_second h k = rw (le-leb a a_limit h, lt-leb b b_limit k)

  pub within_third : a ≤ a_limit → b ≤ b_limit → c_limit < c → Err (refusal no_room nobody) ≡ within a a_limit b b_limit c c_limit
  unfolding within pick
  within_third h k l = rw (le-leb a a_limit h, le-leb b b_limit k, lt-leb c c_limit l)

-- ---- one search after the other

module _ (text : List ℕ) (items : List Item) (f : Option ℕ) where
  module _ (x : ℕ) (h : f ≡ Some x) where
    pub overloading_stop : named text f ≡ clash_name Overloading items
        → told text (Err (refusal overloading (record { name = x; actual = 0 }))) ≡ overloading_check items
    unfolding overloading_check told unless named
    overloading_stop e = rw (lone_of text x, ← e, h)

    pub functions_stop : named text f ≡ clash_name Functions items → told text (Err (refusal clashing (record { name = x; actual = 0 }))) ≡ functions_check items
    unfolding functions_check told unless named ◌>>◌
    functions_stop e = rw (lone_of text x, ← e, h)

    pub sorts_stop : named text f ≡ clash_name Sorts items → told text (Err (refusal clashing (record { name = x; actual = 0 }))) ≡ items_check items
    unfolding items_check told unless named ◌>>◌
    sorts_stop e = rw (lone_of text x, ← e, h)

  module _ (h : f ≡ None) where
    pub overloading_fine : named text f ≡ clash_name Overloading items → told text (Ok tt) ≡ overloading_check items
    unfolding overloading_check told unless named
    overloading_fine e = rw (← e, h)

    module _ (r : Verdict) where
      pub functions_fine : named text f ≡ clash_name Functions items → told text r ≡ overloading_check items → told text r ≡ functions_check items
      unfolding functions_check unless named ◌>>◌
      functions_fine e t = rw (← e, h) t

      pub sorts_fine : named text f ≡ clash_name Sorts items → told text r ≡ functions_check items → told text r ≡ items_check items
      unfolding items_check unless named ◌>>◌
      sorts_fine e t = rw (← e, h) t

-- ---- `check_rows`

-- the rows and the tape stay
items_kept : (text w w' : List ℕ) (t b n p e : ℕ) → t ≤ p → Apart p e b (b + n * row_size) → Kept p e w w'
    → items_at text (part w' 0 t) w' b n ≡ items_at text (part w 0 t) w b n
items_kept text w w' t b n p e h apart k =
    let front : Same 0 t w w' = λ i l m. k.below i (omega arith) in
    ap (λ (tape : List ℕ). items_at text tape w' b n) (tape_same w w' t k.size front)
    ∙ items_same w w' text (part w 0 t) b n (kept_same p e b (b + n * row_size) w w' apart k)

module _ (size t b n p : ℕ) (laid : RowsLaid size t b n p) where
  pub rows_room : p + n ≤ size
  rows_room = laid.room

  pub rows_apart : NamesApart (b + 1) row_size p n
  rows_apart i h = ⊎_elim (λ l. inl (omega arith)) (λ l. inr (omega arith)) laid.rows

pub rows_checked : (text w w' : List ℕ) (t b n p : ℕ) (r : Verdict) → RowsLaid (length w) t b n p → PutInOrder text w w' (b + 1) row_size p n
    → told text r ≡ items_check (items_at text (part w' 0 t) w' b n) → ItemsChecked text w w' t b n p r
rows_checked text w w' t b n p r laid put e = record {
  verdict = e ∙ ap items_check (items_kept text w w' t b n p (p + n) laid.tape laid.rows put.kept);
  kept = put.kept;
}

-- ---- `consistent`

module _ (size t q np b n p : ℕ) (laid : Laid size t q np b n p) where
  pub names_room : p + np ≤ size
  names_room = omega (arith, laid.room)

  pub names_apart : NamesApart q slot_size p np
  names_apart i h = ⊎_elim (λ l. inl (omega arith)) (λ l. inr (omega arith)) laid.parameters

pub rows_laid : (text w w' : List ℕ) (t q np b n p : ℕ) → Laid (length w) t q np b n p → PutInOrder text w w' q slot_size p np
    → RowsLaid (length w') t b n p
rows_laid text w w' t q np b n p laid put = record {
  tape = laid.tape;
  rows = ⊎_elim (λ l. inl l) (λ l. inr (omega arith)) laid.rows;
  place = laid.place;
  room = omega (arith, laid.room, put.kept.size);
}

module _ (text w w' : List ℕ) (t q np b n p : ℕ) (f : Option ℕ) (laid : Laid (length w) t q np b n p) (put : PutInOrder text w w' q slot_size p np)
    (e : named text f ≡ repeated_name (slots_at text w' q np)) where
  wide : Kept p (p + (np + n)) w w'
  wide = kept_wider p (p + np) p (p + (np + n)) w w' (omega arith) (omega arith) put.kept

  slots_kept : slots_at text w' q np ≡ slots_at text w q np
  slots_kept = slots_same w w' text q np (kept_same p (p + (np + n)) q (q + np * slot_size) w w' laid.parameters wide)

  whole : names_check (slots_at text w q np) (items_at text (part w 0 t) w b n)
      ≡ consistent (record { parameters = slots_at text w q np; items = items_at text (part w 0 t) w b n }) []
  whole =
      ap (names_check (slots_at text w q np)) (sym (append-nil (items_at text (part w 0 t) w b n)))
      ∙ checks_consistent (record { parameters = slots_at text w q np; items = items_at text (part w 0 t) w b n }) []

  pub consistent_stop : (x : ℕ) → f ≡ Some x → Checked text w w' t q np b n p (Err (refusal bad_parameter (record { name = x; actual = 0 })))
  unfolding names_check told unless named ◌>>◌
  consistent_stop x h =
      let found : named text f ≡ repeated_name (slots_at text w q np) = e ∙ ap repeated_name slots_kept in
      let verdict : told text (Err (refusal bad_parameter (record { name = x; actual = 0 }))) ≡ names_check (slots_at text w q np) (items_at text (part w 0 t) w b n) =
      rw (lone_of text x, ← found, h) in
      record { verdict = verdict ∙ whole; kept = wide }

  pub consistent_fine : (w'' : List ℕ) (r : Verdict) → f ≡ None → ItemsChecked text w' w'' t b n p r → Checked text w w'' t q np b n p r
  unfolding names_check unless named ◌>>◌
  consistent_fine w'' r h done =
      let found : named text f ≡ repeated_name (slots_at text w q np) = e ∙ ap repeated_name slots_kept in
      let items = items_kept text w w' t b n p (p + (np + n)) laid.tape laid.rows wide in
      let checked : told text r ≡ items_check (items_at text (part w 0 t) w b n) = done.verdict ∙ ap items_check items in
      let verdict : told text r ≡ names_check (slots_at text w q np) (items_at text (part w 0 t) w b n) = rw (← found, h) checked in
      record {
        verdict = verdict ∙ whole;
        kept = kept_then p (p + (np + n)) w w' w'' wide (kept_wider p (p + n) p (p + (np + n)) w' w'' (omega arith) (omega arith) done.kept);
      }

pub ruleset cases = (
  within_fine,
  within_first,
  within_second,
  within_third,
  overloading_stop,
  functions_stop,
  sorts_stop,
  overloading_fine,
  functions_fine,
  sorts_fine,
  rows_room,
  rows_apart,
  rows_checked,
  names_room,
  names_apart,
  consistent_stop,
  rows_laid,
  consistent_fine,
  rules,
)
