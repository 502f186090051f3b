-- What a module's own entries declare stays what it is while the rows that are looked at stay; and a module has no more items than entries.
use Rattle.std.specs.Prelude.{◌≡◌, Bool, false, ltb}
use Rattle.std.proofs.Math.Path.{refl, ap₂}
use Rattle.std.proofs.Common.{◌∙◌, arith, ltb-true, ltb-false}
use Rattle.std.proofs.Math.Bool.{true}
use mathlib.Core.List.{List, ◌∷◌}
use Prim.Native.Nat.{ℕ, zero, suc, ◌+◌, ◌*◌, ◌<◌, ◌≤◌}
use Rattle.meaning.specs.Lists.{pick}
use Rattle.meaning.specs.Names.{Name}
use Rattle.meaning.specs.Syntax.{Module}
use Rattle.meaning.specs.Normal.{Visible}
use Rattle.form_rows.specs.Entries.{role_at, name_at, sort_place}
use Rattle.form_rows.specs.Kinds.{kind_at}
use Rattle.form_rows.specs.Rows.{row_size}
use Rattle.form.specs.Memory.{Same}
use Rattle.form.specs.FormLaws.{items_same}
use Rattle.own_repeats.specs.Scans.{found}
use Rattle.own_declarations.specs.Sorts.{is_row, is_seen, resolved_in}
use Rattle.own_declarations.specs.Items.{resolved_at, resolved_from, own_shape, own_item, own_role, is_own, own_count}
use Rattle.own_declarations.specs.DeclarationLaws.{Stands}
use Rattle.own_declarations.specs.ItemLaws.{quiet_seen, quiet_hidden}
use Rattle.own_declarations.specs.declared.Own.{Own}

-- ---- the items stay the same while the rows that are looked at stay

module _ (text tape w w' : List ℕ) (own : Own) (s : Same own.rows (own.rows + own.count * row_size) w w') where
  row_same : (n : Name) (i : ℕ) → i < own.count → is_row text w' own.rows 0 n i ≡ is_row text w own.rows 0 n i
  unfolding is_row
  row_same n i h = rw (s (own.rows + i * row_size + 2) (omega arith) (omega arith), s (own.rows + i * row_size + 1) (omega arith) (omega arith))

  rows_same : (n : Name) (c i : ℕ) → i + c ≤ own.count → found (is_row text w' own.rows 0 n) i c ≡ found (is_row text w own.rows 0 n) i c
  unfolding found
  rows_same n zero i h = refl
  rows_same n (suc c) i h = ap₂ (λ (x y : Bool). pick x true y) (row_same n i (omega arith)) (rows_same n c (suc i) (omega arith))

  resolved_same : (n : Name) → resolved_in text tape w' own n ≡ resolved_in text tape w own n
  unfolding resolved_in is_seen
  resolved_same n = rw (rows_same n own.count 0 (omega arith))

  inputs_same : (c i : ℕ) → resolved_from text tape w' own i c ≡ resolved_from text tape w own i c
  unfolding resolved_from resolved_at
  inputs_same zero i = refl
  inputs_same (suc c) i = ap₂ ◌∷◌ (resolved_same (name_at text tape i)) (inputs_same c (suc i))

  shape_same : (d k : ℕ) → own_shape text tape w' own d k ≡ own_shape text tape w own d k
  unfolding own_shape resolved_at
  shape_same d zero = refl
  shape_same d (suc zero) = rw (resolved_same (name_at text tape (sort_place tape d)))
  shape_same d (suc (suc n)) = rw (inputs_same n (d + 1), resolved_same (name_at text tape (d + 1 + n)))

  pub item_same : (d : ℕ) → own_item text tape w' own d ≡ own_item text tape w own d
  unfolding own_item
  item_same d = rw (shape_same d (kind_at tape d))

  -- and go on standing for what is visible
  pub stands_same : (m : Module) (v : Visible) → Stands text tape w own m v → Stands text tape w' own m v
  stands_same m v h = record { end = h.end; entries = h.entries; rows = items_same w w' text tape own.rows own.count s ∙ h.rows }

-- ---- how many items

pub count_short : (tape : List ℕ) (hidden : Bool) (i c : ℕ) → own_count tape hidden i c ≤ c
unfolding own_count pick
count_short tape hidden i zero = omega arith
count_short tape hidden i (suc c) = go (is_own tape hidden i) (count_short tape hidden (suc i) c)
  where
    go : (b : Bool) → own_count tape hidden (suc i) c ≤ c → pick b (suc (own_count tape hidden (suc i) c)) (own_count tape hidden (suc i) c) ≤ suc c
    go true h = omega arith
    go false h = omega arith

-- no entry declares both a visible and a hidden item
pub counts_short : (tape : List ℕ) (i c : ℕ) → own_count tape false i c + own_count tape true i c ≤ c
unfolding own_count is_own pick
counts_short tape i zero = omega arith
counts_short tape i (suc c) = go (ltb (role_at tape i) 7) refl (counts_short tape (suc i) c)
  where
    one : (b : Bool) (x y : ℕ) → x + y ≤ c → pick b (suc x) x + y ≤ suc c
    one true x y h = omega arith
    one false x y h = omega arith

    go : (b : Bool) → ltb (role_at tape i) 7 ≡ b → own_count tape false (suc i) c + own_count tape true (suc i) c ≤ c
        → pick (own_role false (role_at tape i)) (suc (own_count tape false (suc i) c)) (own_count tape false (suc i) c)
        + pick (own_role true (role_at tape i)) (suc (own_count tape true (suc i) c)) (own_count tape true (suc i) c) ≤ suc c
    go true e h =
        rw (quiet_hidden (role_at tape i) (ltb-true (role_at tape i) 7 e))
        (one (own_role false (role_at tape i)) (own_count tape false (suc i) c) (own_count tape true (suc i) c) h)
    go false e h =
        let l = one (own_role true (role_at tape i)) (own_count tape true (suc i) c) (own_count tape false (suc i) c) (omega arith) in
        rw (quiet_seen (role_at tape i) (ltb-false (role_at tape i) 7 e)) (omega (arith, l))
