-- What the code that copies rows asks, one law for each way through it.
use mathlib.Core.Path.{◌≡◌, sym, ap, subst, ◌∙◌}
use mathlib.Core.Logic.{⊎_elim, inl, inr}
use mathlib.Core.List.{List}
use Prim.Native.Nat.{ℕ, ◌+◌, ◌*◌, ◌≤◌, ◌<◌}
use native.Mathlib.Nat.{mul-le-mul_right}
use native.Mathlib.Omega.{arith}
use lib.ListN.{length, get_or}
use borrow.Author.Rules.{rules}
use Rattle.form_rows.specs.Rows.{row_size}
use Rattle.form_rows.specs.RowLaws.{words_from_same}
use Rattle.form.specs.Memory.{part, Kept}
use Rattle.form.specs.FormLaws.{Apart, kept_same}
use Rattle.form_frames.specs.Changes.{onward, wider, at_first, at_second, onward_two, wider_two}
use Rattle.form_order.specs.Sorting.{lt_or_ge}
use Rattle.list_order.specs.declared.Table.{Table}
use Rattle.list_order.specs.Tables.{RowsOrdered}
use Rattle.list_order.specs.Copying.{RowRoom, Numbers, CopyRoom, NumberedCopied, RowsCopied, row_within, PlaceNoted, NotesPut, SortRoom, TableSorted, NotedRoom, TableNoted, rows_below}

-- ---- `copy_row`

-- the first j words of the row are copied
pub record Copying (a b s : ℕ) (w₀ w : List ℕ) (j : ℕ) : Type 0 where
  pub within : j ≤ s
  pub kept : Kept b (b + s) w₀ w
  pub words : (i : ℕ) → i < j → get_or w (b + i) 0 ≡ get_or w₀ (a + i) 0

-- ---- `copy_numbered`

module _ (size from n order m to s i : ℕ) (room : CopyRoom size from n order m to s) (h : i < m) (r : ℕ) where
  row_apart : r < n → Apart (to + i * s) (to + i * s + s) (from + r * s) (from + r * s + s)
  row_apart l =
      let k = row_within i m s h in
      let g = row_within r n s l in
      ⊎_elim (λ q. inl (omega arith)) (λ q. inr (omega arith)) room.apart

  pub numbered_room : r < n → RowRoom size (from + r * s) (to + i * s) s
  numbered_room l =
      record { width = room.width; room = let k = row_within i m s h in omega (arith, room.room); apart = row_apart l }

-- ---- `copy_rows`

-- the first i rows are copied
pub record Begun (from n order m to s : ℕ) (w₀ w : List ℕ) (i : ℕ) : Type 0 where
  pub within : i ≤ m
  pub kept : Kept to (to + m * s) w₀ w
  pub rows : (k j : ℕ) → k < i → get_or w₀ (order + k) 0 < n → j < s → get_or w (to + k * s + j) 0 ≡ get_or w₀ (from + get_or w₀ (order + k) 0 * s + j) 0

module _ (from n order m to s : ℕ) (w₀ : List ℕ) where
  module _ (w : List ℕ) (i : ℕ) (inv : Begun from n order m to s w₀ w i) where
    module _ (room : CopyRoom (length w₀) from n order m to s) where
      number_stays : (k : ℕ) → k < m → get_or w (order + k) 0 ≡ get_or w₀ (order + k) 0
      number_stays k h = kept_same to (to + m * s) order (order + m) w₀ w room.table inv.kept (order + k) (omega arith) (omega arith)

      pub begun_again : (u : List ℕ) → i < m → NumberedCopied from n order to s i w u → Begun from n order m to s w₀ u (i + 1)
      begun_again u l copied =
          let r = get_or w₀ (order + i) 0 in
          let here : i * s + s ≤ m * s = row_within i m s l in
          let source : r < n → (j : ℕ) → j < s → get_or w (from + r * s + j) 0 ≡ get_or w₀ (from + r * s + j) 0 =
          λ z j q.
          let g : r * s + s ≤ n * s = row_within r n s z in
          kept_same to (to + m * s) from (from + n * s) w₀ w room.apart inv.kept (from + r * s + j) (omega arith) (omega arith) in
          record {
            within = omega arith;
            kept = onward inv.kept (wider (omega (arith, here)) copied.kept);
            rows = λ k j h z q. ⊎_elim
                (λ before. let below : k * s + s ≤ i * s = row_within k i s before in
                copied.kept.below (to + k * s + j) (omega arith) ∙ inv.rows k j before z q)
                (λ after. let e : k ≡ i = omega arith in
                let small : r < n = subst (λ (y : ℕ). get_or w₀ (order + y) 0 < n) e z in
                rw e (copied.words (subst (λ (y : ℕ). y < n) (sym (number_stays i l)) small) j q
                ∙ ap (λ (y : ℕ). get_or w (from + y * s + j) 0) (number_stays i l) ∙ source small j q))
                (lt_or_ge k i);
          }

-- ---- `note_rows`

-- the first i are noted
pub record Noting (order m notes n : ℕ) (w₀ w : List ℕ) (i : ℕ) : Type 0 where
  pub within : i ≤ m
  pub kept : Kept notes (notes + n) w₀ w
  pub noted : (k : ℕ) → k < i → get_or w₀ (order + k) 0 < n → PlaceNoted w₀ w order i notes (get_or w₀ (order + k) 0)

-- ---- `sort_rows`

module _ (text : List ℕ) (t : ℕ) (table : Table) (from n order to s m : ℕ) (w u : List ℕ) (room : SortRoom (length w) t from n order to s)
    (ordered : RowsOrdered text t w u table order n m) where
  fewer : m * s ≤ n * s
  fewer = mul-le-mul_right s ordered.few

  sort_numbers : Numbers u order m n
  sort_numbers = rows_below text (part w 0 t) (part w 0 order) u table order n m ordered.rows

  pub sorted_done : (w' : List ℕ) → RowsCopied from n order m to s u w' → TableSorted text t table from n order to s m w w'
  sorted_done w' copied =
      let behind : (i : ℕ) → order ≤ i → get_or w' i 0 ≡ get_or u i 0 = λ i h. copied.kept.above i (omega (arith, fewer, room.target)) in
      let number : (i : ℕ) → get_or w' (order + i) 0 ≡ get_or u (order + i) 0 = λ i. behind (order + i) (omega arith) in
      let source : (i j : ℕ) → i < m → j < s → get_or u (from + get_or u (order + i) 0 * s + j) 0 ≡ get_or w (from + get_or u (order + i) 0 * s + j) 0 =
      λ i j h l. let g = row_within (get_or u (order + i) 0) n s (sort_numbers.below i h) in
      ordered.kept.below (from + get_or u (order + i) 0 * s + j) (omega (arith, room.source)) in
      record {
        arranged = record {
          few = ordered.few;
          numbers = words_from_same u w' order m (λ i h l. behind i h) ∙ ordered.rows.words;
          rows = λ i j h l. copied.rows i j h (sort_numbers.below i h) l ∙ source i j h l ∙ ap (λ (x : ℕ). get_or w (from + x * s + j) 0) (sym (number i));
          below = λ i h. rw (number i) (sort_numbers.below i h);
        };
        kept = onward_two (at_second ordered.kept) (at_first (wider (omega (arith, fewer)) copied.kept));
      }

-- ---- `put_table`

module _ (text : List ℕ) (t : ℕ) (table : Table) (from n order to notes m : ℕ) (w u : List ℕ) (room : NotedRoom (length w) t from n order to notes)
    (sorted : TableSorted text t table from n order to row_size m w u) where
  pub noted_done : (w' : List ℕ) → NotesPut order m notes n u w' → TableNoted text t table from n order to notes m w w'
  noted_done w' put =
      let a = sorted.arranged in
      let behind : (i : ℕ) → order ≤ i → get_or w' i 0 ≡ get_or u i 0 = λ i h. put.kept.above i (omega (arith, room.before)) in
      let number : (i : ℕ) → get_or w' (order + i) 0 ≡ get_or u (order + i) 0 = λ i. behind (order + i) (omega arith) in
      record {
        arranged = record {
          few = a.few;
          numbers = words_from_same u w' order m (λ i h l. behind i h) ∙ a.numbers;
          rows = λ i j h l.
              let g : i * row_size + row_size ≤ n * row_size = omega (arith, a.few) in
              put.kept.below (to + i * row_size + j) (omega (arith, room.target)) ∙ a.rows i j h l
              ∙ ap (λ (x : ℕ). get_or w (from + x * row_size + j) 0) (sym (number i));
          below = λ i h. rw (number i) (a.below i h);
        };
        noted = λ i h.
            let p = put.noted i h (a.below i h) in
            rw (number i) (record { inside = p.inside; there = number _ ∙ p.there });
        kept = onward_two (wider_two (omega arith) (omega (arith, room.before)) sorted.kept)
            (at_second (wider (omega (arith, room.before)) put.kept));
      }

pub ruleset rows = (numbered_room, begun_again)

pub ruleset tables = (sorted_done, noted_done)

pub ruleset cases = (tables, rows, rules)
