-- The order table of a table's rows, from place p of the memory w on. The rows are compared by the words before p alone, which are `low`, and
-- the tape.
use Rattle.std.specs.Prelude.{◌≡◌, refl, Bool, true, false, ℕ, suc, ◌+◌, ◌≤◌, ◌<◌, get_or}
use Rattle.std.proofs.Common.{sym, ◌∙◌, ⊎_elim, arith, add-one}
use Rattle.std.proofs.Math.Path.{ap}
use mathlib.Core.List.{List, [], ◌∷◌, ◌++◌, append-nil}
use Rattle.meaning.specs.Lists.{pick, keep, place_in, sorted}
use Rattle.meaning.specs.OrderLaws.{Ordered, order_reflexive, sorted_ordered}
use Rattle.form_rows.specs.Rows.{words_from}
use Rattle.form.specs.Memory.{part, Kept}
use Rattle.form.specs.FormLaws.{kept_all, tape_same}
use Rattle.form_order.specs.Order.{upto, Inserted}
use Rattle.form_order.specs.Sorting.{put_at, sorted_more, placed_at, words_put, pairs_of_words, lt_or_ge}
use Rattle.list_order.specs.declared.Table.{Table}
use Rattle.list_order.specs.Orders.{row_order, is_listed, rows_ordered}

-- the numbers of the first r rows, those that are put in order, in the order of the rows
unfoldable pub row_numbers : List ℕ → List ℕ → List ℕ → Table → ℕ → List ℕ
row_numbers text tape low table r = sorted (row_order text tape low table) (keep (is_listed low table) (upto r))

-- m words from p on are these numbers
pub record InRows (text tape low w : List ℕ) (table : Table) (p r m : ℕ) : Type 0 where
  pub words : words_from w p m ≡ row_numbers text tape low table r

-- the place k of row x among the m rows of an order table: behind all that are not after it
pub record Spot (text tape low w : List ℕ) (table : Table) (p m x k : ℕ) : Type 0 where
  pub inside : k ≤ m
  pub before : (i : ℕ) → i < k → row_order text tape low table (get_or w (p + i) 0) x ≡ true
  pub behind : (i : ℕ) → k ≤ i → i < m → row_order text tape low table (get_or w (p + i) 0) x ≡ false

-- row r was put in its place, or passed over: the order table has u rows now
pub record RowPut (text : List ℕ) (t : ℕ) (w w' : List ℕ) (table : Table) (p r u : ℕ) : Type 0 where
  pub few : u ≤ r + 1
  pub rows : InRows text (part w' 0 t) (part w' 0 p) w' table p (r + 1) u
  pub kept : Kept p (p + (r + 1)) w w'

-- the order table of n rows is made and has u rows, and all else stays
pub record RowsOrdered (text : List ℕ) (t : ℕ) (w w' : List ℕ) (table : Table) (p n u : ℕ) : Type 0 where
  pub few : u ≤ n
  pub rows : InRows text (part w 0 t) (part w 0 p) w' table p n u
  pub kept : Kept p (p + n) w w'

-- ---- what is in front of the order table stays

pub front_kept : (w w' : List ℕ) (t p e : ℕ) → t ≤ p → Kept p e w w' → part w' 0 t ≡ part w 0 t
front_kept w w' t p e h k = tape_same w w' t k.size (λ i l m. k.below i (omega arith))

-- ---- rows in order

module _ (text tape low w : List ℕ) (table : Table) (p r m : ℕ) (rows : InRows text tape low w table p r m) where
  abbrev le : ℕ → ℕ → Bool
  le = row_order text tape low table

  all_ordered : Ordered le (words_from w p m)
  unfolding row_numbers
  all_ordered = rw rows.words (sorted_ordered (rows_ordered text tape low table) (keep (is_listed low table) (upto r)))

  -- of two in order the first is not after the other
  pub pair_ordered : (i j : ℕ) → i ≤ j → j < m → le (get_or w (p + i) 0) (get_or w (p + j) 0) ≡ true
  pair_ordered i j h l =
      ⊎_elim (λ g. pairs_of_words (λ u v. le u v ≡ true) w p m i j all_ordered g l)
      (λ g. let e : i ≡ j = omega arith in rw e (order_reflexive (rows_ordered text tape low table) (get_or w (p + j) 0)))
      (lt_or_ge i j)

  -- whether a row of the order table comes before x is steady
  pub steady : (x i j : ℕ) → i ≤ j → j < m → le (get_or w (p + j) 0) x ≡ true → le (get_or w (p + i) 0) x ≡ true
  steady x i j h l e = (rows_ordered text tape low table).transitive _ _ x (pair_ordered i j h l) e

-- ---- a row more

keep_more : {A : Type 0} (f : A → Bool) (xs : List A) (x : A) → keep f (xs ++ (x ∷ [])) ≡ keep f xs ++ pick (f x) (x ∷ []) []
unfolding keep pick
keep_more f [] x = go (f x)
  where
    go : (b : Bool) → pick b (x ∷ []) [] ≡ pick b (x ∷ []) []
    go b = refl
keep_more {A} f (y ∷ ys) x = go (f y) (keep_more f ys x)
  where
    go : (b : Bool) → keep f (ys ++ (x ∷ [])) ≡ keep f ys ++ pick (f x) (x ∷ []) []
        → pick b (y ∷ keep f (ys ++ (x ∷ []))) (keep f (ys ++ (x ∷ []))) ≡ pick b (y ∷ keep f ys) (keep f ys) ++ pick (f x) (x ∷ []) []
    go true e = ap (λ (zs : List A). y ∷ zs) e
    go false e = e

module _ (text tape low : List ℕ) (table : Table) (r : ℕ) where
  listed_more : is_listed low table r ≡ true
      → row_numbers text tape low table (suc r) ≡ place_in (row_order text tape low table) r (row_numbers text tape low table r)
  unfolding row_numbers upto pick
  listed_more h =
      let le = row_order text tape low table in
      let f = is_listed low table in
      let e : keep f (upto r ++ (r ∷ [])) ≡ keep f (upto r) ++ (r ∷ []) =
      keep_more f (upto r) r ∙ ap (λ (b : Bool). keep f (upto r) ++ pick b (r ∷ []) []) h in
      ap (sorted le) e ∙ sorted_more le [] (keep f (upto r)) r

  passed_over : is_listed low table r ≡ false → row_numbers text tape low table (suc r) ≡ row_numbers text tape low table r
  unfolding row_numbers upto pick
  passed_over h =
      let f = is_listed low table in
      ap (sorted (row_order text tape low table))
      (keep_more f (upto r) r ∙ ap (λ (b : Bool). keep f (upto r) ++ pick b (r ∷ []) []) h ∙ append-nil (keep f (upto r)))

module _ (text w : List ℕ) (t : ℕ) (table : Table) (p r m : ℕ) (ht : t ≤ p) (hm : m ≤ r)
    (rows : InRows text (part w 0 t) (part w 0 p) w table p r m) (b : Bool) (eb : b ≡ is_listed (part w 0 p) table r) where
  pub row_put : (w' : List ℕ) (k a e : ℕ) → b ≡ true → a ≡ p + k → e ≡ p + m
      → Spot text (part w 0 t) (part w 0 p) w table p m r k → Inserted a e r w w' → RowPut text t w w' table p r (m + 1)
  row_put w' k a e h ea ee spot ins =
      let kept : Kept p (p + (r + 1)) w w' =
      record { size = ins.size; below = λ i l. ins.below i (omega (arith, spot.inside)); above = λ i l. ins.above i (omega arith) } in
      let le = row_order text (part w 0 t) (part w 0 p) table in
      let placed : place_in le r (words_from w p m) ≡ put_at k r (words_from w p m) =
      placed_at le r w p m k spot.inside spot.before spot.behind in
      let grown : words_from w' p (suc m) ≡ row_numbers text (part w 0 t) (part w 0 p) table (suc r) =
      words_put w w' p m k a e r spot.inside ea ee ins ∙ sym placed ∙ ap (place_in le r) rows.words
      ∙ sym (listed_more text (part w 0 t) (part w 0 p) table r (sym eb ∙ h)) in
      let tapes = front_kept w w' t p (p + (r + 1)) ht kept in
      let lows = front_kept w w' p p (p + (r + 1)) (omega arith) kept in
      record { few = omega arith; rows = record { words = rw (add-one m, add-one r, tapes, lows) grown }; kept = kept }

  pub row_passed : b ≡ false → RowPut text t w w table p r m
  row_passed h = record {
    few = omega arith;
    rows = record { words = rw (add-one r) (rows.words ∙ sym (passed_over text (part w 0 t) (part w 0 p) table r (sym eb ∙ h))) };
    kept = kept_all p (p + (r + 1)) w;
  }
