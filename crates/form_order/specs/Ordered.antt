-- What an order table points at: the items of a table of rows, or parameters, in the order of their names.
use Rattle.std.specs.Prelude.{◌≡◌, get_or}
use Rattle.std.proofs.Math.Path.{refl, sym, ap}
use Rattle.std.proofs.Common.{◌∙◌}
use mathlib.Core.List.{List, [], ◌∷◌, ◌++◌, map}
use Prim.Native.Nat.{ℕ, zero, suc, ◌+◌, ◌*◌}
use native.Mathlib.Omega.{arith}
use Rattle.meaning.specs.Names.{Name, not_after, by_name}
use Rattle.meaning.specs.Origins.{Item}
use Rattle.meaning.specs.Normal.{Slot}
use Rattle.meaning.specs.OrderLaws.{sorted_map}
use Rattle.text_names.specs.Word.{name_of}
use Rattle.form_rows.specs.Rows.{words_from, row_at, item_of, row_size}
use Rattle.form.specs.Forms.{slot_at, slots_at, items_at, slot_size}
use Rattle.form.specs.FormLaws.{items_grow, slots_grow}
use Rattle.form_order.specs.Order.{name_in, upto, name_order, InOrder}

-- ---- what is made of each

module _ {A B : Type 0} (f : B → A) where
  pub map_more : (xs : List B) (x : B) → map f (xs ++ (x ∷ [])) ≡ map f xs ++ (f x ∷ [])
  map_more [] x = refl
  map_more (y ∷ ys) x = ap (f y ∷◌) (map_more ys x)

-- ---- what stands in a table of rows of s words, each with a name

module _ {A : Type 0} (at : ℕ → A) (table : ℕ → List A) (grows : (n : ℕ) → table (suc n) ≡ table n ++ (at n ∷ [])) (none : table 0 ≡ []) where
  table_upto : (n : ℕ) → map at (upto n) ≡ table n
  unfolding upto
  table_upto zero = sym none
  table_upto (suc n) = map_more at (upto n) n ∙ ap (λ (xs : List A). xs ++ (at n ∷ [])) (table_upto n) ∙ sym (grows n)

  -- what the order table points at is what the table has, in the order of the names
  pub ordered_table : (called : A → Name) (text w : List ℕ) (b s p n : ℕ) → ((k : ℕ) → called (at k) ≡ name_in text w b s k) → InOrder text w b s p n
      → map at (words_from w p n) ≡ by_name called (table n)
  unfolding name_order
  ordered_table called text w b s p n named ord =
      let names : name_in text w b s ≡ (λ k. called (at k)) = λ i k. sym (named k) i in
      ap (map at) (ord.words ∙ ap (λ (c : ℕ → Name). by_name c (upto n)) names)
      ∙ sorted_map at (λ x y. not_after (called (at x)) (called (at y))) (λ x y. not_after (called x) (called y)) (λ a b. refl) [] (upto n)
      ∙ ap (by_name called) (table_upto n)

-- ---- items

-- the item of row k of the table at b
abbrev pub row_item : List ℕ → List ℕ → List ℕ → ℕ → ℕ → Item
row_item text tape w b k = item_of text tape (row_at w (b + k * row_size))

module _ (text tape w : List ℕ) (b : ℕ) where
  pub row_called : (k : ℕ) → (row_item text tape w b k).name ≡ name_in text w (b + 1) row_size k
  unfolding item_of row_at name_in
  row_called k = let e : b + k * row_size + 1 ≡ b + 1 + k * row_size = omega arith in ap (λ (i : ℕ). name_of text (get_or w i 0)) e

  pub items_upto : (n : ℕ) → map (row_item text tape w b) (upto n) ≡ items_at text tape w b n
  unfolding items_at
  items_upto n = table_upto (row_item text tape w b) (items_at text tape w b) (items_grow text tape w b) refl n

  pub ordered_items : (p n : ℕ) → InOrder text w (b + 1) row_size p n
      → map (row_item text tape w b) (words_from w p n) ≡ by_name (λ (i : Item). i.name) (items_at text tape w b n)
  unfolding items_at
  ordered_items p n ord =
      ordered_table (row_item text tape w b) (items_at text tape w b) (items_grow text tape w b) refl (λ (i : Item). i.name) text w (b + 1) row_size p n
      row_called ord

-- ---- parameters

-- the k-th of the parameters at b
abbrev pub row_slot : List ℕ → List ℕ → ℕ → ℕ → Slot
row_slot text w b k = slot_at text w (b + k * slot_size)

module _ (text w : List ℕ) (b : ℕ) where
  pub slot_called : (k : ℕ) → (row_slot text w b k).name ≡ name_in text w b 2 k
  unfolding slot_at name_in
  slot_called k = refl

  pub ordered_slots : (p n : ℕ) → InOrder text w b slot_size p n
      → map (row_slot text w b) (words_from w p n) ≡ by_name (λ (q : Slot). q.name) (slots_at text w b n)
  unfolding slots_at
  ordered_slots p n ord =
      ordered_table (row_slot text w b) (slots_at text w b) (slots_grow text w b) refl (λ (q : Slot). q.name) text w b slot_size p n slot_called ord
