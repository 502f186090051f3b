-- The loops over the rows of a table and over the parameters of a normal form, in the code's terms: those before i do not pass.
use Rattle.std.specs.Prelude.{◌≡◌, Bool, true, false, not, ltb, leb, length}
use Rattle.std.proofs.Math.Path.{refl, ap}
use Rattle.std.proofs.Common.{sym, ap₂, ◌∙◌, ltb-true, ltb-false, le-leb}
use Prim.Native.Nat.{ℕ, zero, suc, ◌+◌, ◌*◌, ◌≤◌, ◌<◌}
use Rattle.std.proofs.Math.Option.{none, some}
use mathlib.Core.List.{List, ◌∷◌}
use native.Mathlib.Omega.{arith}
use Rattle.std.proofs.lemmas.Bool.{lt-leb}
use Rattle.meaning.specs.Lists.{any, first, before}
use Rattle.meaning.specs.Origins.{Item}
use Rattle.meaning.specs.Normal.{Slot}
use Rattle.form_rows.specs.declared.Row.{Row}
use Rattle.form_rows.specs.Rows.{item_of, row_at, row_size}
use Rattle.form.specs.Forms.{slot_at, slots_at, items_at}
use Rattle.form.specs.FormLaws.{length_items, item_at}
use Rattle.form_walks.specs.Lists.{any_before, found_passes, first_there, first_nowhere}
use Rattle.form_walks.specs.Loops.{listed, Asking, ask_start, ask_end, none_passes, ask_again, ask_here, one_passes}

-- ---- rows

-- the item of row k of the table at b
unfoldable pub item_in : List ℕ → List ℕ → List ℕ → ℕ → ℕ → Item
item_in text tape w b k = item_of text tape (row_at w (b + k * row_size))

abbrev pub Finding : (Item → Bool) → List ℕ → List ℕ → List ℕ → ℕ → ℕ → ℕ → Type 0
Finding test text tape w b n i = Asking (item_in text tape w b) test n i

module _ (text tape w : List ℕ) (b : ℕ) where
  items_from : (c i : ℕ) → items_at text tape w (b + i * row_size) c ≡ listed (item_in text tape w b) i c
  unfolding items_at listed item_in
  items_from zero i = refl
  items_from (suc c) i =
      let e : b + i * row_size + row_size ≡ b + suc i * row_size = omega arith in
      ap (λ (xs : List Item). item_of text tape (row_at w (b + i * row_size)) ∷ xs) (ap (λ (p : ℕ). items_at text tape w p c) e ∙ items_from c (suc i))

  items_listed : (n : ℕ) → listed (item_in text tape w b) 0 n ≡ items_at text tape w b n
  items_listed n = let e : b + 0 * row_size ≡ b = omega arith in sym (items_from n 0) ∙ ap (λ (p : ℕ). items_at text tape w p n) e

module _ (test : Item → Bool) (text tape w : List ℕ) (b n : ℕ) where
  abbrev items : List Item
  items = items_at text tape w b n

  pub find_start : Finding test text tape w b n 0
  find_start = ask_start (item_in text tape w b) test n

  pub find_end : (i : ℕ) → n ≤ i → Finding test text tape w b n i → n ≡ before test items
  find_end i h inv = ask_end (item_in text tape w b) test n i h inv ∙ ap (before test) (items_listed text tape w b n)

  pub nowhere : (i : ℕ) → n ≤ i → Finding test text tape w b n i → false ≡ any test items
  nowhere i h inv = none_passes (item_in text tape w b) test n i h inv ∙ ap (any test) (items_listed text tape w b n)

  module _ (i : ℕ) (y : Row) (r : Bool) (h : i < n) (inv : Finding test text tape w b n i) (e : y ≡ row_at w (b + i * row_size))
      (f : r ≡ test (item_of text tape y)) where
    this : r ≡ test (item_in text tape w b i)
    unfolding item_in
    this = rw (← e) f

    pub find_again : r ≡ false → Finding test text tape w b n (i + 1)
    find_again q = ask_again (item_in text tape w b) test n i r h inv this q

    pub find_here : r ≡ true → i ≡ before test items
    find_here q = ask_here (item_in text tape w b) test n i r h inv this q ∙ ap (before test) (items_listed text tape w b n)

    pub somewhere : r ≡ true → true ≡ any test items
    somewhere q = one_passes (item_in text tape w b) test n i r h inv this q ∙ ap (any test) (items_listed text tape w b n)

-- whether there is one, by where the first stands
module _ (text tape w : List ℕ) (b n i : ℕ) (test : Item → Bool) (e : i ≡ before test (items_at text tape w b n)) where
  pub found_below : ltb i n ≡ any test (items_at text tape w b n)
  found_below = ap₂ ltb e (sym (length_items text tape w b n)) ∙ sym (any_before test (items_at text tape w b n))

  pub none_below : leb n i ≡ not (any test (items_at text tape w b n))
  none_below = go (ltb i n) refl ∙ ap not found_below
    where
      go : (b : Bool) → ltb i n ≡ b → leb n i ≡ not (ltb i n)
      go true q = lt-leb n i (ltb-true i n q) ∙ ap not (sym q)
      go false q = le-leb n i (ltb-false i n q) ∙ ap not (sym q)

-- the first that passes, by its row
module _ (test : Item → Bool) (text tape w : List ℕ) (b n : ℕ) where
  abbrev place : ℕ
  place = before test (items_at text tape w b n)

  module _ (h : place < n) where
    inside : place < length (items_at text tape w b n)
    inside = omega (arith, length_items text tape w b n)

    pub first_row : first test (items_at text tape w b n) ≡ some (item_of text tape (row_at w (b + place * row_size)))
    first_row =
        let d = item_of text tape (row_at w b) in
        first_there test d (items_at text tape w b n) inside ∙ ap (λ (x : Item). some x) (item_at text tape w b n place d h)

    pub row_passes : test (item_of text tape (row_at w (b + place * row_size))) ≡ true
    row_passes =
        let d = item_of text tape (row_at w b) in
        ap test (sym (item_at text tape w b n place d h)) ∙ found_passes test d (items_at text tape w b n) inside

  pub no_row : n ≤ place → first test (items_at text tape w b n) ≡ none
  no_row h = first_nowhere test (items_at text tape w b n) (omega (arith, length_items text tape w b n))

-- ---- parameters

-- parameter k of those at b
unfoldable pub slot_in : List ℕ → List ℕ → ℕ → ℕ → Slot
slot_in text w b k = slot_at text w (b + k * 2)

abbrev pub Seeking : (Slot → Bool) → List ℕ → List ℕ → ℕ → ℕ → ℕ → Type 0
Seeking test text w b n i = Asking (slot_in text w b) test n i

module _ (text w : List ℕ) (b : ℕ) where
  slots_from : (c i : ℕ) → slots_at text w (b + i * 2) c ≡ listed (slot_in text w b) i c
  unfolding slots_at listed slot_in
  slots_from zero i = refl
  slots_from (suc c) i =
      let e : b + i * 2 + 2 ≡ b + suc i * 2 = omega arith in
      ap (λ (ps : List Slot). slot_at text w (b + i * 2) ∷ ps) (ap (λ (p : ℕ). slots_at text w p c) e ∙ slots_from c (suc i))

  slots_listed : (n : ℕ) → listed (slot_in text w b) 0 n ≡ slots_at text w b n
  slots_listed n = let e : b + 0 * 2 ≡ b = omega arith in sym (slots_from n 0) ∙ ap (λ (p : ℕ). slots_at text w p n) e

module _ (test : Slot → Bool) (text w : List ℕ) (b n : ℕ) where
  pub seek_start : Seeking test text w b n 0
  seek_start = ask_start (slot_in text w b) test n

  pub seek_end : (i : ℕ) → n ≤ i → Seeking test text w b n i → false ≡ any test (slots_at text w b n)
  seek_end i h inv = none_passes (slot_in text w b) test n i h inv ∙ ap (any test) (slots_listed text w b n)

  module _ (i : ℕ) (r : Bool) (h : i < n) (inv : Seeking test text w b n i) (e : r ≡ test (slot_at text w (b + i * 2))) where
    parameter : r ≡ test (slot_in text w b i)
    unfolding slot_in
    parameter = e

    pub seek_again : r ≡ false → Seeking test text w b n (i + 1)
    seek_again q = ask_again (slot_in text w b) test n i r h inv parameter q

    pub seek_found : r ≡ true → true ≡ any test (slots_at text w b n)
    seek_found q = one_passes (slot_in text w b) test n i r h inv parameter q ∙ ap (any test) (slots_listed text w b n)
