-- What rows in the order of an order table stand for: the items of the table they were copied from, in the listing's order.
use Rattle.std.specs.Prelude.{◌≡◌, length, drop}
use Rattle.std.proofs.Math.Path.{refl, ap, ap₂}
use Rattle.std.proofs.Common.{sym, subst, ◌∙◌, ⊎_elim, get_or-take, get_or-drop}
use Rattle.std.proofs.Math.Bool.{Bool, true, false}
use mathlib.Core.List.Memᴰ
use mathlib.Core.List.{List, [], ◌∷◌, ◌++◌, map, Memᴰ}
use Prim.Native.Nat.{ℕ, zero, suc, ◌+◌, ◌-◌, ◌*◌, ◌≤◌, ◌<◌}
use native.Mathlib.Omega.{arith}
use Rattle.std.proofs.Math.Nat.{add-zero}
use Rattle.std.proofs.Math.Dec.{eqb}
use Rattle.std.proofs.Math.ListN.{get_or}
use Rattle.std.proofs.lemmas.List.{length-map}
use Rattle.meaning.specs.Lists.{pick, keep, sorted}
use Rattle.meaning.specs.Names.{bytes_not_after, by_bytes}
use Rattle.meaning.specs.Origins.{is_sort, sort_shape, function_shape, variable_shape, Sort, FunctionType, Item}
use Rattle.meaning.specs.Normal.{sorts_among}
use Rattle.meaning.specs.Written.{origin_text, visible_order, hidden_order}
use Rattle.meaning.specs.OrderLaws.{sorted_map, sorted_length, sorted_rearranged, rearranged_member}
use Rattle.form_sections.specs.Sections.{word_section}
use Rattle.form_rows.specs.Rows.{words_from, sort_of, type_of, shape_of, row_at, item_of, row_size}
use Rattle.form.specs.Memory.{part}
use Rattle.form.specs.Forms.{items_at}
use Rattle.form.specs.FormLaws.{items_same, length_items}
use Rattle.form_order.specs.Order.{upto}
use Rattle.form_order.specs.Sorting.{lt_or_ge}
use Rattle.form_order.specs.Ordered.{row_item, items_upto}
use Rattle.list_order.specs.declared.Table.{Table}
use Rattle.list_order.specs.declared.Table.TheVariants.{Visible, Sorts, Hidden}
use Rattle.list_order.specs.Orders.{row_order, is_listed}
use Rattle.list_order.specs.Tables.{row_numbers}
use Rattle.list_order.specs.Copying.{Arranged}

-- ---- words before a place

pub low_word : (w : List ℕ) (p i : ℕ) → i < p → get_or (part w 0 p) i 0 ≡ get_or w i 0
low_word w p i h = get_or-take (p - 0) (drop 0 w) i 0 (omega arith) ∙ get_or-drop 0 w i 0 ∙ ap (λ (k : ℕ). get_or w k 0) (let e : 0 + i ≡ i = omega arith in e)

pub low_items : (text tape w : List ℕ) (p b n : ℕ) → b + n * row_size ≤ p → items_at text tape (part w 0 p) b n ≡ items_at text tape w b n
low_items text tape w p b n h = items_same w (part w 0 p) text tape b n (λ i l m. low_word w p i (omega arith))

-- ---- rows by their numbers

-- the first of words that were moved
pub first_word : (w u : List ℕ) (b c : ℕ) → get_or u (c + 0) 0 ≡ get_or w (b + 0) 0 → get_or u c 0 ≡ get_or w b 0
first_word w u b c h =
    let x : c + 0 ≡ c = add-zero c in
    let y : b + 0 ≡ b = add-zero b in
    ap (λ (i : ℕ). get_or u i 0) (sym x) ∙ h ∙ ap (λ (i : ℕ). get_or w i 0) y

-- a row is the row whose words it has
words_moved : (w u : List ℕ) (b c n : ℕ) → ((j : ℕ) → j < n → get_or u (c + j) 0 ≡ get_or w (b + j) 0) → words_from u c n ≡ words_from w b n
unfolding words_from
words_moved w u b c zero h = refl
words_moved w u b c (suc n) h =
    ap₂ (λ (v : ℕ) (vs : List ℕ). v ∷ vs) (first_word w u b c (h 0 (omega arith)))
    (words_moved w u (suc b) (suc c) n (λ j l.
    let p : suc c + j ≡ c + suc j = omega arith in
    let q : b + suc j ≡ suc b + j = omega arith in
    ap (λ (i : ℕ). get_or u i 0) p ∙ h (suc j) (omega arith) ∙ ap (λ (i : ℕ). get_or w i 0) q))

row_moved : (w u : List ℕ) (b c : ℕ) → ((j : ℕ) → j < row_size → get_or u (c + j) 0 ≡ get_or w (b + j) 0) → row_at u c ≡ row_at w b
unfolding row_at
row_moved w u b c h =
    let first = first_word w u b c (h 0 (omega arith)) in
    let more : words_from u (c + 6) 9 ≡ words_from w (b + 6) 9 =
    words_moved w u (b + 6) (c + 6) 9 (λ j l.
    let p : c + 6 + j ≡ c + (6 + j) = omega arith in
    let q : b + (6 + j) ≡ b + 6 + j = omega arith in
    ap (λ (i : ℕ). get_or u i 0) p ∙ h (6 + j) (omega arith) ∙ ap (λ (i : ℕ). get_or w i 0) q) in
    λ i. record {
      standing = word_section (first i);
      name = h 1 (omega arith) i;
      kind = h 2 (omega arith) i;
      origin = record { home = h 3 (omega arith) i; section = word_section (h 4 (omega arith) i); place = h 5 (omega arith) i };
      sorts = more i;
    }

-- what rows of s words stand for that are copies of the rows whose numbers stand from p on
module _ {A : Type 0} (s : ℕ) (old new : ℕ → A) (table : ℕ → ℕ → List A) (none : (b : ℕ) → table b 0 ≡ [])
    (more : (b m : ℕ) → table b (suc m) ≡ new b ∷ table (b + s) m) where
  pub by_number : (v : List ℕ) (from to p m : ℕ) → ((i : ℕ) → i < m → new (to + i * s) ≡ old (from + get_or v (p + i) 0 * s))
      → table to m ≡ map (λ (k : ℕ). old (from + k * s)) (words_from v p m)
  unfolding words_from
  by_number v from to p zero h = none to
  by_number v from to p (suc m) h =
      let z : to + 0 * s ≡ to = omega arith in
      let y : p + 0 ≡ p = add-zero p in
      more to m
      ∙ ap₂ (λ (x : A) (xs : List A). x ∷ xs)
      (ap new (sym z) ∙ h 0 (omega arith) ∙ ap (λ (i : ℕ). old (from + get_or v i 0 * s)) y)
      (by_number v from (to + s) (suc p) m (λ i l.
      let a : to + s + i * s ≡ to + suc i * s = omega arith in
      let b : p + suc i ≡ suc p + i = omega arith in
      ap new a ∙ h (suc i) (omega arith) ∙ ap (λ (k : ℕ). old (from + get_or v k 0 * s)) b))

items_by_number : (text tape w w' : List ℕ) (from to p m : ℕ)
    → ((i : ℕ) → i < m → row_at w' (to + i * row_size) ≡ row_at w (from + get_or w' (p + i) 0 * row_size))
    → items_at text tape w' to m ≡ map (row_item text tape w from) (words_from w' p m)
unfolding items_at
items_by_number text tape w w' from to p m h =
    by_number row_size (λ b. item_of text tape (row_at w b)) (λ b. item_of text tape (row_at w' b)) (items_at text tape w') (λ b. refl)
    (λ b n. refl) w' from to p m
    (λ i l. ap (item_of text tape) (h i l))

words_length : (w : List ℕ) (p m : ℕ) → length (words_from w p m) ≡ m
unfolding words_from
words_length w p zero = refl
words_length w p (suc m) = ap suc (words_length w (suc p) m)

upto_length : (n : ℕ) (text tape w : List ℕ) → length (upto n) ≡ n
upto_length n text tape w =
    sym (length-map (upto n) (row_item text tape w 0)) ∙ ap length (items_upto text tape w 0 n) ∙ length_items text tape w 0 n

keep_all : (xs : List ℕ) (f : ℕ → Bool) → ((i : ℕ) → f i ≡ true) → keep f xs ≡ xs
unfolding keep pick
keep_all [] f h = refl
keep_all (x ∷ xs) f h = rw (h x) (ap (x ∷◌) (keep_all xs f h))

keep_map : {A B : Type 0} (f : A → B) (p : A → Bool) (q : B → Bool) → ((a : A) → p a ≡ q (f a)) → (xs : List A) → map f (keep p xs) ≡ keep q (map f xs)
unfolding keep pick
keep_map f p q h [] = refl
keep_map {A} {B} f p q h (x ∷ xs) = rw (← h x) (go (p x) (keep_map f p q h xs))
  where
    go : (b : Bool) → map f (keep p xs) ≡ keep q (map f xs) → map f (pick b (x ∷ keep p xs) (keep p xs)) ≡ pick b (f x ∷ keep q (map f xs)) (keep q (map f xs))
    go true e = ap (f x ∷◌) e
    go false e = e

-- ---- numbers that stand among words

member_word : {C : Type 0} (r : ℕ) (w : List ℕ) (p m : ℕ) → Memᴰ r (words_from w p m) → ((i : ℕ) → i < m → get_or w (p + i) 0 ≡ r → C) → C
unfolding words_from
member_word r w p zero k found = elim k [ ]
member_word r w p (suc m) k found =
    ⊎_elim (λ e. found 0 (omega arith) (let z : p + 0 ≡ p = add-zero p in ap (λ (i : ℕ). get_or w i 0) z ∙ sym e))
    (λ l. member_word r w (suc p) m l (λ i h e.
    let z : p + suc i ≡ suc p + i = omega arith in found (suc i) (omega arith) (ap (λ (j : ℕ). get_or w j 0) z ∙ e)))
    (Memᴰ.cases_cons k)

member_left : (r : ℕ) (xs ys : List ℕ) → Memᴰ r xs → Memᴰ r (xs ++ ys)
member_left r [] ys m = elim m [ ]
member_left r (x ∷ xs) ys m = ⊎_elim (λ e. Memᴰ.head e) (λ k. Memᴰ.tail (member_left r xs ys k)) (Memᴰ.cases_cons m)

member_last : (r : ℕ) (xs : List ℕ) → Memᴰ r (xs ++ (r ∷ []))
member_last r [] = Memᴰ.head refl
member_last r (x ∷ xs) = Memᴰ.tail (member_last r xs)

upto_member : (r n : ℕ) → r < n → Memᴰ r (upto n)
unfolding upto
upto_member r zero h = absurd (omega arith)
upto_member r (suc n) h =
    ⊎_elim (λ l. member_left r (upto n) (n ∷ []) (upto_member r n l))
    (λ l. let e : r ≡ n = omega arith in subst (λ (k : ℕ). Memᴰ r (upto n ++ (k ∷ []))) e (member_last r (upto n))) (lt_or_ge r n)

-- ---- a table all of whose rows are put in order

module _ (text : List ℕ) (t : ℕ) (table : Table) (from n order to s m : ℕ) (w w' : List ℕ) (a : Arranged text t table from n order to s m w w')
    (every : (i : ℕ) → is_listed (part w 0 order) table i ≡ true) where
  pub all_numbers : words_from w' order m ≡ sorted (row_order text (part w 0 t) (part w 0 order) table) (upto n)
  unfolding row_numbers
  all_numbers =
      a.numbers ∙ ap (sorted (row_order text (part w 0 t) (part w 0 order) table)) (keep_all (upto n) (is_listed (part w 0 order) table) every)

  -- every row is there
  pub all_arranged : m ≡ n
  all_arranged =
      sym (words_length w' order m) ∙ ap length all_numbers ∙ sorted_length (row_order text (part w 0 t) (part w 0 order) table) (upto n)
      ∙ upto_length n text text w

  -- each row's number stands in the order table
  pub each_number : {C : Type 0} (r : ℕ) → r < n → ((i : ℕ) → i < m → get_or w' (order + i) 0 ≡ r → C) → C
  each_number r h found =
      member_word r w' order m
      (subst (λ (xs : List ℕ). Memᴰ r xs) (sym all_numbers)
      (rearranged_member (sorted_rearranged (row_order text (part w 0 t) (part w 0 order) table) (upto n)) (upto_member r n h)))
      found

-- ---- an arranged table of items

module _ (text : List ℕ) (t : ℕ) (table : Table) (from n order to m : ℕ) (w w' : List ℕ) (source : from + n * row_size ≤ order)
    (a : Arranged text t table from n order to row_size m w w') where
  abbrev tape : List ℕ
  tape = part w 0 t

  abbrev low : List ℕ
  low = part w 0 order

  pub row_copied : (i : ℕ) → i < m → row_at w' (to + i * row_size) ≡ row_at low (from + get_or w' (order + i) 0 * row_size)
  row_copied i h =
      let l = a.below i h in
      shifted (to + i * row_size) (from + get_or w' (order + i) 0 * row_size) (λ j k.
      a.rows i j h k ∙ sym (low_word w order (from + get_or w' (order + i) 0 * row_size + j) (omega arith)))
    where
      shifted : (b c : ℕ) → ((j : ℕ) → j < row_size → get_or w' (b + j) 0 ≡ get_or low (c + j) 0) → row_at w' b ≡ row_at low c
      shifted b c g = row_moved low w' c b g

  numbered : items_at text tape w' to m ≡ map (row_item text tape low from) (row_numbers text tape low table n)
  numbered = items_by_number text tape low w' from to order m row_copied ∙ ap (map (row_item text tape low from)) a.numbers

  module _ (le : Item → Item → Bool) (by : (i j : ℕ) → row_order text tape low table i j ≡ le (row_item text tape low from i) (row_item text tape low from j))
      (every : (i : ℕ) → is_listed low table i ≡ true) where
    -- the items in order
    pub items_arranged : items_at text tape w' to n ≡ sorted le (items_at text tape w from n)
    items_arranged =
        ap (items_at text tape w' to) (sym (all_arranged text t table from n order to row_size m w w' a every))
        ∙ items_by_number text tape low w' from to order m row_copied
        ∙ ap (map (row_item text tape low from)) (all_numbers text t table from n order to row_size m w w' a every)
        ∙ sorted_map (row_item text tape low from) (row_order text tape low table) le by [] (upto n)
        ∙ ap (sorted le) (items_upto text tape low from n ∙ low_items text tape w order from n source)

-- ---- visible items, hidden sorts, hidden items

module _ (text : List ℕ) (t from n order to m : ℕ) (w w' : List ℕ) (source : from + n * row_size ≤ order) where
  pub visible_arranged : Arranged text t (Visible from) from n order to row_size m w w'
      → items_at text (part w 0 t) w' to n ≡ sorted visible_order (items_at text (part w 0 t) w from n)
  unfolding row_order is_listed
  visible_arranged a = items_arranged text t (Visible from) from n order to m w w' source a visible_order (λ i j. refl) (λ i. refl)

  pub hidden_arranged : (b c : ℕ) → Arranged text t (Hidden from b c) from n order to row_size m w w'
      → items_at text (part w 0 t) w' to n ≡ sorted (hidden_order (items_at text (part w 0 t) (part w 0 order) b c)) (items_at text (part w 0 t) w from n)
  unfolding row_order is_listed
  hidden_arranged b c a =
      items_arranged text t (Hidden from b c) from n order to m w w' source a (hidden_order (items_at text (part w 0 t) (part w 0 order) b c)) (λ i j. refl)
      (λ i. refl)

  is_sort_row : (tape u : List ℕ) (i : ℕ) → eqb (get_or u (from + i * row_size + 2) 0) 0 ≡ is_sort (row_item text tape u from i).shape
  unfolding item_of shape_of row_at is_sort pick
  is_sort_row tape u i =
      go (eqb (get_or u (from + i * row_size + 2) 0) 0) (eqb (get_or u (from + i * row_size + 2) 0) 1)
      (sort_of text tape (get_or (row_at u (from + i * row_size)).sorts 8 0))
      (type_of text tape (get_or u (from + i * row_size + 2) 0 - 2) (row_at u (from + i * row_size)).sorts)
    where
      go : (p q : Bool) (s : Sort) (f : FunctionType) → p ≡ is_sort (pick p sort_shape (pick q (variable_shape s) (function_shape f)))
      go true q s f = refl
      go false true s f = refl
      go false false s f = refl

  pub sorts_arranged : Arranged text t (Sorts from) from n order to row_size m w w'
      → items_at text (part w 0 t) w' to m ≡ by_bytes (λ (i : Item). origin_text i.origin) (sorts_among (items_at text (part w 0 t) w from n))
  unfolding row_order row_numbers is_listed sorts_among
  sorts_arranged a =
      let tape = part w 0 t in
      let low = part w 0 order in
      let item = row_item text tape low from in
      let le : Item → Item → Bool = λ x y. bytes_not_after (origin_text x.origin) (origin_text y.origin) in
      let chosen : ℕ → Bool = λ i. eqb (get_or low (from + i * row_size + 2) 0) 0 in
      numbered text t (Sorts from) from n order to m w w' source a
      ∙ sorted_map item (λ i j. le (item i) (item j)) le (λ i j. refl) [] (keep chosen (upto n))
      ∙ ap (sorted le)
      (keep_map item chosen (λ (i : Item). is_sort i.shape) (is_sort_row tape low) (upto n)
      ∙ ap (keep (λ (i : Item). is_sort i.shape)) (items_upto text tape low from n ∙ low_items text tape w order from n source))
