-- What tests tell of sorts, shapes and items, in the code's terms: p, q and r are answers, and the premises are what led there.
use mathlib.Core.Path.{◌≡◌, refl, sym, ap, ◌∙◌}
use mathlib.Core.Bool.{Bool, true, false, not, ◌&&◌, beq, and-true, and-false, true≢false}
use mathlib.Core.List.{List, map}
use Prim.Native.Nat.{ℕ, suc, ◌+◌, ◌-◌, ◌/◌, ◌%◌, ◌<◌, ◌≤◌, min}
use native.Mathlib.Numerals.{add-one}
use native.Mathlib.Omega.{arith}
use lib.Dec.{eqb}
use lib.ListN.{length, get_or, take, drop, length-take, length-map, drop_of_length-le}
use lib.Seq.{drop-cons, get_or-take}
use borrow.Author.Tests.{eq-eqb, ne_eqb, eqb-true, eqb-false}
use Rattle.meaning.specs.Lists.{pick, agree}
use Rattle.meaning.specs.Names.{same}
use Rattle.meaning.specs.Origins.{sort_shape, function_shape, variable_shape, same_section, same_declared, same_origin, same_sort, same_type, same_shape, one_item}
use Rattle.laws.specs.Decides.{sorts_decided}
use Rattle.text_names.specs.Word.{name_of}
use Rattle.form_rows.specs.Entries.{name_at, home_at}
use Rattle.form_rows.specs.Rows.{section_of, origin_of, hidden_origin, sort_of, type_of, shape_of, item_of}
use Rattle.form_rows.specs.RowLaws.{take_nine, agree_lengths}
use Rattle.form_rows.specs.Kinds.{one_but_name}
use Rattle.form_rows.specs.declared.Row.{Row}

-- ---- sorts

module _ (text tape : List ℕ) (d e : ℕ) (p : Bool) (c : p ≡ same (name_at text tape d) (name_at text tape e)) where
  pub hidden_told : (h k : ℕ) (r : Bool) → p ≡ true → h ≡ home_at tape d → k ≡ home_at tape e → r ≡ same (name_of text h) (name_of text k)
      → r ≡ same_origin (hidden_origin text tape d) (hidden_origin text tape e)
  unfolding same_origin hidden_origin same_section same_declared
  hidden_told h k r g i j l = rw (← c, g, ← i, ← j, ← l, and-true r) (sym (and-true r))

  pub hidden_names : p ≡ false → p ≡ same_origin (hidden_origin text tape d) (hidden_origin text tape e)
  unfolding same_origin hidden_origin same_section same_declared
  hidden_names g = g ∙ rw (← c, g) (sym (and-false (same (name_of text (home_at tape d)) (name_of text (home_at tape e)) && true)))

module _ (text tape : List ℕ) (a b : ℕ) where
  abbrev one_sort : Bool
  one_sort = same_sort (sort_of text tape a) (sort_of text tape b)

  pub sort_self : a ≡ b → true ≡ one_sort
  sort_self h = rw (h, sorts_decided.self (sort_of text tape b))

  pub sort_apart : (a % 2 ≡ b % 2 → ⊥) → false ≡ one_sort
  unfolding same_sort sort_of pick
  sort_apart h = go (eqb (a % 2) 0) (eqb (b % 2) 0) refl refl
    where
      go : (p q : Bool) → eqb (a % 2) 0 ≡ p → eqb (b % 2) 0 ≡ q → false ≡ one_sort
      go true true e f = absurd (h (eqb-true (a % 2) 0 e ∙ sym (eqb-true (b % 2) 0 f)))
      go true false e f = rw (e, f)
      go false true e f = rw (e, f)
      go false false e f =
          let g = eqb-false (a % 2) 0 e in
          let i = eqb-false (b % 2) 0 f in
          absurd (h (omega arith))

  module _ (h : a % 2 ≡ b % 2) (r : Bool) where
    pub sort_visible : a % 2 ≡ 0 → r ≡ same (name_of text (a / 2)) (name_of text (b / 2)) → r ≡ one_sort
    unfolding same_sort sort_of pick
    sort_visible g e = rw (← h, eq-eqb (a % 2) 0 g) e

    pub sort_hidden : (a % 2 ≡ 0 → ⊥) → r ≡ same_origin (hidden_origin text tape (a / 2)) (hidden_origin text tape (b / 2)) → r ≡ one_sort
    unfolding same_sort sort_of pick
    sort_hidden g e = rw (← h, ne_eqb (a % 2) 0 g) e

-- ---- the first n sorts of a and of b: those before i are one

module _ (text tape a b : List ℕ) (n : ℕ) where
  -- what is left to compare
  abbrev pub AgreeFrom : ℕ → Bool
  AgreeFrom i = agree same_sort (map (sort_of text tape) (drop i (take n a))) (map (sort_of text tape) (drop i (take n b)))

  module _ (i : ℕ) (la : length a ≡ 9) (lb : length b ≡ 9) where
    pub agree_end : min n 9 ≤ i → AgreeFrom i ≡ true
    unfolding agree
    agree_end h =
        let x : length (take n a) ≤ i = omega (arith, length-take n a) in
        let y : length (take n b) ≤ i = omega (arith, length-take n b) in
        rw (drop_of_length-le (take n a) x, drop_of_length-le (take n b) y)

    pub agree_all : n ≤ i → AgreeFrom i ≡ true
    agree_all h = agree_end (omega arith)

    module _ (h : i < n) (k : i < 9) (r : Bool) (t : r ≡ same_sort (sort_of text tape (get_or a i 0)) (sort_of text tape (get_or b i 0))) where
      head_told : AgreeFrom i ≡ pick r (AgreeFrom (suc i)) false
      unfolding agree
      head_told =
          let x : i < length (take n a) = omega (arith, length-take n a) in
          let y : i < length (take n b) = omega (arith, length-take n b) in
          rw (drop-cons (take n a) i 0 x, drop-cons (take n b) i 0 y, get_or-take n a i 0 h, get_or-take n b i 0 h, t)

      pub agree_on : r ≡ true → AgreeFrom i ≡ AgreeFrom (i + 1)
      unfolding pick
      agree_on e = rw (add-one i) (head_told ∙ rw e)

      pub agree_off : r ≡ false → AgreeFrom i ≡ false
      unfolding pick
      agree_off e = head_told ∙ rw e

-- ---- function types: the first n sorts of a and of b, and then the last ones

module _ (text tape a b : List ℕ) (n : ℕ) where
  abbrev one_type : Bool
  one_type = same_type (type_of text tape n a) (type_of text tape n b)

  module _ (i : ℕ) (l : AgreeFrom text tape a b n 0 ≡ AgreeFrom text tape a b n i) where
    pub type_inputs : AgreeFrom text tape a b n i ≡ false → false ≡ one_type
    unfolding same_type type_of
    type_inputs e = rw (l, e)

    pub type_output : (r : Bool) → AgreeFrom text tape a b n i ≡ true → r ≡ same_sort (sort_of text tape (get_or a 8 0)) (sort_of text tape (get_or b 8 0)) → r ≡ one_type
    unfolding same_type type_of
    type_output r e t = rw (l, e) t

-- ---- shapes

-- the first c of nine sorts, and how many they are
module _ (c : ℕ) (a : List ℕ) (la : length a ≡ 9) (n : ℕ) (e : n ≡ min c 9) where
  all_inputs : take n a ≡ take c a
  all_inputs = ap (λ (i : ℕ). take i a) e ∙ take_nine c a la

  inputs_counted : {A : Type 0} (s : ℕ → A) → length (map s (take c a)) ≡ n
  inputs_counted s = length-map (take c a) s ∙ omega (arith, length-take c a)

module _ (text tape : List ℕ) (k : ℕ) (a : List ℕ) (l : ℕ) (b : List ℕ) where
  abbrev one_shape : Bool
  one_shape = same_shape (shape_of text tape k a) (shape_of text tape l b)

  pub shapes_sort : k ≡ 0 → eqb l 0 ≡ one_shape
  unfolding same_shape shape_of pick
  shapes_sort h = rw h (go (eqb l 0) (eqb l 1))
    where
      go : (p q : Bool) → p ≡ same_shape sort_shape (pick p sort_shape (pick q (variable_shape (sort_of text tape (get_or b 8 0))) (function_shape (type_of text tape (l - 2) b))))
      go true q = refl
      go false true = refl
      go false false = refl

  module _ (h : k ≡ 0 → ⊥) where
    pub shapes_no_sort : l ≡ 0 → false ≡ one_shape
    unfolding same_shape shape_of pick
    shapes_no_sort g = rw (ne_eqb k 0 h, eq-eqb l 0 g) (go (eqb k 1))
      where
        go : (p : Bool) → false ≡ same_shape (pick p (variable_shape (sort_of text tape (get_or a 8 0))) (function_shape (type_of text tape (k - 2) a))) sort_shape
        go true = refl
        go false = refl

    module _ (g : l ≡ 0 → ⊥) where
      -- where the one is a variable if p, and the other if q
      abbrev one_by : Bool → Bool → Bool
      one_by p q =
          same_shape (pick p (variable_shape (sort_of text tape (get_or a 8 0))) (function_shape (type_of text tape (k - 2) a)))
          (pick q (variable_shape (sort_of text tape (get_or b 8 0))) (function_shape (type_of text tape (l - 2) b)))

      pub shapes_mixed : not (beq (eqb k 1) (eqb l 1)) ≡ true → false ≡ one_shape
      unfolding same_shape shape_of pick
      shapes_mixed s = rw (ne_eqb k 0 h, ne_eqb l 0 g) (go (eqb k 1) (eqb l 1) s)
        where
          go : (p q : Bool) → not (beq p q) ≡ true → false ≡ one_by p q
          go true true s = absurd (true≢false (sym s))
          go true false s = refl
          go false true s = refl
          go false false s = absurd (true≢false (sym s))

      module _ (s : not (beq (eqb k 1) (eqb l 1)) ≡ false) where
        -- variables are compared as functions without inputs
        as_types : one_shape ≡ same_type (type_of text tape (k - 2) a) (type_of text tape (l - 2) b)
        unfolding same_shape shape_of pick same_type type_of agree
        as_types = rw (ne_eqb k 0 h, ne_eqb l 0 g) (go (eqb k 1) (eqb l 1) refl refl s)
          where
            go : (p q : Bool) → eqb k 1 ≡ p → eqb l 1 ≡ q → not (beq p q) ≡ false
                → one_by p q ≡ same_type (type_of text tape (k - 2) a) (type_of text tape (l - 2) b)
            go true true e f s = rw (eqb-true k 1 e, eqb-true l 1 f)
            go true false e f s = absurd (true≢false s)
            go false true e f s = absurd (true≢false s)
            go false false e f s = refl

        module _ (la : length a ≡ 9) (lb : length b ≡ 9) (n m : ℕ) (e : n ≡ min (k - 2) 9) (f : m ≡ min (l - 2) 9) where
          pub shapes_counts : (n ≡ m → ⊥) → false ≡ one_shape
          unfolding same_type type_of
          shapes_counts h =
              let s = sort_of text tape in
              let x = inputs_counted (k - 2) a la n e s in
              let y = inputs_counted (l - 2) b lb m f s in
              rw (as_types, agree_lengths same_sort (map s (take (k - 2) a)) (map s (take (l - 2) b)) (λ q. h (sym x ∙ q ∙ y)))

          pub shapes_told : (r : Bool) → n ≡ m → r ≡ same_type (type_of text tape n a) (type_of text tape n b) → r ≡ one_shape
          unfolding type_of
          shapes_told r h t = (rw (all_inputs (k - 2) a la n e, all_inputs (l - 2) b lb n (h ∙ f)) at t) ∙ sym as_types

-- ---- items

module _ (text tape : List ℕ) (a b : Row) where
  module _ (p : Bool) (e : p ≡ same_shape (shape_of text tape a.kind a.sorts) (shape_of text tape b.kind b.sorts)) where
    pub item_shapes : p ≡ false → false ≡ one_but_name text tape a b
    unfolding one_but_name
    item_shapes h = rw (← e, h, and-false (same_section (section_of text a.standing) (section_of text b.standing)))

    module _ (q : Bool) (f : q ≡ same_origin (origin_of text tape a.origin) (origin_of text tape b.origin)) (h : p ≡ true) where
      pub item_origins : q ≡ false → q ≡ one_but_name text tape a b
      unfolding one_but_name
      item_origins g =
          g ∙ rw (← e, h, ← f, g) (sym (and-false (same_section (section_of text a.standing) (section_of text b.standing) && true)))

      pub item_standings : (r : Bool) → q ≡ true → r ≡ same_section (section_of text a.standing) (section_of text b.standing)
          → r ≡ one_but_name text tape a b
      unfolding one_but_name
      item_standings r g t = rw (← e, h, ← f, g, ← t, and-true r) (sym (and-true r))

  by_name : one_item (item_of text tape a) (item_of text tape b) ≡ (same (name_of text a.name) (name_of text b.name) && one_but_name text tape a b)
  unfolding one_item item_of one_but_name
  by_name = go (same_section _ _) (same _ _) (same_shape _ _) (same_origin _ _)
    where
      go : (x y z w : Bool) → (x && y && z && w) ≡ (y && (x && z && w))
      go true true z w = refl
      go true false z w = refl
      go false true z w = refl
      go false false z w = refl

  module _ (p : Bool) (e : p ≡ same (name_of text a.name) (name_of text b.name)) where
    pub item_names : p ≡ false → p ≡ one_item (item_of text tape a) (item_of text tape b)
    item_names h = h ∙ sym (by_name ∙ rw (← e, h))

    pub item_told : (r : Bool) → p ≡ true → r ≡ one_but_name text tape a b → r ≡ one_item (item_of text tape a) (item_of text tape b)
    item_told r h t = sym (by_name ∙ rw (← e, h, t))
