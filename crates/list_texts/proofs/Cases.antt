-- What the code that compares texts asks: both are bytes-compared part by part.
use mathlib.Core.Path.{◌≡◌, refl, sym, ap, ap₂, ◌∙◌}
use mathlib.Core.Bool.{Bool, true, false, false≢true}
use mathlib.Core.List.{List, [], ◌∷◌}
use Prim.Native.Nat.{ℕ, zero, suc, ◌+◌, ◌-◌, ◌*◌, ◌<◌, ◌≤◌, min}
use native.Mathlib.Omega.{arith}
use native.Mathlib.Nat.{zero-add, suc-add}
use lib.Dec.{eqb, ltb, leb}
use lib.ListN.{length, take, drop, length-take, drop_of_length-le}
use lib.Seq.{take_all, take-nil, take-take, drop-drop}
use borrow.Author.Rules.{rules}
use borrow.Author.Tests.{eq-eqb, ne_eqb, ltb-true, ltb-false}
use Rattle.std.proofs.Common.{Option, Some, None}
use Rattle.std.specs.declared.cmp.Ordering.{Ordering}
use Rattle.std.specs.Ordering.{ordering_index, is_eq, is_le}
use Rattle.meaning.specs.Lists.{pick}
use Rattle.meaning.specs.Names.{same, bytes_not_after}
use Rattle.meaning.specs.Written.{origin_text, shape_text}
use Rattle.meaning.specs.OrderLaws.{same_equal}
use Rattle.text_runs.specs.Orders.{bytes_compared}
use Rattle.text_runs.specs.Codes.{seen_index, index_few, index_eq, index_ne}
use Rattle.text_names.proofs.Compared.{bytes_told}
use Rattle.form_rows.specs.declared.Row.{Row}
use Rattle.form_rows.specs.Rows.{origin_of, shape_of}
use Rattle.form.specs.Forms.{items_at}
use Rattle.form.specs.Memory.{part}
use Rattle.list_pen.specs.Pen.{Pen, pen, written}
use Rattle.list_pen.proofs.Laws.{window_size, window_shows}
use Rattle.list_texts.specs.declared.Part.{Part}
use Rattle.list_texts.specs.declared.Facet.{Facet}
use Rattle.list_texts.specs.declared.Facet.TheVariants.{Origin, Shape}
use Rattle.list_texts.specs.Parts.{line_size, part_size, facet_text, PartOf, parts_compared}
use Rattle.list_texts.specs.Sizes.{origin_size, shape_size}

-- ---- a facet, whichever it is

module _ (text tape w : List ℕ) (by : Facet) (row : Row) (p q : Pen) (l : ℕ) where
  pub origin_put : by ≡ Origin → q ≡ written l (origin_text (origin_of text tape row.origin)) p → q ≡ written l (facet_text text tape w by row) p
  unfolding facet_text
  origin_put e h = rw e h

  pub shape_put : (b n : ℕ) → by ≡ Shape b n
      → q ≡ written l (shape_text (items_at text tape w b n) (shape_of text tape row.kind row.sorts)) p
      → q ≡ written l (facet_text text tape w by row) p
  unfolding facet_text
  shape_put b n e h = rw e h

-- ---- a part

-- the part that stands in an array after a line was written through it
module _ (before n k : ℕ) (bs o o' : List ℕ) (size : length o ≡ part_size) (kept : length o' ≡ part_size) (e : pen k o' ≡ written (before + 33) bs (pen 0 o))
    (en : n ≡ min (k - before) 32) where
  limit : pen k o' ≡ written (before + 32 + 1) bs (pen 0 o)
  limit = let sum : before + 33 ≡ before + 32 + 1 = omega arith in e ∙ ap (λ (l : ℕ). written l bs (pen 0 o)) sum

  pub part_written : (r : Part) → r.bytes ≡ o' → r.size ≡ n → PartOf r before bs
  part_written r eb es = record {
    fits = omega (arith, es, en, ap length eb, kept);
    shows = ap₂ (λ (m : ℕ) (xs : List ℕ). take m xs) (es ∙ en) eb ∙ window_shows before 32 k bs o o' size limit;
    sized = es ∙ en ∙ window_size before 32 k bs o o' size limit;
  }

module _ (a b : Part) (c : ℕ) (ec : c ≡ bytes_compared (part a.bytes 0 a.size) (part b.bytes 0 b.size)) where
  abbrev x : List ℕ
  x = take a.size a.bytes

  abbrev y : List ℕ
  y = take b.size b.bytes

  told : c ≡ bytes_compared x y
  told =
      let z : a.size - 0 ≡ a.size = omega arith in
      let u : b.size - 0 ≡ b.size = omega arith in
      ec ∙ ap₂ (λ (i j : ℕ). bytes_compared (take i a.bytes) (take j b.bytes)) z u

  level_parts : a.size ≡ 32 → c ≡ 1 → 3 ≡ parts_compared a.size (take a.size a.bytes) (take b.size b.bytes)
  unfolding parts_compared pick
  level_parts h k = rw (eq-eqb a.size part_size h, eq-eqb (bytes_compared x y) 1 (sym told ∙ k))

  different_parts : a.size ≡ 32 → (c ≡ 1 → ⊥) → c ≡ parts_compared a.size (take a.size a.bytes) (take b.size b.bytes)
  unfolding parts_compared pick
  different_parts h k = rw (eq-eqb a.size part_size h, ne_eqb (bytes_compared x y) 1 (λ e. k (told ∙ e))) told

  last_parts : (a.size ≡ 32 → ⊥) → c ≡ parts_compared a.size (take a.size a.bytes) (take b.size b.bytes)
  unfolding parts_compared pick
  last_parts h = rw (ne_eqb a.size part_size h) told

module _ (a b : Part) (o : Ordering) (eo : ordering_index o ≡ bytes_compared (part a.bytes 0 a.size) (part b.bytes 0 b.size)) where
  pub parts_last : (a.size ≡ 32 → ⊥) → seen_index (Some o) ≡ parts_compared a.size (take a.size a.bytes) (take b.size b.bytes)
  unfolding seen_index
  parts_last h = last_parts a b (ordering_index o) eo h

  module _ (t : Bool) (et : t ≡ is_eq o) (h : a.size ≡ 32) where
    pub parts_level : t ≡ true → seen_index None ≡ parts_compared a.size (take a.size a.bytes) (take b.size b.bytes)
    unfolding seen_index
    parts_level k = level_parts a b (ordering_index o) eo h (index_eq o t et k)

    pub parts_differ : t ≡ false → seen_index (Some o) ≡ parts_compared a.size (take a.size a.bytes) (take b.size b.bytes)
    unfolding seen_index
    parts_differ k = different_parts a b (ordering_index o) eo h (index_ne o t et k)

-- ---- lines by their fronts

-- the same fronts: what follows them decides
front_passed : (n : ℕ) (a b : List ℕ) → same (take n a) (take n b) ≡ true → bytes_compared a b ≡ bytes_compared (drop n a) (drop n b)
unfolding bytes_compared same bytes_not_after pick
front_passed zero a b h = refl
front_passed (suc n) [] [] h = refl
front_passed (suc n) [] (y ∷ b) h = absurd (false≢true h)
front_passed (suc n) (x ∷ a) [] h = absurd (false≢true h)
front_passed (suc n) (x ∷ a) (y ∷ b) h = go (eqb x y) h (front_passed n a b)
  where
    go : (t : Bool) → pick t (same (take n a) (take n b)) false ≡ true
        → (same (take n a) (take n b) ≡ true → bytes_compared a b ≡ bytes_compared (drop n a) (drop n b))
        → pick (pick t (same a b) false) 1 (pick (pick t (bytes_not_after a b) (leb x y)) 0 2) ≡ bytes_compared (drop n a) (drop n b)
    go true e f = f e
    go false e f = absurd (false≢true e)

-- other fronts decide
front_decides : (n : ℕ) (a b : List ℕ) → same (take n a) (take n b) ≡ false → bytes_compared a b ≡ bytes_compared (take n a) (take n b)
unfolding bytes_compared same bytes_not_after pick
front_decides zero a b h = absurd (false≢true (sym h))
front_decides (suc n) [] [] h = refl
front_decides (suc n) [] (y ∷ b) h = refl
front_decides (suc n) (x ∷ a) [] h = refl
front_decides (suc n) (x ∷ a) (y ∷ b) h = go (eqb x y) h (front_decides n a b)
  where
    go : (t : Bool) → pick t (same (take n a) (take n b)) false ≡ false
        → (same (take n a) (take n b) ≡ false → bytes_compared a b ≡ bytes_compared (take n a) (take n b))
        → ◌≡◌ {A = ℕ} (pick (pick t (same a b) false) 1 (pick (pick t (bytes_not_after a b) (leb x y)) 0 2))
        (pick (pick t (same (take n a) (take n b)) false) 1 (pick (pick t (bytes_not_after (take n a) (take n b)) (leb x y)) 0 2))
    go true e f = f e
    go false e f = refl

drop_take : (n m : ℕ) (a : List ℕ) → drop n (take (n + m) a) ≡ take m (drop n a)
drop_take zero m a = ap (λ (k : ℕ). take k a) (zero-add m)
drop_take (suc n) m [] = ap (drop (suc n)) (take-nil (suc n + m)) ∙ sym (take-nil m)
drop_take (suc n) m (x ∷ a) = ap (λ (k : ℕ). drop (suc n) (take k (x ∷ a))) (suc-add n m) ∙ drop_take n m a

-- where the fronts are the same and shorter than asked, all is the same
short_same : (n : ℕ) (a b : List ℕ) → same (take n a) (take n b) ≡ true → length (take n a) < n → bytes_compared a b ≡ 1
unfolding bytes_compared same pick
short_same n a b h k =
    let equal : length (take n a) ≡ length (take n b) = ap length (same_equal (take n a) (take n b) h) in
    front_passed n a b h
    ∙ rw (drop_of_length-le a {i = n} (omega (arith, length-take n a)), drop_of_length-le b {i = n} (omega (arith, equal, length-take n a, length-take n b)))

-- what the comparison of two parts tells, of n bytes the first
module _ (n : ℕ) (x y : List ℕ) where
  abbrev Told : ℕ → ℕ → Bool → Type 0
  Told d c s = (3 ≤ d → s ≡ true) × (d < 3 → s ≡ true → n ≡ part_size → ⊥) × (d < 3 → d ≡ c)

  abbrev shown : Bool → ℕ → ℕ
  shown full c = pick full (pick (eqb c 1) 3 c) c

  parts_told : Told (parts_compared n x y) (bytes_compared x y) (same x y)
  unfolding parts_compared bytes_compared pick
  parts_told = go (eqb n part_size) (same x y) (bytes_not_after x y) refl
    where
      go : (full s t : Bool) → eqb n part_size ≡ full → Told (shown full (pick s 1 (pick t 0 2))) (pick s 1 (pick t 0 2)) s
      go true true t e = ((λ h. refl), (λ h g k. absurd (omega (arith, h))), (λ h. absurd (omega (arith, h))))
      go true false true e = ((λ h. absurd (omega (arith, h))), (λ h g k. false≢true g), (λ h. refl))
      go true false false e = ((λ h. absurd (omega (arith, h))), (λ h g k. false≢true g), (λ h. refl))
      go false true t e = ((λ h. refl), (λ h g k. false≢true (sym e ∙ eq-eqb n part_size k)), (λ h. refl))
      go false false true e = ((λ h. absurd (omega (arith, h))), (λ h g k. false≢true g), (λ h. refl))
      go false false false e = ((λ h. absurd (omega (arith, h))), (λ h g k. false≢true g), (λ h. refl))

below : (m n k : ℕ) → m ≡ n → (m ≡ 32 → ⊥) → n ≡ min 32 k → n < 32
below m n k e h l = go (ltb n 32) refl
  where
    go : (t : Bool) → ltb n 32 ≡ t → n < 32
    go true f = ltb-true n 32 f
    go false f = absurd (h (omega (arith, e, l, ltb-false n 32 f)))

-- ---- the loop over parts: the lines are level up to part i

abbrev pub left_of : ℕ → List ℕ → List ℕ
left_of i a = take (line_size - i * 32) (drop (i * 32) a)

pub record Level (a b : List ℕ) (i : ℕ) : Type 0 where
  pub level : bytes_compared (take line_size a) (take line_size b) ≡ bytes_compared (left_of i a) (left_of i b)

module _ (a b : List ℕ) where
  module _ (i : ℕ) (v : Level a b i) where
    pub level_end : 128 ≤ i → 1 ≡ bytes_compared (take line_size a) (take line_size b)
    unfolding bytes_compared same pick
    level_end h = let none : line_size - i * 32 ≡ 0 = omega arith in sym (v.level ∙ rw none)

    module _ (c : ℕ) (p q : Part) (h : i < 128) (ep : PartOf p (i * 32) a) (eq : PartOf q (i * 32) b)
        (e : c ≡ parts_compared p.size (take p.size p.bytes) (take q.size q.bytes)) where
      part_of_left : (xs : List ℕ) → take part_size (left_of i xs) ≡ take part_size (drop (i * 32) xs)
      part_of_left xs = take-take part_size (line_size - i * 32) (drop (i * 32) xs) (omega arith)

      after_part : (xs : List ℕ) → drop part_size (left_of i xs) ≡ left_of (i + 1) xs
      after_part xs =
          let sum : line_size - i * 32 ≡ 32 + (line_size - (i + 1) * 32) = omega arith in
          let place : i * 32 + 32 ≡ (i + 1) * 32 = omega arith in
          ap (λ (k : ℕ). drop part_size (take k (drop (i * 32) xs))) sum ∙ drop_take 32 (line_size - (i + 1) * 32) (drop (i * 32) xs)
          ∙ ap (take (line_size - (i + 1) * 32)) (drop-drop part_size (i * 32) xs ∙ ap (λ (k : ℕ). drop k xs) place)

      abbrev here : List ℕ
      here = take part_size (left_of i a)

      abbrev there : List ℕ
      there = take part_size (left_of i b)

      tells : Told p.size here there c (bytes_compared here there) (same here there)
      tells =
          let first = ep.shows ∙ sym (part_of_left a) in
          let second = eq.shows ∙ sym (part_of_left b) in
          rw (e, first, second) (parts_told p.size here there)

      level_passed : 3 ≤ c → Level a b (i + 1)
      level_passed k = record {
        level = v.level ∙ front_passed 32 (left_of i a) (left_of i b) (tells.0 k) ∙ ap₂ bytes_compared (after_part a) (after_part b);
      }

      level_told : c < 3 → c ≡ bytes_compared (take line_size a) (take line_size b)
      unfolding bytes_compared pick
      level_told k = go (same here there) refl
        where
          go : (s : Bool) → same here there ≡ s → c ≡ bytes_compared (take line_size a) (take line_size b)
          go true g =
              let size : p.size ≡ length here = ep.sized ∙ ap length (sym (part_of_left a)) in
              let full : p.size ≡ 32 → ⊥ = tells.1 k g in
              let short : length here < 32 = below p.size (length here) _ size full (length-take 32 (left_of i a)) in
              tells.2 k ∙ rw g (sym (v.level ∙ short_same 32 (left_of i a) (left_of i b) g short))
          go false g = tells.2 k ∙ sym (v.level ∙ front_decides 32 (left_of i a) (left_of i b) g)

    module _ (r : Option Ordering) (p q : Part) (h : i < 128) (ep : PartOf p (i * 32) a) (eq : PartOf q (i * 32) b)
        (e : seen_index r ≡ parts_compared p.size (take p.size p.bytes) (take q.size q.bytes)) where
      pub level_on : r ≡ None → Level a b (i + 1)
      unfolding seen_index
      level_on w = level_passed 3 p q h ep eq (rw w at e) (omega arith)

      pub level_decided : (o : Ordering) → r ≡ Some o → ordering_index o ≡ bytes_compared (take line_size a) (take line_size b)
      unfolding seen_index
      level_decided o w = level_told (ordering_index o) p q h ep eq (rw w at e) (index_few o)

-- ---- what is bytes-compared

module _ (text tape w : List ℕ) (o : Ordering) where
  whole_compared : (a b : List ℕ) → length a ≤ line_size → length b ≤ line_size → ordering_index o ≡ bytes_compared (take line_size a) (take line_size b)
      → ordering_index o ≡ bytes_compared a b
  whole_compared a b h k e = e ∙ ap₂ bytes_compared (take_all line_size a h) (take_all line_size b k)

  pub origins_compared : (r s : Row)
      → ordering_index o ≡ bytes_compared (take line_size (facet_text text tape w Origin r)) (take line_size (facet_text text tape w Origin s))
      → ordering_index o ≡ bytes_compared (origin_text (origin_of text tape r.origin)) (origin_text (origin_of text tape s.origin))
  unfolding facet_text
  origins_compared r s e = whole_compared _ _ (origin_size text tape r.origin) (origin_size text tape s.origin) e

  pub types_told : (r s : Row) (b n : ℕ) (t : Bool) → t ≡ is_le o
      → ordering_index o ≡ bytes_compared (take line_size (facet_text text tape w (Shape b n) r)) (take line_size (facet_text text tape w (Shape b n) s))
      → length r.sorts ≡ 9 → length s.sorts ≡ 9
      → t ≡ bytes_not_after (shape_text (items_at text tape w b n) (shape_of text tape r.kind r.sorts))
      (shape_text (items_at text tape w b n) (shape_of text tape s.kind s.sorts))
  unfolding facet_text
  types_told r s b n t g e h k =
      let first = shape_size text tape (items_at text tape w b n) r.kind r.sorts h in
      let second = shape_size text tape (items_at text tape w b n) s.kind s.sorts k in
      bytes_told _ _ o t g (whole_compared _ _ first second e)

pub ruleset parts = (origin_put, shape_put, part_written, parts_level, parts_differ, parts_last)

pub ruleset levels = (level_end, level_on, level_decided, origins_compared, types_told, bytes_told)

pub ruleset cases = (parts, levels, rules)
