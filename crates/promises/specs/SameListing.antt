-- A normal form's listing does not depend on the order in which its items and equations were found: `one_listing`.
use Rattle.std.specs.Prelude.{◌≡◌, Bool}
use Rattle.std.proofs.Math.Path.{refl, sym}
use Rattle.std.proofs.Common.{ap, ◌∙◌, eqb-true}
use Rattle.std.proofs.Math.Bool.{true, false}
use Rattle.std.proofs.lemmas.Bool.{false≢true}
use mathlib.Core.List.Permᴰ
use mathlib.Core.List.{List, [], ◌∷◌, map, map-map, Memᴰ}
use Rattle.meaning.specs.Lists.{pick, keep, sorted}
use Rattle.meaning.specs.Names.{Name, bytes_not_after, not_after, by_bytes}
use Rattle.meaning.specs.Origins.{Shape, sort_shape, function_shape, variable_shape, is_sort, Item, ResolvedEquation}
use Rattle.meaning.specs.Normal.{Slot, Visible, Normal, sorts_among}
use Rattle.meaning.specs.Written.{origin_text, shape_text, equation_text, equation_order, shape_rank, standing_text, visible_order, visible_in_order, hidden_order, hidden_in_order, in_order}
use Rattle.meaning.specs.Listing.{line, lines_text, equation_line, hidden_lines, listing_lines}
use Rattle.meaning.specs.Grammar.{is}
use Rattle.meaning.specs.OrderLaws.{Rearranged, NoTie, order_of, then_both, bytes_ordered, bytes_antisymmetric, bytes_levelled, names_ordered, same_equal, by_two_both, sorted_map, sorted_one, sorted_rearranged}
use Rattle.meaning.proofs.OrderLaws.{names_levelled, not_after_antisymmetric}
use Rattle.meaning.specs.ListingOrder.{by_rank, hidden_ordered, Place, place_order, by_position, place_ordered, by_module}
use Rattle.meaning.proofs.ListingOrder.{by_standing, visible_ordered}
use Rattle.laws.specs.EveryLaws.{kept_member}

-- ---- the same items and equations, in whatever order

pub record SameNormal (n n' : Normal) : Type 0 where
  pub parameters : Rearranged n.visible.parameters n'.visible.parameters
  pub items : Rearranged n.visible.items n'.visible.items
  pub hidden_items : Rearranged n.hidden.items n'.hidden.items
  pub equations : Rearranged n.hidden.equations n'.hidden.equations

-- ---- what is told of an item tells the item

-- visible items that stand in one place, of one kind, name and written type, are one
abbrev pub VisibleTold : List Item → Type 0
VisibleTold is =
    (a b : Item) → Memᴰ a is → Memᴰ b is → standing_text a.standing ≡ standing_text b.standing
    → shape_rank a.shape ≡ shape_rank b.shape → a.name ≡ b.name → shape_text [] a.shape ≡ shape_text [] b.shape → a ≡ b

-- hidden items of one kind, written origin and written type are one
abbrev pub HiddenTold : List Item → List Item → Type 0
HiddenTold sorts is =
    (a b : Item) → Memᴰ a is → Memᴰ b is → shape_rank a.shape ≡ shape_rank b.shape
    → origin_text a.origin ≡ origin_text b.origin → shape_text sorts a.shape ≡ shape_text sorts b.shape → a ≡ b

-- equations of one module, position and written line are one
abbrev pub EquationsTold : List Item → List ResolvedEquation → Type 0
EquationsTold hidden es =
    (a b : ResolvedEquation) → Memᴰ a es → Memᴰ b es → a.module_number ≡ b.module_number → a.position ≡ b.position
    → equation_text hidden a ≡ equation_text hidden b → a ≡ b

abbrev pub sorts_in_order : List Item → List Item
sorts_in_order is = by_bytes (λ (i : Item). origin_text i.origin) (sorts_among is)

-- parameters of one name are one
abbrev pub SlotsTold : List Slot → Type 0
SlotsTold ps = (p q : Slot) → Memᴰ p ps → Memᴰ q ps → p.name ≡ q.name → p ≡ q

-- of equations nothing is asked, since those that tie are written alike
pub record ItemsTold (n : Normal) : Type 0 where
  pub parameters : SlotsTold n.visible.parameters
  pub visible : VisibleTold n.visible.items
  pub hidden : HiddenTold (sorts_in_order n.hidden.items) n.hidden.items

-- ---- the visible part

visible_no_tie : (is : List Item) → VisibleTold is → NoTie visible_order is
unfolding visible_order
visible_no_tie is told a b m k e f =
    let r = then_both by_standing a b _ _ e f in
    let s = then_both by_rank a b _ _ r.1 r.2 in
    let t = by_two_both not_after names_levelled (λ (i : Item). i.name) (λ (i : Item). shape_text [] i.shape) a b s.1 s.2 in
    told a b m k (same_equal _ _ r.0) (eqb-true _ _ s.0) t.0 t.1

pub visible_items_one : (v v' : Visible) → Rearranged v.items v'.items → VisibleTold v.items
    → (visible_in_order v).items ≡ (visible_in_order v').items
unfolding visible_in_order
visible_items_one v v' d told = sorted_one visible_ordered d (visible_no_tie v.items told)

visible_one : (v v' : Visible) → Rearranged v.parameters v'.parameters → Rearranged v.items v'.items → SlotsTold v.parameters
    → VisibleTold v.items → visible_in_order v ≡ visible_in_order v'
unfolding visible_in_order
visible_one v v' p d slots told =
    rw (
      sorted_one (order_of names_ordered (λ (q : Slot). q.name)) p (λ u w m k e f. slots u w m k (not_after_antisymmetric u.name w.name e f)),
      visible_items_one v v' d told,
    )

-- ---- the hidden items

module _ {A : Type 0} (p : A → Bool) where
  pub keep_rearranged : {xs ys : List A} → Rearranged xs ys → Rearranged (keep p xs) (keep p ys)
  unfolding keep pick
  keep_rearranged Permᴰ.nil = Permᴰ.nil
  keep_rearranged (Permᴰ.cons {a = a} {l₁ = xs} {l₂ = ys} e d) = rw (← e) (go (p a) (keep_rearranged d))
    where
      go : (b : Bool) → Rearranged (keep p xs) (keep p ys) → Rearranged (pick b (a ∷ keep p xs) (keep p xs)) (pick b (a ∷ keep p ys) (keep p ys))
      go true i = Permᴰ.cons refl i
      go false i = i
  keep_rearranged (Permᴰ.swap {a = a} {b = b} {l = l} e f) = rw (← e, ← f) (go (p a) (p b))
    where
      go : (s t : Bool) → Rearranged (pick s (a ∷ pick t (b ∷ keep p l) (keep p l)) (pick t (b ∷ keep p l) (keep p l)))
          (pick t (b ∷ pick s (a ∷ keep p l) (keep p l)) (pick s (a ∷ keep p l) (keep p l)))
      go true true = Permᴰ.swap refl refl
      go true false = Permᴰ.refl (a ∷ keep p l)
      go false true = Permᴰ.refl (b ∷ keep p l)
      go false false = Permᴰ.refl (keep p l)
  keep_rearranged (Permᴰ.trans d d') = Permᴰ.trans (keep_rearranged d) (keep_rearranged d')

sort_only : (s : Shape) → is_sort s ≡ true → s ≡ sort_shape
unfolding is_sort
sort_only sort_shape e = refl
sort_only (function_shape t) e = absurd (false≢true e)
sort_only (variable_shape r) e = absurd (false≢true e)

module _ (is is' : List Item) (d : Rearranged is is') (told : HiddenTold (sorts_in_order is) is) where
  hidden_sorts_one : sorts_in_order is ≡ sorts_in_order is'
  unfolding sorts_among
  hidden_sorts_one =
      sorted_one (order_of bytes_ordered (λ (i : Item). origin_text i.origin)) (keep_rearranged (λ (i : Item). is_sort i.shape) d)
      (λ a b m k e f.
      let p = kept_member (λ (i : Item). is_sort i.shape) is m in
      let q = kept_member (λ (i : Item). is_sort i.shape) is k in
      let shapes = sort_only a.shape p.1 ∙ sym (sort_only b.shape q.1) in
      told a b p.0 q.0 (ap shape_rank shapes) (bytes_antisymmetric _ _ e f) (ap (shape_text (sorts_in_order is)) shapes))

hidden_no_tie : (sorts is : List Item) → HiddenTold sorts is → NoTie (hidden_order sorts) is
unfolding hidden_order
hidden_no_tie sorts is told a b m k e f =
    let r = then_both by_rank a b _ _ e f in
    let t = by_two_both bytes_not_after bytes_levelled (λ (i : Item). origin_text i.origin) (λ (i : Item). shape_text sorts i.shape) a b r.1 r.2 in
    told a b m k (eqb-true _ _ r.0) t.0 t.1

abbrev pub items_in_order : List Item → List Item
items_in_order is = sorted (hidden_order (sorts_in_order is)) is

hidden_items_one : (is is' : List Item) → Rearranged is is' → HiddenTold (sorts_in_order is) is → items_in_order is ≡ items_in_order is'
hidden_items_one is is' d told =
    sorted_one (hidden_ordered (sorts_in_order is)) d (hidden_no_tie (sorts_in_order is) is told)
    ∙ ap (λ sorts. sorted (hidden_order sorts) is') (hidden_sorts_one is is' d told)

-- ---- equations are sorted by module, position and written line

-- places in order both ways round are equal
place_told : (a b : Place) → place_order a b ≡ true → place_order b a ≡ true → a ≡ b
unfolding place_order
place_told a b e f =
    let r = then_both by_module a b _ _ e f in
    let s = then_both by_position a b _ _ r.1 r.2 in
    let homes = eqb-true a.module_number b.module_number r.0 in
    let positions = eqb-true a.position b.position s.0 in
    let texts = bytes_antisymmetric a.text b.text s.1 s.2 in
    λ i. record { module_number = homes i; position = positions i; text = texts i }

module _ (hidden : List Item) where
  place_of : ResolvedEquation → Place
  place_of e = record { module_number = e.module_number; position = e.position; text = equation_text hidden e }

  abbrev ordered_equations : List ResolvedEquation → List ResolvedEquation
  ordered_equations es = sorted (equation_order hidden) es

  lines_of_places : (es : List ResolvedEquation)
      → map (equation_line hidden) es ≡ map (λ (p : Place). line "equation" p.text) (map place_of es)
  unfolding place_of equation_line
  lines_of_places es = sym (map-map (λ (p : Place). line "equation" p.text) place_of es)

  ordered_places : (es : List ResolvedEquation) → map place_of (ordered_equations es) ≡ sorted place_order (map place_of es)
  unfolding equation_order place_order place_of
  ordered_places es = sorted_map place_of (equation_order hidden) place_order (λ a b. refl) [] es

  equation_lines_one : {es es' : List ResolvedEquation} → Rearranged es es'
      → map (equation_line hidden) (ordered_equations es) ≡ map (equation_line hidden) (ordered_equations es')
  equation_lines_one {es} {es'} d =
      lines_of_places (ordered_equations es)
      ∙ ap (map (λ (p : Place). line "equation" p.text))
      (ordered_places es ∙ sorted_one place_ordered (Permᴰ.map place_of d) (λ a b m k e f. place_told a b e f) ∙ sym (ordered_places es'))
      ∙ sym (lines_of_places (ordered_equations es'))

  equations_one : {es es' : List ResolvedEquation} → Rearranged es es' → EquationsTold hidden es
      → ordered_equations es ≡ ordered_equations es'
  unfolding equation_order place_order place_of
  equations_one d told =
      sorted_one (order_of place_ordered place_of) d (λ a b m k e f.
      let p = place_told (place_of a) (place_of b) e f in
      told a b m k (ap (λ (x : Place). x.module_number) p) (ap (λ (x : Place). x.position) p) (ap (λ (x : Place). x.text) p))

-- ---- one listing

module _ (n n' : Normal) (s : SameNormal n n') (t : ItemsTold n) where
  -- two normal forms with the same items and equations, in any order, have the same listing
  pub one_listing : (asked : Name) → lines_text (listing_lines asked (in_order n)) ≡ lines_text (listing_lines asked (in_order n'))
  unfolding listing_lines in_order hidden_lines hidden_in_order
  one_listing asked =
      rw (
        visible_one n.visible n'.visible s.parameters s.items t.parameters t.visible,
        equation_lines_one (items_in_order n.hidden.items) s.equations,
        hidden_items_one n.hidden.items n'.hidden.items s.hidden_items t.hidden,
      )

  -- and are one normal form in order, if no two different equations of one module and position are written alike: a written equation does
  -- not show the types of its functions. In an accepted form they are told nonetheless: `accepted_equations_told`
  pub one_order : EquationsTold (items_in_order n.hidden.items) n.hidden.equations → in_order n ≡ in_order n'
  unfolding in_order hidden_in_order
  one_order told =
      rw (
        visible_one n.visible n'.visible s.parameters s.items t.parameters t.visible,
        equations_one (items_in_order n.hidden.items) s.equations told,
        hidden_items_one n.hidden.items n'.hidden.items s.hidden_items t.hidden,
      )

-- put in order it is the same
pub same_ordered : (n : Normal) → SameNormal n (in_order n)
unfolding in_order visible_in_order hidden_in_order
same_ordered n = record {
  parameters = sorted_rearranged _ n.visible.parameters;
  items = sorted_rearranged visible_order n.visible.items;
  hidden_items = sorted_rearranged (hidden_order (sorts_in_order n.hidden.items)) n.hidden.items;
  equations = sorted_rearranged (equation_order (items_in_order n.hidden.items)) n.hidden.equations;
}
