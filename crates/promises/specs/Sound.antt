-- What the checks leave: no two different items of an accepted normal form tie in its order. First what that is, then that unions and
-- translations keep it.
use Rattle.std.specs.Prelude.{◌≡◌, ◌⊎◌, suc, ◌+◌, ◌^◌, ◌≤◌, ◌<◌, Bool, true, false, not, length}
use Rattle.std.proofs.Math.Path.{refl}
use Rattle.std.proofs.Common.{sym, ap, subst, ◌∙◌, ⊎_elim, arith, lit<}
use Rattle.std.proofs.Math.Option.{none}
use Rattle.std.proofs.lemmas.Bool.{false≢true, not-false}
use mathlib.Core.List.Memᴰ
use mathlib.Core.List.{List, [], ◌∷◌, ◌++◌, map, Memᴰ}
use Rattle.meaning.specs.Laws.{by_cases}
use Rattle.meaning.specs.Lists.{keep, union}
use Rattle.meaning.specs.Names.{Name, same, bytes_not_after, not_after, by_name}
use Rattle.meaning.specs.Origins.{Section, export_section, parameter_section, hidden_section, Origin, Sort, visible_sort, hidden_sort, Shape, sort_shape, function_shape, variable_shape, is_sort, is_function, FunctionType, one_item, Item}
use Rattle.meaning.specs.Checks.{fine, least_at_odds, other_origin, sorts_clash, functions_clash, consistent}
use Rattle.meaning.specs.Normal.{Slot, same_slot, is_parameter_of, move_sort, move_type, move_shape, move_name, move_item, move_hidden_item, move_visible, move_hidden, move, unite, unite_visible, unite_hidden, Visible, Normal, sorts_among}
use Rattle.meaning.specs.Written.{origin_text, shape_rank, visible_in_order}
use Rattle.promises.specs.ListingLaws.{Plain, told_origin, origins_of, SortIn, ShapeIn, told_shape, slot_equal}
use Rattle.meaning.specs.Grammar.{name, is}
use Rattle.meaning.specs.OrderLaws.{Pairwise, sorted_rearranged, sorted_length, rearranged_member, none_at_odds, Every, same_self}
use Rattle.laws.specs.Decides.{both_true, items_decided, origins_decided, shapes_decided}
use Rattle.laws.specs.EveryLaws.{every_so, every_append, kept_member, every_keep, pairwise_members}
use Rattle.laws.specs.EveryLaws.{every_member, every_map, every_union, every_any, any_found, in_union_left, in_union_right, member_keep, member_map_to}
use Rattle.laws.specs.Outcomes.{both_fine as then_fine}
use Rattle.meaning.specs.OutcomeLaws.{unless_fine}
use Rattle.laws.specs.OwnItems.{declared_name}
use Rattle.promises.specs.SameListing.{HiddenTold, ItemsTold, SlotsTold, VisibleTold, sorts_in_order}
use Rattle.promises.specs.Told.{Few, Sound, SoundHidden, SoundVisible, Stands, StandsIn, item_of_origin, origin_of_item, shape_wider}

-- ---- what is accepted is told: no two of its different items tie

-- no two items are at odds, in the one order or the other
pub compatible : (wrong : Item → Item → Bool) (is : List Item) → least_at_odds (λ (i : Item). i.name) wrong is ≡ none → (a b : Item)
    → Memᴰ a is → Memᴰ b is → (a ≡ b) ⊎ ((wrong a b ≡ false) ⊎ (wrong b a ≡ false))
unfolding least_at_odds
compatible wrong is e a b m k =
    let d = sorted_rearranged (λ (x y : Item). not_after x.name y.name) is in
    pairwise_members (λ x y. wrong x y ≡ false) (by_name (λ (i : Item). i.name) is) a b
    (none_at_odds (λ (i : Item). i.name) wrong (by_name (λ (i : Item). i.name) is) e) (rearranged_member d m) (rearranged_member d k)

sorts_agree : (a b : Item) → a.shape ≡ sort_shape → b.shape ≡ sort_shape → a.name ≡ b.name → sorts_clash a b ≡ false → a.origin ≡ b.origin
unfolding sorts_clash other_origin is_sort
sorts_agree a b p q n e = origins_decided.equal a.origin b.origin (not-false _ (rw (p, q, n, same_self b.name) at e))

pub functions_agree : (a b : Item) (t : FunctionType) → a.shape ≡ function_shape t → b.shape ≡ function_shape t → a.name ≡ b.name
    → functions_clash a b ≡ false → a.origin ≡ b.origin
unfolding functions_clash other_origin is_function
functions_agree a b t p q n e =
    origins_decided.equal a.origin b.origin (not-false _ (rw (p, q, n, same_self b.name, shapes_decided.self (function_shape t)) at e))

pub no_variable : (s : Shape) (r : Sort) → shape_rank s ≤ 1 → s ≡ variable_shape r → ⊥
unfolding shape_rank
no_variable s r h e = omega (arith, rw e at h)

-- after 15, parameters in order are of different names
pub parameters_once : (v : Visible) (own : List Item) → consistent v own ≡ fine tt
    → Pairwise (λ p q. same p.name q.name ≡ false) (visible_in_order v).parameters
unfolding consistent least_at_odds visible_in_order
parameters_once v own c =
    none_at_odds (λ (p : Slot). p.name) (λ p q. same p.name q.name) (by_name (λ (p : Slot). p.name) v.parameters)
    (unless_fine _ _ (then_fine _ _ c).0)

-- so the name tells the parameter
pub once_told : (ps : List Slot) → Pairwise (λ p q. same p.name q.name ≡ false) ps → SlotsTold ps
once_told ps h p q m k e =
    ⊎_elim (λ r. r) (⊎_elim (λ r. absurd (other p q r e)) (λ r. absurd (other q p r (sym e))))
    (pairwise_members (λ x y. same x.name y.name ≡ false) ps p q h m k)
  where
    other : (x y : Slot) → same x.name y.name ≡ false → x.name ≡ y.name → ⊥
    other x y r e = false≢true (sym r ∙ ap (same x.name) (sym e) ∙ same_self x.name)

slots_told : (v : Visible) (own : List Item) → consistent v own ≡ fine tt → SlotsTold v.parameters
unfolding visible_in_order
slots_told v own c p q m k e =
    let d = sorted_rearranged (λ (x y : Slot). not_after x.name y.name) v.parameters in
    once_told _ (parameters_once v own c) p q (rearranged_member d m) (rearranged_member d k) e

-- after 10, visible items of one kind, name and written type are one
visible_told : (v : Visible) (own : List Item) → consistent v own ≡ fine tt → Every SoundVisible v.items → VisibleTold v.items
unfolding consistent
visible_told v own c sound a b m k standing rank name text =
    let after_15 = (then_fine _ _ c).1 in
    let sorts = unless_fine _ _ (then_fine _ _ after_15).0 in
    let functions = unless_fine _ _ (then_fine _ _ (then_fine _ _ after_15).1).0 in
    let h = every_member SoundVisible v.items sound a m in
    let g = every_member SoundVisible v.items sound b k in
    let shapes = told_shape [] (lit< tt) a.shape b.shape h.shape g.shape rank text in
    go a.shape refl h g shapes (compatible sorts_clash (v.items ++ own) sorts a b (Memᴰ.append_left own m) (Memᴰ.append_left own k))
    (compatible functions_clash (v.items ++ own) functions a b (Memᴰ.append_left own m) (Memᴰ.append_left own k))
  where
    one : a.shape ≡ b.shape → SoundVisible a → SoundVisible b → a.origin ≡ b.origin → a ≡ b
    one shapes h g origins =
        let standings = h.standing ∙ ap (λ (p : Origin). p.section) origins ∙ sym g.standing in
        λ x. record { standing = standings x; name = name x; shape = shapes x; origin = origins x }

    go : (s : Shape) → a.shape ≡ s → SoundVisible a → SoundVisible b → a.shape ≡ b.shape
        → (a ≡ b) ⊎ ((sorts_clash a b ≡ false) ⊎ (sorts_clash b a ≡ false))
        → (a ≡ b) ⊎ ((functions_clash a b ≡ false) ⊎ (functions_clash b a ≡ false)) → a ≡ b
    go sort_shape e h g shapes p q =
        let f = sym shapes ∙ e in
        ⊎_elim (λ r. r) (⊎_elim (λ r. one shapes h g (sorts_agree a b e f name r)) (λ r. one shapes h g (sym (sorts_agree b a f e (sym name) r)))) p
    go (function_shape t) e h g shapes p q =
        let f = sym shapes ∙ e in
        ⊎_elim (λ r. r)
        (⊎_elim (λ r. one shapes h g (functions_agree a b t e f name r)) (λ r. one shapes h g (sym (functions_agree b a t f e (sym name) r)))) q
    go (variable_shape s) e h g shapes p q = absurd (no_variable a.shape s h.kind e)

keep_fewer : {A : Type 0} (p : A → Bool) (xs : List A) → length (keep p xs) ≤ length xs
unfolding keep
keep_fewer p [] = omega arith
keep_fewer {A} p (x ∷ xs) =
    let r = keep_fewer p xs in by_cases (λ (ys : List A). length ys ≤ suc (length xs)) _ _ _ (λ e. omega arith) (λ e. omega arith)

hidden_told : (is : List Item) → length is + 1 < 10 ^ 10 → Every (SoundHidden is) is → HiddenTold (sorts_in_order is) is
unfolding sorts_among
hidden_told is few sound a b m k rank origin text =
    let h = every_member (SoundHidden is) is sound a m in
    let g = every_member (SoundHidden is) is sound b k in
    let origins = told_origin a.origin b.origin h.origin g.origin origin in
    let shapes =
    told_shape (sorts_in_order is) fewer a.shape b.shape (shape_wider (sorts_among is) (sorts_in_order is) placed a.shape h.shape)
    (shape_wider (sorts_among is) (sorts_in_order is) placed b.shape g.shape) rank text in
    let names = h.name ∙ ap (λ (o : Origin). declared_name o.declared) origins ∙ sym g.name in
    let standings = h.standing ∙ sym g.standing in
    λ x. record { standing = standings x; name = names x; shape = shapes x; origin = origins x }
  where
    by_origin : Item → Item → Bool
    by_origin i j = bytes_not_after (origin_text i.origin) (origin_text j.origin)

    placed : (o : Origin) → Memᴰ o (origins_of (sorts_among is)) → Memᴰ o (origins_of (sorts_in_order is))
    placed o q =
        let r = item_of_origin (sorts_among is) q in origin_of_item (rearranged_member (sorted_rearranged by_origin (sorts_among is)) r.1) o r.2

    fewer : length (sorts_in_order is) + 1 < 10 ^ 10
    fewer = omega (arith, sorted_length by_origin (sorts_among is), keep_fewer (λ (i : Item). is_sort i.shape) is)

-- a sound normal form that passes 15, 10 and 11 has one listing
pub sound_told : (n : Normal) (own : List Item) → consistent n.visible own ≡ fine tt → Sound n → Few n → ItemsTold n
sound_told n own c s few = record {
  parameters = slots_told n.visible own c;
  visible = visible_told n.visible own c s.visible;
  hidden = hidden_told n.hidden.items few s.hidden;
}

-- ---- what is evaluated is sound, where the names of the text are identifiers: unions

-- a sort item of this origin
abbrev pub HasSort : Origin → List Item → Type 0
HasSort o is = (i : Item) × Memᴰ i is × (is_sort i.shape ≡ true) × (o ≡ i.origin)

pub union_left : (xs ys : List Item) (i : Item) → Memᴰ i xs → Memᴰ i (union one_item xs ys)
union_left = in_union_left one_item

pub union_right : (xs ys : List Item) (i : Item) → Memᴰ i ys → Memᴰ i (union one_item xs ys)
union_right xs ys = in_union_right one_item (λ i. Unit {0}) (λ a b p q. items_decided.equal a b) xs ys (every_any xs) (every_any ys)

-- every hidden sort of the one is one of the other
abbrev Covers : List Item → List Item → Type 0
Covers is js = (o : Origin) → HasSort o is → HasSort o js

has_sort : (is : List Item) (o : Origin) → Memᴰ o (origins_of (sorts_among is)) → HasSort o is
unfolding sorts_among
has_sort is o m =
    let r = item_of_origin (sorts_among is) m in
    let k = kept_member (λ (i : Item). is_sort i.shape) is r.1 in
    (r.0, k.0, k.1, r.2)

pub sort_had : (is : List Item) (o : Origin) → HasSort o is → Memᴰ o (origins_of (sorts_among is))
unfolding sorts_among
sort_had is o h = origin_of_item (member_keep (λ (i : Item). is_sort i.shape) is h.0 h.1 h.2) o h.3

pub all_wider : (is js ks : List Item) → Covers is js → Every (SoundHidden is) ks → Every (SoundHidden js) ks
all_wider is js ks c =
    let wider = shape_wider (sorts_among is) (sorts_among js) (λ o m. sort_had js o (c o (has_sort is o m))) in
    every_so (SoundHidden is) (SoundHidden js) ks
    (λ i h. record { standing = h.standing; name = h.name; shape = wider i.shape h.shape; origin = h.origin })

-- more parameters, more places to stand
stands_wider : (ps qs : List Slot) → ((p : Slot) → Memᴰ p ps → Memᴰ p qs) → (home : Name) (s : Section) → StandsIn ps home s → StandsIn qs home s
stands_wider ps qs w home export_section h = tt
stands_wider ps qs w home hidden_section h = h
stands_wider ps qs w home (parameter_section p) h = w _ h

pub all_stand : (ps qs : List Slot) (is : List Item) → ((p : Slot) → Memᴰ p ps → Memᴰ p qs) → Every (Stands ps) is → Every (Stands qs) is
all_stand ps qs is w h = every_so (Stands ps) (Stands qs) is (λ i k. stands_wider ps qs w i.origin.home i.standing k) h

-- of b's parameters those are left out that a has
united_right : (a b : Visible) (q : Slot) → Memᴰ q b.parameters → Memᴰ q (unite_visible a b).parameters
unfolding unite_visible is_parameter_of
united_right a b q m = go (is_parameter_of a b q) refl
  where
    go : (t : Bool) → is_parameter_of a b q ≡ t → Memᴰ q (unite_visible a b).parameters
    go true e =
        let r = any_found (same_slot q) a.parameters (both_true _ _ e).0 in
        Memᴰ.append_left _ (subst (λ (p : Slot). Memᴰ p a.parameters) (sym (slot_equal q r.0 r.2)) r.1)
    go false e = Memᴰ.append_right a.parameters (member_keep (λ (p : Slot). not (is_parameter_of a b p)) b.parameters q m (ap not e))

-- a and b together, where `more` are the parameters that b adds
module _ (a b : Normal) (more : List Slot) where
  unfoldable pub together : Normal
  together = record {
    visible = record { parameters = a.visible.parameters ++ more; items = union one_item a.visible.items b.visible.items };
    hidden = unite_hidden a.hidden b.hidden;
  }

  pub together_sound : Every (λ p. Plain p.name) more → ((p : Slot) → Memᴰ p b.visible.parameters → Memᴰ p (a.visible.parameters ++ more))
      → Sound a → Sound b → Sound together
  unfolding together unite_hidden
  together_sound plain there s t =
      let is = a.hidden.items in
      let js = b.hidden.items in
      let ks = union one_item is js in
      let ps = a.visible.parameters ++ more in
      record {
        parameters = every_append (λ p. Plain p.name) a.visible.parameters more s.parameters plain;
        standing =
            every_union (Stands ps) one_item a.visible.items b.visible.items
            (all_stand _ ps a.visible.items (λ p m. Memᴰ.append_left more m) s.standing) (all_stand _ ps b.visible.items there t.standing);
        visible = every_union SoundVisible one_item a.visible.items b.visible.items s.visible t.visible;
        hidden =
            every_union (SoundHidden ks) one_item is js
            (all_wider is ks is (λ o h. (h.0, union_left is js h.0 h.1, h.2, h.3)) s.hidden)
            (all_wider js ks js (λ o h. (h.0, union_right is js h.0 h.1, h.2, h.3)) t.hidden);
      }

pub unite_sound : (a b : Normal) → Sound a → Sound b → Sound (unite a b)
unfolding unite unite_visible together
unite_sound a b s t =
    together_sound a b _ (every_keep (λ p. Plain p.name) _ b.visible.parameters t.parameters) (united_right a.visible b.visible) s t

-- ---- translation by new names that are plain

module _ (σ : Name → Name) (φ : Name → FunctionType → Name) (plain_σ : (w : Name) → Plain w → Plain (σ w))
    (plain_φ : (f : Name) (t : FunctionType) → Plain f → Plain (φ f t)) where
  move_sort_in : (is : List Item) (s : Sort) → SortIn is s → SortIn is (move_sort σ φ s)
  unfolding move_sort
  move_sort_in is (visible_sort a) h = plain_σ a h
  move_sort_in is (hidden_sort o) h = h

  move_shape_in : (is : List Item) (s : Shape) → ShapeIn is s → ShapeIn is (move_shape σ φ s)
  unfolding move_shape move_type
  move_shape_in is sort_shape h = tt
  move_shape_in is (function_shape t) h =
      (every_map (SortIn is) (SortIn is) (move_sort σ φ) (move_sort_in is) t.inputs h.0, move_sort_in is t.output h.1)
  move_shape_in is (variable_shape s) h = move_sort_in is s h

  move_kind : (s : Shape) → shape_rank (move_shape σ φ s) ≡ shape_rank s
  unfolding move_shape shape_rank
  move_kind sort_shape = refl
  move_kind (function_shape t) = refl
  move_kind (variable_shape s) = refl

  move_is_sort : (s : Shape) → is_sort (move_shape σ φ s) ≡ is_sort s
  unfolding move_shape is_sort
  move_is_sort sort_shape = refl
  move_is_sort (function_shape t) = refl
  move_is_sort (variable_shape s) = refl

  move_name_plain : (w : Name) (s : Shape) → Plain w → Plain (move_name σ φ w s)
  unfolding move_name
  move_name_plain w sort_shape h = plain_σ w h
  move_name_plain w (function_shape t) h = plain_φ w t h
  move_name_plain w (variable_shape s) h = h

  move_item_sound : (i : Item) → SoundVisible i → SoundVisible (move_item σ φ i)
  unfolding move_item
  move_item_sound i h = record {
    standing = h.standing;
    kind = rw (move_kind i.shape) h.kind;
    name = move_name_plain i.name i.shape h.name;
    shape = move_shape_in [] i.shape h.shape;
    origin = h.origin;
  }

  pub move_sound : (n : Normal) → Sound n → Sound (move σ φ n)
  unfolding move move_visible move_hidden move_item move_hidden_item
  move_sound n s =
      let is = n.hidden.items in
      let js = map (move_hidden_item σ φ) is in
      let ks = union one_item [] js in
      record {
        parameters = s.parameters;
        standing =
            every_union (Stands n.visible.parameters) one_item [] (map (move_item σ φ) n.visible.items) tt
            (every_map _ _ (move_item σ φ) (λ i k. k) n.visible.items s.standing);
        visible =
            every_union SoundVisible one_item [] (map (move_item σ φ) n.visible.items) tt
            (every_map SoundVisible SoundVisible (move_item σ φ) move_item_sound n.visible.items s.visible);
        hidden =
            every_union (SoundHidden ks) one_item [] js tt
            (all_wider is ks js (λ o h. (
              move_hidden_item σ φ h.0,
              union_right [] js (move_hidden_item σ φ h.0) (member_map_to (move_hidden_item σ φ) h.1),
              move_is_sort h.0.shape ∙ h.2,
              h.3,
            ))
            (every_map (SoundHidden is) (SoundHidden is) (move_hidden_item σ φ) (λ i h.
            record { standing = h.standing; name = h.name; shape = move_shape_in (sorts_among is) i.shape h.shape; origin = h.origin }) is
            s.hidden));
      }
