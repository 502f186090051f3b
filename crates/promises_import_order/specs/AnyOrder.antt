-- The union of a list of normal forms, told without order: what it has, once each, and that a parameter has the same items in every form that has
-- it. Forms united left to right give the union of all of them (`united_all`), and where that is accepted it is so in every order, with repeats or
-- without (`united_again`): a part of it passes what all of it passes, and parameters that are one in all are one in a part.
use Rattle.std.specs.Prelude.{◌≡◌, ℕ, ◌+◌, ◌≤◌, ◌&&◌, leb, length}
use Rattle.std.proofs.Math.Path.{refl, ap}
use Rattle.std.proofs.Common.{sym, subst, ◌∙◌, arith, leb-true, le-leb}
use Rattle.std.proofs.Math.Bool.{Bool, true, false, not}
use Rattle.std.proofs.lemmas.Bool.{false≢true}
use mathlib.Core.List.Memᴰ
use mathlib.Core.List.Permᴰ
use mathlib.Core.List.{List, [], ◌++◌, append-nil, Memᴰ, ◌∷◌}
use Rattle.std.proofs.Math.Logic.{⊎_elim}
use Rattle.std.proofs.Math.Option.{Option, none, some}
use Rattle.meaning.specs.Lists.{pick, any, keep, first, all_among, union}
use Rattle.meaning.specs.Names.{Name, same}
use Rattle.meaning.specs.Numbers.{parameter_room, item_room, equation_room}
use Rattle.meaning.specs.Origins.{Section, export_section, hidden_section, parameter_section, Item, in_parameter, ResolvedEquation, Sort, visible_sort, hidden_sort, Shape, sort_shape, function_shape, variable_shape, is_sort, one_item, one_equation}
use Rattle.meaning.specs.Normal.{Slot, Visible, Normal, nothing_visible, nothing_hidden, empty, sorts_among, is_called, origin_of_item, origin_of, formals, same_slot, origins_agree, sort_agrees, shape_agrees, types_agree, same_formals, is_parameter_of, unite_visible, unite_hidden, unite}
use Rattle.meaning.specs.Checks.{fine, sorts_clash, functions_clash, overloaded, size, needs, fits, room, ◌>>=◌, ◌>>◌, consistent, checked}
use Rattle.meaning.specs.Opened.{all_opened}
use Rattle.meaning.specs.OrderLaws.{Every, Rearranged, same_equal, Pairwise, same_self}
use Rattle.meaning.specs.Evaluate.{united}
use Rattle.promises.specs.ListingLaws.{slot_equal}
use Rattle.promises.specs.SameListing.{SameNormal}
use Rattle.promises.specs.Told.{Stands, StandsIn}
use Rattle.promises.specs.Sound.{once_told}
use Rattle.promises.specs.SoundEvaluation.{fits_fine}
use Rattle.laws.specs.TypingWalk.{OfFound, first_found}
use Rattle.promises_replacing.specs.Reordering.{Tagged, sorts_clash_symmetric, functions_clash_symmetric, overloaded_symmetric, equation_equal, equation_self}
use Rattle.promises_replacing.specs.VisibleAlike.{Once, NoneAtOdds, Clear, consistent_clear, clear_consistent, clear_one}
use Rattle.promises_import_order.specs.Sets.{Among, SameSet, Distinct, set_rearranged, least_among, every_among, set_arranged, among_fewer, union_of, union_distinct}
use Rattle.meaning.specs.OutcomeLaws.{then_fine, bind_fine, fine_same}
use Rattle.laws.specs.Decides.{both_true, items_decided, origins_decided}
use Rattle.laws.specs.EveryLaws.{every_so, kept_member, every_member, any_found, any_passes, every_any, in_union_left, in_union_right, member_keep, every_of}

-- ---- what a form must be, to be united

pub record Good (tags : ℕ → ℕ → Name) (n : Normal) : Type 0 where
  pub once : Once n.visible
  pub stands : Every (Stands n.visible.parameters) n.visible.items
  pub tagged : Every (Tagged tags) n.hidden.equations

-- an item that stands in a parameter stands in one that is there
pub stands_there : (v : Visible) → Every (Stands v.parameters) v.items → (p : Name) (i : Item) → Memᴰ i v.items
    → in_parameter p i.standing ≡ true → (q : Slot) × Memᴰ q v.parameters × (p ≡ q.name)
unfolding in_parameter
stands_there v h p i m e = go i.standing (every_member (Stands v.parameters) v.items h i m) e
  where
    go : (s : Section) → StandsIn v.parameters i.origin.home s → in_parameter p s ≡ true → (q : Slot) × Memᴰ q v.parameters × (p ≡ q.name)
    go export_section k e = absurd (false≢true e)
    go hidden_section k e = absurd k
    go (parameter_section r) k e = (record { name = r; home = i.origin.home }, k, same_equal p r e)

-- ---- the union of the forms ks

-- xs has, once each, what any of the forms has
pub record Collects {A : Type 0} (part : Normal → List A) (ks : List Normal) (xs : List A) : Type 0 where
  pub to : (a : A) → Memᴰ a xs → (k : Normal) × Memᴰ k ks × Memᴰ a (part k)
  pub from : (k : Normal) → Memᴰ k ks → Among (part k) xs
  pub once : Distinct xs

abbrev pub slots : Normal → List Slot
slots n = n.visible.parameters

abbrev pub items : Normal → List Item
items n = n.visible.items

abbrev pub hidden_items : Normal → List Item
hidden_items n = n.hidden.items

abbrev pub equations : Normal → List ResolvedEquation
equations n = n.hidden.equations

pub record Unites (ks : List Normal) (n : Normal) : Type 0 where
  pub parameters : Collects slots ks (slots n)
  pub visible : Collects items ks (items n)
  pub hidden : Collects hidden_items ks (hidden_items n)
  pub equated : Collects equations ks (equations n)
  -- a parameter has the same items in every form that has it
  pub inside : (k : Normal) → Memᴰ k ks → (p : Slot) → Memᴰ p (slots k) → (i : Item) → in_parameter p.name i.standing ≡ true
      → Memᴰ i (items n) → Memᴰ i (items k)
  pub clear : Clear n.visible []
  pub fitting : room n ≡ fine tt

collects_set : {A : Type 0} (part : Normal → List A) (ks ks' : List Normal) (xs : List A) → SameSet ks ks' → Collects part ks xs → Collects part ks' xs
collects_set part ks ks' xs s c =
    record { to = λ a m. let r = c.to a m in (r.0, s.to r.0 r.1, r.2); from = λ k m. c.from k (s.from k m); once = c.once }

pub unites_set : (ks ks' : List Normal) (n : Normal) → SameSet ks ks' → Unites ks n → Unites ks' n
unites_set ks ks' n s u = record {
  parameters = collects_set slots ks ks' _ s u.parameters;
  visible = collects_set items ks ks' _ s u.visible;
  hidden = collects_set hidden_items ks ks' _ s u.hidden;
  equated = collects_set equations ks ks' _ s u.equated;
  inside = λ k m. u.inside k (s.from k m);
  clear = u.clear;
  fitting = u.fitting;
}

collects_one : {A : Type 0} (part : Normal → List A) (ks : List Normal) (xs ys : List A) → Collects part ks xs → Collects part ks ys → Rearranged xs ys
collects_one part ks xs ys c d =
    set_rearranged xs ys c.once d.once (record {
      to = λ a m. let r = c.to a m in d.from r.0 r.1 a r.2;
      from = λ a m. let r = d.to a m in c.from r.0 r.1 a r.2;
    })

-- there is one union, but for order
pub unites_one : (ks : List Normal) (n n' : Normal) → Unites ks n → Unites ks n' → SameNormal n n'
unites_one ks n n' u u' = record {
  parameters = collects_one slots ks _ _ u.parameters u'.parameters;
  items = collects_one items ks _ _ u.visible u'.visible;
  hidden_items = collects_one hidden_items ks _ _ u.hidden u'.hidden;
  equations = collects_one equations ks _ _ u.equated u'.equated;
}

pub unites_none : Unites [] empty
unfolding empty nothing_visible nothing_hidden all_opened
unites_none = record {
  parameters = nothing slots;
  visible = nothing items;
  hidden = nothing hidden_items;
  equated = nothing equations;
  inside = λ k m. elim m [ ];
  clear = record { once = tt; sorts = refl; functions = refl; overloads = refl };
  fitting = refl;
}
  where
    nothing : {A : Type 0} (part : Normal → List A) → Collects part [] []
    nothing part = record { to = λ a m. elim m [ ]; from = λ k m. elim m [ ]; once = tt }

-- ---- a part of what passes 15, 10, 11 and 18 passes

pub clear_part : (v w : Visible) → Once v → Distinct v.items → Among v.items w.items → Clear w [] → Clear v []
clear_part v w once d s c = record {
  once = once;
  sorts = part sorts_clash sorts_clash_symmetric c.sorts;
  functions = part functions_clash functions_clash_symmetric c.functions;
  overloads = part overloaded overloaded_symmetric c.overloads;
}
  where
    part : (wrong : Item → Item → Bool) → ((a b : Item) → wrong a b ≡ wrong b a) → NoneAtOdds wrong (w.items ++ []) → NoneAtOdds wrong (v.items ++ [])
    part wrong symmetric e =
        subst (NoneAtOdds wrong) (sym (append-nil v.items))
        (least_among wrong symmetric v.items w.items d s (subst (NoneAtOdds wrong) (append-nil w.items) e))

pub room_part : (a b : Normal) → length (slots a) ≤ length (slots b) → length (items a) ≤ length (items b) → length (hidden_items a) ≤ length (hidden_items b)
    → length (equations a) ≤ length (equations b) → room b ≡ fine tt → room a ≡ fine tt
unfolding room size fits needs pick
room_part a b p q r s e =
    let n = length (slots b) in
    let i = length (items b) + length (hidden_items b) in
    let t = both_true (leb n parameter_room && leb i item_room) (leb (length (equations b)) equation_room) (fits_fine _ e) in
    let w = both_true (leb n parameter_room) (leb i item_room) t.0 in
    let x = leb-true n parameter_room w.0 in
    let y = leb-true i item_room w.1 in
    let z = leb-true (length (equations b)) equation_room t.1 in
    rw (
      le-leb (length (slots a)) parameter_room (omega arith),
      le-leb (length (items a) + length (hidden_items a)) item_room (omega arith),
      le-leb (length (equations a)) equation_room (omega arith),
    )

-- ---- lists

pairwise_across : {A : Type 0} (R : A → A → Type 0) (xs ys : List A) → Pairwise R (xs ++ ys) → (a b : A) → Memᴰ a xs → Memᴰ b ys → R a b
pairwise_across R [] ys h a b m k = elim m [ ]
pairwise_across {A} R (x ∷ xs) ys h a b m k =
    ⊎_elim (λ (e : a ≡ x). subst (λ (u : A). R u b) (sym e) (every_member (R x) (xs ++ ys) h.0 b (Memᴰ.append_right xs k)))
    (λ l. pairwise_across R xs ys h.1 a b l k) (Memᴰ.cases_cons m)

pairwise_joined : {A : Type 0} (R : A → A → Type 0) (xs ys : List A) → Pairwise R xs → Pairwise R ys
    → ((a b : A) → Memᴰ a xs → Memᴰ b ys → R a b) → Pairwise R (xs ++ ys)
pairwise_joined R [] ys h k c = k
pairwise_joined R (x ∷ xs) ys h k c = (
  every_of (R x) (xs ++ ys) (λ b m. ⊎_elim (λ l. every_member (R x) xs h.0 b l) (λ l. c x b (Memᴰ.head refl) l) (Memᴰ.append_cases xs m)),
  pairwise_joined R xs ys h.1 k (λ a b m l. c a b (Memᴰ.tail m) l),
)

pairwise_kept : {A : Type 0} (R : A → A → Type 0) (p : A → Bool) (xs : List A) → Pairwise R xs → Pairwise R (keep p xs)
unfolding keep pick
pairwise_kept R p [] h = tt
pairwise_kept R p (x ∷ xs) h = go (p x) (pairwise_kept R p xs h.1)
  where
    go : (b : Bool) → Pairwise R (keep p xs) → Pairwise R (pick b (x ∷ keep p xs) (keep p xs))
    go true i = (every_of (R x) (keep p xs) (λ b m. every_member (R x) xs h.0 b (kept_member p xs m).0), i)
    go false i = i

-- each of xs is one of ys
all_among_members : (xs ys : List Item) → all_among one_item xs ys ≡ true → Among xs ys
unfolding all_among
all_among_members xs ys e i m = go (any (one_item i) ys) refl
  where
    go : (b : Bool) → any (one_item i) ys ≡ b → Memᴰ i ys
    go true f = let r = any_found (one_item i) ys f in subst (λ (j : Item). Memᴰ j ys) (sym (items_decided.equal i r.0 r.2)) r.1
    go false f = absurd (false≢true (sym (ap not (any_passes (λ (j : Item). not (any (one_item j) ys)) xs i m (ap not f))) ∙ e))

-- where every member passes, none fails
none_fails : {A : Type 0} (p : A → Bool) (xs : List A) → ((a : A) → Memᴰ a xs → p a ≡ true) → not (any (λ (a : A). not (p a)) xs) ≡ true
unfolding any pick
none_fails p [] h = refl
none_fails p (x ∷ xs) h = rw (h x (Memᴰ.head refl)) (none_fails p xs (λ a m. h a (Memᴰ.tail m)))

members_all_among : (xs ys : List Item) → Among xs ys → all_among one_item xs ys ≡ true
unfolding all_among
members_all_among xs ys s = none_fails (λ (i : Item). any (one_item i) ys) xs (λ i m. any_passes (one_item i) ys i (s i m) (items_decided.self i))

-- ---- a parameter of b that is one of a's

record IsOne (a b : Visible) (q : Slot) : Type 0 where
  there : Memᴰ q a.parameters
  to : (i : Item) → in_parameter q.name i.standing ≡ true → Memᴰ i a.items → Memᴰ i b.items
  from : (i : Item) → in_parameter q.name i.standing ≡ true → Memᴰ i b.items → Memᴰ i a.items

is_one : (a b : Visible) (q : Slot) → is_parameter_of a b q ≡ true → IsOne a b q
unfolding is_parameter_of same_formals formals
is_one a b q e =
    let r = both_true _ _ e in
    let s = both_true _ _ (both_true _ _ r.1).0 in
    let f = any_found (same_slot q) a.parameters r.0 in
    let inside : Item → Bool = λ i. in_parameter q.name i.standing in
    record {
      there = subst (λ (u : Slot). Memᴰ u a.parameters) (sym (slot_equal q f.0 f.2)) f.1;
      to = λ i h m. (kept_member inside b.items (all_among_members _ _ s.0 i (member_keep inside a.items i m h))).0;
      from = λ i h m. (kept_member inside a.items (all_among_members _ _ s.1 i (member_keep inside b.items i m h))).0;
    }

-- sorts of one name have one origin, whichever of the two shows them
abbrev OneOriginIn : Visible → Visible → Type 0
OneOriginIn a b =
    (x y : Item) → Memᴰ x a.items → Memᴰ y b.items → is_sort x.shape ≡ true → is_sort y.shape ≡ true → x.name ≡ y.name
    → x.origin ≡ y.origin

-- a sort of this name that is shown
abbrev Shown : Visible → Name → Item → Type 0
Shown v w i = Memᴰ i v.items × (is_sort i.shape ≡ true) × (w ≡ i.name)

sort_found : (v : Visible) (w : Name) → OfFound (Shown v w) (first (is_called w) (sorts_among v.items))
unfolding sorts_among is_called
sort_found v w = go (first (is_called w) (sorts_among v.items)) (first_found (is_called w) (sorts_among v.items))
  where
    go : (o : Option Item) → OfFound (λ i. Memᴰ i (sorts_among v.items) × (is_called w i ≡ true)) o → OfFound (Shown v w) o
    go none h = tt
    go (some i) h = let k = kept_member (λ (j : Item). is_sort j.shape) v.items h.0 in (k.0, k.1, same_equal w i.name h.1)

-- then the sorts of all types agree
module _ (a b : Visible) (one : OneOriginIn a b) where
  sorts_agree : (s : Sort) → sort_agrees a b s ≡ true
  unfolding sort_agrees origin_of origin_of_item origins_agree
  sorts_agree (hidden_sort o) = refl
  sorts_agree (visible_sort w) =
      go (first (is_called w) (sorts_among a.items)) (first (is_called w) (sorts_among b.items)) (sort_found a w) (sort_found b w)
    where
      go : (x y : Option Item) → OfFound (Shown a w) x → OfFound (Shown b w) y → origins_agree (origin_of_item x) (origin_of_item y) ≡ true
      go none y h k = refl
      go (some i) none h k = refl
      go (some i) (some j) h k = rw (one i j h.0 k.0 h.1 k.1 (sym h.2 ∙ k.2)) (origins_decided.self j.origin)

  types_agreed : (p : Name) → types_agree p a b ≡ true
  unfolding types_agree shape_agrees
  types_agreed p = none_fails (λ (i : Item). shape_agrees a b i.shape) (formals p a) (λ i m. shaped i.shape)
    where
      shaped : (s : Shape) → shape_agrees a b s ≡ true
      shaped sort_shape = refl
      shaped (function_shape t) = none_fails (sort_agrees a b) (t.output ∷ t.inputs) (λ s m. sorts_agree s)
      shaped (variable_shape s) = refl

one_is : (a b : Visible) (q : Slot) → OneOriginIn a b → IsOne a b q → is_parameter_of a b q ≡ true
unfolding is_parameter_of same_formals formals same_slot
one_is a b q one o =
    let inside : Item → Bool = λ i. in_parameter q.name i.standing in
    rw (
      any_passes (same_slot q) a.parameters q o.there slot_self,
      members_all_among (keep inside a.items) (keep inside b.items) (λ i m.
          let r = kept_member inside a.items m in member_keep inside b.items i (o.to i r.1 r.0) r.1),
      members_all_among (keep inside b.items) (keep inside a.items) (λ i m.
          let r = kept_member inside b.items m in member_keep inside a.items i (o.from i r.1 r.0) r.1),
      types_agreed a b one q.name,
    )
  where
    slot_self : same_slot q q ≡ true
    slot_self = rw (same_self q.name, same_self q.home)

-- ---- one form more

-- what is in the forms ks, with what is in k
collects_more : {A : Type 0} (one : A → A → Bool) (P : A → Type 0) → ((a b : A) → P a → P b → one a b ≡ true → a ≡ b) → ((a : A) → one a a ≡ true)
    → (part : Normal → List A) (ks : List Normal) (xs : List A) (k : Normal) → Every P xs → Every P (part k) → Collects part ks xs
    → Collects part (k ∷ ks) (union one xs (part k))
collects_more one P equal self part ks xs k h g c = record {
  to = λ a m. ⊎_elim (λ l. let r = c.to a l in (r.0, Memᴰ.tail r.1, r.2)) (λ l. (k, Memᴰ.head refl, l)) (union_of one xs (part k) a m);
  from = λ j m a l.
      ⊎_elim (λ (e : j ≡ k). in_union_right one P equal xs (part k) h g a (subst (λ (u : Normal). Memᴰ a (part u)) e l))
      (λ q. in_union_left one xs (part k) a (c.from j q a l)) (Memᴰ.cases_cons m);
  once = union_distinct one self xs (part k) c.once;
}

items_more : (part : Normal → List Item) (ks : List Normal) (xs : List Item) (k : Normal) → Collects part ks xs
    → Collects part (k ∷ ks) (union one_item xs (part k))
items_more part ks xs k c =
    collects_more one_item (λ i. Unit {0}) (λ a b p q. items_decided.equal a b) items_decided.self part ks xs k (every_any xs) (every_any (part k)) c

-- what has different names is different
distinct_once : (ps : List Slot) → Pairwise (λ p q. same p.name q.name ≡ false) ps → Distinct ps
distinct_once [] h = tt
distinct_once (p ∷ ps) h = (
  every_so (λ q. same p.name q.name ≡ false) (λ q. p ≡ q → ⊥) ps (λ q d e.
      false≢true (sym d ∙ ap (λ (x : Slot). same p.name x.name) (sym e) ∙ same_self p.name)) h.0,
  distinct_once ps h.1,
)

-- the forms so far, js, united as n, and one more, k
module _ (tags : ℕ → ℕ → Name) (js : List Normal) (n k : Normal) (u : Unites js n) (good : Every (Good tags) js) (more : Good tags k) where
  abbrev dropped : Slot → Bool
  dropped q = is_parameter_of n.visible k.visible q

  abbrev kept : List Slot
  kept = keep (λ (q : Slot). not (dropped q)) (slots k)

  -- where the union has two parameters of one name, the second is dropped
  met : Once (unite_visible n.visible k.visible) → (p q : Slot) → Memᴰ p (slots n) → Memᴰ q (slots k) → p.name ≡ q.name
      → IsOne n.visible k.visible q
  unfolding unite_visible
  met once p q m l e = go (dropped q) refl
    where
      go : (b : Bool) → dropped q ≡ b → IsOne n.visible k.visible q
      go true f = is_one n.visible k.visible q f
      go false f =
          let stays = member_keep (λ (x : Slot). not (dropped x)) (slots k) q l (ap not f) in
          let apart = pairwise_across (λ p q. same p.name q.name ≡ false) (slots n) kept once p q m stays in
          absurd (false≢true (sym apart ∙ ap (same p.name) (sym e) ∙ same_self p.name))

  slots_more : Once (unite_visible n.visible k.visible) → Collects slots (k ∷ js) (unite_visible n.visible k.visible).parameters
  unfolding unite_visible
  slots_more once = record {
    to = λ p m.
        ⊎_elim (λ l. let r = u.parameters.to p l in (r.0, Memᴰ.tail r.1, r.2)) (λ l. (k, Memᴰ.head refl, (kept_member _ (slots k) l).0))
        (Memᴰ.append_cases (slots n) m);
    from = λ j m p l.
        ⊎_elim (λ (e : j ≡ k). from_more p (subst (λ (x : Normal). Memᴰ p (slots x)) e l) (dropped p) refl)
        (λ q. Memᴰ.append_left kept (u.parameters.from j q p l)) (Memᴰ.cases_cons m);
    once = distinct_once (slots n ++ kept) once;
  }
    where
      from_more : (p : Slot) → Memᴰ p (slots k) → (b : Bool) → dropped p ≡ b → Memᴰ p (slots n ++ kept)
      from_more p l true f = Memᴰ.append_left kept (is_one n.visible k.visible p f).there
      from_more p l false f = Memᴰ.append_right (slots n) (member_keep (λ (x : Slot). not (dropped x)) (slots k) p l (ap not f))

  -- an item of the union that stands in a parameter: of the forms so far, which have it then
  so_far : (p : Name) (i : Item) → in_parameter p i.standing ≡ true → Memᴰ i (items n) → (q : Slot) × Memᴰ q (slots n) × (p ≡ q.name)
  so_far p i e m =
      let r = u.visible.to i m in
      let s = stands_there r.0.visible (every_member (Good tags) js good r.0 r.1).stands p i r.2 e in
      (s.0, u.parameters.from r.0 r.1 s.0 s.1, s.2)

  inside_more : Once (unite_visible n.visible k.visible) → (j : Normal) → Memᴰ j (k ∷ js) → (p : Slot) → Memᴰ p (slots j) → (i : Item)
      → in_parameter p.name i.standing ≡ true → Memᴰ i (union one_item (items n) (items k)) → Memᴰ i (items j)
  inside_more once j m p l i e q = ⊎_elim last earlier (Memᴰ.cases_cons m)
    where
      -- into k
      into : (p : Slot) → Memᴰ p (slots k) → in_parameter p.name i.standing ≡ true → Memᴰ i (items k)
      into p l e =
          ⊎_elim (λ a. let r = so_far p.name i e a in (met once r.0 p r.1 l (sym r.2)).to i e a)
          (λ b. b) (union_of one_item (items n) (items k) i q)

      last : j ≡ k → Memᴰ i (items j)
      last f = subst (λ (x : Normal). Memᴰ i (items x)) (sym f) (into p (subst (λ (x : Normal). Memᴰ p (slots x)) f l) e)

      -- into the forms so far
      back : Memᴰ i (items k) → Memᴰ p (slots n) → Memᴰ i (items n)
      back b t =
          let r = stands_there k.visible more.stands p.name i b e in
          (met once p r.0 t r.1 r.2).from i (ap (λ w. in_parameter w i.standing) (sym r.2) ∙ e) b

      earlier : Memᴰ j js → Memᴰ i (items j)
      earlier o = u.inside j o p l i e (⊎_elim (λ a. a) (λ b. back b (u.parameters.from j o p l)) (union_of one_item (items n) (items k) i q))

  tagged_so_far : Every (Tagged tags) (equations n)
  tagged_so_far = every_of (Tagged tags) (equations n) (λ e m.
      let r = u.equated.to e m in every_member (Tagged tags) (equations r.0) (every_member (Good tags) js good r.0 r.1).tagged e r.2)

  unites_more : Clear (unite n k).visible [] → room (unite n k) ≡ fine tt → Unites (k ∷ js) (unite n k)
  unfolding unite unite_visible unite_hidden
  unites_more c r =
      record {
        parameters = slots_more c.once;
        visible = items_more items js (items n) k u.visible;
        hidden = items_more hidden_items js (hidden_items n) k u.hidden;
        equated =
            collects_more one_equation (Tagged tags) (equation_equal tags) equation_self equations js (equations n) k tagged_so_far more.tagged u.equated;
        inside = inside_more c.once;
        clear = c;
        fitting = r;
      }

-- ---- united left to right

checked_fine : (n m : Normal) → checked n ≡ fine m → Clear n.visible [] × (room n ≡ fine tt) × (n ≡ m)
unfolding checked
checked_fine n m e =
    let a = then_fine (consistent n.visible []) _ m e in
    let b = then_fine (room n) _ m a.1 in
    (consistent_clear n.visible [] a.0, b.0, fine_same n m b.1)

fine_checked : (n : Normal) → Clear n.visible [] → room n ≡ fine tt → checked n ≡ fine n
unfolding checked ◌>>◌
fine_checked n c r = rw (clear_consistent n.visible [] c, r)

united_all : (tags : ℕ → ℕ → Name) (ks js : List Normal) (n m : Normal) → Every (Good tags) js → Every (Good tags) ks → Unites js n
    → united n ks ≡ fine m → Unites (ks ++ js) m
unfolding united
united_all tags [] js n m good more u e = subst (Unites js) (fine_same n m e) u
united_all tags (k ∷ ks) js n m good more u e =
    let b = bind_fine _ _ m e in
    let c = checked_fine (unite n k) b.0 b.1 in
    let v = unites_more tags js n k u good more.0 c.0 c.1 in
    unites_set (ks ++ (k ∷ js)) (k ∷ (ks ++ js)) m (set_arranged (Permᴰ.middle k ks js))
    (united_all tags ks (k ∷ js) (unite n k) m (more.0, good) more.1 v (subst (λ x. united x ks ≡ fine m) (sym c.2) b.2))

-- ---- accepted in one order, accepted in every order

-- the forms `all`, accepted as w; those so far, js, united as n, and one more of them, k
module _ (tags : ℕ → ℕ → Name) (all js : List Normal) (w n k : Normal) (whole : Unites all w) (u : Unites js n) (good : Every (Good tags) all)
    (some_of : Among js all) (one_of : Memᴰ k all) where
  part_of : {A : Type 0} (part : Normal → List A) → Collects part all (part w) → Collects part js (part n) → Among (part n) (part w)
  part_of part c d a m = let r = d.to a m in c.from r.0 (some_of r.0 r.1) a r.2

  in_union : {A : Type 0} (one : A → A → Bool) (part : Normal → List A) → Collects part all (part w) → Collects part js (part n)
      → Among (union one (part n) (part k)) (part w)
  in_union one part c d a m = ⊎_elim (λ l. part_of part c d a l) (λ l. c.from k one_of a l) (union_of one (part n) (part k) a m)

  fewer : {A : Type 0} (one : A → A → Bool) → ((a : A) → one a a ≡ true) → (part : Normal → List A) → Collects part all (part w)
      → Collects part js (part n) → length (union one (part n) (part k)) ≤ length (part w)
  fewer one self part c d = among_fewer _ (part w) (union_distinct one self (part n) (part k) d.once) (in_union one part c d)

  -- a parameter of k that has the name of one of n's is that one
  meets : (p q : Slot) → Memᴰ p (slots n) → Memᴰ q (slots k) → p.name ≡ q.name → is_parameter_of n.visible k.visible q ≡ true
  meets p q m l e =
      let one = once_told (slots w) whole.clear.once p q (part_of slots whole.parameters u.parameters p m) (whole.parameters.from k one_of q l) e in
      let r = u.parameters.to p m in
      one_is n.visible k.visible q origins (record {
        there = subst (λ (x : Slot). Memᴰ x (slots n)) one m;
        to = λ i h a. whole.inside k one_of q l i h (part_of items whole.visible u.visible i a);
        from = λ i h b.
            u.visible.from r.0 r.1 i
            (whole.inside r.0 (some_of r.0 r.1) p r.2 i (ap (λ x. in_parameter x i.standing) e ∙ h) (whole.visible.from k one_of i b));
      })
    where
      origins : OneOriginIn n.visible k.visible
      origins x y m l = clear_one w.visible [] whole.clear x y (part_of items whole.visible u.visible x m) (whole.visible.from k one_of y l)

  once_again : Once (unite_visible n.visible k.visible)
  unfolding unite_visible
  once_again =
      let R : Slot → Slot → Type 0 = λ p q. same p.name q.name ≡ false in
      let stays : Slot → Bool = λ q. not (is_parameter_of n.visible k.visible q) in
      pairwise_joined R (slots n) (keep stays (slots k)) u.clear.once
      (pairwise_kept R stays (slots k) (every_member (Good tags) all good k one_of).once) (λ p q m l.
      let r = kept_member stays (slots k) l in
      go (same p.name q.name) p q refl m r.0 r.1)
    where
      go : (b : Bool) → (p q : Slot) → same p.name q.name ≡ b → Memᴰ p (slots n) → Memᴰ q (slots k)
          → not (is_parameter_of n.visible k.visible q) ≡ true → b ≡ false
      go true p q e m l h = absurd (false≢true (ap not (sym (meets p q m l (same_equal p.name q.name e))) ∙ h))
      go false p q e m l h = refl

  still_clear : Clear (unite n k).visible []
  unfolding unite unite_visible
  still_clear =
      clear_part (unite_visible n.visible k.visible) w.visible once_again
      (union_distinct one_item items_decided.self (items n) (items k) u.visible.once) (in_union one_item items whole.visible u.visible) whole.clear

  still_fits : room (unite n k) ≡ fine tt
  unfolding unite unite_visible unite_hidden
  still_fits =
      room_part (unite n k) w (among_fewer _ (slots w) (distinct_once (unite_visible n.visible k.visible).parameters once_again) slots_in)
      (fewer one_item items_decided.self items whole.visible u.visible) (fewer one_item items_decided.self hidden_items whole.hidden u.hidden)
      (fewer one_equation equation_self equations whole.equated u.equated) whole.fitting
    where
      slots_in : Among (unite_visible n.visible k.visible).parameters (slots w)
      slots_in p m =
          ⊎_elim (λ l. part_of slots whole.parameters u.parameters p l) (λ l. whole.parameters.from k one_of p (kept_member _ (slots k) l).0)
          (Memᴰ.append_cases (slots n) m)

  goes_on : checked (unite n k) ≡ fine (unite n k)
  goes_on = fine_checked (unite n k) still_clear still_fits

-- the forms `all` are accepted as w: then any of them, in any order and as often as you like, are accepted
united_again : (tags : ℕ → ℕ → Name) (all : List Normal) (w : Normal) → Unites all w → Every (Good tags) all → (ks js : List Normal) (n : Normal)
    → Among ks all → Among js all → Unites js n → (m : Normal) × (united n ks ≡ fine m)
unfolding united ◌>>=◌
united_again tags all w whole good [] js n s t u = (n, refl)
united_again tags all w whole good (k ∷ ks) js n s t u =
    let one_of = s k (Memᴰ.head refl) in
    let on = goes_on tags all js w n k whole u good t one_of in
    let c = checked_fine (unite n k) (unite n k) on in
    let v = unites_more tags js n k u (every_among (Good tags) t good) (every_member (Good tags) all good k one_of) c.0 c.1 in
    rw on (united_again tags all w whole good ks (k ∷ js) (unite n k) (λ a m. s a (Memᴰ.tail m))
    (λ a m. ⊎_elim (λ (e : a ≡ k). subst (λ (x : Normal). Memᴰ x all) (sym e) one_of) (λ l. t a l) (Memᴰ.cases_cons m)) v)

-- so two lists of the same forms are accepted alike, with one result but for order
pub united_anyhow : (tags : ℕ → ℕ → Name) (ks ks' : List Normal) → SameSet ks ks' → Every (Good tags) ks → (n : Normal) → united empty ks ≡ fine n
    → (n' : Normal) × (united empty ks' ≡ fine n') × SameNormal n n'
united_anyhow tags ks ks' s good n e =
    let good' = every_among (Good tags) s.from good in
    let u = alone ks n good e in
    let r = united_again tags ks n u good ks' [] empty s.from (λ a m. elim m [ ]) unites_none in
    (r.0, r.1, unites_one ks' n r.0 (unites_set ks ks' n s u) (alone ks' r.0 good' r.1))
  where
    alone : (xs : List Normal) (m : Normal) → Every (Good tags) xs → united empty xs ≡ fine m → Unites xs m
    alone xs m h e = unites_set (xs ++ []) xs m (set_arranged (Permᴰ.append-nil xs)) (united_all tags xs [] empty m tt h unites_none e)
