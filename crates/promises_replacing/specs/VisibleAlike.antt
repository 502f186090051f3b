-- Two visible parts that are alike: the second has the items of the first under a change of names, and the same parameters, in whatever order.
-- Sorts have the same origins in both, the checks find as little, and they are united alike, where sorts of one name have one origin.
use Rattle.std.specs.Prelude.{◌≡◌, Bool, true, false}
use Rattle.std.proofs.Math.Path.{refl, sym, ap, ap₂}
use Rattle.std.proofs.Common.{subst, ◌∙◌, ⊎_elim}
use Rattle.std.proofs.Math.Bool.{not}
use Rattle.std.proofs.Math.Option
use Rattle.std.proofs.Math.Option.{Option, none, some}
use mathlib.Core.List.Memᴰ
use mathlib.Core.List.Permᴰ
use mathlib.Core.List.{List, [], ◌∷◌, ◌++◌, map, map-append, Memᴰ}
use Rattle.meaning.specs.Lists.{pick, keep, any, first, all_among, union}
use Rattle.meaning.specs.Names.{Name, same, member}
use Rattle.meaning.specs.Origins.{Origin, Sort, visible_sort, hidden_sort, Shape, sort_shape, function_shape, variable_shape, is_sort, Item, one_item}
use Rattle.meaning.specs.Normal.{Slot, Visible, names_in, sorts_among, sort_names, is_called, origin_of_item, origin_of, formals, same_slot, origins_agree, sort_agrees, shape_agrees, types_agree, same_formals, is_parameter_of, unite_visible}
use Rattle.meaning.specs.Checks.{fine, ◌>>◌, unless, least_at_odds, other_origin, sorts_clash, functions_clash, other_output, both_in_one, overloaded, consistent}
use Rattle.meaning.specs.OrderLaws.{Pairwise, Rearranged, pairwise_rearranged, none_least_at_odds, same_equal, same_self}
use Rattle.promises.specs.Sound.{compatible, union_left, union_right}
use Rattle.promises.specs.SameListing.{keep_rearranged}
use Rattle.promises_replacing.specs.Changing.{re_origin, re_sort, re_type, re_shape, re_item}
use Rattle.promises_replacing.specs.Exchanging.{any_map, keep_map, first_map, member_kept, origin_kept, sort_kept, sorts_kept, shape_kept, is_sort_kept, is_function_kept, item_kept, called_kept, names_in_kept, items_united}
use Rattle.promises_replacing.specs.Reordering.{any_rearranged, first_image, union_rearranged, names_symmetric, sorts_clash_symmetric, functions_clash_symmetric, overloaded_symmetric, least_at_odds_none, pairwise_map}
use Rattle.laws.specs.Decides.{symmetric, items_decided, origins_decided}
use Rattle.meaning.specs.OutcomeLaws.{then_fine, unless_fine}
use Rattle.laws.specs.EveryLaws.{every_any, kept_member}
use Rattle.std.proofs.lemmas.Bool.{not-false}

-- ---- names among names, in whatever order

pub member_any : (w : Name) (ws : List Name) → member w ws ≡ any (same w) ws
unfolding member any
member_any w [] = refl
member_any w (x ∷ ws) = ap (λ (r : Bool). pick (same w x) true r) (member_any w ws)

pub member_rearranged : (w : Name) {ws vs : List Name} → Rearranged ws vs → member w ws ≡ member w vs
member_rearranged w {ws} {vs} d = member_any w ws ∙ any_rearranged (same w) d ∙ sym (member_any w vs)

-- ---- what 15, 10 and 11 leave

-- parameters of different names
abbrev pub Once : Visible → Type 0
Once v = Pairwise (λ p q. same p.name q.name ≡ false) v.parameters

abbrev pub NoneAtOdds : (Item → Item → Bool) → List Item → Type 0
NoneAtOdds wrong is = least_at_odds (λ (i : Item). i.name) wrong is ≡ none

pub record Clear (v : Visible) (own : List Item) : Type 0 where
  pub once : Once v
  pub sorts : NoneAtOdds sorts_clash (v.items ++ own)
  pub functions : NoneAtOdds functions_clash (v.items ++ own)
  pub overloads : NoneAtOdds overloaded (v.items ++ own)

named_symmetric : (p q : Slot) → same p.name q.name ≡ same q.name p.name
named_symmetric p q = names_symmetric p.name q.name

pub consistent_clear : (v : Visible) (own : List Item) → consistent v own ≡ fine tt → Clear v own
unfolding consistent
consistent_clear v own c =
    let p = then_fine _ _ tt c in
    let s = then_fine _ _ tt p.1 in
    let f = then_fine _ _ tt s.1 in
    record {
      once = none_least_at_odds (λ (p : Slot). p.name) (λ p q. same p.name q.name) named_symmetric v.parameters (unless_fine _ _ p.0);
      sorts = unless_fine _ _ s.0;
      functions = unless_fine _ _ f.0;
      overloads = unless_fine _ _ f.1;
    }

pub clear_consistent : (v : Visible) (own : List Item) → Clear v own → consistent v own ≡ fine tt
unfolding consistent ◌>>◌ unless
clear_consistent v own h =
    rw (
      least_at_odds_none (λ (p : Slot). p.name) (λ p q. same p.name q.name) named_symmetric v.parameters h.once,
      h.sorts,
      h.functions,
      h.overloads,
    )

pub once_rearranged : (v v' : Visible) → Rearranged v.parameters v'.parameters → Once v → Once v'
once_rearranged v v' d h = pairwise_rearranged (λ p q. same p.name q.name ≡ false) (λ p q e. named_symmetric q p ∙ e) d h

-- two visible sorts of one name have one origin
abbrev pub OneOrigin : List Item → Type 0
OneOrigin is =
    (a b : Item) → Memᴰ a is → Memᴰ b is → is_sort a.shape ≡ true → is_sort b.shape ≡ true → a.name ≡ b.name → a.origin ≡ b.origin

sorts_one : (a b : Item) → is_sort a.shape ≡ true → is_sort b.shape ≡ true → a.name ≡ b.name → sorts_clash a b ≡ false → a.origin ≡ b.origin
unfolding sorts_clash other_origin
sorts_one a b p q n e = origins_decided.equal a.origin b.origin (not-false _ (rw (p, q, n, same_self b.name) at e))

pub clear_one : (v : Visible) (own : List Item) → Clear v own → OneOrigin v.items
clear_one v own h a b m k p q n =
    ⊎_elim (λ (e : a ≡ b). ap (λ (i : Item). i.origin) e) (⊎_elim (λ r. sorts_one a b p q n r) (λ r. sym (sorts_one b a q p (sym n) r)))
    (compatible sorts_clash (v.items ++ own) h.sorts a b (Memᴰ.append_left own m) (Memᴰ.append_left own k))

-- ---- lists that are alike

-- the second list has the items of the first under g, in whatever order
pub record Like {A B : Type 0} (g : A → B) (xs : List A) (ys : List B) : Type 0 where
  pub arranged : Rearranged (map g xs) ys

pub like : {A B : Type 0} (g : A → B) (xs : List A) {rs ys : List B} → rs ≡ map g xs → Rearranged rs ys → Like g xs ys
like g xs {rs} {ys} e d = record { arranged = subst (λ (r : List _). Rearranged r ys) e d }

pub like_none : {A B : Type 0} (g : A → B) → Like g [] []
like_none g = record { arranged = Permᴰ.nil }

pub member_map_from : {A B : Type 0} (g : A → B) (xs : List A) {y : B} → Memᴰ y (map g xs) → (x : A) × Memᴰ x xs × (y ≡ g x)
member_map_from g [] m = elim m [ ]
member_map_from g (x ∷ xs) m =
    ⊎_elim (λ e. (x, Memᴰ.head refl, e)) (λ k. let r = member_map_from g xs k in (r.0, Memᴰ.tail r.1, r.2)) (Memᴰ.cases_cons m)

kept_sort : (is : List Item) (i : Item) → Memᴰ i (sorts_among is) → Memᴰ i is × (is_sort i.shape ≡ true)
unfolding sorts_among
kept_sort is i m = kept_member (λ (x : Item). is_sort x.shape) is m

module _ {A B : Type 0} (g : A → B) (p : B → Bool) (q : A → Bool) (h : (x : A) → p (g x) ≡ q x) {xs : List A} {ys : List B}
    (d : Like g xs ys) where
  pub any_alike : any p ys ≡ any q xs
  any_alike = sym (any_rearranged p d.arranged) ∙ any_map g p q h xs

  pub keep_alike : Like g (keep q xs) (keep p ys)
  keep_alike = like g (keep q xs) (keep_map g p q h xs) (keep_rearranged p d.arranged)

module _ (τ : Name → Name) (keeps : (v w : Name) → same (τ v) (τ w) ≡ same v w) where
  pub record AlikeVisible (v v' : Visible) : Type 0 where
    pub parameters : Rearranged v.parameters v'.parameters
    pub items : Like (re_item τ) v.items v'.items

  pub sorts_alike : {is is' : List Item} → Like (re_item τ) is is' → Like (re_item τ) (sorts_among is) (sorts_among is')
  unfolding sorts_among re_item
  sorts_alike d = keep_alike (re_item τ) _ _ (λ i. is_sort_kept τ keeps i.shape) d

  pub names_alike : {is is' : List Item} → Like (re_item τ) is is' → Like τ (names_in is) (names_in is')
  unfolding names_in
  names_alike {is} {is'} d = like τ (names_in is) (names_in_kept τ keeps is) (Permᴰ.map (λ (i : Item). i.name) d.arranged)

  pub sort_names_alike : {v v' : Visible} → AlikeVisible v v' → Like τ (sort_names v) (sort_names v')
  unfolding sort_names
  sort_names_alike a = names_alike (sorts_alike a.items)

  pub member_alike : (w : Name) {ws ws' : List Name} → Like τ ws ws' → member (τ w) ws' ≡ member w ws
  member_alike w {ws} d = sym (member_rearranged (τ w) d.arranged) ∙ member_kept τ keeps w ws

  -- ---- the checks after each clause and union

  clash_kept : (a b : Item) → sorts_clash (re_item τ a) (re_item τ b) ≡ sorts_clash a b
  unfolding sorts_clash other_origin re_item
  clash_kept a b =
      rw (is_sort_kept τ keeps a.shape, is_sort_kept τ keeps b.shape, keeps a.name b.name, origin_kept τ keeps a.origin b.origin)

  functions_kept : (a b : Item) → functions_clash (re_item τ a) (re_item τ b) ≡ functions_clash a b
  unfolding functions_clash other_origin re_item
  functions_kept a b =
      rw (
        is_function_kept τ keeps a.shape,
        shape_kept τ keeps a.shape b.shape,
        keeps a.name b.name,
        origin_kept τ keeps a.origin b.origin,
      )

  output_kept : (s t : Shape) → other_output (re_shape τ s) (re_shape τ t) ≡ other_output s t
  unfolding other_output re_shape re_type
  output_kept sort_shape t = refl
  output_kept (variable_shape s) t = refl
  output_kept (function_shape t) sort_shape = refl
  output_kept (function_shape t) (variable_shape s) = refl
  output_kept (function_shape t) (function_shape u) = rw (sorts_kept τ keeps t.inputs u.inputs, sort_kept τ keeps t.output u.output)

  overloaded_kept : (a b : Item) → overloaded (re_item τ a) (re_item τ b) ≡ overloaded a b
  unfolding overloaded both_in_one re_item
  overloaded_kept a b =
      rw (keeps a.name b.name, output_kept a.shape b.shape, is_function_kept τ keeps a.shape, is_function_kept τ keeps b.shape)

  none_alike : (wrong : Item → Item → Bool) → ((a b : Item) → wrong a b ≡ wrong b a)
      → ((a b : Item) → wrong (re_item τ a) (re_item τ b) ≡ wrong a b) → {is is' : List Item} → Like (re_item τ) is is'
      → NoneAtOdds wrong is → NoneAtOdds wrong is'
  none_alike wrong symmetric kept {is} {is'} d e =
      least_at_odds_none (λ (i : Item). i.name) wrong symmetric is'
      (pairwise_rearranged (λ x y. wrong x y ≡ false) (λ a b q. symmetric b a ∙ q) d.arranged
      (pairwise_map (λ x y. wrong x y ≡ false) (λ x y. wrong x y ≡ false) (re_item τ) (λ a b q. kept a b ∙ q) is
      (none_least_at_odds (λ (i : Item). i.name) wrong symmetric is e)))

  -- with items of a module's own behind them
  pub known_alike : {v v' : Visible} → AlikeVisible v v' → (own : List Item) → Like (re_item τ) (v.items ++ own) (v'.items ++ map (re_item τ) own)
  known_alike {v} a own =
      like (re_item τ) (v.items ++ own) (sym (map-append (re_item τ) v.items own)) (Permᴰ.append_right (map (re_item τ) own) a.items.arranged)

  clear_alike : {v v' : Visible} → AlikeVisible v v' → (own : List Item) → Clear v own → Clear v' (map (re_item τ) own)
  clear_alike {v} {v'} a own h =
      let d = known_alike a own in
      record {
        once = once_rearranged v v' a.parameters h.once;
        sorts = none_alike sorts_clash sorts_clash_symmetric clash_kept d h.sorts;
        functions = none_alike functions_clash functions_clash_symmetric functions_kept d h.functions;
        overloads = none_alike overloaded overloaded_symmetric overloaded_kept d h.overloads;
      }

  pub consistent_alike : {v v' : Visible} → AlikeVisible v v' → (own : List Item) → consistent v own ≡ fine tt → consistent v' (map (re_item τ) own) ≡ fine tt
  consistent_alike {v} {v'} a own c = clear_consistent v' (map (re_item τ) own) (clear_alike a own (consistent_clear v own c))

  -- ---- formals, and where a visible sort comes from

  pub formals_alike : (p : Name) {v v' : Visible} → AlikeVisible v v' → Like (re_item τ) (formals p v) (formals p v')
  unfolding formals re_item
  formals_alike p a = keep_alike (re_item τ) _ _ (λ i. refl) a.items

  pub origin_of_alike : {v v' : Visible} → AlikeVisible v v' → OneOrigin v.items → (w : Name)
      → origin_of v' (τ w) ≡ Option.map (re_origin τ) (origin_of v w)
  unfolding origin_of origin_of_item is_called re_item
  origin_of_alike {v} {v'} a one w =
      as_map (first (is_called (τ w)) (sorts_among v'.items))
      ∙ sym (first_image (λ (i : Item). i.origin) (is_called (τ w)) (sorts_alike a.items).arranged image)
      ∙ ap (Option.map (λ (i : Item). i.origin)) (first_map (re_item τ) (is_called (τ w)) (is_called w) (called_kept τ keeps w) (sorts_among v.items))
      ∙ both (first (is_called w) (sorts_among v.items))
    where
      as_map : (o : Option Item) → origin_of_item o ≡ Option.map (λ (i : Item). i.origin) o
      as_map none = refl
      as_map (some i) = refl

      both : (o : Option Item) → Option.map (λ (i : Item). i.origin) (Option.map (re_item τ) o) ≡ Option.map (re_origin τ) (origin_of_item o)
      both none = refl
      both (some i) = refl

      image : (x y : Item) → Memᴰ x (map (re_item τ) (sorts_among v.items)) → Memᴰ y (map (re_item τ) (sorts_among v.items))
          → same (τ w) x.name ≡ true → same (τ w) y.name ≡ true → x.origin ≡ y.origin
      image x y m k p q =
          let i = member_map_from (re_item τ) (sorts_among v.items) m in
          let j = member_map_from (re_item τ) (sorts_among v.items) k in
          let s = kept_sort v.items i.0 i.1 in
          let t = kept_sort v.items j.0 j.1 in
          let n : same w i.0.name ≡ true = sym (keeps w i.0.name) ∙ subst (λ (z : Item). same (τ w) z.name ≡ true) i.2 p in
          let l : same w j.0.name ≡ true = sym (keeps w j.0.name) ∙ subst (λ (z : Item). same (τ w) z.name ≡ true) j.2 q in
          ap (λ (z : Item). z.origin) i.2
          ∙ ap (re_origin τ) (one i.0 j.0 s.0 t.0 s.1 t.1 (sym (same_equal w i.0.name n) ∙ same_equal w j.0.name l))
          ∙ ap (λ (z : Item). z.origin) (sym j.2)

  -- ---- which parameters are one

  all_among_alike : {xs xs' ys ys' : List Item} → Like (re_item τ) xs xs' → Like (re_item τ) ys ys' → all_among one_item xs' ys' ≡ all_among one_item xs ys
  unfolding all_among
  all_among_alike {ys = ys} {ys'} d k =
      ap not (any_alike (re_item τ) (λ (x : Item). not (any (one_item x) ys')) (λ (x : Item). not (any (one_item x) ys))
      (λ x. ap not (any_alike (re_item τ) (one_item (re_item τ x)) (one_item x) (item_kept τ keeps x) k)) d)

  origins_agree_kept : (o p : Option Origin) → origins_agree (Option.map (re_origin τ) o) (Option.map (re_origin τ) p) ≡ origins_agree o p
  unfolding origins_agree
  origins_agree_kept none p = refl
  origins_agree_kept (some o) none = refl
  origins_agree_kept (some o) (some p) = origin_kept τ keeps o p

  module _ {a a' b b' : Visible} (p : AlikeVisible a a') (q : AlikeVisible b b') (one_a : OneOrigin a.items) (one_b : OneOrigin b.items) where
    sort_agrees_kept : (s : Sort) → sort_agrees a' b' (re_sort τ s) ≡ sort_agrees a b s
    unfolding sort_agrees re_sort
    sort_agrees_kept (hidden_sort o) = refl
    sort_agrees_kept (visible_sort s) =
        ap₂ origins_agree (origin_of_alike p one_a s) (origin_of_alike q one_b s) ∙ origins_agree_kept (origin_of a s) (origin_of b s)

    shape_agrees_kept : (s : Shape) → shape_agrees a' b' (re_shape τ s) ≡ shape_agrees a b s
    unfolding shape_agrees re_shape re_type
    shape_agrees_kept sort_shape = refl
    shape_agrees_kept (variable_shape s) = refl
    shape_agrees_kept (function_shape t) =
        ap not (any_map (re_sort τ) (λ (s : Sort). not (sort_agrees a' b' s)) (λ (s : Sort). not (sort_agrees a b s)) (λ s. ap not (sort_agrees_kept s))
        (t.output ∷ t.inputs))

    parameter_kept : (r : Slot) → is_parameter_of a b r ≡ is_parameter_of a' b' r
    unfolding is_parameter_of same_formals types_agree re_item
    parameter_kept r =
        let f = formals_alike r.name p in
        let g = formals_alike r.name q in
        rw (
          any_rearranged (same_slot r) p.parameters,
          ← all_among_alike f g,
          ← all_among_alike g f,
          ← any_alike (re_item τ) (λ (i : Item). not (shape_agrees a' b' i.shape)) (λ (i : Item). not (shape_agrees a b i.shape))
              (λ i. ap not (shape_agrees_kept i.shape)) f,
        )

  -- ---- union

  pub items_union_alike : {xs xs' ys ys' : List Item} → Like (re_item τ) xs xs' → Like (re_item τ) ys ys'
      → Like (re_item τ) (union one_item xs ys) (union one_item xs' ys')
  items_union_alike {xs} {xs'} {ys} {ys'} d k =
      like (re_item τ) (union one_item xs ys) (items_united τ keeps xs ys)
      (union_rearranged one_item (symmetric items_decided) (λ i. Unit {0}) (λ a b x y e. items_decided.equal a b e) d.arranged
      k.arranged (every_any (map (re_item τ) ys)))

  pub unite_visible_alike : {a a' b b' : Visible} → AlikeVisible a a' → AlikeVisible b b' → OneOrigin (unite_visible a b).items
      → AlikeVisible (unite_visible a b) (unite_visible a' b')
  unfolding unite_visible
  unite_visible_alike {a} {a'} {b} {b'} p q one = record {
    parameters =
        Permᴰ.trans (Permᴰ.append_right (keep (λ (r : Slot). not (is_parameter_of a b r)) b.parameters) p.parameters)
        (Permᴰ.append_left a'.parameters
        (subst (λ (f : Slot → Bool). Rearranged (keep (λ (r : Slot). not (is_parameter_of a b r)) b.parameters) (keep f b'.parameters))
        (λ i r. not (parameter_kept p q one_a one_b r i)) (keep_rearranged (λ (r : Slot). not (is_parameter_of a b r)) q.parameters)));
    items = items_union_alike p.items q.items;
  }
    where
      one_a : OneOrigin a.items
      one_a x y m k = one x y (union_left a.items b.items x m) (union_left a.items b.items y k)

      one_b : OneOrigin b.items
      one_b x y m k = one x y (union_right a.items b.items x m) (union_right a.items b.items y k)
