-- Two normal forms that are alike: the second has the items and equations of the first under a change of names, in whatever order. What an
-- import expression makes of the one, where it accepts it, and of the other are alike.
use Rattle.std.specs.Prelude.{◌≡◌, ℕ, ◌+◌, Bool, ◌&&◌, ◌||◌, length}
use Rattle.std.proofs.Math.Path.{refl, sym, ap, ap₂, subst}
use Rattle.std.proofs.Common.{◌∙◌, arith, true≢false}
use Rattle.std.proofs.Math.Bool.{true, false, not}
use Rattle.std.proofs.Math.Option
use Rattle.std.proofs.Math.Option.{Option, none, some}
use mathlib.Core.List.Permᴰ
use mathlib.Core.List.{List, [], ◌∷◌, map}
use Rattle.std.proofs.lemmas.Bool.{not-true}
use Rattle.meaning.specs.Laws.{by_cases}
use Rattle.meaning.specs.Lists.{pick, keep, any, sum, union, first_bad}
use Rattle.meaning.specs.Names.{Name, same, not_after, member, least, lesser}
use Rattle.meaning.specs.Numbers.{formal_unpaired}
use Rattle.meaning.specs.Syntax.{Pair}
use Rattle.meaning.specs.Origins.{Origin, Sort, visible_sort, hidden_sort, FunctionType, ResolvedTerm, var, app, ResolvedTerms, none_left, ◌and_then◌, ResolvedSides, ResolvedEquation, Shape, sort_shape, function_shape, variable_shape, same_shape, is_function, Item, one_equation}
use Rattle.meaning.specs.Normal.{Slot, Normal, names_in, sort_names, is_called, origin_of, slot_names, formals, unite_hidden, unite, move_type, move_equation, move_visible, move_hidden, move, move_item, move_hidden_item}
use Rattle.meaning.specs.Checks.{Outcome, fine, ◌>>◌, unless, consistent, term_nodes, terms_nodes, sides_nodes, equation_nodes, size, room, checked, each_beside}
use Rattle.meaning.specs.Clauses.{paired, otherwise, renaming, may_name, renames, wrong_renaming, rename, same_origins, is_among, is_formal_sort, new_sort, new_function, sort_right, sorts_right, kind_right, type_right, all_right, pairs_right, unpaired, without_visible, without, bound_to, bind}
use Rattle.meaning.specs.OrderLaws.{Every, Rearranged, rearranged_length, rearranged_every, any_none}
use Rattle.meaning.specs.PairLaws.{RightPair, pair_fine, fine_pair}
use Rattle.promises.specs.SameListing.{keep_rearranged}
use Rattle.promises_replacing.specs.Changing.{re_pair, re_origin, re_sort, re_type, re_shape, re_item, re_term, re_terms, re_sides, re_equation}
use Rattle.promises_replacing.specs.Exchanging.{map_twice, map_length, any_map, pick_map, member_kept, origin_kept, shape_kept, called_kept, is_function_kept, equations_united, move_type_kept, move_item_kept, move_hidden_item_kept, move_equation_kept}
use Rattle.promises_replacing.specs.Reordering.{Tagged, equation_equal, equations_symmetric, sum_rearranged, union_rearranged, none_of}
use Rattle.promises_replacing.specs.VisibleAlike.{member_rearranged, Once, OneOrigin, consistent_clear, clear_one, Like, like, like_none, any_alike, keep_alike, AlikeVisible, sorts_alike, names_alike, sort_names_alike, member_alike, consistent_alike, formals_alike, origin_of_alike, items_union_alike, unite_visible_alike}
use Rattle.promises.specs.Public.{pick_none}
use Rattle.promises.specs.TwoCalls.{came_through}
use Rattle.meaning.specs.OutcomeLaws.{then_fine, unless_fine, fine_same}
use Rattle.laws.specs.Decides.{both_true}
use Rattle.laws.specs.EveryLaws.{every_map, every_union}

-- ---- nothing is left, nothing is wrong

nothing_left : {A : Type 0} (xs : List A) → Rearranged [] xs → xs ≡ []
nothing_left [] d = refl
nothing_left (x ∷ xs) d = let e = rearranged_length d in absurd (omega (arith, e))

least_none : (ws : List Name) → ws ≡ [] → least ws ≡ none
unfolding least
least_none ws e = rw e

none_least : (ws : List Name) → least ws ≡ none → ws ≡ []
unfolding least lesser
none_least [] e = refl
none_least (w ∷ ws) e = go (least ws) e
  where
    go : (o : Option Name) → lesser w o ≡ none → w ∷ ws ≡ []
    go none e = let z : ◌≡◌ {A = ℕ} 0 1 = cc in absurd (omega arith)
    go (some v) e = by_cases (λ (x : Option Name). x ≡ none → w ∷ ws ≡ []) (not_after w v) (some w) (some v)
        (λ q f. let z : ◌≡◌ {A = ℕ} 0 1 = cc in absurd (omega arith)) (λ q f. let z : ◌≡◌ {A = ℕ} 0 1 = cc in absurd (omega arith)) e

neither : (a b : Bool) → (not a || b) ≡ false → (a ≡ true) × (b ≡ false)
neither true b e = (refl, e)
neither false b e = absurd (true≢false e)

module _ (τ : Name → Name) (keeps : (v w : Name) → same (τ v) (τ w) ≡ same v w) (tags : ℕ → ℕ → Name) where
  pub record Alike (n n' : Normal) : Type 0 where
    pub visible : AlikeVisible τ keeps n.visible n'.visible
    pub hidden_items : Like (re_item τ) n.hidden.items n'.hidden.items
    pub equations : Like (re_equation τ) n.hidden.equations n'.hidden.equations

  -- ---- room

  mutual
    unfolding term_nodes re_term

    nodes_kept : (x : ResolvedTerm) → term_nodes (re_term τ x) ≡ term_nodes x
    nodes_kept (var o s) = refl
    nodes_kept (app f xs) = ap (λ (n : ℕ). 1 + n) (all_nodes_kept xs)

    all_nodes_kept : (xs : ResolvedTerms) → terms_nodes (re_terms τ xs) ≡ terms_nodes xs
    all_nodes_kept none_left = refl
    all_nodes_kept (x and_then xs) = ap₂ (λ (m n : ℕ). m + n) (nodes_kept x) (all_nodes_kept xs)

  sides_nodes_kept : (e : ResolvedSides) → sides_nodes (re_sides τ e) ≡ sides_nodes e
  unfolding sides_nodes re_sides
  sides_nodes_kept e = rw (nodes_kept e.left, nodes_kept e.right)

  sum_map : {A B : Type 0} (g : A → B) (f : B → ℕ) (f' : A → ℕ) → ((x : A) → f (g x) ≡ f' x) → (xs : List A) → sum f (map g xs) ≡ sum f' xs
  unfolding sum
  sum_map g f f' h [] = refl
  sum_map g f f' h (x ∷ xs) = ap₂ (λ (m n : ℕ). m + n) (h x) (sum_map g f f' h xs)

  equation_nodes_kept : (e : ResolvedEquation) → equation_nodes (re_equation τ e) ≡ equation_nodes e
  unfolding equation_nodes re_equation
  equation_nodes_kept e = rw (sides_nodes_kept e.conclusion, sum_map (re_sides τ) sides_nodes sides_nodes sides_nodes_kept e.conditions)

  length_alike : {A B : Type 0} {g : A → B} {xs : List A} {ys : List B} → Like g xs ys → length ys ≡ length xs
  length_alike {g = g} {xs} d = sym (rearranged_length d.arranged) ∙ map_length g xs

  pub size_alike : {n n' : Normal} → Alike n n' → size n' ≡ size n
  unfolding size
  size_alike {n} {n'} a =
      let nodes : sum equation_nodes n'.hidden.equations ≡ sum equation_nodes n.hidden.equations =
      sym (sum_rearranged equation_nodes a.equations.arranged)
      ∙ sum_map (re_equation τ) equation_nodes equation_nodes equation_nodes_kept n.hidden.equations in
      λ i. record {
        items = length_alike a.visible.items i + length_alike a.hidden_items i;
        equations = length_alike a.equations i;
        nodes = nodes i;
      }

  pub room_alike : {n n' : Normal} → Alike n n' → room n' ≡ room n
  unfolding room
  room_alike {n} {n'} a = rw (size_alike a, sym (rearranged_length a.visible.parameters))

  -- ---- what is accepted is alike, its parameters have different names, and its visible sorts of one name have one origin

  pub record Both (n n' : Normal) : Type 0 where
    pub alike : Alike n n'
    pub once : Once n.visible
    pub one : OneOrigin n.visible.items
    pub tagged : Every (Tagged tags) n.hidden.equations

  abbrev pub Follows : Normal → Outcome Normal → Type 0
  Follows k o = (k' : Normal) × (o ≡ fine k') × Both k k'

  pub checked_alike : {n n' : Normal} → Alike n n' → Every (Tagged tags) n.hidden.equations → (k : Normal) → checked n ≡ fine k → Follows k (checked n')
  unfolding checked ◌>>◌
  checked_alike {n} {n'} a t k e =
      let c = then_fine (consistent n.visible []) (room n >> fine n) k e in
      let r = then_fine (room n) (fine n) k c.1 in
      let clear = consistent_clear n.visible [] c.0 in
      let q : n ≡ k = fine_same n k r.1 in (
        n',
        rw (consistent_alike τ keeps a.visible [] c.0, room_alike a, r.0),
        record {
          alike = subst (λ (x : Normal). Alike x n') q a;
          once = subst (λ (x : Normal). Once x.visible) q clear.once;
          one = subst (λ (x : Normal). OneOrigin x.visible.items) q (clear_one n.visible [] clear);
          tagged = subst (λ (x : Normal). Every (Tagged tags) x.hidden.equations) q t;
        },
      )

  -- ---- union

  pub equations_union_alike : {xs xs' ys ys' : List ResolvedEquation} → Like (re_equation τ) xs xs' → Like (re_equation τ) ys ys'
      → Every (Tagged tags) ys → Like (re_equation τ) (union one_equation xs ys) (union one_equation xs' ys')
  unfolding re_equation
  equations_union_alike {xs} {xs'} {ys} {ys'} d k h =
      like (re_equation τ) (union one_equation xs ys) (equations_united τ keeps xs ys)
      (union_rearranged one_equation equations_symmetric (Tagged tags) (equation_equal tags) d.arranged k.arranged
      (every_map (Tagged tags) (Tagged tags) (re_equation τ) (λ e t. record { tagged = t.tagged }) ys h))

  unite_alike : {a a' b b' : Normal} → Alike a a' → Alike b b' → OneOrigin (unite a b).visible.items
      → Every (Tagged tags) b.hidden.equations → Alike (unite a b) (unite a' b')
  unfolding unite unite_hidden
  unite_alike p q one h = record {
    visible = unite_visible_alike τ keeps p.visible q.visible one;
    hidden_items = items_union_alike τ keeps p.hidden_items q.hidden_items;
    equations = equations_union_alike p.equations q.equations h;
  }

  unite_tagged : (a b : Normal) → Every (Tagged tags) a.hidden.equations → Every (Tagged tags) b.hidden.equations
      → Every (Tagged tags) (unite a b).hidden.equations
  unfolding unite unite_hidden
  unite_tagged a b h k = every_union (Tagged tags) one_equation a.hidden.equations b.hidden.equations h k

  -- where a union is accepted its sorts of one name have one origin, and so they have in both that are united
  pub union_follows : {a a' b b' : Normal} → Alike a a' → Alike b b' → Every (Tagged tags) a.hidden.equations
      → Every (Tagged tags) b.hidden.equations → (k : Normal) → checked (unite a b) ≡ fine k → Follows k (checked (unite a' b'))
  unfolding checked
  union_follows {a} {a'} {b} {b'} p q h g k e =
      let c = (then_fine (consistent (unite a b).visible []) _ k e).0 in
      checked_alike (unite_alike p q (clear_one (unite a b).visible [] (consistent_clear (unite a b).visible [] c)) g) (unite_tagged a b h g) k e

  -- ---- translation

  moved : {A : Type 0} (re move move' : A → A) → ((x : A) → move' (re x) ≡ re (move x)) → {xs xs' : List A} → Like re xs xs'
      → Like re (map move xs) (map move' xs')
  moved re move move' h {xs} d = like re (map move xs) (map_twice re move' move re h xs) (Permᴰ.map move' d.arranged)

  module _ (σ σ' : Name → Name) (φ φ' : Name → FunctionType → Name) (same_σ : (a : Name) → σ' (τ a) ≡ τ (σ a))
      (same_φ : (f : Name) (t : FunctionType) → φ' (τ f) (re_type τ t) ≡ τ (φ f t)) where
    moved_tagged : (es : List ResolvedEquation) → Every (Tagged tags) es → Every (Tagged tags) (map (move_equation σ φ) es)
    unfolding move_equation
    moved_tagged es h = every_map (Tagged tags) (Tagged tags) (move_equation σ φ) (λ e t. record { tagged = t.tagged }) es h

    pub move_alike : {n n' : Normal} → Alike n n' → Every (Tagged tags) n.hidden.equations → Alike (move σ φ n) (move σ' φ' n')
    unfolding move move_visible move_hidden
    move_alike {n} {n'} a t =
        let items = moved (re_item τ) (move_item σ φ) (move_item σ' φ') (move_item_kept τ keeps σ σ' φ φ' same_σ same_φ) a.visible.items in
        let hidden =
        moved (re_item τ) (move_hidden_item σ φ) (move_hidden_item σ' φ') (move_hidden_item_kept τ keeps σ σ' φ φ' same_σ same_φ) a.hidden_items in
        let equations = moved (re_equation τ) (move_equation σ φ) (move_equation σ' φ') (move_equation_kept τ keeps σ σ' φ φ' same_σ same_φ) a.equations in
        record {
          visible = record { parameters = a.visible.parameters; items = items_union_alike τ keeps (like_none _) items };
          hidden_items = items_union_alike τ keeps (like_none _) hidden;
          equations = equations_union_alike (like_none _) equations (moved_tagged n.hidden.equations t);
        }

    pub move_tagged : (n : Normal) → Every (Tagged tags) n.hidden.equations → Every (Tagged tags) (move σ φ n).hidden.equations
    unfolding move move_hidden
    move_tagged n t = every_union (Tagged tags) one_equation [] (map (move_equation σ φ) n.hidden.equations) tt (moved_tagged n.hidden.equations t)

  -- ---- renaming

  abbrev pub re_pairs : List Pair → List Pair
  re_pairs rs = map (re_pair τ) rs

  paired_kept : (rs : List Pair) (w : Name) → paired (re_pairs rs) (τ w) ≡ Option.map τ (paired rs w)
  unfolding paired re_pair
  paired_kept [] w = refl
  paired_kept (r ∷ rs) w =
      ap₂ (λ (b : Bool) (o : Option Name). pick b (some (τ r.new)) o) (keeps r.old w) (paired_kept rs w)
      ∙ pick_map (Option.map τ) (same r.old w) (some r.new) (paired rs w)

  renaming_kept : (rs : List Pair) (w : Name) → renaming (re_pairs rs) (τ w) ≡ τ (renaming rs w)
  unfolding renaming otherwise
  renaming_kept rs w = ap (otherwise (τ w)) (paired_kept rs w) ∙ go (paired rs w)
    where
      go : (o : Option Name) → otherwise (τ w) (Option.map τ o) ≡ τ (otherwise w o)
      go none = refl
      go (some n) = refl

  -- the new name may stand for what it did under the change: it is so of all but the name that the change takes to an operator
  abbrev pub Easier : Pair → Type 0
  Easier r = (s : Shape) → may_name r.new s ≡ true → may_name (τ r.new) (re_shape τ s) ≡ true

  renames_alike : {is is' : List Item} → Like (re_item τ) is is' → (r : Pair) → Easier r → renames is r ≡ true → renames is' (re_pair τ r) ≡ true
  unfolding renames re_pair re_item
  renames_alike {is} {is'} d r easier e =
      let h = both_true _ _ e in
      let found : any (is_called (τ r.old)) is' ≡ true = any_alike (re_item τ) _ (is_called r.old) (called_kept τ keeps r.old) d ∙ h.0 in
      let none_wrong =
      none_of (λ (i : Item). is_called (τ r.old) i && not (may_name (τ r.new) i.shape)) is'
      (rearranged_every _ d.arranged (every_map _ _ (re_item τ) fits is (any_none _ is (not-true _ h.1)))) in
      rw (found, none_wrong)
    where
      fits : (i : Item) → (is_called r.old i && not (may_name r.new i.shape)) ≡ false
          → (is_called (τ r.old) (re_item τ i) && not (may_name (τ r.new) (re_item τ i).shape)) ≡ false
      fits i q = rw (called_kept τ keeps r.old i) (go (is_called r.old i) (may_name r.new i.shape) refl q)
        where
          go : (b c : Bool) → may_name r.new i.shape ≡ c → (b && not c) ≡ false → (b && not (may_name (τ r.new) (re_item τ i).shape)) ≡ false
          go false c k q = refl
          go true true k q = ap not (easier i.shape k)
          go true false k q = absurd (true≢false q)

  renamings_alike : {is is' : List Item} → Like (re_item τ) is is' → (seen : List Name) (rs : List Pair) → Every Easier rs
      → wrong_renaming is seen rs ≡ none → wrong_renaming is' (map τ seen) (re_pairs rs) ≡ none
  unfolding wrong_renaming re_pair pick first_bad
  renamings_alike d seen [] h e = refl
  renamings_alike {is} {is'} d seen (r ∷ rs) h e =
      let p = pick_none _ _ _ e in
      let q = neither _ _ p.0 in
      rw (renames_alike d r h.0 q.0, member_kept τ keeps r.old seen, q.1) (renamings_alike d (r.old ∷ seen) rs h.1 p.1)

  pub rename_alike : {n n' : Normal} → Both n n' → (rs : List Pair) → Every Easier rs → (k : Normal) → rename rs n ≡ fine k
      → Follows k (rename (re_pairs rs) n')
  unfolding rename ◌>>◌ unless
  rename_alike {n} {n'} b rs h k e =
      let c = then_fine _ _ k e in
      rw (renamings_alike b.alike.visible.items [] rs h (unless_fine _ _ c.0)) (checked_alike
      (move_alike (renaming rs) (renaming (re_pairs rs)) (λ f t. renaming rs f) (λ f t. renaming (re_pairs rs) f) (renaming_kept rs)
      (λ f t. renaming_kept rs f) b.alike b.tagged)
      (move_tagged (renaming rs) (renaming (re_pairs rs)) (λ f t. renaming rs f) (λ f t. renaming (re_pairs rs) f) (renaming_kept rs)
      (λ f t. renaming_kept rs f) n b.tagged)
      k c.1)

  -- ---- binding

  without_alike : (p : Name) {n n' : Normal} → Alike n n' → Alike (without p n) (without p n')
  unfolding without without_visible re_item
  without_alike p a = record {
    visible = record {
      parameters = keep_rearranged (λ (q : Slot). not (same p q.name)) a.visible.parameters;
      items = keep_alike (re_item τ) _ _ (λ i. refl) a.visible.items;
    };
    hidden_items = a.hidden_items;
    equations = a.equations;
  }

  module _ {n n' a a' : Normal} (b : Both n n') (c : Both a a') (p : Name) (rs : List Pair) where
    abbrev F : List Item
    F = formals p n.visible

    abbrev F' : List Item
    F' = formals p n'.visible

    abbrev σ : Name → Name
    σ = new_sort F rs

    abbrev σ' : Name → Name
    σ' = new_sort F' (re_pairs rs)

    abbrev φ : Name → FunctionType → Name
    φ = new_function F rs

    abbrev φ' : Name → FunctionType → Name
    φ' = new_function F' (re_pairs rs)

    like_F : Like (re_item τ) F F'
    like_F = formals_alike τ keeps p b.alike.visible

    formal_sort_kept : (s : Name) → is_formal_sort F' (τ s) ≡ is_formal_sort F s
    unfolding is_formal_sort
    formal_sort_kept s = any_alike (re_item τ) (is_called (τ s)) (is_called s) (called_kept τ keeps s) (sorts_alike τ keeps like_F)

    same_σ : (s : Name) → σ' (τ s) ≡ τ (σ s)
    unfolding new_sort
    same_σ s = ap₂ (λ (b : Bool) (w : Name). pick b w (τ s)) (formal_sort_kept s) (renaming_kept rs s) ∙ pick_map τ (is_formal_sort F s) (renaming rs s) s

    same_φ : (f : Name) (t : FunctionType) → φ' (τ f) (re_type τ t) ≡ τ (φ f t)
    unfolding new_function re_item re_shape
    same_φ f t =
        ap₂ (λ (b : Bool) (w : Name). pick b w (τ f))
        (any_alike (re_item τ) (λ (i : Item). is_called (τ f) i && same_shape (function_shape (re_type τ t)) i.shape)
        (λ (i : Item). is_called f i && same_shape (function_shape t) i.shape)
        (λ i. ap₂ (λ (b c : Bool). b && c) (called_kept τ keeps f i) (shape_kept τ keeps (function_shape t) i.shape)) like_F) (renaming_kept rs f)
        ∙ pick_map τ (any (λ (i : Item). is_called f i && same_shape (function_shape t) i.shape) F) (renaming rs f) f

    among_kept : (o : Option Name) → is_among (sort_names a'.visible) (Option.map τ o) ≡ is_among (sort_names a.visible) o
    unfolding is_among
    among_kept none = refl
    among_kept (some w) = member_alike τ keeps w (sort_names_alike τ keeps c.alike.visible)

    origins_kept : (o p : Option Origin) → same_origins (Option.map (re_origin τ) o) (Option.map (re_origin τ) p) ≡ same_origins o p
    unfolding same_origins
    origins_kept none none = refl
    origins_kept none (some p) = refl
    origins_kept (some o) none = refl
    origins_kept (some o) (some p) = origin_kept τ keeps o p

    sort_right_kept : (s : Sort) → sort_right F' (re_pairs rs) n'.visible a'.visible (re_sort τ s) ≡ sort_right F rs n.visible a.visible s
    unfolding sort_right re_sort
    sort_right_kept (hidden_sort o) = refl
    sort_right_kept (visible_sort s) =
        rw (
          formal_sort_kept s,
          paired_kept rs s,
          among_kept (paired rs s),
          origin_of_alike τ keeps b.alike.visible b.one s,
          origin_of_alike τ keeps c.alike.visible c.one s,
          origins_kept (origin_of n.visible s) (origin_of a.visible s),
        )

    sorts_right_kept : (t : FunctionType) → sorts_right F' (re_pairs rs) n'.visible a'.visible (re_type τ t)
        ≡ sorts_right F rs n.visible a.visible t
    unfolding sorts_right re_type
    sorts_right_kept t =
        ap not (any_map (re_sort τ) (λ (s : Sort). not (sort_right F' (re_pairs rs) n'.visible a'.visible s))
        (λ (s : Sort). not (sort_right F rs n.visible a.visible s)) (λ s. ap not (sort_right_kept s)) (t.output ∷ t.inputs))

    kind_right_kept : (w : Name) (s : Shape) → kind_right a'.visible (τ w) (re_shape τ s) ≡ kind_right a.visible w s
    unfolding kind_right re_shape re_item
    kind_right_kept w sort_shape = member_alike τ keeps w (sort_names_alike τ keeps c.alike.visible)
    kind_right_kept w (variable_shape s) = refl
    kind_right_kept w (function_shape t) =
        any_alike (re_item τ) (λ (i : Item). is_called (τ w) i && is_function i.shape) (λ (i : Item). is_called w i && is_function i.shape)
        (λ i. ap₂ (λ (b c : Bool). b && c) (called_kept τ keeps w i) (is_function_kept τ keeps i.shape)) c.alike.visible.items

    type_right_kept : (w : Name) (s : Shape) → type_right F' (re_pairs rs) n'.visible a'.visible (τ w) (re_shape τ s)
        ≡ type_right F rs n.visible a.visible w s
    unfolding type_right re_shape re_item
    type_right_kept w sort_shape = refl
    type_right_kept w (variable_shape s) = refl
    type_right_kept w (function_shape t) =
        ap₂ (λ (b c : Bool). b && c) (sorts_right_kept t) (any_alike (re_item τ)
        (λ (i : Item). is_called (τ w) i && same_shape (function_shape (move_type σ' φ' (re_type τ t))) i.shape)
        (λ (i : Item). is_called w i && same_shape (function_shape (move_type σ φ t)) i.shape) (λ i. ap₂ (λ (b c : Bool). b && c) (called_kept τ keeps w i)
        (ap (λ (u : FunctionType). same_shape (function_shape u) (re_shape τ i.shape)) (move_type_kept τ keeps σ σ'
        φ φ' same_σ same_φ t) ∙ shape_kept τ keeps (function_shape (move_type σ φ t)) i.shape)) c.alike.visible.items)

    all_right_kept : (right right' : Name → Shape → Bool) → ((w : Name) (s : Shape) → right' (τ w) (re_shape τ s) ≡ right w s) → (r : Pair)
        → all_right F' right' (re_pair τ r) ≡ all_right F right r
    unfolding all_right re_pair re_item
    all_right_kept right right' kept r =
        ap not (any_alike (re_item τ) (λ (i : Item). is_called (τ r.old) i && not (right' (τ r.new) i.shape))
        (λ (i : Item). is_called r.old i && not (right r.new i.shape))
        (λ i. ap₂ (λ (b c : Bool). b && not c) (called_kept τ keeps r.old i) (kept r.new i.shape)) like_F)

    pair_right_kept : (seen : List Name) (r : Pair) → RightPair F rs n.visible a.visible seen r
        → RightPair F' (re_pairs rs) n'.visible a'.visible (map τ seen) (re_pair τ r)
    unfolding re_pair
    pair_right_kept seen r h = record {
      formal_there = any_alike (re_item τ) (is_called (τ r.old)) (is_called r.old) (called_kept τ keeps r.old) like_F ∙ h.formal_there;
      not_before = ap not (member_kept τ keeps r.old seen) ∙ h.not_before;
      actual_there =
          any_alike (re_item τ) (is_called (τ r.new)) (is_called r.new) (called_kept τ keeps r.new) c.alike.visible.items ∙ h.actual_there;
      kinds = all_right_kept (kind_right a.visible) (kind_right a'.visible) kind_right_kept r ∙ h.kinds;
      types = all_right_kept (type_right F rs n.visible a.visible) (type_right F' (re_pairs rs) n'.visible a'.visible) type_right_kept r ∙ h.types;
    }

    pairs_right_kept : (seen : List Name) (xs : List Pair) → pairs_right F rs n.visible a.visible seen xs ≡ fine tt
        → pairs_right F' (re_pairs rs) n'.visible a'.visible (map τ seen) (re_pairs xs) ≡ fine tt
    unfolding pairs_right re_pair ◌>>◌ each_beside
    pairs_right_kept seen [] e = refl
    pairs_right_kept seen (x ∷ xs) e =
        let both = then_fine _ _ tt e in
        let right = pair_right_kept seen x (pair_fine F rs n.visible a.visible seen x both.0) in
        rw (fine_pair F' (re_pairs rs) n'.visible a'.visible (map τ seen) (re_pair τ x) right) (pairs_right_kept (x.old ∷ seen) xs both.1)

    none_unpaired : unpaired F rs ≡ none → unpaired F' (re_pairs rs) ≡ none
    unfolding unpaired re_pair
    none_unpaired e =
        let d =
        keep_alike τ (λ (w : Name). not (any (λ (r : Pair). same w r.old) (re_pairs rs))) (λ (w : Name). not (any (λ (r : Pair). same w r.old) rs))
        (λ w. ap not (any_map (re_pair τ) (λ (r : Pair). same (τ w) r.old) (λ (r : Pair). same w r.old) (λ r. keeps w r.old) rs))
        (names_alike τ keeps like_F) in
        least_none left (nothing_left left (subst (λ (r : List Name). Rearranged (map τ r) left) (none_least _ e) d.arranged))
      where
        left : List Name
        left = keep (λ (w : Name). not (any (λ (r : Pair). same w r.old) (re_pairs rs))) (names_in F')

    bound_alike : (k : Normal) → bound_to p rs n a ≡ fine k → Follows k (bound_to p (re_pairs rs) n' a')
    unfolding bound_to ◌>>◌ unless without
    bound_alike k e =
        let f = then_fine (pairs_right F rs n.visible a.visible [] rs) _ k e in
        let g = then_fine (unless formal_unpaired (unpaired F rs)) _ k f.1 in
        rw (pairs_right_kept [] rs f.0, none_unpaired (unless_fine _ _ g.0))
        (union_follows (move_alike σ σ' φ φ' same_σ same_φ (without_alike p b.alike) b.tagged) c.alike
        (move_tagged σ σ' φ φ' same_σ same_φ (without p n) b.tagged) c.tagged k g.1)

    pub bind_alike : (k : Normal) → bind p rs n a ≡ fine k → Follows k (bind p (re_pairs rs) n' a')
    unfolding bind slot_names pick
    bind_alike k e =
        let q = came_through (member p (slot_names n.visible.parameters)) _ _ _ k e in
        rw (← member_rearranged p (Permᴰ.map (λ (q : Slot). q.name) b.alike.visible.parameters), q.0) (bound_alike k q.1)
