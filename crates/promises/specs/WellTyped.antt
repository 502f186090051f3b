-- Well-typed equations: what stands at each node is an item of the normal form, a function's inputs are its arguments' sorts, and both sides
-- have one sort.
use Rattle.std.specs.Prelude.{◌≡◌}
use Rattle.std.proofs.Math.Path.{refl, sym, ap, ap₂}
use Rattle.std.proofs.Common.{◌∙◌}
use mathlib.Core.List.{List, [], ◌∷◌, map, Memᴰ}
use Rattle.meaning.specs.Lists.{union}
use Rattle.meaning.specs.Names.{Name}
use Rattle.meaning.specs.Origins.{Origin, Sort, FunctionType, Head, visible_head, hidden_head, ResolvedTerm, var, app, ResolvedTerms, none_left, ◌and_then◌, ResolvedSides, ResolvedEquation, Shape, function_shape, variable_shape, Item, one_item, one_equation}
use Rattle.meaning.specs.Normal.{Normal, unite_visible, unite_hidden, unite, move_sort, move_type, move_shape, move_name, move_item, move_hidden_item, move_head, move_term, move_terms, move_sides, move_equation, move_visible, move_hidden, move}
use Rattle.meaning.specs.Written.{in_order}
use Rattle.meaning.specs.OrderLaws.{Every, rearranged_every, rearranged_member}
use Rattle.laws.specs.EveryLaws.{every_so, every_map, every_union, member_map_to}
use Rattle.promises.specs.ListingLaws.{Plain}
use Rattle.promises.specs.SameListing.{same_ordered}
use Rattle.promises.specs.Sound.{union_left, union_right}

-- ---- the sort of a term

unfoldable pub head_type : Head → FunctionType
head_type (visible_head f t) = t
head_type (hidden_head o t) = t

unfoldable pub sort_of : ResolvedTerm → Sort
sort_of (var o s) = s
sort_of (app f xs) = (head_type f).output

unfoldable pub sorts_of : ResolvedTerms → List Sort
sorts_of none_left = []
sorts_of (x and_then xs) = sort_of x ∷ sorts_of xs

-- ---- what is well typed

-- an item of this name and shape; an item of this origin and shape
abbrev pub Named : List Item → Name → Shape → Type 0
Named is f s = (i : Item) × Memᴰ i is × (i.name ≡ f) × (i.shape ≡ s)

abbrev pub From : List Item → Origin → Shape → Type 0
From is o s = (i : Item) × Memᴰ i is × (i.origin ≡ o) × (i.shape ≡ s)

module _ (visible hidden : List Item) where
  abbrev pub TypedHead : Head → Type 0
  TypedHead (visible_head f t) = Named visible f (function_shape t)
  TypedHead (hidden_head o t) = From hidden o (function_shape t)

  abbrev mutual
    pub TypedTerm : ResolvedTerm → Type 0
    TypedTerm (var o s) = From hidden o (variable_shape s)
    TypedTerm (app f xs) = TypedHead f × TypedTerms xs × (sorts_of xs ≡ (head_type f).inputs)

    pub TypedTerms : ResolvedTerms → Type 0
    TypedTerms none_left = Unit {0}
    TypedTerms (x and_then xs) = TypedTerm x × TypedTerms xs

  abbrev pub TypedSides : ResolvedSides → Type 0
  TypedSides e = TypedTerm e.left × TypedTerm e.right × (sort_of e.left ≡ sort_of e.right)

  -- and the tag is plain
  pub record TypedEquation (e : ResolvedEquation) : Type 0 where
    pub tag : Plain e.tag
    pub conclusion : TypedSides e.conclusion
    pub conditions : Every TypedSides e.conditions

abbrev pub WellTyped : Normal → Type 0
WellTyped n = Every (TypedEquation n.visible.items n.hidden.items) n.hidden.equations

-- ---- more items

module _ (visible hidden visible' hidden' : List Item) (v : (i : Item) → Memᴰ i visible → Memᴰ i visible')
    (h : (i : Item) → Memᴰ i hidden → Memᴰ i hidden') where
  from_wider : (o : Origin) (s : Shape) → From hidden o s → From hidden' o s
  from_wider o s d = (d.0, h d.0 d.1, d.2, d.3)

  head_wider : (f : Head) → TypedHead visible hidden f → TypedHead visible' hidden' f
  head_wider (visible_head f t) d = (d.0, v d.0 d.1, d.2, d.3)
  head_wider (hidden_head o t) d = from_wider o (function_shape t) d

  mutual
    term_wider : (t : ResolvedTerm) → TypedTerm visible hidden t → TypedTerm visible' hidden' t
    term_wider (var o s) d = from_wider o (variable_shape s) d
    term_wider (app f xs) d = (head_wider f d.0, terms_wider xs d.1, d.2)

    terms_wider : (ts : ResolvedTerms) → TypedTerms visible hidden ts → TypedTerms visible' hidden' ts
    terms_wider none_left d = tt
    terms_wider (x and_then xs) d = (term_wider x d.0, terms_wider xs d.1)

  sides_wider : (e : ResolvedSides) → TypedSides visible hidden e → TypedSides visible' hidden' e
  sides_wider e d = (term_wider e.left d.0, term_wider e.right d.1, d.2)

  pub typed_wider : (es : List ResolvedEquation) → Every (TypedEquation visible hidden) es → Every (TypedEquation visible' hidden') es
  typed_wider es = every_so (TypedEquation visible hidden) (TypedEquation visible' hidden') es (λ e d. record {
    tag = d.tag;
    conclusion = sides_wider e.conclusion d.conclusion;
    conditions = every_so (TypedSides visible hidden) (TypedSides visible' hidden') e.conditions sides_wider d.conditions;
  })

-- ---- new names

module _ (σ : Name → Name) (φ : Name → FunctionType → Name) (visible hidden visible' hidden' : List Item)
    (v : (f : Name) (t : FunctionType) → Named visible f (function_shape t) → Named visible' (φ f t) (function_shape (move_type σ φ t)))
    (h : (i : Item) → Memᴰ i hidden → Memᴰ (move_hidden_item σ φ i) hidden') where
  from_moved : (o : Origin) (s : Shape) → From hidden o s → From hidden' o (move_shape σ φ s)
  unfolding move_hidden_item
  from_moved o s d = (move_hidden_item σ φ d.0, h d.0 d.1, d.2, ap (move_shape σ φ) d.3)

  head_moved : (f : Head) → TypedHead visible hidden f → TypedHead visible' hidden' (move_head σ φ f)
  unfolding move_head move_shape
  head_moved (visible_head f t) d = v f t d
  head_moved (hidden_head o t) d = from_moved o (function_shape t) d

  type_moved : (f : Head) → head_type (move_head σ φ f) ≡ move_type σ φ (head_type f)
  unfolding head_type move_head
  type_moved (visible_head f t) = refl
  type_moved (hidden_head o t) = refl

  sort_moved : (t : ResolvedTerm) → sort_of (move_term σ φ t) ≡ move_sort σ φ (sort_of t)
  unfolding sort_of move_term move_type
  sort_moved (var o s) = refl
  sort_moved (app f xs) = ap (λ (t : FunctionType). t.output) (type_moved f)

  sorts_moved : (ts : ResolvedTerms) → sorts_of (move_terms σ φ ts) ≡ map (move_sort σ φ) (sorts_of ts)
  unfolding sorts_of move_term
  sorts_moved none_left = refl
  sorts_moved (x and_then xs) = rw (sort_moved x, sorts_moved xs)

  inputs_moved : (f : Head) (xs : ResolvedTerms) → sorts_of xs ≡ (head_type f).inputs
      → sorts_of (move_terms σ φ xs) ≡ (head_type (move_head σ φ f)).inputs
  unfolding move_type
  inputs_moved f xs e = sorts_moved xs ∙ ap (map (move_sort σ φ)) e ∙ ap (λ (t : FunctionType). t.inputs) (sym (type_moved f))

  mutual
    unfolding move_term move_shape

    term_moved : (t : ResolvedTerm) → TypedTerm visible hidden t → TypedTerm visible' hidden' (move_term σ φ t)
    term_moved (var o s) d = from_moved o (variable_shape s) d
    term_moved (app f xs) d = (head_moved f d.0, terms_moved xs d.1, inputs_moved f xs d.2)

    terms_moved : (ts : ResolvedTerms) → TypedTerms visible hidden ts → TypedTerms visible' hidden' (move_terms σ φ ts)
    terms_moved none_left d = tt
    terms_moved (x and_then xs) d = (term_moved x d.0, terms_moved xs d.1)

  sides_moved : (e : ResolvedSides) → TypedSides visible hidden e → TypedSides visible' hidden' (move_sides σ φ e)
  unfolding move_sides
  sides_moved e d =
      let sorts = sort_moved e.left ∙ ap (move_sort σ φ) d.2 ∙ sym (sort_moved e.right) in
      (term_moved e.left d.0, term_moved e.right d.1, sorts)

  pub typed_moved : (es : List ResolvedEquation) → Every (TypedEquation visible hidden) es
      → Every (TypedEquation visible' hidden') (map (move_equation σ φ) es)
  unfolding move_equation
  typed_moved es = every_map (TypedEquation visible hidden) (TypedEquation visible' hidden') (move_equation σ φ) (λ e d. record {
    tag = d.tag;
    conclusion = sides_moved e.conclusion d.conclusion;
    conditions = every_map (TypedSides visible hidden) (TypedSides visible' hidden') (move_sides σ φ) sides_moved e.conditions d.conditions;
  }) es

-- ---- unions, translations and the order of a listing keep equations well typed

pub unite_typed : (a b : Normal) → WellTyped a → WellTyped b → WellTyped (unite a b)
unfolding unite unite_visible unite_hidden
unite_typed a b d d' =
    let vs = a.visible.items in
    let ws = b.visible.items in
    let is = a.hidden.items in
    let js = b.hidden.items in
    every_union (TypedEquation (union one_item vs ws) (union one_item is js)) one_equation a.hidden.equations b.hidden.equations
    (typed_wider vs is _ _ (union_left vs ws) (union_left is js) a.hidden.equations d)
    (typed_wider ws js _ _ (union_right vs ws) (union_right is js) b.hidden.equations d')

module _ (σ : Name → Name) (φ : Name → FunctionType → Name) where
  -- an item under its new name
  pub named_moved : (is : List Item) (f : Name) (t : FunctionType) (i : Item) → Memᴰ (move_item σ φ i) is → i.name ≡ f
      → i.shape ≡ function_shape t → Named is (φ f t) (function_shape (move_type σ φ t))
  unfolding move_item move_name move_shape
  named_moved is f t i m n s = (move_item σ φ i, m, ap₂ (move_name σ φ) n s, ap (move_shape σ φ) s)

  pub moved_member : (is : List Item) (i : Item) → Memᴰ i is → Memᴰ (move_hidden_item σ φ i) (union one_item [] (map (move_hidden_item σ φ) is))
  moved_member is i m = union_right [] (map (move_hidden_item σ φ) is) (move_hidden_item σ φ i) (member_map_to (move_hidden_item σ φ) m)

  pub move_typed : (n : Normal) → WellTyped n → WellTyped (move σ φ n)
  unfolding move move_visible move_hidden
  move_typed n d =
      let vs = n.visible.items in
      let is = n.hidden.items in
      every_union (TypedEquation (union one_item [] (map (move_item σ φ) vs)) (union one_item [] (map (move_hidden_item σ φ) is))) one_equation []
      (map (move_equation σ φ) n.hidden.equations) tt
      (typed_moved σ φ vs is _ _
      (λ f t e. named_moved _ f t e.0 (union_right [] (map (move_item σ φ) vs) (move_item σ φ e.0) (member_map_to (move_item σ φ) e.1)) e.2 e.3)
      (moved_member is) n.hidden.equations d)

pub in_order_typed : (n : Normal) → WellTyped n → WellTyped (in_order n)
in_order_typed n t =
    let d = same_ordered n in
    rearranged_every _ d.equations
    (typed_wider n.visible.items n.hidden.items _ _ (λ i m. rearranged_member d.items m) (λ i m. rearranged_member d.hidden_items m)
    n.hidden.equations t)
