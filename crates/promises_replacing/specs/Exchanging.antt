-- A change of names that keeps different names different is kept by all that compares, looks up, unites and moves.
use Rattle.std.specs.Prelude.{◌≡◌, ℕ, suc, Bool, false, length}
use Rattle.std.proofs.Math.Path.{refl, ap, ap₂}
use Rattle.std.proofs.Common.{sym, ◌∙◌}
use Rattle.std.proofs.Math.Bool.{true}
use Rattle.std.proofs.Math.Option
use Rattle.std.proofs.Math.Option.{Option, some}
use mathlib.Core.List.{List, [], ◌∷◌, ◌++◌, map, map-append}
use Rattle.meaning.specs.Lists.{pick, keep, any, first, agree, union}
use Rattle.meaning.specs.Names.{Name, same, member}
use Rattle.meaning.specs.Origins.{Declared, declared_sort, declared_function, declared_variable, Origin, same_declared, same_origin, Sort, visible_sort, hidden_sort, same_sort, FunctionType, same_type, Head, visible_head, hidden_head, same_head, ResolvedTerm, var, app, ResolvedTerms, none_left, ◌and_then◌, same_term, same_terms, ResolvedSides, same_sides, ResolvedEquation, Shape, sort_shape, function_shape, variable_shape, same_shape, is_sort, is_function, Item, one_item, one_equation}
use Rattle.meaning.specs.Normal.{names_in, is_called, move_sort, move_type, move_shape, move_name, move_item, move_hidden_item, move_head, move_term, move_terms, move_sides, move_equation}
use Rattle.promises_replacing.specs.Changing.{re_declared, re_origin, re_sort, re_type, re_shape, re_item, re_head, re_term, re_terms, re_sides, re_equation}

-- ---- lists, each item under g: the tests p and e of what it becomes are q and d of what it was

pub pick_map : {A B : Type 0} (g : A → B) (b : Bool) (x y : A) → pick b (g x) (g y) ≡ g (pick b x y)
unfolding pick
pick_map g true x y = refl
pick_map g false x y = refl

pub map_map : {A B C : Type 0} (f : A → B) (g : B → C) (xs : List A) → map g (map f xs) ≡ map (λ (x : A). g (f x)) xs
map_map f g [] = refl
map_map f g (x ∷ xs) = ap (λ (r : List _). g (f x) ∷ r) (map_map f g xs)

pub map_so : {A B : Type 0} (f g : A → B) → ((x : A) → f x ≡ g x) → (xs : List A) → map f xs ≡ map g xs
map_so f g h [] = refl
map_so f g h (x ∷ xs) = ap₂ (λ (y : _) (r : List _). y ∷ r) (h x) (map_so f g h xs)

pub map_twice : {A B C D : Type 0} (f : A → B) (g : B → D) (f' : A → C) (g' : C → D) → ((x : A) → g (f x) ≡ g' (f' x)) → (xs : List A)
    → map g (map f xs) ≡ map g' (map f' xs)
map_twice f g f' g' h xs = map_map f g xs ∙ map_so _ _ h xs ∙ sym (map_map f' g' xs)

pub map_length : {A B : Type 0} (f : A → B) (xs : List A) → length (map f xs) ≡ length xs
map_length f [] = refl
map_length f (x ∷ xs) = ap (λ (n : ℕ). suc n) (map_length f xs)

module _ {A B : Type 0} (g : A → B) (p : B → Bool) (q : A → Bool) (h : (x : A) → p (g x) ≡ q x) where
  pub any_map : (xs : List A) → any p (map g xs) ≡ any q xs
  unfolding any
  any_map [] = refl
  any_map (x ∷ xs) = ap₂ (λ (b r : Bool). pick b true r) (h x) (any_map xs)

  pub keep_map : (xs : List A) → keep p (map g xs) ≡ map g (keep q xs)
  unfolding keep
  keep_map [] = refl
  keep_map (x ∷ xs) = ap₂ (λ (b : Bool) (r : List B). pick b (g x ∷ r) r) (h x) (keep_map xs) ∙ pick_map (map g) (q x) (x ∷ keep q xs) (keep q xs)

  pub first_map : (xs : List A) → first p (map g xs) ≡ Option.map g (first q xs)
  unfolding first
  first_map [] = refl
  first_map (x ∷ xs) = ap₂ (λ (b : Bool) (r : Option B). pick b (some (g x)) r) (h x) (first_map xs) ∙ pick_map (Option.map g) (q x) (some x) (first q xs)

module _ {A B : Type 0} (g : A → B) (e : B → B → Bool) (d : A → A → Bool) (h : (x y : A) → e (g x) (g y) ≡ d x y) where
  pub agree_map : (xs ys : List A) → agree e (map g xs) (map g ys) ≡ agree d xs ys
  unfolding agree
  agree_map [] [] = refl
  agree_map [] (y ∷ ys) = refl
  agree_map (x ∷ xs) [] = refl
  agree_map (x ∷ xs) (y ∷ ys) = ap₂ (λ (b r : Bool). pick b r false) (h x y) (agree_map xs ys)

  pub union_map : (xs ys : List A) → union e (map g xs) (map g ys) ≡ map g (union d xs ys)
  unfolding union
  union_map xs [] = refl
  union_map xs (y ∷ ys) =
      (λ i. pick (any_map g (e (g y)) (d y) (h y) xs i) (union_map xs ys i)
      ((ap (λ (r : List B). union e r (map g ys)) (sym (map-append g xs (y ∷ []))) ∙ union_map (xs ++ (y ∷ [])) ys) i))
      ∙ pick_map (map g) (any (d y) xs) (union d xs ys) (union d (xs ++ (y ∷ [])) ys)

-- ---- under a change of names

module _ (τ : Name → Name) (keeps : (v w : Name) → same (τ v) (τ w) ≡ same v w) where
  pub member_kept : (w : Name) (ws : List Name) → member (τ w) (map τ ws) ≡ member w ws
  unfolding member
  member_kept w [] = refl
  member_kept w (x ∷ ws) = ap₂ (λ (b r : Bool). pick b true r) (keeps w x) (member_kept w ws)

  -- ---- what is the same

  declared_kept : (a b : Declared) → same_declared (re_declared τ a) (re_declared τ b) ≡ same_declared a b
  unfolding same_declared re_declared
  declared_kept (declared_sort a) (declared_sort b) = keeps a b
  declared_kept (declared_sort a) (declared_function f i o) = refl
  declared_kept (declared_sort a) (declared_variable v s) = refl
  declared_kept (declared_function f i o) (declared_sort b) = refl
  declared_kept (declared_function f i o) (declared_function g j p) = rw (keeps f g, agree_map τ same same keeps i j, keeps o p)
  declared_kept (declared_function f i o) (declared_variable v s) = refl
  declared_kept (declared_variable v s) (declared_sort b) = refl
  declared_kept (declared_variable v s) (declared_function g j p) = refl
  declared_kept (declared_variable v s) (declared_variable w t) = rw (keeps v w, keeps s t)

  pub origin_kept : (a b : Origin) → same_origin (re_origin τ a) (re_origin τ b) ≡ same_origin a b
  unfolding same_origin re_origin
  origin_kept a b = rw (declared_kept a.declared b.declared)

  pub sort_kept : (a b : Sort) → same_sort (re_sort τ a) (re_sort τ b) ≡ same_sort a b
  unfolding same_sort re_sort
  sort_kept (visible_sort a) (visible_sort b) = keeps a b
  sort_kept (visible_sort a) (hidden_sort p) = refl
  sort_kept (hidden_sort o) (visible_sort b) = refl
  sort_kept (hidden_sort o) (hidden_sort p) = origin_kept o p

  pub sorts_kept : (xs ys : List Sort) → agree same_sort (map (re_sort τ) xs) (map (re_sort τ) ys) ≡ agree same_sort xs ys
  sorts_kept = agree_map (re_sort τ) same_sort same_sort sort_kept

  pub type_kept : (a b : FunctionType) → same_type (re_type τ a) (re_type τ b) ≡ same_type a b
  unfolding same_type re_type
  type_kept a b = rw (sorts_kept a.inputs b.inputs, sort_kept a.output b.output)

  head_kept : (a b : Head) → same_head (re_head τ a) (re_head τ b) ≡ same_head a b
  unfolding same_head re_head
  head_kept (visible_head f s) (visible_head g t) = rw (keeps f g, type_kept s t)
  head_kept (visible_head f s) (hidden_head p t) = refl
  head_kept (hidden_head o s) (visible_head g t) = refl
  head_kept (hidden_head o s) (hidden_head p t) = rw (origin_kept o p, type_kept s t)

  mutual
    unfolding same_term re_term

    term_kept : (a b : ResolvedTerm) → same_term (re_term τ a) (re_term τ b) ≡ same_term a b
    term_kept (var o s) (var p t) = rw (origin_kept o p, sort_kept s t)
    term_kept (var o s) (app g ys) = refl
    term_kept (app f xs) (var p t) = refl
    term_kept (app f xs) (app g ys) = ap₂ (λ (b r : Bool). pick b r false) (head_kept f g) (terms_kept xs ys)

    terms_kept : (a b : ResolvedTerms) → same_terms (re_terms τ a) (re_terms τ b) ≡ same_terms a b
    terms_kept none_left none_left = refl
    terms_kept none_left (y and_then ys) = refl
    terms_kept (x and_then xs) none_left = refl
    terms_kept (x and_then xs) (y and_then ys) = ap₂ (λ (b r : Bool). pick b r false) (term_kept x y) (terms_kept xs ys)

  sides_kept : (a b : ResolvedSides) → same_sides (re_sides τ a) (re_sides τ b) ≡ same_sides a b
  unfolding same_sides re_sides
  sides_kept a b = rw (term_kept a.left b.left, term_kept a.right b.right)

  pub shape_kept : (a b : Shape) → same_shape (re_shape τ a) (re_shape τ b) ≡ same_shape a b
  unfolding same_shape re_shape
  shape_kept sort_shape sort_shape = refl
  shape_kept sort_shape (function_shape t) = refl
  shape_kept sort_shape (variable_shape s) = refl
  shape_kept (function_shape t) sort_shape = refl
  shape_kept (function_shape t) (function_shape u) = type_kept t u
  shape_kept (function_shape t) (variable_shape s) = refl
  shape_kept (variable_shape s) sort_shape = refl
  shape_kept (variable_shape s) (function_shape t) = refl
  shape_kept (variable_shape s) (variable_shape r) = sort_kept s r

  pub is_sort_kept : (s : Shape) → is_sort (re_shape τ s) ≡ is_sort s
  unfolding is_sort re_shape
  is_sort_kept sort_shape = refl
  is_sort_kept (function_shape t) = refl
  is_sort_kept (variable_shape s) = refl

  pub is_function_kept : (s : Shape) → is_function (re_shape τ s) ≡ is_function s
  unfolding is_function re_shape
  is_function_kept sort_shape = refl
  is_function_kept (function_shape t) = refl
  is_function_kept (variable_shape s) = refl

  pub item_kept : (a b : Item) → one_item (re_item τ a) (re_item τ b) ≡ one_item a b
  unfolding one_item re_item
  item_kept a b = rw (keeps a.name b.name, shape_kept a.shape b.shape, origin_kept a.origin b.origin)

  pub equation_kept : (a b : ResolvedEquation) → one_equation (re_equation τ a) (re_equation τ b) ≡ one_equation a b
  unfolding one_equation re_equation
  equation_kept a b = rw (sides_kept a.conclusion b.conclusion, agree_map (re_sides τ) same_sides same_sides sides_kept a.conditions b.conditions)

  pub called_kept : (w : Name) (i : Item) → is_called (τ w) (re_item τ i) ≡ is_called w i
  unfolding is_called re_item
  called_kept w i = keeps w i.name

  -- ---- names among items

  pub names_in_kept : (is : List Item) → names_in (map (re_item τ) is) ≡ map τ (names_in is)
  unfolding names_in re_item
  names_in_kept is = map_twice (re_item τ) (λ (i : Item). i.name) (λ (i : Item). i.name) τ (λ i. refl) is

  -- ---- union

  pub items_united : (xs ys : List Item) → union one_item (map (re_item τ) xs) (map (re_item τ) ys) ≡ map (re_item τ) (union one_item xs ys)
  items_united = union_map (re_item τ) one_item one_item item_kept

  pub equations_united : (xs ys : List ResolvedEquation)
      → union one_equation (map (re_equation τ) xs) (map (re_equation τ) ys) ≡ map (re_equation τ) (union one_equation xs ys)
  equations_united = union_map (re_equation τ) one_equation one_equation equation_kept

  -- ---- translation, where the new names correspond too

  module _ (σ σ' : Name → Name) (φ φ' : Name → FunctionType → Name) (same_σ : (a : Name) → σ' (τ a) ≡ τ (σ a))
      (same_φ : (f : Name) (t : FunctionType) → φ' (τ f) (re_type τ t) ≡ τ (φ f t)) where
    pub move_sort_kept : (s : Sort) → move_sort σ' φ' (re_sort τ s) ≡ re_sort τ (move_sort σ φ s)
    unfolding move_sort re_sort
    move_sort_kept (visible_sort a) = ap visible_sort (same_σ a)
    move_sort_kept (hidden_sort o) = refl

    pub move_type_kept : (t : FunctionType) → move_type σ' φ' (re_type τ t) ≡ re_type τ (move_type σ φ t)
    unfolding move_type re_type
    move_type_kept t = rw (map_twice (re_sort τ) (move_sort σ' φ') (move_sort σ φ) (re_sort τ) move_sort_kept t.inputs, move_sort_kept t.output)

    move_shape_kept : (s : Shape) → move_shape σ' φ' (re_shape τ s) ≡ re_shape τ (move_shape σ φ s)
    unfolding move_shape re_shape
    move_shape_kept sort_shape = refl
    move_shape_kept (function_shape t) = ap function_shape (move_type_kept t)
    move_shape_kept (variable_shape s) = ap variable_shape (move_sort_kept s)

    move_name_kept : (w : Name) (s : Shape) → move_name σ' φ' (τ w) (re_shape τ s) ≡ τ (move_name σ φ w s)
    unfolding move_name re_shape
    move_name_kept w sort_shape = same_σ w
    move_name_kept w (function_shape t) = same_φ w t
    move_name_kept w (variable_shape s) = refl

    pub move_item_kept : (i : Item) → move_item σ' φ' (re_item τ i) ≡ re_item τ (move_item σ φ i)
    unfolding move_item re_item
    move_item_kept i = rw (move_name_kept i.name i.shape, move_shape_kept i.shape)

    pub move_hidden_item_kept : (i : Item) → move_hidden_item σ' φ' (re_item τ i) ≡ re_item τ (move_hidden_item σ φ i)
    unfolding move_hidden_item re_item
    move_hidden_item_kept i = rw (move_shape_kept i.shape)

    move_head_kept : (f : Head) → move_head σ' φ' (re_head τ f) ≡ re_head τ (move_head σ φ f)
    unfolding move_head re_head
    move_head_kept (visible_head f t) = rw (same_φ f t, move_type_kept t)
    move_head_kept (hidden_head o t) = rw (move_type_kept t)

    mutual
      unfolding move_term re_term

      move_term_kept : (x : ResolvedTerm) → move_term σ' φ' (re_term τ x) ≡ re_term τ (move_term σ φ x)
      move_term_kept (var o s) = rw (move_sort_kept s)
      move_term_kept (app f xs) = ap₂ app (move_head_kept f) (move_terms_kept xs)

      move_terms_kept : (xs : ResolvedTerms) → move_terms σ' φ' (re_terms τ xs) ≡ re_terms τ (move_terms σ φ xs)
      move_terms_kept none_left = refl
      move_terms_kept (x and_then xs) = ap₂ ◌and_then◌ (move_term_kept x) (move_terms_kept xs)

    move_sides_kept : (e : ResolvedSides) → move_sides σ' φ' (re_sides τ e) ≡ re_sides τ (move_sides σ φ e)
    unfolding move_sides re_sides
    move_sides_kept e = rw (move_term_kept e.left, move_term_kept e.right)

    pub move_equation_kept : (e : ResolvedEquation) → move_equation σ' φ' (re_equation τ e) ≡ re_equation τ (move_equation σ φ e)
    unfolding move_equation re_equation
    move_equation_kept e =
        rw (move_sides_kept e.conclusion, map_twice (re_sides τ) (move_sides σ' φ') (move_sides σ φ) (re_sides τ) move_sides_kept e.conditions)
