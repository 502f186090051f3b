-- Laws of moving: what each kind of mode does, and that what lies apart from a mode's table does not matter.
use Rattle.std.specs.Prelude.{◌≡◌, ℕ, Bool, List, [], ◌∷◌, map}
use Rattle.std.proofs.Math.Path.{refl, ap, ap₂}
use Rattle.std.proofs.Math.Bool.{true, false}
use Rattle.std.proofs.Common.{arith}
use borrow.Author.Tests.{eq-eqb, ne_eqb}
use Rattle.meaning.specs.Lists.{pick}
use Rattle.meaning.specs.Names.{Name}
use Rattle.meaning.specs.Origins.{Sort, visible_sort, hidden_sort, FunctionType, Head, visible_head, hidden_head, ResolvedTerm, var, app, ResolvedTerms, none_left, ◌and_then◌, ResolvedSides, ResolvedEquation, Shape, sort_shape, function_shape, variable_shape, Item}
use Rattle.meaning.specs.Normal.{move_sort, move_type, move_shape, move_name, move_item, move_hidden_item, move_head, move_term, move_terms, move_sides, move_equation}
use Rattle.meaning.specs.Clauses.{renaming, is_formal_sort, new_sort, new_function}
use Rattle.text_names.specs.Word.{name_of}
use Rattle.form.specs.Forms.{items_at}
use Rattle.clause_pairs.specs.Pairs.{pairs_at}
use Rattle.clause_translation.specs.declared.Mode.{Mode}
use Rattle.clause_translation.specs.Translation.{formals_at, mode_formals, sort_name, function_name, moved, moved_hidden, moved_in}

-- ---- new names that are the old ones

pub map_kept : {A : Type 0} (f : A → A) (xs : List A) → ((x : A) → f x ≡ x) → map f xs ≡ xs
map_kept f [] h = refl
map_kept {A} f (x ∷ xs) h = ap₂ (λ (y : A) (ys : List A). y ∷ ys) (h x) (map_kept f xs h)

module _ (σ : Name → Name) (φ : Name → FunctionType → Name) (s : (a : Name) → σ a ≡ a) (f : (a : Name) (t : FunctionType) → φ a t ≡ a) where
  sort_kept : (x : Sort) → move_sort σ φ x ≡ x
  unfolding move_sort
  sort_kept (visible_sort a) = ap visible_sort (s a)
  sort_kept (hidden_sort o) = refl

  type_kept : (t : FunctionType) → move_type σ φ t ≡ t
  unfolding move_type
  type_kept t = rw (map_kept (move_sort σ φ) t.inputs sort_kept, sort_kept t.output)

  shape_kept : (x : Shape) → move_shape σ φ x ≡ x
  unfolding move_shape
  shape_kept sort_shape = refl
  shape_kept (function_shape t) = ap function_shape (type_kept t)
  shape_kept (variable_shape x) = ap variable_shape (sort_kept x)

  name_kept : (a : Name) (x : Shape) → move_name σ φ a x ≡ a
  unfolding move_name
  name_kept a sort_shape = s a
  name_kept a (function_shape t) = f a t
  name_kept a (variable_shape x) = refl

  pub item_kept : (i : Item) → move_item σ φ i ≡ i
  unfolding move_item
  item_kept i = rw (name_kept i.name i.shape, shape_kept i.shape)

  pub hidden_kept : (i : Item) → move_hidden_item σ φ i ≡ i
  unfolding move_hidden_item
  hidden_kept i = rw (shape_kept i.shape)

  head_kept : (x : Head) → move_head σ φ x ≡ x
  unfolding move_head
  head_kept (visible_head a t) = ap₂ visible_head (f a t) (type_kept t)
  head_kept (hidden_head o t) = ap (hidden_head o) (type_kept t)

  mutual
    unfolding move_term move_terms

    term_kept : (x : ResolvedTerm) → move_term σ φ x ≡ x
    term_kept (var o x) = ap (var o) (sort_kept x)
    term_kept (app x xs) = ap₂ app (head_kept x) (terms_kept xs)

    terms_kept : (xs : ResolvedTerms) → move_terms σ φ xs ≡ xs
    terms_kept none_left = refl
    terms_kept (x and_then xs) = ap₂ ◌and_then◌ (term_kept x) (terms_kept xs)

  sides_kept : (x : ResolvedSides) → move_sides σ φ x ≡ x
  unfolding move_sides
  sides_kept x = rw (term_kept x.left, term_kept x.right)

  pub equation_kept : (e : ResolvedEquation) → move_equation σ φ e ≡ e
  unfolding move_equation
  equation_kept e = rw (sides_kept e.conclusion, map_kept (move_sides σ φ) e.conditions sides_kept)

-- ---- a mode of kind 0

module _ (text tape w : List ℕ) (m : Mode) (h : m.kind ≡ 0) where
  pub sort_name_same : (a : Name) → sort_name text tape w m a ≡ a
  unfolding sort_name pick
  sort_name_same a = rw (eq-eqb m.kind 0 h)

  pub function_name_same : (a : Name) (t : FunctionType) → function_name text tape w m a t ≡ a
  unfolding function_name pick
  function_name_same a t = rw (eq-eqb m.kind 0 h)

  pub moved_same : (visible : Bool) (i : Item) → moved_in text tape w m visible i ≡ i
  unfolding moved_in moved moved_hidden pick
  moved_same true i = item_kept (sort_name text tape w m) (function_name text tape w m) sort_name_same function_name_same i
  moved_same false i = hidden_kept (sort_name text tape w m) (function_name text tape w m) sort_name_same function_name_same i

-- ---- a mode of kind 1 is a renaming

module _ (text tape w : List ℕ) (m : Mode) (h : m.kind ≡ 1) where
  pub sort_name_renamed : sort_name text tape w m ≡ renaming (pairs_at text tape m.pairs)
  unfolding sort_name pick
  sort_name_renamed = λ i a. one a i
    where
      one : (a : Name) → sort_name text tape w m a ≡ renaming (pairs_at text tape m.pairs) a
      one a = rw (ne_eqb m.kind 0 (λ u. omega arith), eq-eqb m.kind 1 h)

  pub function_name_renamed : function_name text tape w m ≡ (λ f t. renaming (pairs_at text tape m.pairs) f)
  unfolding function_name pick
  function_name_renamed = λ i f t. one f t i
    where
      one : (f : Name) (t : FunctionType) → function_name text tape w m f t ≡ renaming (pairs_at text tape m.pairs) f
      one f t = rw (ne_eqb m.kind 0 (λ u. omega arith), eq-eqb m.kind 1 h)

-- ---- a mode of kind 2 binds the formal items

module _ (text tape w : List ℕ) (m : Mode) (h : m.kind ≡ 2) where
  abbrev bound_sort : Name → Name
  bound_sort = new_sort (mode_formals text tape w m) (pairs_at text tape m.pairs)

  abbrev bound_function : Name → FunctionType → Name
  bound_function = new_function (mode_formals text tape w m) (pairs_at text tape m.pairs)

  pub sort_name_bound : sort_name text tape w m ≡ bound_sort
  unfolding sort_name new_sort is_formal_sort pick
  sort_name_bound = λ i a. one a i
    where
      one : (a : Name) → sort_name text tape w m a ≡ bound_sort a
      one a = rw (ne_eqb m.kind 0 (λ u. omega arith), ne_eqb m.kind 1 (λ u. omega arith))

  pub function_name_bound : function_name text tape w m ≡ bound_function
  unfolding function_name new_function pick
  function_name_bound = λ i f t. one f t i
    where
      one : (f : Name) (t : FunctionType) → function_name text tape w m f t ≡ bound_function f t
      one f t = rw (ne_eqb m.kind 0 (λ u. omega arith), ne_eqb m.kind 1 (λ u. omega arith))

-- ---- memories in which the mode's table is the same

module _ (text tape w w' : List ℕ) (m : Mode) (e : items_at text tape w' m.visible m.count ≡ items_at text tape w m.visible m.count) where
  formals_apart : (p : Name) → formals_at text tape w' m.visible m.count p ≡ formals_at text tape w m.visible m.count p
  unfolding formals_at
  formals_apart p = rw e

  pub sort_name_apart : sort_name text tape w' m ≡ sort_name text tape w m
  unfolding sort_name
  sort_name_apart = λ i a. one a i
    where
      one : (a : Name) → sort_name text tape w' m a ≡ sort_name text tape w m a
      one a = rw (formals_apart (name_of text m.parameter))

  pub function_name_apart : function_name text tape w' m ≡ function_name text tape w m
  unfolding function_name
  function_name_apart = λ i a t. one a t i
    where
      one : (a : Name) (t : FunctionType) → function_name text tape w' m a t ≡ function_name text tape w m a t
      one a t = rw (formals_apart (name_of text m.parameter))

  pub moved_apart : (visible : Bool) (i : Item) → moved_in text tape w' m visible i ≡ moved_in text tape w m visible i
  unfolding moved_in moved moved_hidden
  moved_apart visible i = rw (sort_name_apart, function_name_apart)
