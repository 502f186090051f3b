-- Typing, walked once: what is asked of a term and of what it is typed as, of the items that are found for its nodes on, is had by the
-- equations of a module's text.
use Rattle.std.specs.Prelude.{◌≡◌, ℕ, ◌+◌, Bool}
use Rattle.std.proofs.Math.Path.{refl}
use Rattle.std.proofs.Math.Option.{Option, none, some}
use Rattle.std.proofs.Math.Bool.{true}
use Rattle.std.proofs.lemmas.Bool.{false≢true}
use mathlib.Core.List.{List, [], ◌∷◌, Memᴰ}
use Rattle.meaning.specs.Laws.{by_cases}
use Rattle.meaning.specs.Lists.{first, or_else}
use Rattle.meaning.specs.Names.{Name}
use Rattle.meaning.specs.Syntax.{Term, node, Terms, no_terms, ◌then◌, Sides, Equation, conditions_of}
use Rattle.meaning.specs.Origins.{Sort, same_sort, FunctionType, var, app, ◌and_then◌, ResolvedSides, ResolvedEquation, Shape, sort_shape, function_shape, variable_shape, Item}
use Rattle.meaning.specs.Normal.{is_called}
use Rattle.meaning.specs.Typing.{Typed, TypedList, head_of, of_shape, found_with, no_arguments, takes, is_variable, joined_typed, equated, joined_sides, made_equation, applied, alone, with_arguments, typed, typed_list, typed_sides, typed_conditions, typed_equations}
use Rattle.meaning.specs.OrderLaws.{Every}
use Rattle.laws.specs.Decides.{agree_equal, both_true, sorts_decided}
use Rattle.laws.specs.Outcomes.{Gives, gives_bound}

-- of what is found
abbrev pub OfFound : {A : Type 0} → (A → Type 0) → Option A → Type 0
OfFound P none = Unit {0}
OfFound P (some x) = P x

-- it passes the test, and is one of the list
pub first_found : {A : Type 0} (p : A → Bool) (xs : List A) → OfFound (λ x. Memᴰ x xs × (p x ≡ true)) (first p xs)
unfolding first
first_found p [] = tt
first_found {A} p (x ∷ xs) =
    by_cases (OfFound (λ (y : A). Memᴰ y (x ∷ xs) × (p y ≡ true))) _ _ _ (λ e. (Memᴰ.head refl, e)) (λ e. later (first p xs) (first_found p xs))
  where
    later : (o : Option A) → OfFound (λ (y : A). Memᴰ y xs × (p y ≡ true)) o → OfFound (λ (y : A). Memᴰ y (x ∷ xs) × (p y ≡ true)) o
    later none h = tt
    later (some y) h = (Memᴰ.tail h.0, h.1)

either_found : {A : Type 0} (P : A → Type 0) (a b : Option A) → OfFound P a → OfFound P b → OfFound P (or_else a b)
unfolding or_else
either_found P (some t) b h k = h
either_found P none b h k = k

-- where `known` are the items in reach: of nodes, of the arguments, of sides and conditions, and of an equation of which E holds as it is read
pub record Types (known : List Item) (IsTerm : Term → Typed → Type 0) (AreTerms : Terms → TypedList → Type 0)
    (AreSides : Sides → ResolvedSides → Type 0) (AreConditions : List Sides → List ResolvedSides → Type 0)
    (E : Equation → Type 0) (P : ResolvedEquation → Type 0) : Type 0 where
  pub function : (f : Name) (xs : Terms) (ts : TypedList) (i : Item) (t : FunctionType) → AreTerms xs ts → Memᴰ i known
      → i.shape ≡ function_shape t → ts.sorts ≡ t.inputs
      → IsTerm (node f xs) (record { term = app (head_of i.standing i.name i.origin t) ts.terms; sort = t.output })
  pub variable : (f : Name) (i : Item) (s : Sort) → Memᴰ i known → i.shape ≡ variable_shape s
      → IsTerm (node f no_terms) (record { term = var i.origin s; sort = s })
  pub nothing : AreTerms no_terms no_arguments
  pub more : (x : Term) (xs : Terms) (t : Typed) (ts : TypedList) → IsTerm x t → AreTerms xs ts
      → AreTerms (x then xs) (record { terms = t.term and_then ts.terms; sorts = t.sort ∷ ts.sorts })
  pub sides : (e : Sides) (l r : Typed) → IsTerm e.left l → IsTerm e.right r → same_sort l.sort r.sort ≡ true
      → AreSides e (record { left = l.term; right = r.term })
  pub no_condition : AreConditions [] []
  pub conditions : (e : Sides) (es : List Sides) (c : ResolvedSides) (cs : List ResolvedSides) → AreSides e c → AreConditions es cs
      → AreConditions (e ∷ es) (c ∷ cs)
  pub equation : (home at : ℕ) (e : Equation) (c : ResolvedSides) (cs : List ResolvedSides) → E e → AreSides e.conclusion c
      → AreConditions (conditions_of e) cs → P (record { module_number = home; position = at; tag = e.tag; conclusion = c; conditions = cs })

module _ {known : List Item} {IsTerm : Term → Typed → Type 0} {AreTerms : Terms → TypedList → Type 0} {AreSides : Sides → ResolvedSides → Type 0}
    {AreConditions : List Sides → List ResolvedSides → Type 0} {E : Equation → Type 0} {P : ResolvedEquation → Type 0}
    (types : Types known IsTerm AreTerms AreSides AreConditions E P) where
  found_so : (f : Name) (xs : Terms) (ts : TypedList) (p : Item → Bool)
      → ((i : Item) (s : Shape) → Memᴰ i known → p i ≡ true → i.shape ≡ s → OfFound (IsTerm (node f xs)) (of_shape i ts s))
      → OfFound (IsTerm (node f xs)) (found_with ts (first p known))
  unfolding found_with
  found_so f xs ts p so = go (first p known) (first_found p known)
    where
      go : (o : Option Item) → OfFound (λ (i : Item). Memᴰ i known × (p i ≡ true)) o → OfFound (IsTerm (node f xs)) (found_with ts o)
      go none h = tt
      go (some i) h = so i i.shape h.0 h.1 refl

  applied_so : (f : Name) (xs : Terms) (ts : TypedList) → AreTerms xs ts → OfFound (IsTerm (node f xs)) (applied known f ts)
  unfolding applied of_shape takes
  applied_so f xs ts d = found_so f xs ts _ (λ i s m e q. go i s m q (rw q at (both_true (is_called f i) (takes ts.sorts i.shape) e).1))
    where
      go : (i : Item) (s : Shape) → Memᴰ i known → i.shape ≡ s → takes ts.sorts s ≡ true → OfFound (IsTerm (node f xs)) (of_shape i ts s)
      go i sort_shape m q e = tt
      go i (function_shape t) m q e = types.function f xs ts i t d m q (agree_equal same_sort sorts_decided.equal ts.sorts t.inputs e)
      go i (variable_shape s) m q e = absurd (false≢true e)

  alone_so : (f : Name) → OfFound (IsTerm (node f no_terms)) (alone known f)
  unfolding alone of_shape is_variable
  alone_so f =
      either_found _ _ _ (found_so f no_terms no_arguments _ (λ i s m e q. go i s m q (rw q at (both_true (is_called f i) (is_variable i.shape) e).1)))
      (applied_so f no_terms no_arguments types.nothing)
    where
      go : (i : Item) (s : Shape) → Memᴰ i known → i.shape ≡ s → is_variable s ≡ true → OfFound (IsTerm (node f no_terms)) (of_shape i no_arguments s)
      go i sort_shape m q e = tt
      go i (function_shape t) m q e = absurd (false≢true e)
      go i (variable_shape s) m q e = types.variable f i s m q

  arguments_so : (f : Name) (xs : Terms) (ts : Option TypedList) → OfFound (AreTerms xs) ts → OfFound (IsTerm (node f xs)) (with_arguments known f xs ts)
  unfolding with_arguments
  arguments_so f no_terms ts h = alone_so f
  arguments_so f (x then xs) none h = tt
  arguments_so f (x then xs) (some ts) h = applied_so f (x then xs) ts h

  list_so : (x : Term) (xs : Terms) (t : Option Typed) (ts : Option TypedList) → OfFound (IsTerm x) t → OfFound (AreTerms xs) ts
      → OfFound (AreTerms (x then xs)) (joined_typed t ts)
  unfolding joined_typed
  list_so x xs none ts h k = tt
  list_so x xs (some t) none h k = tt
  list_so x xs (some t) (some ts) h k = types.more x xs t ts h k

  mutual
    unfolding typed

    term_so : (x : Term) → OfFound (IsTerm x) (typed known x)
    term_so (node f xs) = arguments_so f xs (typed_list known xs) (terms_so xs)

    terms_so : (xs : Terms) → OfFound (AreTerms xs) (typed_list known xs)
    terms_so no_terms = types.nothing
    terms_so (x then xs) = list_so x xs (typed known x) (typed_list known xs) (term_so x) (terms_so xs)

  sides_so : (e : Sides) → OfFound (AreSides e) (typed_sides known e)
  unfolding typed_sides equated
  sides_so e = go (typed known e.left) (typed known e.right) (term_so e.left) (term_so e.right)
    where
      go : (l r : Option Typed) → OfFound (IsTerm e.left) l → OfFound (IsTerm e.right) r → OfFound (AreSides e) (equated l r)
      go none r h k = tt
      go (some l) none h k = tt
      go (some l) (some r) h k = by_cases (OfFound (AreSides e)) _ _ _ (λ q. types.sides e l r h k q) (λ q. tt)

  conditions_so : (es : List Sides) → OfFound (AreConditions es) (typed_conditions known es)
  unfolding typed_conditions joined_sides
  conditions_so [] = types.no_condition
  conditions_so (e ∷ es) = go (typed_sides known e) (typed_conditions known es) (sides_so e) (conditions_so es)
    where
      go : (c : Option ResolvedSides) (cs : Option (List ResolvedSides)) → OfFound (AreSides e) c → OfFound (AreConditions es) cs
          → OfFound (AreConditions (e ∷ es)) (joined_sides c cs)
      go none cs h k = tt
      go (some c) none h k = tt
      go (some c) (some cs) h k = types.conditions e es c cs h k

  pub equations_so : (home at : ℕ) (es : List Equation) → Every E es → Gives (Every P) (typed_equations known home at es)
  unfolding typed_equations made_equation
  equations_so home at [] h = tt
  equations_so home at (e ∷ es) h =
      gives_bound P (Every P) _ _
      (made (typed_sides known e.conclusion) (typed_conditions known (conditions_of e)) (sides_so e.conclusion) (conditions_so (conditions_of e)))
      (λ x p. gives_bound (Every P) (Every P) _ _ (equations_so home (at + 1) es h.1) (λ xs ps. (p, ps)))
    where
      made : (c : Option ResolvedSides) (cs : Option (List ResolvedSides)) → OfFound (AreSides e.conclusion) c
          → OfFound (AreConditions (conditions_of e)) cs → Gives P (made_equation home at e.tag c cs)
      made none cs a b = tt
      made (some c) none a b = tt
      made (some c) (some cs) a b = types.equation home at e c cs h.0 a b
