-- Equations of M, typed from the inside out (document 01, "Evaluating"): 17.
use Rattle.std.specs.Prelude.{ℕ, ◌+◌, Bool, true, false, ◌&&◌, List, [], ◌∷◌}
use Rattle.std.proofs.Math.Option.{Option, none, some}
use Rattle.meaning.specs.Lists.{pick, first, or_else, agree}
use Rattle.meaning.specs.Names.{Name}
use Rattle.meaning.specs.Numbers.{ill_typed}
use Rattle.meaning.specs.Syntax.{Term, node, Terms, no_terms, ◌then◌, Sides, Equation, conditions_of}
use Rattle.meaning.specs.Origins.{Section, export_section, hidden_section, parameter_section, Origin, Sort, same_sort, FunctionType, Head, visible_head, hidden_head, ResolvedTerm, var, app, ResolvedTerms, none_left, ◌and_then◌, ResolvedSides, ResolvedEquation, Shape, sort_shape, function_shape, variable_shape, Item}
use Rattle.meaning.specs.Normal.{is_called}
use Rattle.meaning.specs.Checks.{lone, Outcome, fine, stop, ◌>>=◌}

-- ---- what is typed

pub record Typed : Type 0 where
  pub term : ResolvedTerm
  pub sort : Sort

pub record TypedList : Type 0 where
  pub terms : ResolvedTerms
  pub sorts : List Sort

-- how a function stands at a node: a hidden one by its origin, a visible one by its name
unfoldable pub head_of : Section → Name → Origin → FunctionType → Head
head_of export_section f o t = visible_head f t
head_of (parameter_section p) f o t = visible_head f t
head_of hidden_section f o t = hidden_head o t

-- an item that is found, with its arguments: a function, or a variable, which has none. Sorts are not sought
unfoldable pub of_shape : Item → TypedList → Shape → Option Typed
of_shape i ts sort_shape = none
of_shape i ts (function_shape t) =
    some (record { term = app (head_of i.standing i.name i.origin t) ts.terms; sort = t.output })
of_shape i ts (variable_shape s) = some (record { term = var i.origin s; sort = s })

unfoldable pub found_with : TypedList → Option Item → Option Typed
found_with ts none = none
found_with ts (some i) = of_shape i ts i.shape

unfoldable pub no_arguments : TypedList
no_arguments = record { terms = none_left; sorts = [] }

-- a function that takes such arguments, and a variable
unfoldable pub takes : List Sort → Shape → Bool
takes sorts sort_shape = false
takes sorts (function_shape t) = agree same_sort sorts t.inputs
takes sorts (variable_shape s) = false

unfoldable pub is_variable : Shape → Bool
is_variable sort_shape = false
is_variable (function_shape t) = false
is_variable (variable_shape s) = true

unfoldable pub joined_typed : Option Typed → Option TypedList → Option TypedList
joined_typed none r = none
joined_typed (some t) none = none
joined_typed (some t) (some r) = some (record { terms = t.term and_then r.terms; sorts = t.sort ∷ r.sorts })

-- both sides have one sort
unfoldable pub equated : Option Typed → Option Typed → Option ResolvedSides
equated none r = none
equated (some l) none = none
equated (some l) (some r) = pick (same_sort l.sort r.sort) (some (record { left = l.term; right = r.term })) none

unfoldable pub joined_sides : Option ResolvedSides → Option (List ResolvedSides) → Option (List ResolvedSides)
joined_sides none es = none
joined_sides (some e) none = none
joined_sides (some e) (some es) = some (e ∷ es)

-- the equation at this position of the module of this number; the culprit is its tag
unfoldable pub made_equation : ℕ → ℕ → Name → Option ResolvedSides → Option (List ResolvedSides) → Outcome ResolvedEquation
made_equation number at tag none ks = stop ill_typed (lone tag)
made_equation number at tag (some c) none = stop ill_typed (lone tag)
made_equation number at tag (some c) (some ks) =
    fine (record { module_number = number; position = at; tag = tag; conclusion = c; conditions = ks })

-- `known` are the items in reach of M's text: the visible ones, and M's own hidden ones
module _ (known : List Item) where
  unfoldable pub applied : Name → TypedList → Option Typed
  applied f ts = found_with ts (first (λ (i : Item). is_called f i && takes ts.sorts i.shape) known)

  -- an identifier alone is a variable if declared, else a constant
  unfoldable pub alone : Name → Option Typed
  alone w =
      or_else (found_with no_arguments (first (λ (i : Item). is_called w i && is_variable i.shape) known)) (applied w no_arguments)

  -- a name with its arguments, if these are typed: a function, even where a variable has the name
  unfoldable pub with_arguments : Name → Terms → Option TypedList → Option Typed
  with_arguments f no_terms ts = alone f
  with_arguments f (x then xs) none = none
  with_arguments f (x then xs) (some ts) = applied f ts

  unfoldable mutual
    pub typed : Term → Option Typed
    typed (node f xs) = with_arguments f xs (typed_list xs)

    pub typed_list : Terms → Option TypedList
    typed_list no_terms = some no_arguments
    typed_list (x then xs) = joined_typed (typed x) (typed_list xs)

  unfoldable pub typed_sides : Sides → Option ResolvedSides
  typed_sides e = equated (typed e.left) (typed e.right)

  unfoldable pub typed_conditions : List Sides → Option (List ResolvedSides)
  typed_conditions [] = some []
  typed_conditions (e ∷ es) = joined_sides (typed_sides e) (typed_conditions es)

  unfoldable pub typed_equations : ℕ → ℕ → List Equation → Outcome (List ResolvedEquation)
  typed_equations number at [] = fine []
  typed_equations number at (r ∷ rs) = do
    x ← made_equation number at r.tag (typed_sides r.conclusion) (typed_conditions (conditions_of r))
    xs ← typed_equations number (at + 1) rs
    fine (x ∷ xs)

-- opens every definition of this file
unfoldable pub typing_opened : Unit {0}
unfolding head_of of_shape found_with no_arguments takes is_variable joined_typed equated joined_sides made_equation applied alone with_arguments typed typed_sides typed_conditions typed_equations
typing_opened = tt
