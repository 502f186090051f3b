-- Origins, and when two things are one (document 01, "Origins"; 004, section 2.6).
use Rattle.std.specs.Prelude.{ℕ, Bool, true, false, ◌&&◌, List, eqb}
use Rattle.meaning.specs.Lists.{pick, agree}
use Rattle.meaning.specs.Names.{Name, same}

-- ---- an origin is module, section, category and declared name (functions with type, variables with sort)

-- a section is export, hidden, or a parameter that carries its name: a parameter called `hidden` is not the hidden section
pub data Section : Type 0 where
  export_section hidden_section : Section
  parameter_section : Name → Section

-- category and declared name
pub data Declared : Type 0 where
  declared_sort : Name → Declared
  declared_function : (name : Name) (inputs : List Name) (output : Name) → Declared
  declared_variable : (name sort : Name) → Declared

pub record Origin : Type 0 where
  pub home : Name  -- the module
  pub section : Section
  pub declared : Declared

unfoldable pub same_section : Section → Section → Bool
same_section export_section export_section = true
same_section export_section hidden_section = false
same_section export_section (parameter_section q) = false
same_section hidden_section export_section = false
same_section hidden_section hidden_section = true
same_section hidden_section (parameter_section q) = false
same_section (parameter_section p) export_section = false
same_section (parameter_section p) hidden_section = false
same_section (parameter_section p) (parameter_section q) = same p q

unfoldable pub same_declared : Declared → Declared → Bool
same_declared (declared_sort a) (declared_sort b) = same a b
same_declared (declared_sort a) (declared_function f i o) = false
same_declared (declared_sort a) (declared_variable v s) = false
same_declared (declared_function f i o) (declared_sort b) = false
same_declared (declared_function f i o) (declared_function g j p) = same f g && agree same i j && same o p
same_declared (declared_function f i o) (declared_variable v s) = false
same_declared (declared_variable v s) (declared_sort b) = false
same_declared (declared_variable v s) (declared_function g j p) = false
same_declared (declared_variable v s) (declared_variable w t) = same v w && same s t

unfoldable pub same_origin : Origin → Origin → Bool
same_origin a b = same a.home b.home && same_section a.section b.section && same_declared a.declared b.declared

-- ---- sorts and types, resolved

-- a visible sort is known by its name, and so is one that is not available; a hidden sort by its origin.
-- So types compare visible sorts by name and origin, unavailable ones by name: two visible sorts of one name and different origins are a clash,
-- and what passes 10 has one origin for each (promises_replacing/VisibleAlike: `clear_one`). Where types of two normal forms are compared before 10, of a
-- parameter met twice and in a binding, the origins are compared beside the names: Normal: `sort_agrees`; Clauses: `sort_right`
pub data Sort : Type 0 where
  visible_sort : Name → Sort
  hidden_sort : Origin → Sort

unfoldable pub same_sort : Sort → Sort → Bool
same_sort (visible_sort a) (visible_sort b) = same a b
same_sort (visible_sort a) (hidden_sort p) = false
same_sort (hidden_sort o) (visible_sort b) = false
same_sort (hidden_sort o) (hidden_sort p) = same_origin o p

pub record FunctionType : Type 0 where
  pub inputs : List Sort
  pub output : Sort

unfoldable pub same_type : FunctionType → FunctionType → Bool
same_type a b = agree same_sort a.inputs b.inputs && same_sort a.output b.output

-- ---- terms and equations, resolved

-- what stands at a node: a visible function is known by its name and type, a hidden one by its origin and type
pub data Head : Type 0 where
  visible_head : Name → FunctionType → Head
  hidden_head : Origin → FunctionType → Head

unfoldable pub same_head : Head → Head → Bool
same_head (visible_head f s) (visible_head g t) = same f g && same_type s t
same_head (visible_head f s) (hidden_head p t) = false
same_head (hidden_head o s) (visible_head g t) = false
same_head (hidden_head o s) (hidden_head p t) = same_origin o p && same_type s t

mutual
  pub data ResolvedTerm : Type 0 where
    var : Origin → Sort → ResolvedTerm
    app : Head → ResolvedTerms → ResolvedTerm

  pub data ResolvedTerms : Type 0 where
    none_left : ResolvedTerms
    ◌and_then◌ : ResolvedTerm → ResolvedTerms → ResolvedTerms

infixr 40 ◌and_then◌
unfoldable mutual
  pub same_term : ResolvedTerm → ResolvedTerm → Bool
  same_term (var o s) (var p t) = same_origin o p && same_sort s t
  same_term (var o s) (app g ys) = false
  same_term (app f xs) (var p t) = false
  same_term (app f xs) (app g ys) = let r = same_terms xs ys in pick (same_head f g) r false

  pub same_terms : ResolvedTerms → ResolvedTerms → Bool
  same_terms none_left none_left = true
  same_terms none_left (y and_then ys) = false
  same_terms (x and_then xs) none_left = false
  same_terms (x and_then xs) (y and_then ys) = let r = same_terms xs ys in pick (same_term x y) r false

pub record ResolvedSides : Type 0 where
  pub left : ResolvedTerm
  pub right : ResolvedTerm

unfoldable pub same_sides : ResolvedSides → ResolvedSides → Bool
same_sides a b = same_term a.left b.left && same_term a.right b.right

-- an equation with its module's number among the modules, and its own position there
pub record ResolvedEquation : Type 0 where
  pub module_number : ℕ
  pub position : ℕ
  pub tag : Name
  pub conclusion : ResolvedSides
  pub conditions : List ResolvedSides

-- ---- the items of a normal form

-- a sort, a function with its type, or a variable with its sort
pub data Shape : Type 0 where
  sort_shape : Shape
  function_shape : FunctionType → Shape
  variable_shape : Sort → Shape

unfoldable pub same_shape : Shape → Shape → Bool
same_shape sort_shape sort_shape = true
same_shape sort_shape (function_shape t) = false
same_shape sort_shape (variable_shape s) = false
same_shape (function_shape t) sort_shape = false
same_shape (function_shape t) (function_shape u) = same_type t u
same_shape (function_shape t) (variable_shape s) = false
same_shape (variable_shape s) sort_shape = false
same_shape (variable_shape s) (function_shape t) = false
same_shape (variable_shape s) (variable_shape r) = same_sort s r

unfoldable pub is_sort : Shape → Bool
is_sort sort_shape = true
is_sort (function_shape t) = false
is_sort (variable_shape s) = false

unfoldable pub is_function : Shape → Bool
is_function sort_shape = false
is_function (function_shape t) = true
is_function (variable_shape s) = false

-- where an item stands now, its name, what it is, and where it comes from. A hidden item's name is its declared one
pub record Item : Type 0 where
  pub standing : Section
  pub name : Name
  pub shape : Shape
  pub origin : Origin

-- an item stands in the parameter p
unfoldable pub in_parameter : Name → Section → Bool
in_parameter p export_section = false
in_parameter p hidden_section = false
in_parameter p (parameter_section q) = same p q

-- ---- which are one

-- visible items: equal name (and type) and equal origin. Hidden sorts: equal origin; hidden functions and variables: equal origin and
-- resolved type. Equal origins bring equal declared names, and items that stand in different sections have different origins
unfoldable pub one_item : Item → Item → Bool
one_item a b =
    same_section a.standing b.standing && same a.name b.name && same_shape a.shape b.shape
    && same_origin a.origin b.origin

-- equations: equal module, position there and resolved content
unfoldable pub one_equation : ResolvedEquation → ResolvedEquation → Bool
one_equation a b =
    eqb a.module_number b.module_number && eqb a.position b.position
    && same_sides a.conclusion b.conclusion && agree same_sides a.conditions b.conditions

-- opens every definition of this file
unfoldable pub origins_opened : Unit {0}
unfolding same_section same_declared same_origin same_sort same_type same_head same_term same_sides same_shape is_sort is_function in_parameter one_item one_equation
origins_opened = tt
