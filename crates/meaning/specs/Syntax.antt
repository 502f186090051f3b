-- What a text says, as it is read (document 01, "The text"; 02, request Two; 004, section 2.1): modules, with all in text order.
use Rattle.std.specs.Prelude.{List, [], ◌∷◌, ◌++◌, map}
use Rattle.meaning.specs.Lists.{each}
use Rattle.meaning.specs.Names.{Name, infix_name}

-- `f : A # B -> C`; without inputs, a constant. An operator's name has its underlines: `_+_ : A # B -> C`
pub record Function : Type 0 where
  pub name : Name
  pub inputs : List Name
  pub output : Name

-- the sorts and functions of one section, in text order
pub record Signature : Type 0 where
  pub sorts : List Name
  pub functions : List Function

pub record Parameter : Type 0 where
  pub name : Name
  pub signature : Signature

-- `old -> new`, in a renaming or a binding
pub record Pair : Type 0 where
  pub old : Name
  pub new : Name

-- what an import expression does to the module that it names
pub data Clause : Type 0 where
  renamed_by : List Pair → Clause
  bound_by : (parameter : Name) → List Pair → (actual : Name) → Clause

pub record Import : Type 0 where
  pub name : Name
  pub clauses : List Clause

-- `x, y : -> A`: variables that share their sort
pub record VariableGroup : Type 0 where
  pub names : List Name
  pub sort : Name

pub record Variable : Type 0 where
  pub name : Name
  pub sort : Name

-- a name and its arguments: none for an identifier that stands alone. `a + b` is the name `_+_` with two
mutual
  pub data Term : Type 0 where
    node : Name → Terms → Term

  pub data Terms : Type 0 where
    no_terms : Terms
    ◌then◌ : Term → Terms → Terms

infixr 40 ◌then◌
unfoldable pub terms : List Term → Terms
terms [] = no_terms
terms (t ∷ ts) = t then terms ts

-- `+ b`: an infix operator and what stands on its right
pub record Operand : Type 0 where
  pub operator : Name
  pub right : Term

-- `a + b - c` joins to the left: `_-_(_+_(a,b),c)`
unfoldable pub joined_left : Term → List Operand → Term
joined_left t [] = t
joined_left t (o ∷ os) = joined_left (node (infix_name o.operator) (terms (t ∷ o.right ∷ []))) os

-- the two sides of a conclusion or a condition
pub record Sides : Type 0 where
  pub left : Term
  pub right : Term

-- a tagged equation: the conditions before its implication, its conclusion, the conditions after `when`. One of the two source forms has
-- none before, the other none after
pub record Equation : Type 0 where
  pub tag : Name
  pub before : List Sides
  pub conclusion : Sides
  pub after : List Sides

pub record Module : Type 0 where
  pub name : Name
  pub parameters : List Parameter
  pub exports : Signature
  pub imports : List Import
  pub hidden : Signature
  pub groups : List VariableGroup
  pub equations : List Equation

-- ---- what a module declares, whatever the source form

unfoldable pub conditions_of : Equation → List Sides
conditions_of e = e.before ++ e.after

unfoldable pub group_variables : VariableGroup → List Variable
group_variables g = map (λ (x : Name). record { name = x; sort = g.sort }) g.names

unfoldable pub variables_of : Module → List Variable
variables_of m = each group_variables m.groups

-- opens every definition of this file
unfoldable pub syntax_opened : Unit {0}
unfolding terms joined_left conditions_of group_variables variables_of
syntax_opened = tt
