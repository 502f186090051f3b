-- Structure diagrams (document 02, Thirteen; 004, section 3.2): a box for the top module and for each import expression on a way from it, down
-- to modules that import nothing, and to expressions whose module does not stand earlier.
use Rattle.std.specs.Prelude.{ℕ, zero, suc, ◌-◌, List, [], ◌∷◌, ◌++◌, map, length, take}
use Prim.Native.String.{String}
use Rattle.meaning.specs.Lists.{pick, each}
use Rattle.meaning.specs.Names.{bytes, Name, same}
use Rattle.meaning.specs.Syntax.{Parameter, Clause, renamed_by, bound_by, Import, Module}
use Rattle.meaning.specs.Written.{decimal}
use Rattle.meaning.specs.Listing.{Line, line}

-- the most lines that a diagram has
abbrev pub diagram_limit : ℕ
diagram_limit = 1024

-- ---- what a diagram shows of an import expression: the module that it names, and its bindings in order

pub record Binding : Type 0 where
  pub parameter : Name
  pub actual : Name

pub record Expression : Type 0 where
  pub name : Name
  pub bindings : List Binding

unfoldable pub clause_bindings : Clause → List Binding
clause_bindings (renamed_by ps) = []
clause_bindings (bound_by p ps m) = record { parameter = p; actual = m } ∷ []

unfoldable pub expression_of : Import → Expression
expression_of i = record { name = i.name; bindings = each clause_bindings i.clauses }

unfoldable pub expressions_of : Module → List Expression
expressions_of m = map expression_of m.imports

-- what brings the top module in: no expression binds anything of it
unfoldable pub asked_expression : Name → Expression
asked_expression asked = record { name = asked; bindings = [] }

-- ---- lines, each with its depth

abbrev pub deep_line : String → ℕ → List ℕ → Line
deep_line key d value = line key (decimal d ++ (bytes "," ++ value))

unfoldable pub box_line : ℕ → Name → Line
box_line d w = deep_line "box" d w

unfoldable pub absent_line : ℕ → Name → Line
absent_line d w = deep_line "absent" d w

unfoldable pub parameter_line : ℕ → Name → Line
parameter_line d w = deep_line "parameter" d w

unfoldable pub bind_line : ℕ → Binding → Line
bind_line d b = deep_line "bind" d (b.parameter ++ (bytes "," ++ b.actual))

-- what stands in the box of a module: its name, the parameters that it declares itself, the bindings of the expression that brought it in
unfoldable pub own_lines : ℕ → Module → List Binding → List Line
own_lines d m bs = box_line d m.name ∷ (map (λ (p : Parameter). parameter_line d p.name) m.parameters ++ map (bind_line d) bs)

-- ---- the walk

-- the lines of an expression at depth d, where `earlier` are the modules that stand before the one that has it, the latest first: the box of the
-- module that it names, and one deeper its own expressions, whose modules must stand before it; or that no earlier module is called so
unfoldable pub drawn : (earlier : List Module) → ℕ → Expression → List Line
drawn [] d x = absent_line d x.name ∷ []
drawn (m ∷ ms) d x =
    let here = own_lines d m x.bindings ++ each (λ (y : Expression). drawn ms (suc d) y) (expressions_of m) in
    let before = drawn ms d x in
    pick (same x.name m.name) here before

-- modules the latest first, behind those that come before them in the text
unfoldable pub latest_first : (before : List Module) → List Module → List Module
latest_first before [] = before
latest_first before (m ∷ ms) = latest_first (m ∷ before) ms

-- the whole diagram of a module of a specification
unfoldable pub diagram : List Module → Name → List Line
diagram ms asked = drawn (latest_first [] ms) 0 (asked_expression asked)

-- ---- the same up to a number of lines: two imports in each of 63 modules make 2^63

-- what f makes of each within what is left of n; what is made is computed once
unfoldable pub then_more : {B : Type 0} → List B → (ℕ → List B) → List B
then_more a more = a ++ more (length a)

unfoldable pub first_each : {A B : Type 0} → (ℕ → A → List B) → List A → ℕ → List B
first_each f [] n = []
first_each f (x ∷ xs) zero = []
first_each f (x ∷ xs) (suc n) = then_more (f (suc n) x) (λ (k : ℕ). first_each f xs (suc n - k))

unfoldable pub first_drawn : (earlier : List Module) → ℕ → ℕ → Expression → List Line
first_drawn [] d zero x = []
first_drawn [] d (suc n) x = absent_line d x.name ∷ []
first_drawn (m ∷ ms) d zero x = []
first_drawn (m ∷ ms) d (suc n) x =
    let here =
    then_more (take (suc n) (own_lines d m x.bindings))
    (λ (k : ℕ). first_each (λ (left : ℕ) (y : Expression). first_drawn ms (suc d) left y) (expressions_of m) (suc n - k)) in
    let before = first_drawn ms d (suc n) x in
    pick (same x.name m.name) here before

-- the first n lines of a diagram
unfoldable pub first_lines : ℕ → List Module → Name → List Line
first_lines n ms asked = first_drawn (latest_first [] ms) 0 n (asked_expression asked)

-- opens every definition of this file
unfoldable pub diagram_opened : Unit {0}
unfolding clause_bindings expression_of expressions_of asked_expression box_line absent_line parameter_line bind_line own_lines drawn latest_first diagram then_more first_each first_drawn first_lines
diagram_opened = tt
