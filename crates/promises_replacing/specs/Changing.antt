-- A change of the names of sorts, functions and variables, wherever they stand: in the modules of a text, and in a normal form; and the names
-- that a module uses for these. Names of modules and parameters, and tags, stay.
use Rattle.std.specs.Prelude.{List, [], ◌∷◌, ◌++◌, map}
use Rattle.meaning.specs.Lists.{each}
use Rattle.meaning.specs.Names.{Name}
use Rattle.meaning.specs.Syntax.{Function, Signature, Parameter, Pair, Clause, renamed_by, bound_by, Import, VariableGroup, Term, node, Terms, no_terms, ◌then◌, Sides, Equation, Module}
use Rattle.meaning.specs.Origins.{Declared, declared_sort, declared_function, declared_variable, Origin, Sort, visible_sort, hidden_sort, FunctionType, Head, visible_head, hidden_head, ResolvedTerm, var, app, ResolvedTerms, none_left, ◌and_then◌, ResolvedSides, ResolvedEquation, Shape, sort_shape, function_shape, variable_shape, Item}
use Rattle.meaning.specs.Normal.{Visible, Hidden, Normal}

-- ---- the modules of a text under the change: declarations, types, terms, and pairs of renamings and bindings

module _ (τ : Name → Name) where
  unfoldable pub re_function : Function → Function
  re_function f = record { name = τ f.name; inputs = map τ f.inputs; output = τ f.output }

  unfoldable pub re_signature : Signature → Signature
  re_signature s = record { sorts = map τ s.sorts; functions = map re_function s.functions }

  unfoldable pub re_parameter : Parameter → Parameter
  re_parameter p = record { name = p.name; signature = re_signature p.signature }

  unfoldable pub re_pair : Pair → Pair
  re_pair r = record { old = τ r.old; new = τ r.new }

  unfoldable pub re_clause : Clause → Clause
  re_clause (renamed_by rs) = renamed_by (map re_pair rs)
  re_clause (bound_by p rs m) = bound_by p (map re_pair rs) m

  unfoldable pub re_import : Import → Import
  re_import i = record { name = i.name; clauses = map re_clause i.clauses }

  unfoldable pub re_group : VariableGroup → VariableGroup
  re_group g = record { names = map τ g.names; sort = τ g.sort }

  unfoldable mutual
    pub re_raw : Term → Term
    re_raw (node f xs) = node (τ f) (re_raws xs)

    pub re_raws : Terms → Terms
    re_raws no_terms = no_terms
    re_raws (x then xs) = re_raw x then re_raws xs

  unfoldable pub re_raw_sides : Sides → Sides
  re_raw_sides e = record { left = re_raw e.left; right = re_raw e.right }

  unfoldable pub re_raw_equation : Equation → Equation
  re_raw_equation e =
      record { tag = e.tag; before = map re_raw_sides e.before; conclusion = re_raw_sides e.conclusion; after = map re_raw_sides e.after }

  unfoldable pub re_module : Module → Module
  re_module m = record {
    name = m.name;
    parameters = map re_parameter m.parameters;
    exports = re_signature m.exports;
    imports = map re_import m.imports;
    hidden = re_signature m.hidden;
    groups = map re_group m.groups;
    equations = map re_raw_equation m.equations;
  }

  -- ---- a normal form under the change, origins included

  unfoldable pub re_declared : Declared → Declared
  re_declared (declared_sort a) = declared_sort (τ a)
  re_declared (declared_function f i o) = declared_function (τ f) (map τ i) (τ o)
  re_declared (declared_variable v s) = declared_variable (τ v) (τ s)

  unfoldable pub re_origin : Origin → Origin
  re_origin o = record { home = o.home; section = o.section; declared = re_declared o.declared }

  unfoldable pub re_sort : Sort → Sort
  re_sort (visible_sort a) = visible_sort (τ a)
  re_sort (hidden_sort o) = hidden_sort (re_origin o)

  unfoldable pub re_type : FunctionType → FunctionType
  re_type t = record { inputs = map re_sort t.inputs; output = re_sort t.output }

  unfoldable pub re_shape : Shape → Shape
  re_shape sort_shape = sort_shape
  re_shape (function_shape t) = function_shape (re_type t)
  re_shape (variable_shape s) = variable_shape (re_sort s)

  unfoldable pub re_item : Item → Item
  re_item i = record { standing = i.standing; name = τ i.name; shape = re_shape i.shape; origin = re_origin i.origin }

  unfoldable pub re_head : Head → Head
  re_head (visible_head f t) = visible_head (τ f) (re_type t)
  re_head (hidden_head o t) = hidden_head (re_origin o) (re_type t)

  unfoldable mutual
    pub re_term : ResolvedTerm → ResolvedTerm
    re_term (var o s) = var (re_origin o) (re_sort s)
    re_term (app f xs) = app (re_head f) (re_terms xs)

    pub re_terms : ResolvedTerms → ResolvedTerms
    re_terms none_left = none_left
    re_terms (x and_then xs) = re_term x and_then re_terms xs

  unfoldable pub re_sides : ResolvedSides → ResolvedSides
  re_sides e = record { left = re_term e.left; right = re_term e.right }

  unfoldable pub re_equation : ResolvedEquation → ResolvedEquation
  re_equation e = record {
    module_number = e.module_number;
    position = e.position;
    tag = e.tag;
    conclusion = re_sides e.conclusion;
    conditions = map re_sides e.conditions;
  }

  unfoldable pub re_visible : Visible → Visible
  re_visible v = record { parameters = v.parameters; items = map re_item v.items }

  unfoldable pub re_hidden : Hidden → Hidden
  re_hidden h = record { items = map re_item h.items; equations = map re_equation h.equations }

  unfoldable pub re_normal : Normal → Normal
  re_normal n = record { visible = re_visible n.visible; hidden = re_hidden n.hidden }

-- ---- the names that a module uses for sorts, functions and variables

unfoldable pub function_names : Function → List Name
function_names f = f.name ∷ f.output ∷ f.inputs

unfoldable pub signature_names : Signature → List Name
signature_names s = s.sorts ++ each function_names s.functions

unfoldable pub pair_names : Pair → List Name
pair_names r = r.old ∷ r.new ∷ []

unfoldable pub clause_pairs : Clause → List Pair
clause_pairs (renamed_by rs) = rs
clause_pairs (bound_by p rs m) = rs

unfoldable pub import_pairs : Import → List Pair
import_pairs i = each clause_pairs i.clauses

unfoldable mutual
  pub term_names : Term → List Name
  term_names (node f xs) = f ∷ terms_names xs

  pub terms_names : Terms → List Name
  terms_names no_terms = []
  terms_names (x then xs) = term_names x ++ terms_names xs

unfoldable pub sides_names : Sides → List Name
sides_names e = term_names e.left ++ term_names e.right

unfoldable pub equation_names : Equation → List Name
equation_names e = each sides_names e.before ++ (sides_names e.conclusion ++ each sides_names e.after)

unfoldable pub names_used : Module → List Name
names_used m =
    each (λ (p : Parameter). signature_names p.signature) m.parameters
    ++ (signature_names m.exports
    ++ (each pair_names (each import_pairs m.imports)
    ++ (signature_names m.hidden
    ++ (each (λ (g : VariableGroup). g.sort ∷ g.names) m.groups ++ each equation_names m.equations))))

-- opens every definition of this file
unfoldable pub changing_opened : Unit {0}
unfolding re_function re_signature re_parameter re_pair re_clause re_import re_group re_raw re_raws re_raw_sides re_raw_equation re_module re_declared re_origin re_sort re_type re_shape re_item re_head re_term re_terms re_sides re_equation re_visible re_hidden re_normal function_names signature_names pair_names clause_pairs import_pairs term_names terms_names sides_names equation_names names_used
changing_opened = tt
