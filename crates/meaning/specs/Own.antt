-- M's own declarations (document 01, "Evaluating", step 4): its items with their origins, and the checks 13 and 12 of them.
use Rattle.std.specs.Prelude.{Bool, false, not, ◌||◌, List, ◌∷◌, ◌++◌, map}
use Rattle.std.proofs.Math.Option.{Option, none, some}
use Rattle.meaning.specs.Lists.{pick, keep, any, first_some, none_in, each, first_bad}
use Rattle.meaning.specs.Names.{Name, member}
use Rattle.meaning.specs.Numbers.{bad_sort}
use Rattle.meaning.specs.Syntax.{Function, Signature, Parameter, Variable, Module, variables_of}
use Rattle.meaning.specs.Origins.{Section, export_section, hidden_section, parameter_section, Declared, declared_sort, declared_function, declared_variable, Origin, Sort, visible_sort, hidden_sort, FunctionType, Shape, sort_shape, function_shape, variable_shape, Item}
use Rattle.meaning.specs.Normal.{Slot, Visible, names_in}
use Rattle.meaning.specs.Checks.{◌>>◌, Check, unless}

-- ---- M's own items, where `seen_sorts` are the names of the visible sorts, M's own included

module _ (m : Module) (seen_sorts : List Name) where
  abbrev pub own_origin : Section → Declared → Origin
  own_origin s d = record { home = m.name; section = s; declared = d }

  -- a visible sort, or M's own hidden one; M's text cannot name an imported hidden item, so any other is not available
  unfoldable pub resolved : Name → Sort
  resolved s =
      pick (member s seen_sorts) (visible_sort s)
      (pick (member s m.hidden.sorts) (hidden_sort (own_origin hidden_section (declared_sort s))) (visible_sort s))

  unfoldable pub function_type : Function → FunctionType
  function_type f = record { inputs = map resolved f.inputs; output = resolved f.output }

  unfoldable pub own_sort : Section → Name → Item
  own_sort s a = record { standing = s; name = a; shape = sort_shape; origin = own_origin s (declared_sort a) }

  unfoldable pub own_function : Section → Function → Item
  own_function s f = record {
    standing = s;
    name = f.name;
    shape = function_shape (function_type f);
    origin = own_origin s (declared_function f.name f.inputs f.output);
  }

  unfoldable pub own_section : Section → Signature → List Item
  own_section s g = map (own_sort s) g.sorts ++ map (own_function s) g.functions

  unfoldable pub own_slot : Parameter → Slot
  own_slot p = record { name = p.name; home = m.name }

  unfoldable pub own_visible : Visible
  own_visible = record {
    parameters = map own_slot m.parameters;
    items =
        each (λ (p : Parameter). own_section (parameter_section p.name) p.signature) m.parameters
        ++ own_section export_section m.exports;
  }

  -- variables belong to the hidden section
  unfoldable pub own_variable : Variable → Item
  own_variable v = record {
    standing = hidden_section;
    name = v.name;
    shape = variable_shape (resolved v.sort);
    origin = own_origin hidden_section (declared_variable v.name v.sort);
  }

  unfoldable pub own_hidden_items : List Item
  own_hidden_items = own_section hidden_section m.hidden ++ map own_variable (variables_of m)

-- ---- 13: a type using a sort that is not available; the culprit is the function or variable using it

unfoldable pub lacking : List Name → Function → Option Name
lacking available f =
    pick (any (λ (s : Name). not (member s available)) (f.output ∷ f.inputs)) (some f.name) none

unfoldable pub lacking_variable : List Name → Variable → Option Name
lacking_variable available v = pick (member v.sort available) none (some v.name)

unfoldable pub parameter_functions : List Parameter → List Function
parameter_functions ps = each (λ (p : Parameter). p.signature.functions) ps

-- first in text order; in exports and parameters: not visible
unfoldable pub available_sorts : Module → List Name → Check
available_sorts m seen_sorts =
    let inside = seen_sorts ++ m.hidden.sorts in
    do
      unless bad_sort (first_some (lacking seen_sorts) (parameter_functions m.parameters))
      unless bad_sort (first_some (lacking seen_sorts) m.exports.functions)
      unless bad_sort (first_some (lacking inside) m.hidden.functions)
      unless bad_sort (first_some (lacking_variable inside) (variables_of m))

-- ---- 12: a variable declared twice, or named like a constant in reach of M's text

unfoldable pub wrong_variable : List Name → List Name → List Variable → Option Name
wrong_variable constants met vs =
    first_bad (λ (v : Variable). v.name) (λ (v : Variable). v.name)
    (λ (met : List Name) (v : Variable). member v.name met || member v.name constants) met vs

unfoldable pub is_constant : Shape → Bool
is_constant sort_shape = false
is_constant (function_shape t) = none_in t.inputs
is_constant (variable_shape s) = false

unfoldable pub constants : List Item → List Name
constants is = names_in (keep (λ (i : Item). is_constant i.shape) is)

-- opens every definition of this file
unfoldable pub own_opened : Unit {0}
unfolding resolved function_type own_sort own_function own_section own_slot own_visible own_variable own_hidden_items lacking lacking_variable parameter_functions available_sorts wrong_variable is_constant constants
own_opened = tt
