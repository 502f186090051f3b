-- Normal forms (document 01, "Origins" and "Evaluating"; 004, section 4.1): a visible part, made of visible parts alone, and a hidden part;
-- their union, and their translation by new names.
use Rattle.std.specs.Prelude.{Bool, true, not, ◌&&◌, List, [], ◌∷◌, ◌++◌, map}
use Rattle.std.proofs.Math.Option.{Option, none, some}
use Rattle.meaning.specs.Lists.{keep, any, first, all_among, union}
use Rattle.meaning.specs.Names.{Name, same}
use Rattle.meaning.specs.Origins.{Origin, same_origin, Sort, visible_sort, hidden_sort, FunctionType, Head, visible_head, hidden_head, ResolvedTerm, var, app, ResolvedTerms, none_left, ◌and_then◌, ResolvedSides, ResolvedEquation, Shape, sort_shape, function_shape, variable_shape, is_sort, Item, in_parameter, one_item, one_equation}

-- a parameter: its name, and the module that declares it. Its sorts and functions are the items that stand in it
pub record Slot : Type 0 where
  pub name : Name
  pub home : Name

-- the parameters, and the visible items: exported or inherited, or standing in a parameter
pub record Visible : Type 0 where
  pub parameters : List Slot
  pub items : List Item

pub record Hidden : Type 0 where
  pub items : List Item
  pub equations : List ResolvedEquation

pub record Normal : Type 0 where
  pub visible : Visible
  pub hidden : Hidden

unfoldable pub nothing_visible : Visible
nothing_visible = record { parameters = []; items = [] }

unfoldable pub nothing_hidden : Hidden
nothing_hidden = record { items = []; equations = [] }

unfoldable pub empty : Normal
empty = record { visible = nothing_visible; hidden = nothing_hidden }

-- ---- the names of the visible sorts, and of all that is visible, parameters included

unfoldable pub names_in : List Item → List Name
names_in is = map (λ (i : Item). i.name) is

unfoldable pub sorts_among : List Item → List Item
sorts_among is = keep (λ (i : Item). is_sort i.shape) is

unfoldable pub sort_names : Visible → List Name
sort_names v = names_in (sorts_among v.items)

unfoldable pub is_called : Name → Item → Bool
is_called w i = same w i.name

-- where a visible sort comes from
unfoldable pub origin_of_item : Option Item → Option Origin
origin_of_item none = none
origin_of_item (some i) = some i.origin

unfoldable pub origin_of : Visible → Name → Option Origin
origin_of v w = origin_of_item (first (is_called w) (sorts_among v.items))

-- ---- parameters: their names, their items, and which are one (document 02, request Seven)

unfoldable pub slot_names : List Slot → List Name
slot_names ps = map (λ (p : Slot). p.name) ps

-- the items that stand in the parameter p
unfoldable pub formals : Name → Visible → List Item
formals p v = keep (λ (i : Item). in_parameter p i.standing) v.items

-- of one name, and declared in the same module
unfoldable pub same_slot : Slot → Slot → Bool
same_slot p q = same p.name q.name && same p.home q.home

-- the sorts of a type, which have one name, have one origin where both show them; one that only one of the two shows agrees by its name.
-- What stands in a parameter is a sort or a function, and its type has no hidden sort
unfoldable pub origins_agree : Option Origin → Option Origin → Bool
origins_agree none p = true
origins_agree (some o) none = true
origins_agree (some o) (some p) = same_origin o p

unfoldable pub sort_agrees : Visible → Visible → Sort → Bool
sort_agrees a b (visible_sort s) = origins_agree (origin_of a s) (origin_of b s)
sort_agrees a b (hidden_sort o) = true

unfoldable pub shape_agrees : Visible → Visible → Shape → Bool
shape_agrees a b sort_shape = true
shape_agrees a b (function_shape t) = not (any (λ (s : Sort). not (sort_agrees a b s)) (t.output ∷ t.inputs))
shape_agrees a b (variable_shape s) = true

unfoldable pub types_agree : Name → Visible → Visible → Bool
types_agree p a b = not (any (λ (i : Item). not (shape_agrees a b i.shape)) (formals p a))

-- the same sorts and functions with the same origins stand in p, in both, and the sorts of their types are the same
unfoldable pub same_formals : Name → Visible → Visible → Bool
same_formals p a b =
    all_among one_item (formals p a) (formals p b) && all_among one_item (formals p b) (formals p a) && types_agree p a b

-- the parameter q of b is one of a's
unfoldable pub is_parameter_of : Visible → Visible → Slot → Bool
is_parameter_of a b q = any (same_slot q) a.parameters && same_formals q.name a b

-- ---- union: items and equations that are one become one, and so do parameters, as they stand before their items are united; import keeps
-- origins. Parameters of one name that are not one are for check 15

unfoldable pub unite_visible : Visible → Visible → Visible
unite_visible a b = record {
  parameters = a.parameters ++ keep (λ (q : Slot). not (is_parameter_of a b q)) b.parameters;
  items = union one_item a.items b.items;
}

unfoldable pub unite_hidden : Hidden → Hidden → Hidden
unite_hidden a b = record { items = union one_item a.items b.items; equations = union one_equation a.equations b.equations }

unfoldable pub unite : Normal → Normal → Normal
unite a b = record { visible = unite_visible a.visible b.visible; hidden = unite_hidden a.hidden b.hidden }

-- ---- translation: new names for visible sorts, and for visible functions by name and type. Types and equations follow, origins stay,
-- and what becomes one is one

module _ (σ : Name → Name) (φ : Name → FunctionType → Name) where
  unfoldable pub move_sort : Sort → Sort
  move_sort (visible_sort a) = visible_sort (σ a)
  move_sort (hidden_sort o) = hidden_sort o

  unfoldable pub move_type : FunctionType → FunctionType
  move_type t = record { inputs = map move_sort t.inputs; output = move_sort t.output }

  unfoldable pub move_shape : Shape → Shape
  move_shape sort_shape = sort_shape
  move_shape (function_shape t) = function_shape (move_type t)
  move_shape (variable_shape s) = variable_shape (move_sort s)

  -- no variable is visible: the last clause is never reached
  unfoldable pub move_name : Name → Shape → Name
  move_name w sort_shape = σ w
  move_name w (function_shape t) = φ w t
  move_name w (variable_shape s) = w

  unfoldable pub move_item : Item → Item
  move_item i = record {
    standing = i.standing;
    name = move_name i.name i.shape;
    shape = move_shape i.shape;
    origin = i.origin;
  }

  unfoldable pub move_hidden_item : Item → Item
  move_hidden_item i = record { standing = i.standing; name = i.name; shape = move_shape i.shape; origin = i.origin }

  unfoldable pub move_head : Head → Head
  move_head (visible_head f t) = visible_head (φ f t) (move_type t)
  move_head (hidden_head o t) = hidden_head o (move_type t)

  unfoldable mutual
    pub move_term : ResolvedTerm → ResolvedTerm
    move_term (var o s) = var o (move_sort s)
    move_term (app f xs) = app (move_head f) (move_terms xs)

    pub move_terms : ResolvedTerms → ResolvedTerms
    move_terms none_left = none_left
    move_terms (x and_then xs) = move_term x and_then move_terms xs

  unfoldable pub move_sides : ResolvedSides → ResolvedSides
  move_sides e = record { left = move_term e.left; right = move_term e.right }

  unfoldable pub move_equation : ResolvedEquation → ResolvedEquation
  move_equation e = record {
    module_number = e.module_number;
    position = e.position;
    tag = e.tag;
    conclusion = move_sides e.conclusion;
    conditions = map move_sides e.conditions;
  }

  unfoldable pub move_visible : Visible → Visible
  move_visible v = record { parameters = v.parameters; items = union one_item [] (map move_item v.items) }

  unfoldable pub move_hidden : Hidden → Hidden
  move_hidden h = record {
    items = union one_item [] (map move_hidden_item h.items);
    equations = union one_equation [] (map move_equation h.equations);
  }

  unfoldable pub move : Normal → Normal
  move n = record { visible = move_visible n.visible; hidden = move_hidden n.hidden }

-- opens every definition of this file
unfoldable pub normal_opened : Unit {0}
unfolding nothing_visible nothing_hidden empty names_in sorts_among sort_names is_called origin_of_item origin_of slot_names formals same_slot origins_agree sort_agrees shape_agrees types_agree same_formals is_parameter_of unite_visible unite_hidden unite move_sort move_type move_shape move_name move_item move_hidden_item move_head move_term move_sides move_equation move_visible move_hidden move
normal_opened = tt
