-- The clauses of an import expression (document 01, "Evaluating", step 3; 02, requests Two and Five): renaming, 14, and binding, 15 and 22 to 27.
use Rattle.std.specs.Prelude.{ℕ, Bool, true, false, not, ◌&&◌, ◌||◌, List, [], ◌∷◌, eqb, length}
use Rattle.std.proofs.Math.Option.{Option, none, some}
use Rattle.meaning.specs.Lists.{pick, keep, any, first_bad}
use Rattle.meaning.specs.Names.{Name, same, is_operator, is_infix, member, least}
use Rattle.meaning.specs.Numbers.{bad_renaming, bad_parameter, formal_absent, formal_twice, actual_absent, other_kind, other_type, formal_unpaired}
use Rattle.meaning.specs.Syntax.{Pair}
use Rattle.meaning.specs.Origins.{Origin, same_origin, Sort, visible_sort, hidden_sort, FunctionType, Shape, sort_shape, function_shape, variable_shape, same_shape, is_function, Item, in_parameter}
use Rattle.meaning.specs.Normal.{Slot, Visible, Normal, names_in, sorts_among, sort_names, is_called, origin_of, slot_names, formals, unite, move_type, move}
use Rattle.meaning.specs.Checks.{Culprit, lone, Outcome, stop, ◌>>◌, Check, unless, needs, each_beside, checked}

-- ---- pairs

-- what the first pair of the name gives, if there is one
unfoldable pub paired : List Pair → Name → Option Name
paired [] w = none
paired (r ∷ rs) w = let more = paired rs w in pick (same r.old w) (some r.new) more

unfoldable pub otherwise : Name → Option Name → Name
otherwise w none = w
otherwise w (some n) = n

-- simultaneous: every pair is asked of the name as it was
unfoldable pub renaming : List Pair → Name → Name
renaming rs w = otherwise w (paired rs w)

-- ---- renaming: a pair renames the visible sort and all visible function instances of its old name, parameters included

-- what a name may stand for. A plain one: anything; an operator: no sort, and functions with as many arguments as it has
unfoldable pub arguments_fit : Name → ℕ → Bool
arguments_fit w n = pick (is_operator w) (eqb n (pick (is_infix w) 2 1)) true

unfoldable pub may_name : Name → Shape → Bool
may_name w sort_shape = not (is_operator w)
may_name w (function_shape t) = arguments_fit w (length t.inputs)
may_name w (variable_shape s) = true  -- no variable is visible

-- the old name is visible, and the new one may stand for all that it renames
unfoldable pub renames : List Item → Pair → Bool
renames visible r =
    any (is_called r.old) visible
    && not (any (λ (i : Item). is_called r.old i && not (may_name r.new i.shape)) visible)

-- the first pair that is wrong, or whose old name was given before
unfoldable pub wrong_renaming : List Item → List Name → List Pair → Option Name
wrong_renaming visible given rs =
    first_bad (λ (r : Pair). r.old) (λ (r : Pair). r.old) (λ (given : List Name) (r : Pair). not (renames visible r) || member r.old given) given rs

unfoldable pub rename : List Pair → Normal → Outcome Normal
rename rs n = do
  unless bad_renaming (wrong_renaming n.visible.items [] rs)
  checked (move (renaming rs) (λ f t. renaming rs f) n)

-- ---- binding: sorts of a type that are not formal compare by name and origin, unavailable ones by name

unfoldable pub same_origins : Option Origin → Option Origin → Bool
same_origins none none = true
same_origins none (some p) = false
same_origins (some o) none = false
same_origins (some o) (some p) = same_origin o p

unfoldable pub is_among : List Name → Option Name → Bool
is_among ws none = false
is_among ws (some w) = member w ws

-- `formal` are the items of the parameter, bound by the pairs rs
module _ (formal : List Item) where
  unfoldable pub is_formal_sort : Name → Bool
  is_formal_sort s = any (is_called s) (sorts_among formal)

  -- of every formal item that the pair binds: a name of both kinds needs both
  unfoldable pub all_right : (Name → Shape → Bool) → Pair → Bool
  all_right right r = not (any (λ (i : Item). is_called r.old i && not (right r.new i.shape)) formal)

module _ (formal : List Item) (rs : List Pair) where
  -- formal items alone are replaced, not exported ones of the same name
  unfoldable pub new_sort : Name → Name
  new_sort s = pick (is_formal_sort formal s) (renaming rs s) s

  unfoldable pub new_function : Name → FunctionType → Name
  new_function f t = pick (any (λ (i : Item). is_called f i && same_shape (function_shape t) i.shape) formal) (renaming rs f) f

  -- the least formal name without a pair
  unfoldable pub unpaired : Option Name
  unpaired = least (keep (λ (w : Name). not (any (λ (r : Pair). same w r.old) rs)) (names_in formal))

-- a formal sort needs a visible sort of the actual module, so no operator; a formal function a visible function. No variable is formal
unfoldable pub kind_right : Visible → Name → Shape → Bool
kind_right actual new sort_shape = member new (sort_names actual)
kind_right actual new (variable_shape s) = true
kind_right actual new (function_shape t) = any (λ (i : Item). is_called new i && is_function i.shape) actual.items

-- `whole` is the visible part of the module that has the parameter, `actual` that of the actual module
module _ (formal : List Item) (rs : List Pair) (whole actual : Visible) where
  -- a formal sort's first pair names a visible sort of the actual module; any other sort is the same in both. No formal type has a hidden sort
  unfoldable pub sort_right : Sort → Bool
  sort_right (hidden_sort o) = true
  sort_right (visible_sort s) =
      pick (is_formal_sort formal s) (is_among (sort_names actual) (paired rs s)) (same_origins (origin_of whole s) (origin_of actual s))

  unfoldable pub sorts_right : FunctionType → Bool
  sorts_right t = not (any (λ (s : Sort). not (sort_right s)) (t.output ∷ t.inputs))

  -- a formal function needs one with the formal type after the formal sorts are replaced, so one with as many arguments
  unfoldable pub type_right : Name → Shape → Bool
  type_right new sort_shape = true
  type_right new (variable_shape s) = true
  type_right new (function_shape t) =
      sorts_right t
      && any (λ (i : Item). is_called new i && same_shape (function_shape (move_type (new_sort formal rs) (new_function formal rs) t)) i.shape)
      actual.items

  -- a pair gets the first number that fits; `met` are the formal names that were paired before
  unfoldable pub pair_right : List Name → Pair → Check
  pair_right met r =
      let both : Culprit = record { name = r.old; actual = r.new } in
      do
        needs formal_absent both (any (is_called r.old) formal)
        needs formal_twice both (not (member r.old met))
        needs actual_absent both (any (is_called r.new) actual.items)
        needs other_kind both (all_right formal (kind_right actual) r)
        needs other_type both (all_right formal type_right r)

  -- the first pair that gets one is told
  unfoldable pub pairs_right : List Name → List Pair → Check
  pairs_right met xs = each_beside (λ (r : Pair). r.old) pair_right met xs

-- the module without the parameter
unfoldable pub without_visible : Name → Visible → Visible
without_visible p v = record {
  parameters = keep (λ (q : Slot). not (same p q.name)) v.parameters;
  items = keep (λ (i : Item). not (in_parameter p i.standing)) v.items;
}

unfoldable pub without : Name → Normal → Normal
without p n = record { visible = without_visible p n.visible; hidden = n.hidden }

-- formal items replaced by actual ones in types and equations, united with the actual normal form
unfoldable pub bound_to : Name → List Pair → Normal → Normal → Outcome Normal
bound_to p rs n actual =
    let formal = formals p n.visible in
    do
      pairs_right formal rs n.visible actual.visible [] rs
      unless formal_unpaired (unpaired formal rs)
      checked (unite (move (new_sort formal rs) (new_function formal rs) (without p n)) actual)

-- the parameter must exist
unfoldable pub bind : Name → List Pair → Normal → Normal → Outcome Normal
bind p rs n actual = let r = bound_to p rs n actual in pick (member p (slot_names n.visible.parameters)) r (stop bad_parameter (lone p))

-- opens every definition of this file
unfoldable pub clauses_opened : Unit {0}
unfolding paired otherwise renaming arguments_fit may_name renames wrong_renaming rename same_origins is_among is_formal_sort all_right new_sort new_function unpaired kind_right sort_right sorts_right type_right pair_right pairs_right without_visible without bound_to bind
clauses_opened = tt
