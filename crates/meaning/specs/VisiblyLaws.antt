-- The evaluation of a module over visible parts alone: no hidden item of an imported module, and no room.
use Rattle.std.specs.Prelude.{◌≡◌, refl, ℕ, ◌+◌, Bool, true, false, List, [], ◌∷◌, map}
use Rattle.std.proofs.Math.Option.{Option, none, some}
use Rattle.meaning.specs.Lists.{pick}
use Rattle.meaning.specs.Names.{Name, same, member}
use Rattle.meaning.specs.Numbers.{bad_renaming, bad_parameter, formal_unpaired}
use Rattle.meaning.specs.Syntax.{Pair, Clause, Import, Equation, Module, conditions_of, renamed_by, bound_by}
use Rattle.meaning.specs.Origins.{ResolvedSides, Item}
use Rattle.meaning.specs.Normal.{Visible, Normal, nothing_visible, empty, slot_names, formals, unite_visible, move_visible}
use Rattle.meaning.specs.Written.{visible_in_order}
use Rattle.meaning.specs.Checks.{◌>>=◌, ◌>>◌, lone, Outcome, Check, unless, consistent, fine, stop}
use Rattle.meaning.specs.Clauses.{renaming, wrong_renaming, new_sort, new_function, pairs_right, unpaired, without_visible}
use Rattle.meaning.specs.Typing.{made_equation, typed_sides, typed_conditions, typed_equations}
use Rattle.meaning.specs.Evaluate.{Evaluated, declared_once, normal_of, seen_sorts, joined_visible, own_checks, own_equations}
use Rattle.meaning.specs.OutcomeLaws.{told, told_bind}

-- ---- the evaluation over visible parts

unfoldable pub checked_visibly : Visible → Outcome Visible
checked_visibly v = consistent v [] >> fine v

unfoldable pub rename_visibly : List Pair → Visible → Outcome Visible
rename_visibly rs v = do
  unless bad_renaming (wrong_renaming v.items [] rs)
  checked_visibly (move_visible (renaming rs) (λ f t. renaming rs f) v)

unfoldable pub bound_visibly : Name → List Pair → Visible → Visible → Outcome Visible
bound_visibly p rs v actual =
    let formal = formals p v in
    do
      pairs_right formal rs v actual [] rs
      unless formal_unpaired (unpaired formal rs)
      checked_visibly (unite_visible (move_visible (new_sort formal rs) (new_function formal rs) (without_visible p v)) actual)

unfoldable pub bind_visibly : Name → List Pair → Visible → Visible → Outcome Visible
bind_visibly p rs v actual = let r = bound_visibly p rs v actual in pick (member p (slot_names v.parameters)) r (stop bad_parameter (lone p))

-- what is seen of a module that was evaluated
pub record Seen : Type 0 where
  pub name : Name
  pub visible : Visible

abbrev pub seen_of : Evaluated → Seen
seen_of e = record { name = e.name; visible = e.normal.visible }

unfoldable pub visible_of : List Seen → Name → Visible
visible_of [] w = nothing_visible
visible_of (e ∷ es) w = let r = visible_of es w in pick (same w e.name) e.visible r

unfoldable pub clause_visibly : List Seen → Clause → Visible → Outcome Visible
clause_visibly env (renamed_by rs) v = rename_visibly rs v
clause_visibly env (bound_by p rs m) v = bind_visibly p rs v (visible_of env m)

unfoldable pub clauses_visibly : List Seen → List Clause → Visible → Outcome Visible
clauses_visibly env [] v = fine v
clauses_visibly env (c ∷ cs) v = clause_visibly env c v >>= λ k. clauses_visibly env cs k

unfoldable pub expressions_visibly : List Seen → List Import → Outcome (List Visible)
expressions_visibly env [] = fine []
expressions_visibly env (i ∷ is) = do
  v ← clauses_visibly env i.clauses (visible_of env i.name)
  vs ← expressions_visibly env is
  fine (v ∷ vs)

unfoldable pub united_visibly : Visible → List Visible → Outcome Visible
united_visibly v [] = fine v
united_visibly v (k ∷ ks) = checked_visibly (unite_visible v k) >>= λ u. united_visibly u ks

unfoldable pub imported_visibly : List Seen → List Import → Outcome Visible
imported_visibly env is = expressions_visibly env is >>= λ vs. united_visibly nothing_visible vs

unfoldable pub joined_visibly : Module → Visible → Outcome Visible
joined_visibly m v = do
  own_checks m (seen_sorts m v) (joined_visible m v)
  told (own_equations 0 m (seen_sorts m v) (joined_visible m v))
  fine (visible_in_order (joined_visible m v))

-- `names` is the outcome of step 1
unfoldable pub evaluate_visibly : Check → List Seen → Module → Outcome Visible
evaluate_visibly names env m = do
  names
  declared_once m
  v ← imported_visibly env m.imports
  joined_visibly m v

-- ---- what is seen of what the definition's makes

abbrev pub visible_half : Normal → Visible
visible_half n = n.visible

pick_visible : (b : Bool) (x y : Normal) (v : Visible) → v ≡ y.visible → pick b x.visible v ≡ (pick b x y).visible
unfolding pick
pick_visible true x y v e = refl
pick_visible false x y v e = e

pub visible_of_env : (env : List Evaluated) (w : Name) → visible_of (map seen_of env) w ≡ (normal_of env w).visible
unfolding visible_of normal_of empty
visible_of_env [] w = refl
visible_of_env (e ∷ env) w = pick_visible (same w e.name) e.normal (normal_of env w) _ (visible_of_env env w)

abbrev pub visible_halfs : List Normal → List Visible
visible_halfs ns = map visible_half ns

-- an equation's module and position are of no account to its typing
made_told : (h h' at at' : ℕ) (t : Name) (c : Option ResolvedSides) (ks : Option (List ResolvedSides))
    → told (made_equation h at t c ks) ≡ told (made_equation h' at' t c ks)
unfolding told made_equation
made_told h h' at at' t none ks = refl
made_told h h' at at' t (some c) none = refl
made_told h h' at at' t (some c) (some ks) = refl

typed_told : (known : List Item) (h h' at at' : ℕ) (es : List Equation)
    → told (typed_equations known h at es) ≡ told (typed_equations known h' at' es)
unfolding typed_equations told
typed_told known h h' at at' [] = refl
typed_told known h h' at at' (e ∷ es) =
    told_bind _ _ _ _ (made_told h h' at at' e.tag (typed_sides known e.conclusion) (typed_conditions known (conditions_of e)))
    (λ x y. told_bind _ _ _ _ (typed_told known h h' (at + 1) (at' + 1) es) (λ xs ys. refl))

pub equations_told : (h h' : ℕ) (m : Module) (seen_sorts : List Name) (v : Visible)
    → told (own_equations h m seen_sorts v) ≡ told (own_equations h' m seen_sorts v)
unfolding own_equations
equations_told h h' m seen_sorts v = typed_told _ h h' 0 0 m.equations
