-- One module (document 01, "Evaluating", steps 1 to 4).
use Rattle.std.specs.Prelude.{ℕ, Bool, not, ◌&&◌, List, [], ◌∷◌, ◌++◌}
use Rattle.meaning.specs.Lists.{pick, each, agree, union, repeated}
use Rattle.meaning.specs.Names.{Name, same, member}
use Rattle.meaning.specs.Numbers.{named_absent, named_late, declared_twice, bad_variable}
use Rattle.meaning.specs.Syntax.{Function, Signature, Parameter, Clause, renamed_by, bound_by, Import, Module, variables_of}
use Rattle.meaning.specs.Origins.{ResolvedEquation, one_item}
use Rattle.meaning.specs.Normal.{Visible, Hidden, Normal, empty, sort_names, unite_hidden, unite}
use Rattle.meaning.specs.Written.{in_order}
use Rattle.meaning.specs.Checks.{lone, Outcome, fine, stop, ◌>>=◌, ◌>>◌, Check, unless, needs, each_beside, consistent, Size, size, add_sizes, room, total_room, checked}
use Rattle.meaning.specs.Clauses.{rename, bind}
use Rattle.meaning.specs.Own.{own_visible, own_hidden_items, available_sorts, wrong_variable, constants}
use Rattle.meaning.specs.Typing.{typed_equations}

-- a module evaluated in this call: its name and its normal form
pub record Evaluated : Type 0 where
  pub name : Name
  pub normal : Normal

-- ---- step 1. Names of modules, in text order: absent 7, not declared earlier (itself included) 8

unfoldable pub clause_names : Clause → List Name
clause_names (renamed_by rs) = []
clause_names (bound_by p rs m) = m ∷ []

unfoldable pub import_names : Import → List Name
import_names i = i.name ∷ each clause_names i.clauses

unfoldable pub named_by : Module → List Name
named_by m = each import_names m.imports

-- no module is called so
unfoldable pub missing : List Name → Name → Bool
missing declared w = not (member w declared)

-- a module is called so, and none that is declared earlier
unfoldable pub too_late : List Name → List Name → Name → Bool
too_late declared earlier w = member w declared && not (member w earlier)

unfoldable pub names_right : List Name → List Name → List Name → Check
names_right declared earlier [] = fine tt
names_right declared earlier (w ∷ ws) =
    let more = names_right declared earlier ws in
    pick (missing declared w) (stop named_absent (lone w)) (pick (too_late declared earlier w) (stop named_late (lone w)) more)

-- ---- step 2. Sorts or functions (with type) repeated within one section, or a parameter name repeated: 9, at the first repeat

unfoldable pub same_function : Function → Function → Bool
same_function f g = same f.name g.name && agree same f.inputs g.inputs && same f.output g.output

unfoldable pub once_in : Signature → Check
once_in s = do
  unless declared_twice (repeated (λ (w : Name). w) same [] s.sorts)
  unless declared_twice (repeated (λ (f : Function). f.name) same_function [] s.functions)

unfoldable pub once_in_parameter : List Name → Parameter → Check
once_in_parameter met p = needs declared_twice (lone p.name) (not (member p.name met)) >> once_in p.signature

unfoldable pub once_in_parameters : List Name → List Parameter → Check
once_in_parameters met ps = each_beside (λ (p : Parameter). p.name) once_in_parameter met ps

unfoldable pub declared_once : Module → Check
declared_once m = do
  once_in_parameters [] m.parameters
  once_in m.exports
  once_in m.hidden

-- ---- step 3. Each import expression, its clauses in order

-- after step 1 every named module is among those evaluated, so that the first clause is never reached
unfoldable pub normal_of : List Evaluated → Name → Normal
normal_of [] w = empty
normal_of (e ∷ es) w = let r = normal_of es w in pick (same w e.name) e.normal r

unfoldable pub clause : List Evaluated → Clause → Normal → Outcome Normal
clause env (renamed_by rs) n = rename rs n
clause env (bound_by p rs m) n = bind p rs n (normal_of env m)

unfoldable pub clauses : List Evaluated → List Clause → Normal → Outcome Normal
clauses env [] n = fine n
clauses env (c ∷ cs) n = clause env c n >>= λ k. clauses env cs k

unfoldable pub expressions : List Evaluated → List Import → Outcome (List Normal)
expressions env [] = fine []
expressions env (i ∷ is) = do
  n ← clauses env i.clauses (normal_of env i.name)
  ns ← expressions env is
  fine (n ∷ ns)

-- ---- step 4. The expressions' results united, left to right; then M's own declarations

unfoldable pub united : Normal → List Normal → Outcome Normal
united n [] = fine n
united n (k ∷ ks) = checked (unite n k) >>= λ u. united u ks

unfoldable pub imported : List Evaluated → List Import → Outcome Normal
imported env is = expressions env is >>= λ ns. united empty ns

-- the names of the visible sorts, M's own included
unfoldable pub seen_sorts : Module → Visible → List Name
seen_sorts m v = sort_names v ++ (each (λ (p : Parameter). p.signature.sorts) m.parameters ++ m.exports.sorts)

-- the visible part, with M's own joined. No other module declares M's parameters, so that none of them is one that is imported
unfoldable pub joined_visible : Module → Visible → Visible
joined_visible m v =
    let own = own_visible m (seen_sorts m v) in
    record { parameters = v.parameters ++ own.parameters; items = union one_item v.items own.items }

-- 15, 10, 11, 13, 12, of a visible part with M's own joined
unfoldable pub own_checks : Module → List Name → Visible → Check
own_checks m seen_sorts v =
    let own = own_hidden_items m seen_sorts in
    do
      consistent v own
      available_sorts m seen_sorts
      unless bad_variable (wrong_variable (constants (v.items ++ own)) [] (variables_of m))

-- 17: the equations of M, which is the module of this number
unfoldable pub own_equations : ℕ → Module → List Name → Visible → Outcome (List ResolvedEquation)
own_equations number m seen_sorts v = typed_equations (v.items ++ own_hidden_items m seen_sorts) number 0 m.equations

unfoldable pub joined_hidden : Module → List Name → Hidden → List ResolvedEquation → Hidden
joined_hidden m seen_sorts h equations = unite_hidden h (record { items = own_hidden_items m seen_sorts; equations = equations })

-- M's own declarations joined to what it imports. A module's normal form stands in the order of its listing
unfoldable pub joined_own : ℕ → Size → Module → Normal → Outcome Normal
joined_own number total m n =
    let v = joined_visible m n.visible in
    do
      own_checks m (seen_sorts m n.visible) v
      equations ← own_equations number m (seen_sorts m n.visible) v
      let all : Normal = record { visible = v; hidden = joined_hidden m (seen_sorts m n.visible) n.hidden equations }
      room all
      total_room (add_sizes total (size all))
      fine (in_order all)

-- ---- the four steps for M, which is the module of this number among those called `declared`, with `earlier` before it.
-- `env` are the modules evaluated in this call, `total` is the size of their normal forms together

unfoldable pub evaluate : List Name → List Name → ℕ → Size → List Evaluated → Module → Outcome Normal
evaluate declared earlier number total env m = do
  names_right declared earlier (named_by m)
  declared_once m
  n ← imported env m.imports
  joined_own number total m n

-- opens every definition of this file
unfoldable pub evaluate_opened : Unit {0}
unfolding clause_names import_names named_by missing too_late names_right same_function once_in once_in_parameter once_in_parameters declared_once normal_of clause clauses expressions united imported seen_sorts joined_visible own_checks own_equations joined_hidden joined_own evaluate
evaluate_opened = tt
