-- Where a module's import expressions stand among its entries.
use Rattle.std.specs.Prelude.{◌≡◌, Bool, true, false, ltb}
use Rattle.std.proofs.Math.Path.{refl, ap, subst}
use Rattle.std.proofs.Common.{sym, ◌∙◌, length-append, eqb-true, lt-ltb, le-ltb}
use Rattle.std.proofs.lemmas.Bool.{false≢true}
use Prim.Native.Nat.{ℕ, suc, ◌+◌, ◌-◌, ◌≤◌, ◌<◌}
use native.Mathlib.Omega.{arith}
use mathlib.Core.List.{List, [], ◌∷◌, ◌++◌, append_assoc}
use Rattle.std.proofs.Math.Dec.{eqb}
use Rattle.std.proofs.Math.ListN.{length}
use Rattle.meaning.specs.Lists.{pick, each}
use Rattle.meaning.specs.OrderLaws.{Every}
use Rattle.meaning.specs.Syntax.{Clause, renamed_by, bound_by, Import, Module}
use Rattle.tape.specs.Roles.{All, all_append, all_signature, all_parameters, all_groups, all_equations}
use Rattle.invariants.specs.Limits.{PairsWithin, Limited}
use Rattle.tape.specs.Tape.{Entry, entry, module_role, export_sort, export_function, hidden_sort, hidden_function, flat_parameter, flat_signature, flat_clause, flat_import, flat_group, flat_equation, flat_module, import_role}
use Rattle.form_rows.specs.Entries.{role_at, next_with}
use Rattle.own_declarations.specs.Spelled.{Spells, spells_front, spells_behind}
use Rattle.imports.specs.Spelling.{runs, FewPairs, ImportsAt}

-- the entries from `from` up to `end` spell the module m, and behind them none of an import expression stands
pub record ModuleAt (text tape : List ℕ) (from end : ℕ) (m : Module) : Type 0 where
  pub entries : Spells text tape from (flat_module m)
  pub whole : end ≡ from + length (flat_module m)
  pub limited : Limited m
  pub after : runs 11 (role_at tape end) ≡ false

-- ---- a module's entries in front of its imports, and behind them

unfoldable pub ahead : Module → List Entry
ahead m = entry module_role m.name ∷ (each flat_parameter m.parameters ++ flat_signature export_sort export_function m.exports)

unfoldable pub rest : Module → List Entry
rest m = flat_signature hidden_sort hidden_function m.hidden ++ (each flat_group m.groups ++ each flat_equation m.equations)

pub module_parts : (m : Module) → flat_module m ≡ ahead m ++ (each flat_import m.imports ++ rest m)
unfolding flat_module ahead rest
module_parts m =
    ap (λ (es : List Entry). entry module_role m.name ∷ es)
    (sym (append_assoc (each flat_parameter m.parameters) (flat_signature export_sort export_function m.exports) (each flat_import m.imports ++ rest m)))

abbrev pub Other : ℕ → Type 0
Other r = runs 11 r ≡ false

pub low_other : (r : ℕ) → r < 11 → Other r
unfolding runs pick
low_other r h = rw (lt-ltb r 11 h)

high_other : (r : ℕ) → 17 ≤ r → Other r
unfolding runs pick
high_other r h = rw (le-ltb r 17 h) (both (ltb r 11))
  where
    both : (b : Bool) → pick b false false ≡ false
    both true = refl
    both false = refl

ahead_other : (m : Module) → All Other (ahead m)
unfolding ahead
ahead_other m = (
  low_other 1 (omega arith),
  all_append Other (each flat_parameter m.parameters) (flat_signature export_sort export_function m.exports)
      (all_parameters Other (low_other 2 (omega arith)) (low_other 3 (omega arith)) (low_other 4 (omega arith)) (low_other 9 (omega arith)) (low_other 10 (omega arith)) m.parameters)
      (all_signature Other 5 6 (low_other 5 (omega arith)) (low_other 6 (omega arith)) (low_other 9 (omega arith)) (low_other 10 (omega arith)) m.exports),
)

rest_other : (m : Module) → All Other (rest m)
unfolding rest
rest_other m =
    all_append Other (flat_signature hidden_sort hidden_function m.hidden) (each flat_group m.groups ++ each flat_equation m.equations)
    (all_signature Other 7 8 (low_other 7 (omega arith)) (low_other 8 (omega arith)) (low_other 9 (omega arith)) (low_other 10 (omega arith)) m.hidden)
    (all_append Other (each flat_group m.groups) (each flat_equation m.equations)
    (all_groups Other (high_other 17 (omega arith)) (high_other 18 (omega arith)) m.groups)
    (all_equations Other (λ r h. high_other r (omega arith)) m.equations))

-- ---- the first import expression

no_import : (r : ℕ) → Other r → eqb r 11 ≡ false
unfolding runs pick
no_import r h = go (eqb r 11) refl
  where
    go : (b : Bool) → eqb r 11 ≡ b → b ≡ false
    go true q = absurd (false≢true (sym h ∙ ap (λ (k : ℕ). pick (ltb k 11) false (ltb k 17)) (eqb-true r 11 q)))
    go false q = refl

stops_there : (tape : List ℕ) (i c : ℕ) → role_at tape i ≡ import_role → next_with import_role tape i (suc c) ≡ i
unfolding next_with pick
stops_there tape i c e = rw e

module _ (text tape : List ℕ) where
  next_past : (es : List Entry) (i c : ℕ) → All Other es → Spells text tape i es
      → next_with import_role tape i (length es + c) ≡ next_with import_role tape (i + length es) c
  unfolding next_with pick
  next_past [] i c l s = let e : i + 0 ≡ i = omega arith in let d : 0 + c ≡ c = omega arith in rw (e, d)
  next_past (x ∷ es) i c l s =
      let n : suc (length es) + c ≡ suc (length es + c) = omega arith in
      let e : i + suc (length es) ≡ suc i + length es = omega arith in
      rw (n, ap (λ (r : ℕ). eqb r 11) s.0 ∙ no_import x.role l.0, e) (next_past es (suc i) c l.1 s.2)

  -- behind entries that are others, or behind all, stands no entry of an import expression
  then_other : (es : List Entry) (i end : ℕ) → All Other es → Spells text tape i es → i + length es ≡ end → Other (role_at tape end) → Other (role_at tape i)
  then_other [] i end l s e q =
      let z : end ≡ i = omega arith in
      subst (λ (j : ℕ). Other (role_at tape j)) z q
  then_other (x ∷ es) i end l s e q = ap (runs 11) s.0 ∙ l.0

  module _ (from end : ℕ) (m : Module) (a : ModuleAt text tape from end m) where
    parted : Spells text tape from (ahead m ++ (each flat_import m.imports ++ rest m))
    parted = subst (Spells text tape from) (module_parts m) a.entries

    abbrev place : ℕ
    place = from + length (ahead m)

    behind_ahead : Spells text tape place (each flat_import m.imports ++ rest m)
    behind_ahead = spells_behind text tape (ahead m) (each flat_import m.imports ++ rest m) from parted

    behind_imports : Spells text tape (place + length (each flat_import m.imports)) (rest m)
    behind_imports = spells_behind text tape (each flat_import m.imports) (rest m) place behind_ahead

    whole : place + length (each flat_import m.imports) + length (rest m) ≡ end
    whole =
        let is = each flat_import m.imports in
        omega (arith, a.whole, ap length (module_parts m), length-append (ahead m) (is ++ rest m), length-append is (rest m))

    ahead_spelled : Spells text tape from (ahead m)
    ahead_spelled = spells_front text tape (ahead m) (each flat_import m.imports ++ rest m) from parted

    -- none: the search runs to the end
    none_found : length (each flat_import m.imports) ≡ 0 → next_with import_role tape from (end - from) ≡ end
    unfolding next_with
    none_found e =
        let n : end - from ≡ length (ahead m) + (length (rest m) + 0) = omega (arith, whole, e) in
        let j : place + length (each flat_import m.imports) ≡ place = omega (arith, e) in
        let s : Spells text tape place (rest m) = subst (λ (i : ℕ). Spells text tape i (rest m)) j behind_imports in
        let z : place + length (rest m) ≡ end = omega (arith, whole, e) in
        rw n (next_past (ahead m) from (length (rest m) + 0) (ahead_other m) ahead_spelled ∙ next_past (rest m) place 0 (rest_other m) s ∙ z)

    -- one: the search stops at it
    one_found : (c : ℕ) → length (each flat_import m.imports) + length (rest m) ≡ suc c → role_at tape place ≡ import_role → next_with import_role tape from (end - from) ≡ place
    unfolding next_with pick
    one_found c e r =
        let n : end - from ≡ length (ahead m) + suc c = omega (arith, whole, e) in
        rw n (next_past (ahead m) from (suc c) (ahead_other m) ahead_spelled ∙ stops_there tape place c r)

    at_end : (is : List Import) → is ≡ [] → ImportsAt text tape end is
    unfolding each
    at_end is e =
        let z : end ≡ end + 0 = omega arith in
        rw e (record { entries = tt; few = tt; after = subst (λ (j : ℕ). Other (role_at tape j)) z a.after })

    few_pairs : (cs : List Clause) → Every PairsWithin cs → Every FewPairs cs
    few_pairs [] h = tt
    few_pairs (renamed_by ps ∷ cs) h = (h.0, few_pairs cs h.1)
    few_pairs (bound_by p ps q ∷ cs) h = (h.0, few_pairs cs h.1)

    few_all : (is : List Import) → Every (λ (x : Import). Every PairsWithin x.clauses) is → Every (λ (x : Import). Every FewPairs x.clauses) is
    few_all [] h = tt
    few_all (x ∷ is) h = (few_pairs x.clauses h.0, few_all is h.1)

    -- the import expressions at their place
    at_place : ImportsAt text tape place m.imports
    at_place = record {
      entries = spells_front text tape (each flat_import m.imports) (rest m) place behind_ahead;
      few = few_all m.imports a.limited.clauses;
      after = then_other (rest m) (place + length (each flat_import m.imports)) end (rest_other m) behind_imports whole a.after;
    }

    pub imports_there : ImportsAt text tape (next_with import_role tape from (end - from)) m.imports
    unfolding each flat_import
    imports_there = go m.imports refl
      where
        go : (is : List Import) → m.imports ≡ is → ImportsAt text tape (next_with import_role tape from (end - from)) m.imports
        go [] e =
            let z : length (each flat_import m.imports) ≡ 0 = ap (λ (xs : List Import). length (each flat_import xs)) e in
            subst (λ (i : ℕ). ImportsAt text tape i m.imports) (sym (none_found z)) (at_end m.imports e)
        go (x ∷ is) e =
            let s = subst (λ (xs : List Import). Spells text tape place (each flat_import xs)) e at_place.entries in
            let n = ap (λ (xs : List Import). length (each flat_import xs)) e in
            let z : length (each flat_import m.imports) + length (rest m) ≡ suc (length (each flat_clause x.clauses ++ each flat_import is) + length (rest m)) = omega (arith, n) in
            subst (λ (i : ℕ). ImportsAt text tape i m.imports) (sym (one_found _ z s.0)) at_place
