-- 13 by places is the meaning's (meaning/specs/Own.antt): each walk over a run of entries tells what the meaning tells of what they spell.
use Rattle.std.specs.Prelude.{◌≡◌, Bool, eqb}
use Rattle.std.proofs.Math.Path.{refl, sym, ap, ap₂}
use Rattle.std.proofs.Common.{◌∙◌, add-zero, arith, ne_eqb}
use Rattle.std.proofs.Math.Bool.{true, false, not}
use Rattle.std.proofs.Math.Option.{Option, none, some}
use mathlib.Core.List.{List, [], ◌∷◌, ◌++◌, map}
use Prim.Native.Nat.{ℕ, zero, suc, ◌+◌, ◌-◌, ◌≤◌}
use Rattle.std.proofs.Math.ListN.{length}
use Rattle.meaning.specs.Lists.{pick, any, or_else, first_some, each}
use Rattle.meaning.specs.Names.{Name, member}
use Rattle.meaning.specs.Numbers.{bad_sort}
use Rattle.meaning.specs.Syntax.{Function, Signature, Parameter, VariableGroup, Module, group_variables, variables_of}
use Rattle.meaning.specs.Normal.{Visible}
use Rattle.meaning.specs.Checks.{lone, Check, fine, stop, ◌>>◌, unless}
use Rattle.meaning.specs.Own.{lacking, lacking_variable, parameter_functions, available_sorts}
use Rattle.meaning.specs.Evaluate.{seen_sorts}
use Rattle.tape.specs.Roles.{All, all_map, all_type, all_imports, all_equations}
use Rattle.tape.specs.Tape.{Entry, entry, flat_function, flat_signature, flat_parameter, flat_group, flat_module, parameter_function, export_function, hidden_function, variable_role, variable_sort}
use Rattle.form_rows.specs.Entries.{name_at, names_from, is_function_role, sort_place}
use Rattle.own_repeats.specs.Scans.{found, walked}
use Rattle.own_declarations.specs.Checked.{lacks, lacks_function, lacks_variable, lacks_sort, available_at}
use Rattle.form_walks.specs.Lists.{any_append}
use Rattle.own_declarations.specs.Spelled.{Spells, spells_front, spells_behind}
use Rattle.own_declarations.specs.Runs.{imports_of, equations_of, at_exports, at_imports, at_hidden, at_groups, at_equations, parts}
use Rattle.own_declarations.specs.Runs.{quiet_run, walk_module, then_fine, check_walks, walked_append}
use Rattle.own_declarations.specs.DeclarationLaws.{Stands, seen_told, inside_told}
use Rattle.own_declarations.specs.ItemLaws.{Few, FewEach, FewInputs, FunctionAt, function_at, group_entries, type_entries, variable_sorted}
use Rattle.own_declarations.specs.declared.Own.{Own}

-- ---- lists

unless_or : (k : ℕ) (a b : Option Name) → unless k (or_else a b) ≡ (unless k a >> unless k b)
unfolding unless or_else ◌>>◌
unless_or k none b = refl
unless_or k (some w) b = refl

first_append : {A B : Type 0} (f : A → Option B) (xs ys : List A) → first_some f (xs ++ ys) ≡ or_else (first_some f xs) (first_some f ys)
unfolding first_some or_else
first_append f [] ys = refl
first_append {A} {B} f (x ∷ xs) ys = rw (first_append f xs ys) (go (f x))
  where
    go : (o : Option B) → or_else o (or_else (first_some f xs) (first_some f ys)) ≡ or_else (or_else o (first_some f xs)) (first_some f ys)
    go none = refl
    go (some y) = refl

last_first : (a b : Bool) → pick a true (pick b true false) ≡ pick b true a
unfolding pick
last_first true true = refl
last_first true false = refl
last_first false true = refl
last_first false false = refl

refused : (k : ℕ) (n : Name) (b : Bool) → pick b (stop k (lone n)) (fine tt) ≡ unless k (pick b (some n) none)
unfolding unless pick
refused k n true = refl
refused k n false = refl

refused_not : (k : ℕ) (n : Name) (b : Bool) → pick (not b) (stop k (lone n)) (fine tt) ≡ unless k (pick b none (some n))
unfolding unless pick
refused_not k n true = refl
refused_not k n false = refl

names_last : (text tape : List ℕ) (i n : ℕ) → names_from text tape i (n + 1) ≡ names_from text tape i n ++ (name_at text tape (i + n) ∷ [])
unfolding names_from
names_last text tape i zero = rw (add-zero i)
names_last text tape i (suc n) =
    let z : i + suc n ≡ suc i + n = omega arith in
    let y : suc n + 1 ≡ suc (n + 1) = omega arith in
    rw (z, y) (ap (λ (xs : List Name). name_at text tape i ∷ xs) (names_last text tape (suc i) n))

-- neither a function nor a variable
pub record Quiet (r : ℕ) : Type 0 where
  pub function : is_function_role r ≡ false
  pub variable : eqb r variable_role ≡ false

quiet_role : (r : ℕ) → 9 ≤ r → (r ≡ variable_role → ⊥) → Quiet r
unfolding is_function_role pick
quiet_role r h q = record {
  function = rw (ne_eqb r parameter_function (λ e. omega arith), ne_eqb r export_function (λ e. omega arith), ne_eqb r hidden_function (λ e. omega arith));
  variable = ne_eqb r variable_role q;
}

module _ (text tape w : List ℕ) (own : Own) (m : Module) (v : Visible) (s : Stands text tape w own m v) where
  -- the names of the sorts that are available in the hidden section, or in front of it
  abbrev available : Bool → List Name
  available hidden = pick hidden (seen_sorts m v ++ m.hidden.sorts) (seen_sorts m v)

  abbrev walk : ℕ → List Entry → Check
  walk d es = walked (available_at text tape w own) d (length es)

  lacks_told : (hidden : Bool) (i : ℕ) → lacks text tape w own hidden i ≡ not (member (name_at text tape i) (available hidden))
  unfolding lacks pick
  lacks_told true i = ap not (inside_told text tape w own m v s (name_at text tape i))
  lacks_told false i = ap not (seen_told text tape w own m v s (name_at text tape i))

  found_lacks : (hidden : Bool) (c i : ℕ) → found (lacks text tape w own hidden) i c ≡ any (λ (n : Name). not (member n (available hidden))) (names_from text tape i c)
  unfolding found any names_from
  found_lacks hidden zero i = refl
  found_lacks hidden (suc c) i = ap₂ (λ (x y : Bool). pick x true y) (lacks_told hidden i) (found_lacks hidden c (suc i))

  function_lacks : (hidden : Bool) (f : Function) (d : ℕ) → FunctionAt text tape d f
      → lacks_function text tape w own hidden d ≡ any (λ (n : Name). not (member n (available hidden))) (f.output ∷ f.inputs)
  unfolding lacks_function any
  function_lacks hidden f d a =
      let p = any {A = Name} (λ n. not (member n (available hidden))) in
      rw a.arity
      (found_lacks hidden (length f.inputs + 1) (d + 1)
      ∙ ap p (names_last text tape (d + 1) (length f.inputs))
      ∙ rw (a.inputs, a.output)
      (any_append (λ (n : Name). not (member n (available hidden))) f.inputs (f.output ∷ [])
      ∙ last_first (any (λ (n : Name). not (member n (available hidden))) f.inputs) (not (member f.output (available hidden)))))

  walk_quiet : (es : List Entry) (d : ℕ) → All Quiet es → Spells text tape d es → walk d es ≡ fine tt
  unfolding available_at lacks_sort pick
  walk_quiet es d h l = quiet_run (check_walks (available_at text tape w own)) Quiet text tape (λ j q. rw (q.function, q.variable)) es d h l

  -- functions with the role r
  module _ (hidden : Bool) (r : ℕ) (is_function : is_function_role r ≡ true) (is_hidden : eqb r hidden_function ≡ hidden) where
    function_available : (f : Function) (d : ℕ) → length f.inputs ≤ 8 → Spells text tape d (flat_function r f)
        → available_at text tape w own d ≡ unless bad_sort (lacking (available hidden) f)
    unfolding available_at lacks_sort lacking flat_function pick
    function_available f d n k =
        let a = function_at text tape r f d n k in
        rw (k.0, is_function, is_hidden, function_lacks hidden f d a, a.name)
        (refused bad_sort f.name (any (λ (x : Name). not (member x (available hidden))) (f.output ∷ f.inputs)))

    function_walked : (f : Function) (d : ℕ) → length f.inputs ≤ 8 → Spells text tape d (flat_function r f)
        → walk d (flat_function r f) ≡ unless bad_sort (lacking (available hidden) f)
    unfolding walked flat_function
    function_walked f d n k =
        ap₂ (λ (x y : Check). x >> y) (function_available f d n k)
        (walk_quiet (type_entries f) (suc d) (all_type Quiet (quiet_role 9 (omega arith) (λ q. omega arith)) (quiet_role 10 (omega arith) (λ q. omega arith)) f) k.2)
        ∙ then_fine (unless bad_sort (lacking (available hidden) f))

    functions_walked : (fs : List Function) (d : ℕ) → Few fs → Spells text tape d (each (flat_function r) fs)
        → walk d (each (flat_function r) fs) ≡ unless bad_sort (first_some (lacking (available hidden)) fs)
    unfolding walked each first_some unless
    functions_walked [] d n k = refl
    functions_walked (f ∷ fs) d n k =
        walked_append (available_at text tape w own) (flat_function r f) (each (flat_function r) fs) d
        ∙ ap₂ (λ (x y : Check). x >> y)
        (function_walked f d n.0 (spells_front text tape (flat_function r f) (each (flat_function r) fs) d k))
        (functions_walked fs (d + length (flat_function r f)) n.1 (spells_behind text tape (flat_function r f) (each (flat_function r) fs) d k))
        ∙ sym (unless_or bad_sort (lacking (available hidden) f) (first_some (lacking (available hidden)) fs))

    signature_walked : (q : ℕ) → Quiet q → (g : Signature) (d : ℕ) → Few g.functions → Spells text tape d (flat_signature q r g)
        → walk d (flat_signature q r g) ≡ unless bad_sort (first_some (lacking (available hidden)) g.functions)
    unfolding flat_signature ◌>>◌
    signature_walked q h g d n k =
        let es = map (entry q) g.sorts in
        let fs = each (flat_function r) g.functions in
        walked_append (available_at text tape w own) es fs d
        ∙ ap₂ (λ (x y : Check). x >> y)
        (walk_quiet es d (all_map Quiet q h g.sorts) (spells_front text tape es fs d k))
        (functions_walked g.functions (d + length es) n (spells_behind text tape es fs d k))

  parameter_walked : (p : Parameter) (d : ℕ) → Few p.signature.functions → Spells text tape d (flat_parameter p)
      → walk d (flat_parameter p) ≡ unless bad_sort (first_some (lacking (seen_sorts m v)) p.signature.functions)
  unfolding walked flat_parameter available_at lacks_sort is_function_role ◌>>◌ pick
  parameter_walked p d n k = rw k.0 (signature_walked false 4 refl refl 3 (record { function = refl; variable = refl }) p.signature (suc d) n k.2)

  parameters_walked : (ps : List Parameter) (d : ℕ) → FewEach ps → Spells text tape d (each flat_parameter ps)
      → walk d (each flat_parameter ps) ≡ unless bad_sort (first_some (lacking (seen_sorts m v)) (parameter_functions ps))
  unfolding walked each parameter_functions first_some unless
  parameters_walked [] d n k = refl
  parameters_walked (p ∷ ps) d n k =
      walked_append (available_at text tape w own) (flat_parameter p) (each flat_parameter ps) d
      ∙ ap₂ (λ (x y : Check). x >> y)
      (parameter_walked p d n.0 (spells_front text tape (flat_parameter p) (each flat_parameter ps) d k))
      (parameters_walked ps (d + length (flat_parameter p)) n.1 (spells_behind text tape (flat_parameter p) (each flat_parameter ps) d k))
      ∙ sym (ap (unless bad_sort) (first_append (lacking (seen_sorts m v)) p.signature.functions (parameter_functions ps))
      ∙ unless_or bad_sort (first_some (lacking (seen_sorts m v)) p.signature.functions) (first_some (lacking (seen_sorts m v)) (parameter_functions ps)))

  -- ---- variables

  abbrev inside : List Name
  inside = seen_sorts m v ++ m.hidden.sorts

  variable_available : (n : Name) (ns : List Name) (a : Name) (d : ℕ) → Spells text tape d (group_entries (n ∷ ns) a)
      → available_at text tape w own d ≡ unless bad_sort (lacking_variable inside (record { name = n; sort = a }))
  unfolding available_at lacks_sort lacks_variable lacking_variable is_function_role pick
  variable_available n ns a d k =
      rw (k.0, lacks_told true (sort_place tape d), variable_sorted text tape (n ∷ ns) a d k, k.1) (refused_not bad_sort n (member a inside))

  group_walked : (ns : List Name) (a : Name) (d : ℕ) → Spells text tape d (group_entries ns a)
      → walk d (group_entries ns a) ≡ unless bad_sort (first_some (lacking_variable inside) (map (λ (x : Name). record { name = x; sort = a }) ns))
  unfolding walked first_some unless
  group_walked [] a d k = walk_quiet (entry variable_sort a ∷ []) d (quiet_role 18 (omega arith) (λ q. omega arith), tt) k
  group_walked (n ∷ ns) a d k =
      ap₂ (λ (x y : Check). x >> y) (variable_available n ns a d k) (group_walked ns a (suc d) k.2)
      ∙ sym (unless_or bad_sort (lacking_variable inside (record { name = n; sort = a })) (first_some (lacking_variable inside) (map (λ (x : Name). record { name = x; sort = a }) ns)))

  groups_walked : (gs : List VariableGroup) (d : ℕ) → Spells text tape d (each flat_group gs)
      → walk d (each flat_group gs) ≡ unless bad_sort (first_some (lacking_variable inside) (each group_variables gs))
  unfolding walked each flat_group group_variables first_some unless
  groups_walked [] d k = refl
  groups_walked (g ∷ gs) d k =
      let es = group_entries g.names g.sort in
      walked_append (available_at text tape w own) es (each flat_group gs) d
      ∙ ap₂ (λ (x y : Check). x >> y)
      (group_walked g.names g.sort d (spells_front text tape es (each flat_group gs) d k))
      (groups_walked gs (d + length es) (spells_behind text tape es (each flat_group gs) d k))
      ∙ sym (ap (unless bad_sort) (first_append (lacking_variable inside) (group_variables g) (each group_variables gs))
      ∙ unless_or bad_sort (first_some (lacking_variable inside) (group_variables g)) (first_some (lacking_variable inside) (each group_variables gs)))

  -- ---- the module

  module_walked : FewInputs m → walk own.from (flat_module m) ≡ available_sorts m (seen_sorts m v)
  unfolding available_sorts variables_of available_at lacks_sort is_function_role ◌>>◌ pick
  module_walked n =
      let a = own.from in
      let p = parts text tape a m s.entries in
      let quiet : (r : ℕ) → 11 ≤ r → (r ≡ variable_role → ⊥) → Quiet r = λ r h q. quiet_role r (omega arith) q in
      walk_module (check_walks (available_at text tape w own)) a m
      ∙ rw (
        p.head,
        parameters_walked m.parameters (suc a) n.parameters p.parameters,
        signature_walked false 6 refl refl 5 (record { function = refl; variable = refl }) m.exports (at_exports a m) n.exports p.exports,
        walk_quiet (imports_of m) (at_imports a m) (all_imports Quiet (λ r x y. quiet r x (λ q. omega arith)) m.imports) p.imports,
        signature_walked true 8 refl refl 7 (record { function = refl; variable = refl }) m.hidden (at_hidden a m) n.hidden p.hidden,
        groups_walked m.groups (at_groups a m) p.groups,
        walk_quiet (equations_of m) (at_equations a m) (all_equations Quiet (λ r x. quiet r (omega arith) (λ q. omega arith)) m.equations) p.equations,
        then_fine,
      )

  -- 13 by places is the meaning's
  pub available_told : FewInputs m → walked (available_at text tape w own) own.from (own.end - own.from) ≡ available_sorts m (seen_sorts m v)
  available_told n = let z : own.end - own.from ≡ length (flat_module m) = omega (arith, s.end) in rw z (module_walked n)
