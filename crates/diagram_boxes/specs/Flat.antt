-- The parameters and the import expressions of a module laid flat (tape/specs/Tape.antt).
use Rattle.std.specs.Prelude.{◌≡◌, refl, ℕ, ◌≤◌, Bool, true, false, List, [], ◌∷◌, ◌++◌, map, eqb, ltb}
use Rattle.std.proofs.Common.{sym, ap, ◌∙◌, arith, append_assoc, append-nil, ne_eqb}
use Rattle.std.proofs.lemmas.Bool.{false≢true}
use Rattle.meaning.specs.Lists.{pick, each}
use Rattle.meaning.specs.Names.{Name}
use Rattle.meaning.specs.Syntax.{Function, Signature, Parameter, Pair, Clause, renamed_by, bound_by, Import, VariableGroup, Equation, Module}
use Rattle.tape.specs.Tape.{Entry, entry, parameter_role, import_role, renamed_role, bound_role, actual_role, export_sort, export_function, hidden_sort, hidden_function, flat_function, flat_signature, flat_parameter, flat_pair, flat_clause, flat_import, flat_group, flat_equation, flat_module}
use Rattle.tape.specs.Roles.{All, behind_parameters, all_append, all_signature, all_parameters, all_groups, all_clauses, all_equations, all_behind_parameters}
use Rattle.form_walks.specs.Flat.{names_with, names_append, names_each, names_none}
use Rattle.diagram_meaning.specs.Diagram.{Binding, Expression, clause_bindings, expression_of, expressions_of}
use Rattle.diagram_boxes.specs.Boxes.{is_parameter}

-- ---- parameters

no_parameter : (es : List Entry) → All (λ (r : ℕ). is_parameter r ≡ false) es → names_with is_parameter es ≡ []
no_parameter es h = names_none is_parameter es h

other_role : (r : ℕ) → 3 ≤ r → is_parameter r ≡ false
unfolding is_parameter
other_role r h = ne_eqb r parameter_role (λ e. omega (arith, e, h))

one_parameter : (p : Parameter) → names_with is_parameter (flat_parameter p) ≡ p.name ∷ []
unfolding flat_parameter names_with is_parameter pick
one_parameter p =
    ap (λ (l : List Name). p.name ∷ l)
    (names_none is_parameter (flat_signature 3 4 p.signature) (all_signature (λ (r : ℕ). is_parameter r ≡ false) 3 4 refl refl refl refl p.signature))

each_one : {A : Type 0} (f : A → Name) (xs : List A) → each (λ (x : A). f x ∷ []) xs ≡ map f xs
unfolding each
each_one f [] = refl
each_one f (x ∷ xs) = ap (λ (l : List Name). f x ∷ l) (each_one f xs)

pub flat_parameters : (m : Module) → names_with is_parameter (flat_module m) ≡ map (λ (p : Parameter). p.name) m.parameters
unfolding flat_module names_with is_parameter pick
flat_parameters m =
    names_append is_parameter (each flat_parameter m.parameters) (behind_parameters m)
    ∙ ap (λ (l : List Name). names_with is_parameter (each flat_parameter m.parameters) ++ l)
    (names_none is_parameter (behind_parameters m) (all_behind_parameters (λ (r : ℕ). is_parameter r ≡ false) (λ r h. other_role r (omega (arith, h))) m))
    ∙ append-nil (names_with is_parameter (each flat_parameter m.parameters))
    ∙ names_each is_parameter flat_parameter (λ (p : Parameter). p.name ∷ []) one_parameter m.parameters
    ∙ each_one (λ (p : Parameter). p.name) m.parameters

-- ---- bindings, by entries: q is the parameter of the one that goes on

unfoldable pub bindings_in : Name → List Entry → List Binding
bindings_in q [] = []
bindings_in q (e ∷ es) =
    let bound = bindings_in e.name es in
    let other = bindings_in q es in
    let actual : List Binding = record { parameter = q; actual = e.name } ∷ other in
    let clause = pick (eqb e.role bound_role) bound (pick (eqb e.role actual_role) actual other) in
    pick (ltb e.role renamed_role) [] (pick (ltb actual_role e.role) [] clause)

-- no clause goes on there
abbrev Ends : List Entry → Type 0
Ends es = (q : Name) → bindings_in q es ≡ []

unfoldable outside : ℕ → Bool
outside r = pick (ltb r 12) true (ltb 16 r)

ends_at : (e : Entry) (es : List Entry) → outside e.role ≡ true → Ends (e ∷ es)
unfolding bindings_in outside pick
ends_at e es h q = go (ltb e.role 12) (ltb 16 e.role) h _
  where
    go : (a b : Bool) → pick a true b ≡ true → (x : List Binding) → pick a [] (pick b [] x) ≡ []
    go true b h x = refl
    go false true h x = refl
    go false false h x = absurd (false≢true h)

past_pairs : (ps : List Pair) (rest : List Entry) (q : Name) → bindings_in q (each flat_pair ps ++ rest) ≡ bindings_in q rest
unfolding each flat_pair bindings_in pick
past_pairs [] rest q = refl
past_pairs (p ∷ ps) rest q = past_pairs ps rest q

flat_clauses : (cs : List Clause) (rest : List Entry) → Ends rest → (q : Name) → bindings_in q (each flat_clause cs ++ rest) ≡ each clause_bindings cs
unfolding each flat_clause clause_bindings bindings_in pick
flat_clauses [] rest h q = h q
flat_clauses (renamed_by ps ∷ cs) rest h q =
    ap (bindings_in q) (append_assoc (each flat_pair ps) (each flat_clause cs) rest) ∙ past_pairs ps (each flat_clause cs ++ rest) q ∙ flat_clauses cs rest h q
flat_clauses (bound_by p ps m ∷ cs) rest h q =
    ap (bindings_in p)
    (append_assoc (each flat_pair ps ++ (entry 16 m ∷ [])) (each flat_clause cs) rest
    ∙ append_assoc (each flat_pair ps) (entry 16 m ∷ []) (each flat_clause cs ++ rest))
    ∙ past_pairs ps (entry 16 m ∷ (each flat_clause cs ++ rest)) p
    ∙ ap (λ (l : List Binding). record { parameter = p; actual = m } ∷ l) (flat_clauses cs rest h p)

-- ---- expressions

unfoldable pub expressions_in : List Entry → List Expression
expressions_in [] = []
expressions_in (e ∷ es) =
    let more = expressions_in es in
    let here : List Expression = record { name = e.name; bindings = bindings_in [] es } ∷ more in
    pick (eqb e.role import_role) here more

abbrev NoImport : ℕ → Type 0
NoImport r = eqb r import_role ≡ false

skipped : (es fs : List Entry) → All NoImport es → expressions_in (es ++ fs) ≡ expressions_in fs
unfolding expressions_in pick
skipped [] fs h = refl
skipped (e ∷ es) fs h = rw h.0 (skipped es fs h.1)

clauses_skipped : (cs : List Clause) (rest : List Entry) → expressions_in (each flat_clause cs ++ rest) ≡ expressions_in rest
clauses_skipped cs rest = skipped (each flat_clause cs) rest (all_clauses NoImport refl refl refl refl refl cs)

imports_end : (is : List Import) (rest : List Entry) → Ends rest → Ends (each flat_import is ++ rest)
unfolding each flat_import outside pick
imports_end [] rest h = h
imports_end (i ∷ is) rest h = ends_at (entry 11 i.name) _ refl

flat_imports : (is : List Import) (rest : List Entry) → Ends rest → expressions_in rest ≡ [] → expressions_in (each flat_import is ++ rest) ≡ map expression_of is
unfolding each flat_import expressions_in expression_of pick
flat_imports [] rest h z = z
flat_imports (i ∷ is) rest h z =
    let behind = each flat_import is ++ rest in
    let apart : (each flat_clause i.clauses ++ each flat_import is) ++ rest ≡ each flat_clause i.clauses ++ behind =
    append_assoc (each flat_clause i.clauses) (each flat_import is) rest in
    let bound = flat_clauses i.clauses behind (imports_end is rest h) [] in
    let others = clauses_skipped i.clauses behind ∙ flat_imports is rest h z in
    rw (apart, bound, others) refl

-- ---- what follows the imports

behind_imports : Module → List Entry
behind_imports m = flat_signature hidden_sort hidden_function m.hidden ++ (each flat_group m.groups ++ each flat_equation m.equations)

none_ends : Ends []
unfolding bindings_in
none_ends q = refl

equations_end : (es : List Equation) → Ends (each flat_equation es)
unfolding each flat_equation outside pick
equations_end [] = none_ends
equations_end (e ∷ es) = ends_at (entry 19 e.tag) _ refl

groups_end : (gs : List VariableGroup) (rest : List Entry) → Ends rest → Ends (each flat_group gs ++ rest)
unfolding each flat_group outside pick
groups_end [] rest h = h
groups_end (g ∷ gs) rest h = first g.names
  where
    first : (ns : List Name) → Ends ((((map (entry 17) ns) ++ (entry 18 g.sort ∷ [])) ++ each flat_group gs) ++ rest)
    first [] = ends_at (entry 18 g.sort) _ refl
    first (n ∷ ns) = ends_at (entry 17 n) _ refl

signature_end : (s : Signature) (rest : List Entry) → Ends rest → Ends (flat_signature 7 8 s ++ rest)
unfolding flat_signature each flat_function outside pick
signature_end s rest h = sorts s.sorts
  where
    functions : (fs : List Function) → Ends (each (flat_function 8) fs ++ rest)
    functions [] = h
    functions (f ∷ fs) = ends_at (entry 8 f.name) _ refl

    sorts : (ns : List Name) → Ends ((map (entry 7) ns ++ each (flat_function 8) s.functions) ++ rest)
    sorts [] = functions s.functions
    sorts (n ∷ ns) = ends_at (entry 7 n) _ refl

rest_ends : (m : Module) → Ends (behind_imports m)
unfolding behind_imports
rest_ends m = signature_end m.hidden _ (groups_end m.groups _ (equations_end m.equations))

rest_none : (m : Module) → expressions_in (behind_imports m) ≡ []
unfolding behind_imports expressions_in
rest_none m =
    ap expressions_in (sym (append-nil (behind_imports m)))
    ∙ skipped (behind_imports m) []
    (all_append NoImport (flat_signature hidden_sort hidden_function m.hidden) _ (all_signature NoImport 7 8 refl refl refl refl m.hidden)
    (all_append NoImport (each flat_group m.groups) _ (all_groups NoImport refl refl m.groups)
    (all_equations NoImport (λ r h. ne_eqb r import_role (λ e. omega (arith, e, h))) m.equations)))

pub flat_expressions : (m : Module) → expressions_in (flat_module m) ≡ expressions_of m
unfolding flat_module behind_imports expressions_in expressions_of pick
flat_expressions m =
    skipped (each flat_parameter m.parameters) _ (all_parameters NoImport refl refl refl refl refl m.parameters)
    ∙ skipped (flat_signature export_sort export_function m.exports) _ (all_signature NoImport 5 6 refl refl refl refl m.exports)
    ∙ flat_imports m.imports (behind_imports m) (rest_ends m) (rest_none m)
