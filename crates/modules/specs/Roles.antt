-- Where the names of modules stand in a module laid flat (tape/specs/Tape.antt): its own at its head, those that it names in its imports,
-- and none elsewhere.
use Rattle.std.specs.Prelude.{◌≡◌, refl, ℕ, false, List, [], ◌∷◌, ◌++◌}
use Rattle.std.proofs.Common.{ap, ◌∙◌, arith, append-nil, ne_eqb}
use Rattle.meaning.specs.Lists.{pick, each}
use Rattle.meaning.specs.Names.{Name}
use Rattle.meaning.specs.Syntax.{Pair, Clause, renamed_by, bound_by, Import, Module}
use Rattle.meaning.specs.Evaluate.{clause_names, import_names, named_by}
use Rattle.meaning.specs.Reached.{module_names}
use Rattle.tape.specs.Roles.{All, behind_name, all_append, all_signature, all_parameters, all_groups, all_pairs, all_equations, all_behind}
use Rattle.tape.specs.Tape.{Entry, flat_signature, flat_parameter, flat_pair, flat_clause, flat_import, flat_group, flat_module, flat_modules, module_role, export_sort, export_function, hidden_sort, hidden_function, import_role, actual_role}
use Rattle.form_walks.specs.Flat.{names_with, names_append, names_each, names_none}
use Rattle.modules.specs.Modules.{is_module, names_module}

-- ---- the head

-- no other module begins in the body of one
pub no_head_body : (m : Module) → names_with is_module (behind_name m) ≡ []
unfolding is_module
no_head_body m = names_none is_module (behind_name m) (all_behind (λ (r : ℕ). is_module r ≡ false) (λ r h. ne_eqb r module_role (λ e. omega arith)) m)

pub head_name : (m : Module) → names_with is_module (flat_module m) ≡ m.name ∷ []
unfolding flat_module behind_name names_with is_module pick
head_name m = ap (λ (l : List Name). m.name ∷ l) (no_head_body m)

pub head_names : (ms : List Module) → names_with is_module (flat_modules ms) ≡ module_names ms
unfolding flat_modules module_names each names_with
head_names [] = refl
head_names (m ∷ ms) = names_append is_module (flat_module m) (each flat_module ms) ∙ rw (head_name m, head_names ms)

-- ---- the modules named

-- no role but an import's and an actual module's names one
abbrev Other : ℕ → Type 0
Other r = names_module r ≡ false

other : (r : ℕ) → (r ≡ import_role → ⊥) → (r ≡ actual_role → ⊥) → Other r
unfolding names_module pick
other r h l = rw (ne_eqb r import_role h) (ne_eqb r actual_role l)

skip_left : (es fs : List Entry) → All Other es → names_with names_module (es ++ fs) ≡ names_with names_module fs
skip_left es fs h = rw (names_append names_module es fs, names_none names_module es h)

skip_right : (es fs : List Entry) → All Other fs → names_with names_module (es ++ fs) ≡ names_with names_module es
skip_right es fs h = rw (names_append names_module es fs, names_none names_module fs h, append-nil)

-- of the body, only the imports count
in_imports : (m : Module) → names_with names_module (behind_name m) ≡ names_with names_module (each flat_import m.imports)
unfolding behind_name names_module pick
in_imports m =
    skip_left (each flat_parameter m.parameters) _ (all_parameters Other refl refl refl refl refl m.parameters)
    ∙ skip_left (flat_signature export_sort export_function m.exports) _ (all_signature Other 5 6 refl refl refl refl m.exports)
    ∙ skip_right (each flat_import m.imports) _
    (all_append Other (flat_signature hidden_sort hidden_function m.hidden) _ (all_signature Other 7 8 refl refl refl refl m.hidden)
    (all_append Other (each flat_group m.groups) _ (all_groups Other refl refl m.groups)
    (all_equations Other (λ r h. other r (λ e. omega arith) (λ e. omega arith)) m.equations)))

pairs_other : (ps : List Pair) → All Other (each flat_pair ps)
unfolding names_module pick
pairs_other ps = all_pairs Other refl refl ps

named_clause : (c : Clause) → names_with names_module (flat_clause c) ≡ clause_names c
unfolding flat_clause clause_names names_module names_with pick
named_clause (renamed_by ps) = names_none names_module (each flat_pair ps) (pairs_other ps)
named_clause (bound_by q ps m) = skip_left (each flat_pair ps) _ (pairs_other ps)

named_import : (i : Import) → names_with names_module (flat_import i) ≡ import_names i
unfolding flat_import import_names names_module names_with pick
named_import i = ap (λ (l : List Name). i.name ∷ l) (names_each names_module flat_clause clause_names named_clause i.clauses)

pub named_names : (m : Module) → names_with names_module (flat_module m) ≡ named_by m
unfolding flat_module behind_name named_by names_with names_module pick
named_names m = in_imports m ∙ names_each names_module flat_import import_names named_import m.imports
