-- Modules laid flat are told by their entries, and so are their parts: the head with the parameters, the exports, the imports, what is hidden.
use Rattle.std.specs.Prelude.{◌≡◌, ℕ, Bool, true, false, List, [], ◌∷◌, ◌++◌, map, eqb, leb}
use Rattle.std.proofs.Math.Path.{refl}
use Rattle.std.proofs.Common.{sym, ap, ap₂, ◌∙◌, append_assoc}
use Rattle.meaning.specs.Lists.{pick, each}
use Rattle.meaning.specs.Syntax.{Function, Signature, Parameter, Pair, Clause, renamed_by, bound_by, Import, VariableGroup, Module}
use Rattle.tape.specs.Roles.{all_type, all_signature, all_parameters, all_groups, all_pairs, all_bound, all_clauses, each_import}
use Rattle.tape.specs.Tape.{Entry, entry, flat_function, flat_signature, flat_parameter, flat_pair, flat_clause, flat_import, flat_group, flat_equation, flat_module, module_role, export_sort, export_function, hidden_sort, hidden_function, input_role, variable_role, variable_sort}
use Rattle.ask_tape.specs.Parts.{but, Passing, Passes, Ends, cut, ends_append, ends_each, ends_names, passes_names, cons_cut, entry_name, no_cons, other_role, names_told, Block, blocks_told}
use Rattle.ask_tape.specs.Terms.{equations_told}

-- ---- functions: after the name the inputs, and then the output

function_told : (role : ℕ) (f g : Function) → flat_function role f ≡ flat_function role g → f ≡ g
unfolding flat_function
function_told role f g q =
    let h = cons_cut (entry role f.name) (entry role g.name) _ _ q in
    let k = cut (eqb 9) (map (entry input_role) f.inputs) _ (map (entry input_role) g.inputs) _
    (passes_names (eqb 9) 9 refl f.inputs) (passes_names (eqb 9) 9 refl g.inputs) refl refl h.1 in
    let name = entry_name role role _ _ h.0 in
    let inputs = names_told 9 _ _ k.0 in
    let output = entry_name 10 10 _ _ (cons_cut _ _ _ _ k.1).0 in
    λ i. record { name = name i; inputs = inputs i; output = output i }

-- ---- signatures: sorts with the one role, then functions with the other

signature_ends : (p : ℕ → Bool) (sr fr : ℕ) → p sr ≡ false → p fr ≡ false → (s : Signature) → Ends p (flat_signature sr fr s)
unfolding flat_signature flat_function
signature_ends p sr fr hs hf s =
    ends_append p (map (entry sr) s.sorts) _ (ends_names p sr hs s.sorts) (ends_each p (flat_function fr) (λ f. hf) s.functions)

signature_told : (sr fr : ℕ) → eqb sr sr ≡ true → eqb sr fr ≡ false → but fr fr ≡ false → but fr 9 ≡ true → but fr 10 ≡ true
    → (a b : Signature) → flat_signature sr fr a ≡ flat_signature sr fr b → a ≡ b
unfolding flat_signature flat_function
signature_told sr fr self other head h9 h10 a b q =
    let h = cut (eqb sr) (map (entry sr) a.sorts) _ (map (entry sr) b.sorts) _
    (passes_names (eqb sr) sr self a.sorts) (passes_names (eqb sr) sr self b.sorts)
    (ends_each (eqb sr) (flat_function fr) (λ f. other) a.functions) (ends_each (eqb sr) (flat_function fr) (λ f. other) b.functions) q in
    let sorts = names_told sr _ _ h.0 in
    let functions = blocks_told (but fr) (flat_function fr) (λ f. (head, all_type (Passing (but fr)) h9 h10 f)) (function_told fr) _ _ h.1 in
    λ i. record { sorts = sorts i; functions = functions i }

pub exports_told : (a b : Signature) → flat_signature export_sort export_function a ≡ flat_signature export_sort export_function b → a ≡ b
exports_told a b q = signature_told 5 6 refl refl refl refl refl a b q

-- ---- parameters

parameter_told : (a b : Parameter) → flat_parameter a ≡ flat_parameter b → a ≡ b
unfolding flat_parameter
parameter_told a b q =
    let h = cons_cut _ _ _ _ q in
    let name = entry_name _ _ _ _ h.0 in
    let signature = signature_told 3 4 refl refl refl refl refl a.signature b.signature h.1 in
    λ i. record { name = name i; signature = signature i }

pub parameters_told : (as' bs : List Parameter) → each flat_parameter as' ≡ each flat_parameter bs → as' ≡ bs
unfolding flat_parameter
parameters_told as' bs q =
    blocks_told (but 2) flat_parameter (λ a. (refl, all_signature (Passing (but 2)) 3 4 refl refl refl refl a.signature)) parameter_told as' bs q

-- ---- imports

pair_told : (a b : Pair) → flat_pair a ≡ flat_pair b → a ≡ b
unfolding flat_pair
pair_told a b q =
    let h = cons_cut _ _ _ _ q in
    let old = entry_name _ _ _ _ h.0 in
    let new = entry_name _ _ _ _ (cons_cut _ _ _ _ h.1).0 in
    λ i. record { old = old i; new = new i }

pairs_told : (as' bs : List Pair) → each flat_pair as' ≡ each flat_pair bs → as' ≡ bs
unfolding flat_pair
pairs_told as' bs q = blocks_told (but 14) flat_pair (λ a. (refl, (refl, tt))) pair_told as' bs q

clause_told : (c d : Clause) → flat_clause c ≡ flat_clause d → c ≡ d
unfolding flat_clause
clause_told (renamed_by ps) (renamed_by qs) q = ap renamed_by (pairs_told ps qs (cons_cut _ _ _ _ q).1)
clause_told (renamed_by ps) (bound_by r qs n) q = other_role (eqb 12) _ _ _ _ refl refl q
clause_told (bound_by p ps m) (renamed_by qs) q = other_role (eqb 13) _ _ _ _ refl refl q
clause_told (bound_by p ps m) (bound_by r qs n) q =
    let h = cons_cut _ _ _ _ q in
    let k = cut (but 16) (each flat_pair ps) _ (each flat_pair qs) _ (all_pairs (Passing (but 16)) refl refl ps) (all_pairs (Passing (but 16)) refl refl qs) refl refl h.1 in
    let name = entry_name _ _ _ _ h.0 in
    let pairs = pairs_told ps qs k.0 in
    let actual = entry_name _ _ _ _ (cons_cut _ _ _ _ k.1).0 in
    λ i. bound_by (name i) (pairs i) (actual i)

-- what follows the first entry of a clause
clause_block : (p : ℕ → Bool) → p 12 ≡ false → p 13 ≡ false → p 14 ≡ true → p 15 ≡ true → p 16 ≡ true → (c : Clause) → Block p (flat_clause c)
unfolding flat_clause
clause_block p h12 h13 h14 h15 h16 (renamed_by ps) = (h12, all_pairs (Passing p) h14 h15 ps)
clause_block p h12 h13 h14 h15 h16 (bound_by q ps m) = (h13, all_bound (Passing p) h14 h15 h16 ps m)

begins_clause : ℕ → Bool
begins_clause r = pick (eqb r 12) false (but 13 r)

import_told : (a b : Import) → flat_import a ≡ flat_import b → a ≡ b
unfolding flat_import begins_clause pick
import_told a b q =
    let h = cons_cut _ _ _ _ q in
    let name = entry_name _ _ _ _ h.0 in
    let clauses = blocks_told begins_clause flat_clause (clause_block begins_clause refl refl refl refl refl) clause_told a.clauses b.clauses h.1 in
    λ i. record { name = name i; clauses = clauses i }

pub imports_told : (as' bs : List Import) → each flat_import as' ≡ each flat_import bs → as' ≡ bs
unfolding flat_import
imports_told as' bs q =
    blocks_told (but 11) flat_import (λ a. (refl, all_clauses (Passing (but 11)) refl refl refl refl refl a.clauses)) import_told as' bs q

-- ---- variables

some_entries : {X : Type 0} (xs : List Entry) (e : Entry) (ys : List Entry) → ◌≡◌ {A = List Entry} [] ((xs ++ (e ∷ [])) ++ ys) → X
some_entries [] e ys q = no_cons e ys q
some_entries (x ∷ xs) e ys q = no_cons x _ q

groups_told : (as' bs : List VariableGroup) → each flat_group as' ≡ each flat_group bs → as' ≡ bs
unfolding each flat_group
groups_told [] [] q = refl
groups_told [] (b ∷ bs) q = some_entries (map (entry variable_role) b.names) (entry variable_sort b.sort) (each flat_group bs) q
groups_told (a ∷ as') [] q = some_entries (map (entry variable_role) a.names) (entry variable_sort a.sort) (each flat_group as') (sym q)
groups_told (a ∷ as') (b ∷ bs) q =
    let h = cut (eqb 17) (map (entry variable_role) a.names) (entry variable_sort a.sort ∷ _) (map (entry variable_role) b.names)
    (entry variable_sort b.sort ∷ _)
    (passes_names (eqb 17) 17 refl a.names) (passes_names (eqb 17) 17 refl b.names) refl refl
    (sym (append_assoc (map (entry variable_role) a.names) (entry variable_sort a.sort ∷ []) (each flat_group as')) ∙ q
    ∙ append_assoc (map (entry variable_role) b.names) (entry variable_sort b.sort ∷ []) (each flat_group bs)) in
    let k = cons_cut _ _ _ _ h.1 in
    let names = names_told 17 _ _ h.0 in
    let sort = entry_name 18 18 _ _ k.0 in
    ap₂ ◌∷◌ (λ i. record { names = names i; sort = sort i }) (groups_told as' bs k.1)

-- ---- the parts of a module, in the order in which they stand

-- an entry of the part whose roles are from low to high; types stand in several
unfoldable in_part : ℕ → ℕ → ℕ → Bool
in_part low high r =
    let own = pick (leb low r) (leb r high) false in
    pick (eqb r 9) true (pick (eqb r 10) true own)

abbrev head_part : Module → List Entry
head_part m = entry module_role m.name ∷ each flat_parameter m.parameters

abbrev after_groups : Module → List Entry
after_groups m = each flat_equation m.equations

abbrev after_hidden : Module → List Entry
after_hidden m = each flat_group m.groups ++ after_groups m

abbrev after_imports : Module → List Entry
after_imports m = flat_signature hidden_sort hidden_function m.hidden ++ after_hidden m

abbrev after_exports : Module → List Entry
after_exports m = each flat_import m.imports ++ after_imports m

abbrev after_head : Module → List Entry
after_head m = flat_signature export_sort export_function m.exports ++ after_exports m

-- each part passes its test
module _ (m : Module) where
  head_passes : Passes (in_part 1 4) (head_part m)
  unfolding in_part pick
  head_passes = (refl, all_parameters (Passing (in_part 1 4)) refl refl refl refl refl m.parameters)

  exports_pass : Passes (in_part 5 6) (flat_signature export_sort export_function m.exports)
  unfolding in_part pick
  exports_pass = all_signature (Passing (in_part 5 6)) 5 6 refl refl refl refl m.exports

  imported_pass : Passes (in_part 11 16) (each flat_import m.imports)
  unfolding in_part pick
  imported_pass = each_import (Passing (in_part 11 16)) refl refl refl refl refl refl m.imports

  hidden_passes : Passes (in_part 7 8) (flat_signature hidden_sort hidden_function m.hidden)
  unfolding in_part pick
  hidden_passes = all_signature (Passing (in_part 7 8)) 7 8 refl refl refl refl m.hidden

  groups_pass : Passes (in_part 17 18) (each flat_group m.groups)
  unfolding in_part pick
  groups_pass = all_groups (Passing (in_part 17 18)) refl refl m.groups

-- and what stands behind it begins with none of its roles
module _ (p : ℕ → Bool) (m : Module) where
  groups_end : p 19 ≡ false → Ends p (after_groups m)
  unfolding flat_equation
  groups_end h19 = ends_each p flat_equation (λ e. h19) m.equations

  hidden_ends : p 17 ≡ false → p 18 ≡ false → p 19 ≡ false → Ends p (after_hidden m)
  unfolding flat_group
  hidden_ends h17 h18 h19 =
      ends_append p (each flat_group m.groups) _
      (ends_each p flat_group (λ g. ends_append p (map (entry variable_role) g.names) _ (ends_names p 17 h17 g.names) h18) m.groups) (groups_end h19)

  pub imports_end : p 7 ≡ false → p 8 ≡ false → p 17 ≡ false → p 18 ≡ false → p 19 ≡ false → Ends p (after_imports m)
  imports_end h7 h8 h17 h18 h19 =
      ends_append p (flat_signature hidden_sort hidden_function m.hidden) _ (signature_ends p hidden_sort hidden_function h7 h8 m.hidden)
      (hidden_ends h17 h18 h19)

  pub exports_end : p 11 ≡ false → p 7 ≡ false → p 8 ≡ false → p 17 ≡ false → p 18 ≡ false → p 19 ≡ false → Ends p (after_exports m)
  unfolding flat_import
  exports_end h11 h7 h8 h17 h18 h19 =
      ends_append p (each flat_import m.imports) _ (ends_each p flat_import (λ i. h11) m.imports) (imports_end h7 h8 h17 h18 h19)

  pub head_ends : p 5 ≡ false → p 6 ≡ false → p 11 ≡ false → p 7 ≡ false → p 8 ≡ false → p 17 ≡ false → p 18 ≡ false → p 19 ≡ false
      → Ends p (after_head m)
  head_ends h5 h6 h11 h7 h8 h17 h18 h19 =
      ends_append p (flat_signature export_sort export_function m.exports) _ (signature_ends p export_sort export_function h5 h6 m.exports)
      (exports_end h11 h7 h8 h17 h18 h19)

module _ (m : Module) where
  after_head_ends : Ends (in_part 1 4) (after_head m)
  unfolding in_part pick
  after_head_ends = head_ends (in_part 1 4) m refl refl refl refl refl refl refl refl

  after_exports_ends : Ends (in_part 5 6) (after_exports m)
  unfolding in_part pick
  after_exports_ends = exports_end (in_part 5 6) m refl refl refl refl refl refl

  after_imports_ends : Ends (in_part 11 16) (after_imports m)
  unfolding in_part pick
  after_imports_ends = imports_end (in_part 11 16) m refl refl refl refl refl

  after_hidden_ends : Ends (in_part 7 8) (after_hidden m)
  unfolding in_part pick
  after_hidden_ends = hidden_ends (in_part 7 8) m refl refl refl

  after_groups_ends : Ends (in_part 17 18) (after_groups m)
  unfolding in_part pick
  after_groups_ends = groups_end (in_part 17 18) m refl

-- ---- two modules with the same entries are the same

pub module_told : (a b : Module) → flat_module a ≡ flat_module b → a ≡ b
unfolding flat_module
module_told a b q =
    let h = cut (in_part 1 4) (head_part a) (after_head a) (head_part b) (after_head b)
    (head_passes a) (head_passes b) (after_head_ends a) (after_head_ends b) q in
    let e = cut (in_part 5 6) (flat_signature export_sort export_function a.exports) _ (flat_signature export_sort export_function b.exports) _
    (exports_pass a) (exports_pass b) (after_exports_ends a) (after_exports_ends b) h.1 in
    let i = cut (in_part 11 16) (each flat_import a.imports) _ (each flat_import b.imports) _
    (imported_pass a) (imported_pass b) (after_imports_ends a) (after_imports_ends b) e.1 in
    let s = cut (in_part 7 8) (flat_signature hidden_sort hidden_function a.hidden) _ (flat_signature hidden_sort hidden_function b.hidden) _
    (hidden_passes a) (hidden_passes b) (after_hidden_ends a) (after_hidden_ends b) i.1 in
    let g = cut (in_part 17 18) (each flat_group a.groups) _ (each flat_group b.groups) _
    (groups_pass a) (groups_pass b) (after_groups_ends a) (after_groups_ends b) s.1 in
    let n = cons_cut _ _ _ _ h.0 in
    let name = entry_name _ _ _ _ n.0 in
    let parameters = parameters_told a.parameters b.parameters n.1 in
    let exports = exports_told a.exports b.exports e.0 in
    let imports = imports_told a.imports b.imports i.0 in
    let hidden = signature_told 7 8 refl refl refl refl refl a.hidden b.hidden s.0 in
    let groups = groups_told a.groups b.groups g.0 in
    let equations = equations_told a.equations b.equations g.1 in
    λ j. record {
      name = name j;
      parameters = parameters j;
      exports = exports j;
      imports = imports j;
      hidden = hidden j;
      groups = groups j;
      equations = equations j;
    }
