-- The items that a module's entries declare are the meaning's (meaning/specs/Own.antt).
use Rattle.std.specs.Prelude.{◌≡◌, Bool, ltb, get_or}
use Rattle.std.proofs.Math.Path.{refl, sym, ap₂}
use Rattle.std.proofs.Common.{ap, ◌∙◌, add-zero, add-one, ltb-true, ltb-false, lt-ltb, le-ltb, ne_eqb}
use Rattle.std.proofs.Math.Bool.{true, false}
use mathlib.Core.List.{List, [], ◌∷◌, ◌++◌, map, map-append, append-nil, append_assoc}
use Prim.Native.Nat.{ℕ, zero, suc, ◌+◌, ◌-◌, ◌<◌, ◌≤◌}
use Rattle.std.proofs.Math.Numerals.{add-two}
use native.Mathlib.Omega.{arith}
use Rattle.std.proofs.Math.Dec.{eqb}
use Rattle.std.proofs.Math.ListN.{length, length-append, get_or-eq_default}
use Rattle.meaning.specs.Lists.{pick, each}
use Rattle.meaning.specs.Names.{Name}
use Rattle.meaning.specs.Syntax.{Function, Signature, Parameter, VariableGroup, Variable, Module, group_variables, variables_of}
use Rattle.meaning.specs.Origins as meant
use Rattle.meaning.specs.Origins.{Sort, Item}
use Rattle.meaning.specs.Normal.{Visible}
use Rattle.meaning.specs.Own.{resolved, function_type, own_sort, own_function, own_section, own_visible, own_variable, own_hidden_items}
use Rattle.meaning.specs.Evaluate.{seen_sorts}
use Rattle.meaning.specs.OrderLaws.{Every}
use Rattle.tape.specs.Roles.{All, all_type, all_signature, all_parameters, all_imports, all_groups, all_equations}
use Rattle.invariants.specs.Limits.{InputsWithin, Limited}
use Rattle.text_names.specs.Word.{name_of}
use Rattle.tape.specs.Tape.{Entry, entry, flat_function, flat_signature, flat_parameter, flat_group, flat_module, parameter_role, parameter_sort, parameter_function, input_role, output_role, variable_role, variable_sort}
use Rattle.form_rows.specs.Entries.{role_at, name_at, inputs_from, names_from, is_function_role, is_parameter_role, is_export_role, arity_at, last_with, next_with, sort_place, home_at, section_at, origin_at, declared_at}
use Rattle.form_rows.specs.Kinds.{kind_at}
use Rattle.form_rows.specs.Rows.{section_of, origin_of}
use Rattle.own_declarations.specs.Items.{resolved_at, resolved_from, own_shape, own_item, own_role, is_own, own_items}
use Rattle.own_declarations.specs.Spelled.{Spells, spells_front, spells_behind, last_over, home_there}
use Rattle.own_declarations.specs.Runs.{parameters_of, exports_of, imports_of, hidden_of, groups_of, equations_of}
use Rattle.own_declarations.specs.Runs.{at_exports, at_imports, at_hidden, at_groups, at_equations, parts, Walks, walk_append, quiet_run, walk_module}
use Rattle.own_declarations.specs.DeclarationLaws.{Stands, resolved_told}
use Rattle.own_declarations.specs.declared.Own.{Own}

-- a function has no more inputs than a text may give it
abbrev pub Few : List Function → Type 0
Few fs = Every InputsWithin fs

abbrev pub FewEach : List Parameter → Type 0
FewEach ps = Every (λ (p : Parameter). Few p.signature.functions) ps

pub record FewInputs (m : Module) : Type 0 where
  pub parameters : FewEach m.parameters
  pub exports : Few m.exports.functions
  pub hidden : Few m.hidden.functions

pub few_inputs : (m : Module) → Limited m → FewInputs m
few_inputs m l = record { parameters = l.parameters; exports = l.exports; hidden = l.hidden }

-- ---- roles and sections

pub quiet_seen : (r : ℕ) → 7 ≤ r → own_role false r ≡ false
unfolding own_role pick
quiet_seen r h = rw (le-ltb r 3 (omega arith), le-ltb r 7 h)

pub quiet_hidden : (r : ℕ) → r < 7 → own_role true r ≡ false
unfolding own_role pick
quiet_hidden r h = rw (ne_eqb r variable_role (λ q. omega arith), lt-ltb r 7 h)

quiet_other : (r : ℕ) → 9 ≤ r → (r ≡ variable_role → ⊥) → own_role true r ≡ false
unfolding own_role pick
quiet_other r h q = rw (ne_eqb r variable_role q, le-ltb r 7 (omega arith), le-ltb r 9 h)

stands_parameter : (text tape : List ℕ) (d p r : ℕ) (n : Name) → is_parameter_role r ≡ true → role_at tape d ≡ r → last_with parameter_role tape d ≡ p → name_at text tape p ≡ n
    → section_of text (section_at tape d) ≡ meant.parameter_section n
unfolding section_at section_of pick
stands_parameter text tape d p r n f e l k = rw (e, f, l, k)

stands_export : (text tape : List ℕ) (d r : ℕ) → is_parameter_role r ≡ false → is_export_role r ≡ true → role_at tape d ≡ r
    → section_of text (section_at tape d) ≡ meant.export_section
unfolding section_at section_of pick
stands_export text tape d r f g e = rw (e, f, g)

stands_hidden : (text tape : List ℕ) (d r : ℕ) → is_parameter_role r ≡ false → is_export_role r ≡ false → role_at tape d ≡ r
    → section_of text (section_at tape d) ≡ meant.hidden_section
unfolding section_at section_of pick
stands_hidden text tape d r f g e = rw (e, f, g)

-- ---- a function's entries

-- the sorts of a function, behind its name
abbrev pub type_entries : Function → List Entry
type_entries f = map (entry input_role) f.inputs ++ (entry output_role f.output ∷ [])

-- what stands at the function's place d
pub record FunctionAt (text tape : List ℕ) (d : ℕ) (f : Function) : Type 0 where
  pub name : name_at text tape d ≡ f.name
  pub arity : arity_at tape d ≡ length f.inputs
  pub inputs : names_from text tape (d + 1) (length f.inputs) ≡ f.inputs
  pub output : name_at text tape (d + 1 + length f.inputs) ≡ f.output

module _ (text tape : List ℕ) where
  inputs_counted : (ns : List Name) (o : Name) (i c : ℕ) → Spells text tape i (map (entry input_role) ns ++ (entry output_role o ∷ [])) → length ns ≤ c → inputs_from tape i c ≡ length ns
  unfolding inputs_from pick
  inputs_counted [] o i zero h l = refl
  inputs_counted [] o i (suc c) h l = rw h.0
  inputs_counted (n ∷ ns) o i zero h l = absurd (omega arith)
  inputs_counted (n ∷ ns) o i (suc c) h l = rw h.0 (ap suc (inputs_counted ns o (suc i) c h.2 (omega arith)))

  inputs_named : (ns : List Name) (es : List Entry) (i : ℕ) → Spells text tape i (map (entry input_role) ns ++ es) → names_from text tape i (length ns) ≡ ns
  unfolding names_from
  inputs_named [] es i h = refl
  inputs_named (n ∷ ns) es i h = ap₂ (λ (x : Name) (xs : List Name). x ∷ xs) h.1 (inputs_named ns es (suc i) h.2)

  output_named : (ns : List Name) (o : Name) (i : ℕ) → Spells text tape i (map (entry input_role) ns ++ (entry output_role o ∷ []))
      → name_at text tape (i + length ns) ≡ o
  output_named [] o i h = rw (add-zero i) h.1
  output_named (n ∷ ns) o i h = let z : i + suc (length ns) ≡ suc i + length ns = omega arith in rw z (output_named ns o (suc i) h.2)

  pub function_at : (r : ℕ) (f : Function) (d : ℕ) → length f.inputs ≤ 8 → Spells text tape d (flat_function r f) → FunctionAt text tape d f
  unfolding flat_function arity_at
  function_at r f d h s =
      let more : Spells text tape (d + 1) (type_entries f) = rw (add-one d) s.2 in
      record {
        name = s.1;
        arity = inputs_counted f.inputs f.output (d + 1) 8 more h;
        inputs = inputs_named f.inputs (entry output_role f.output ∷ []) (d + 1) more;
        output = output_named f.inputs f.output (d + 1) more;
      }

-- the entries of variables that share the sort a
abbrev pub group_entries : List Name → Name → List Entry
group_entries ns a = map (entry variable_role) ns ++ (entry variable_sort a ∷ [])

module _ (text tape : List ℕ) where
  -- a role other than 0 stands within the tape
  within_tape : (i r : ℕ) → role_at tape i ≡ suc r → i < length tape
  within_tape i r h = go (ltb i (length tape)) refl
    where
      go : (b : Bool) → ltb i (length tape) ≡ b → i < length tape
      go true e = ltb-true i (length tape) e
      go false e =
          let l : length tape ≤ i = ltb-false i (length tape) e in
          let z : get_or tape i 0 ≡ 0 = get_or-eq_default tape 0 l in
          absurd (omega arith)

  sort_next : (ns : List Name) (a : Name) (d c : ℕ) → Spells text tape d (group_entries ns a) → length ns < c
      → name_at text tape (next_with variable_sort tape d c) ≡ a
  unfolding next_with pick
  sort_next ns a d zero h l = absurd (omega arith)
  sort_next [] a d (suc c) h l = rw h.0 h.1
  sort_next (n ∷ ns) a d (suc c) h l = rw h.0 (sort_next ns a (suc d) c h.2 (omega arith))

  sort_last : (ns : List Name) (a : Name) (d : ℕ) → Spells text tape d (group_entries ns a) → d + length ns < length tape
  sort_last [] a d h = let g = within_tape d 17 h.0 in omega arith
  sort_last (n ∷ ns) a d h = let g = sort_last ns a (suc d) h.2 in omega arith

  -- the sort of the first of the variables
  pub variable_sorted : (ns : List Name) (a : Name) (d : ℕ) → Spells text tape d (group_entries ns a) → name_at text tape (sort_place tape d) ≡ a
  unfolding sort_place
  variable_sorted ns a d h = sort_next ns a d (length tape - d) h (let g = sort_last ns a d h in omega arith)

pub function_long : (r : ℕ) (f : Function) → 1 ≤ length (flat_function r f)
unfolding flat_function
function_long r f = omega arith

-- ---- one item

module _ (text tape w : List ℕ) (own : Own) (m : Module) (v : Visible) (s : Stands text tape w own m v) where
  resolved_names : (c i : ℕ) → resolved_from text tape w own i c ≡ map (resolved m (seen_sorts m v)) (names_from text tape i c)
  unfolding resolved_from resolved_at names_from
  resolved_names zero i = refl
  resolved_names (suc c) i = ap₂ (λ (x : Sort) (xs : List Sort). x ∷ xs) (resolved_told text tape w own m v s (name_at text tape i)) (resolved_names c (suc i))

  module _ (sec : meant.Section) (d : ℕ) (home : name_of text (home_at tape d) ≡ m.name) (stands : section_of text (section_at tape d) ≡ sec) where
    sort_item : (n : Name) → is_function_role (role_at tape d) ≡ false → eqb (role_at tape d) variable_role ≡ false → name_at text tape d ≡ n
        → own_item text tape w own d ≡ own_sort m (seen_sorts m v) sec n
    unfolding own_item own_sort origin_of origin_at own_shape kind_at declared_at pick
    sort_item n f g e = rw (f, g, home, stands, e)

    function_item : (f : Function) → is_function_role (role_at tape d) ≡ true → FunctionAt text tape d f
        → own_item text tape w own d ≡ own_function m (seen_sorts m v) sec f
    unfolding own_item own_function function_type origin_of origin_at own_shape kind_at declared_at resolved_at pick
    function_item f g a =
        rw (
          g,
          a.arity,
          add-two (length f.inputs),
          home,
          stands,
          resolved_names (length f.inputs) (d + 1),
          a.name,
          a.inputs,
          a.output,
          resolved_told text tape w own m v s f.output,
        )

  -- ---- runs of entries

  module _ (hidden : Bool) where
    abbrev over : ℕ → List Entry → List Item
    over d es = own_items text tape w own hidden d (length es)

    item_walks : Walks ◌++◌ [] (λ (i : ℕ). pick (is_own tape hidden i) (own_item text tape w own i ∷ []) []) (own_items text tape w own hidden)
    unfolding own_items pick
    item_walks = record {
      unit = λ xs. refl;
      assoc = λ xs ys zs. append_assoc xs ys zs;
      empty = λ i. refl;
      more = λ i c. go (is_own tape hidden i) (own_item text tape w own i) (own_items text tape w own hidden (suc i) c);
    }
      where
        go : (b : Bool) (x : Item) (xs : List Item) → pick b (x ∷ xs) xs ≡ pick b (x ∷ []) [] ++ xs
        go true x xs = refl
        go false x xs = refl

    over_append : (es fs : List Entry) (d : ℕ) → over d (es ++ fs) ≡ over d es ++ over (d + length es) fs
    over_append es fs d = walk_append item_walks es fs d

    over_quiet : (es : List Entry) (d : ℕ) → All (λ (r : ℕ). own_role hidden r ≡ false) es → Spells text tape d es → over d es ≡ []
    unfolding is_own pick
    over_quiet es d h l = quiet_run item_walks (λ (r : ℕ). own_role hidden r ≡ false) text tape (λ j q. rw q) es d h l

    -- the sorts and functions of one section, with the roles q and r, among the places from lo up to hi
    module _ (sec : meant.Section) (q r : ℕ) (own_q : own_role hidden q ≡ true) (own_r : own_role hidden r ≡ true) (sort_q : is_function_role q ≡ false) (other_q : eqb q variable_role ≡ false)
        (function_r : is_function_role r ≡ true) (quiet_in : own_role hidden 9 ≡ false) (quiet_out : own_role hidden 10 ≡ false) (lo hi : ℕ)
        (home : (d : ℕ) → lo ≤ d → d < hi → name_of text (home_at tape d) ≡ m.name)
        (sort_stands : (d : ℕ) → lo ≤ d → d < hi → role_at tape d ≡ q → section_of text (section_at tape d) ≡ sec)
        (function_stands : (d : ℕ) → lo ≤ d → d < hi → role_at tape d ≡ r → section_of text (section_at tape d) ≡ sec) where
      sorts_own : (ns : List Name) (d : ℕ) → lo ≤ d → d + length (map (entry q) ns) ≤ hi → Spells text tape d (map (entry q) ns)
          → over d (map (entry q) ns) ≡ map (own_sort m (seen_sorts m v) sec) ns
      unfolding own_items is_own pick
      sorts_own [] d h l k = refl
      sorts_own (n ∷ ns) d h l k =
          let f : is_function_role (role_at tape d) ≡ false = rw k.0 sort_q in
          let g : eqb (role_at tape d) variable_role ≡ false = rw k.0 other_q in
          rw (k.0, own_q)
          (ap₂ (λ (x : Item) (xs : List Item). x ∷ xs)
          (sort_item sec d (home d h (omega arith)) (sort_stands d h (omega arith) k.0) n f g k.1)
          (sorts_own ns (suc d) (omega arith) (omega arith) k.2))

      function_own : (f : Function) (d : ℕ) → lo ≤ d → d < hi → length f.inputs ≤ 8 → Spells text tape d (flat_function r f)
          → over d (flat_function r f) ≡ own_function m (seen_sorts m v) sec f ∷ []
      unfolding own_items is_own pick flat_function
      function_own f d h l n k =
          let g : is_function_role (role_at tape d) ≡ true = rw k.0 function_r in
          rw (k.0, own_r)
          (ap₂ (λ (x : Item) (xs : List Item). x ∷ xs)
          (function_item sec d (home d h l) (function_stands d h l k.0) f g (function_at text tape r f d n k))
          (over_quiet (type_entries f) (suc d) (all_type (λ (x : ℕ). own_role hidden x ≡ false) quiet_in quiet_out f) k.2))

      functions_own : (fs : List Function) (d : ℕ) → lo ≤ d → d + length (each (flat_function r) fs) ≤ hi → Few fs → Spells text tape d (each (flat_function r) fs)
          → over d (each (flat_function r) fs) ≡ map (own_function m (seen_sorts m v) sec) fs
      unfolding own_items each
      functions_own [] d h l n k = refl
      functions_own (f ∷ fs) d h l n k =
          let size = length-append (flat_function r f) (each (flat_function r) fs) in
          let some : 1 ≤ length (flat_function r f) = function_long r f in
          over_append (flat_function r f) (each (flat_function r) fs) d
          ∙ ap₂ (λ (x y : List Item). x ++ y)
          (function_own f d h (omega (arith, size, some)) n.0 (spells_front text tape (flat_function r f) (each (flat_function r) fs) d k))
          (functions_own fs (d + length (flat_function r f)) (omega arith) (omega (arith, size)) n.1 (spells_behind text tape (flat_function r f) (each (flat_function r) fs) d k))

      signature_own : (g : Signature) (d : ℕ) → lo ≤ d → d + length (flat_signature q r g) ≤ hi → Few g.functions → Spells text tape d (flat_signature q r g)
          → over d (flat_signature q r g) ≡ own_section m (seen_sorts m v) sec g
      unfolding flat_signature own_section
      signature_own g d h l n k =
          let es = map (entry q) g.sorts in
          let fs = each (flat_function r) g.functions in
          let size = length-append es fs in
          over_append es fs d
          ∙ ap₂ (λ (x y : List Item). x ++ y)
          (sorts_own g.sorts d h (omega (arith, size)) (spells_front text tape es fs d k))
          (functions_own g.functions (d + length es) (omega arith) (omega (arith, size)) n (spells_behind text tape es fs d k))

  -- ---- the visible items

  module_home : (d : ℕ) → own.from ≤ d → d < own.end → name_of text (home_at tape d) ≡ m.name
  module_home d h l = home_there text tape m own.from d s.entries h (omega (arith, s.end))

  parameter_own : (p : Parameter) (d : ℕ) → own.from ≤ d → d + length (flat_parameter p) ≤ own.end → Few p.signature.functions → Spells text tape d (flat_parameter p)
      → over false d (flat_parameter p) ≡ own_section m (seen_sorts m v) (meant.parameter_section p.name) p.signature
  unfolding flat_parameter own_items is_own own_role is_function_role is_parameter_role pick
  parameter_own p d h l n k =
      let es = flat_signature parameter_sort parameter_function p.signature in
      let last : (x : ℕ) → suc d ≤ x → x < suc d + length es → last_with parameter_role tape x ≡ d = λ x i j.
      let z : d + (x - d) ≡ x = omega arith in
      rw z at (last_over text tape 2 d es k.0 (all_signature (λ (y : ℕ). 3 ≤ y) 3 4 (omega arith) (omega arith) (omega arith) (omega arith) p.signature) k.2 (x - d) (omega arith)) in
      rw k.0
      (signature_own false (meant.parameter_section p.name) 3 4 refl refl refl refl refl refl refl (suc d) (suc d + length es)
      (λ x i j. module_home x (omega arith) (omega arith))
      (λ x i j e. stands_parameter text tape x d 3 p.name refl e (last x i j) k.1)
      (λ x i j e. stands_parameter text tape x d 4 p.name refl e (last x i j) k.1)
      p.signature (suc d) (omega arith) (omega arith) n k.2)

  parameters_own : (ps : List Parameter) (d : ℕ) → own.from ≤ d → d + length (each flat_parameter ps) ≤ own.end → FewEach ps → Spells text tape d (each flat_parameter ps)
      → over false d (each flat_parameter ps) ≡ each (λ (p : Parameter). own_section m (seen_sorts m v) (meant.parameter_section p.name) p.signature) ps
  unfolding own_items each
  parameters_own [] d h l n k = refl
  parameters_own (p ∷ ps) d h l n k =
      let size = length-append (flat_parameter p) (each flat_parameter ps) in
      over_append false (flat_parameter p) (each flat_parameter ps) d
      ∙ ap₂ (λ (x y : List Item). x ++ y)
      (parameter_own p d h (omega (arith, size)) n.0 (spells_front text tape (flat_parameter p) (each flat_parameter ps) d k))
      (parameters_own ps (d + length (flat_parameter p)) (omega arith) (omega (arith, size)) n.1 (spells_behind text tape (flat_parameter p) (each flat_parameter ps) d k))

  visible_over : FewInputs m → over false own.from (flat_module m) ≡ (own_visible m (seen_sorts m v)).items
  unfolding own_visible is_own own_role is_function_role is_parameter_role is_export_role pick
  visible_over n =
      let a = own.from in
      let p = parts text tape a m s.entries in
      walk_module (item_walks false) a m
      ∙ rw (
        p.head,
        parameters_own m.parameters (suc a) (omega arith) (omega (arith, s.end, p.end)) n.parameters p.parameters,
        signature_own false meant.export_section 5 6 refl refl refl refl refl refl refl (at_exports a m) own.end
            (λ x i j. module_home x (omega arith) j)
            (λ x i j h. stands_export text tape x 5 refl refl h)
            (λ x i j h. stands_export text tape x 6 refl refl h)
            m.exports (at_exports a m) (omega arith) (omega (arith, s.end, p.end)) n.exports p.exports,
        over_quiet false (imports_of m) (at_imports a m) (all_imports Q (λ r h l. quiet_seen r (omega arith)) m.imports) p.imports,
        over_quiet false (hidden_of m) (at_hidden a m) (all_signature Q 7 8 (q 7 (omega arith)) (q 8 (omega arith)) (q 9 (omega arith)) (q 10 (omega arith)) m.hidden) p.hidden,
        over_quiet false (groups_of m) (at_groups a m) (all_groups Q (q 17 (omega arith)) (q 18 (omega arith)) m.groups) p.groups,
        over_quiet false (equations_of m) (at_equations a m) (all_equations Q (λ r h. quiet_seen r (omega arith)) m.equations) p.equations,
        append-nil,
      )
    where
      Q : ℕ → Type 0
      Q r = own_role false r ≡ false

      q : (r : ℕ) → 7 ≤ r → Q r
      q r h = quiet_seen r h

  -- the entries of parameters and exports declare what the meaning has as visible
  pub visible_items : FewInputs m → own_items text tape w own false own.from (own.end - own.from) ≡ (own_visible m (seen_sorts m v)).items
  visible_items n =
      let z : own.end - own.from ≡ length (flat_module m) = omega (arith, s.end) in
      rw z (visible_over n)

  -- ---- the hidden items

  variable_item : (d : ℕ) (x : Variable) → name_of text (home_at tape d) ≡ m.name → role_at tape d ≡ variable_role → name_at text tape d ≡ x.name
      → name_at text tape (sort_place tape d) ≡ x.sort → own_item text tape w own d ≡ own_variable m (seen_sorts m v) x
  unfolding own_item own_variable origin_of origin_at own_shape kind_at declared_at resolved_at is_function_role is_parameter_role is_export_role pick
  variable_item d x home e f g =
      let z : section_of text (section_at tape d) ≡ meant.hidden_section = stands_hidden text tape d 17 refl refl e in
      rw (z, e, home, f, g, resolved_told text tape w own m v s x.sort)

  group_own : (ns : List Name) (a : Name) (d : ℕ) → own.from ≤ d → d + length (group_entries ns a) ≤ own.end → Spells text tape d (group_entries ns a)
      → over true d (group_entries ns a) ≡ map (own_variable m (seen_sorts m v)) (map (λ (x : Name). record { name = x; sort = a }) ns)
  unfolding own_items is_own own_role pick
  group_own [] a d h l k = rw k.0
  group_own (n ∷ ns) a d h l k =
      rw k.0
      (ap₂ (λ (x : Item) (xs : List Item). x ∷ xs)
      (variable_item d (record { name = n; sort = a }) (module_home d h (omega arith)) k.0 k.1 (variable_sorted text tape (n ∷ ns) a d k))
      (group_own ns a (suc d) (omega arith) (omega arith) k.2))

  groups_own : (gs : List VariableGroup) (d : ℕ) → own.from ≤ d → d + length (each flat_group gs) ≤ own.end → Spells text tape d (each flat_group gs)
      → over true d (each flat_group gs) ≡ map (own_variable m (seen_sorts m v)) (each group_variables gs)
  unfolding own_items each flat_group group_variables
  groups_own [] d h l k = refl
  groups_own (g ∷ gs) d h l k =
      let es = group_entries g.names g.sort in
      let size = length-append es (each flat_group gs) in
      over_append true es (each flat_group gs) d
      ∙ ap₂ (λ (x y : List Item). x ++ y)
      (group_own g.names g.sort d h (omega (arith, size)) (spells_front text tape es (each flat_group gs) d k))
      (groups_own gs (d + length es) (omega arith) (omega (arith, size)) (spells_behind text tape es (each flat_group gs) d k))
      ∙ sym (map-append (own_variable m (seen_sorts m v)) (group_variables g) (each group_variables gs))

  hidden_over : FewInputs m → over true own.from (flat_module m) ≡ own_hidden_items m (seen_sorts m v)
  unfolding own_hidden_items variables_of is_own own_role is_function_role is_parameter_role is_export_role pick
  hidden_over n =
      let a = own.from in
      let p = parts text tape a m s.entries in
      walk_module (item_walks true) a m
      ∙ rw (
        p.head,
        over_quiet true (parameters_of m) (suc a) (all_parameters Q (q 2 (omega arith)) (q 3 (omega arith)) (q 4 (omega arith)) q9 q10 m.parameters) p.parameters,
        over_quiet true (exports_of m) (at_exports a m) (all_signature Q 5 6 (q 5 (omega arith)) (q 6 (omega arith)) q9 q10 m.exports) p.exports,
        over_quiet true (imports_of m) (at_imports a m) (all_imports Q (λ r h l. quiet_other r (omega arith) (λ e. omega arith)) m.imports) p.imports,
        signature_own true meant.hidden_section 7 8 refl refl refl refl refl refl refl (at_hidden a m) own.end
            (λ x i j. module_home x (omega arith) j)
            (λ x i j h. stands_hidden text tape x 7 refl refl h)
            (λ x i j h. stands_hidden text tape x 8 refl refl h)
            m.hidden (at_hidden a m) (omega arith) (omega (arith, s.end, p.end)) n.hidden p.hidden,
        groups_own m.groups (at_groups a m) (omega arith) (omega (arith, s.end, p.end)) p.groups,
        over_quiet true (equations_of m) (at_equations a m) (all_equations Q (λ r h. quiet_other r (omega arith) (λ e. omega arith)) m.equations) p.equations,
        append-nil,
      )
    where
      Q : ℕ → Type 0
      Q r = own_role true r ≡ false

      q : (r : ℕ) → r < 7 → Q r
      q r h = quiet_hidden r h

      q9 : Q 9
      q9 = quiet_other 9 (omega arith) (λ e. omega arith)

      q10 : Q 10
      q10 = quiet_other 10 (omega arith) (λ e. omega arith)

  -- the entries of the hidden section and of variables declare what the meaning has as the module's hidden items
  pub hidden_items : FewInputs m → own_items text tape w own true own.from (own.end - own.from) ≡ own_hidden_items m (seen_sorts m v)
  hidden_items n = let z : own.end - own.from ≡ length (flat_module m) = omega (arith, s.end) in rw z (hidden_over n)
