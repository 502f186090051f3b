-- 12 by places and rows is the meaning's (meaning/specs/Own.antt): each variable is held against those before it and against the constants.
use Rattle.std.specs.Prelude.{◌≡◌, Bool, true, false, ◌||◌, length}
use Rattle.std.proofs.Math.Path.{refl, sym, ap}
use Rattle.std.proofs.Common.{◌∙◌, add-zero}
use Rattle.std.proofs.Math.Option.{Option, some}
use mathlib.Core.List.{List, [], ◌∷◌, ◌++◌, map, map-append}
use Prim.Native.Nat.{ℕ, zero, suc, ◌+◌, ◌-◌, ◌≤◌}
use native.Mathlib.Omega.{arith}
use borrow.Author.Tests.{ne_eqb}
use Rattle.meaning.specs.Lists.{pick, keep, each, first_bad}
use Rattle.meaning.specs.Names.{Name, same, member}
use Rattle.meaning.specs.Numbers.{bad_variable}
use Rattle.meaning.specs.Syntax.{VariableGroup, Variable, Module, group_variables, variables_of}
use Rattle.meaning.specs.Origins.{Item}
use Rattle.meaning.specs.Normal.{Visible, names_in}
use Rattle.meaning.specs.Checks.{lone, Check, fine, stop, ◌>>◌, unless}
use Rattle.meaning.specs.Own.{wrong_variable, is_constant, constants}
use Rattle.tape.specs.Roles.{All, all_parameters, all_signature, all_imports, all_equations}
use Rattle.tape.specs.Tape.{Entry, entry, flat_group, flat_module, export_sort, export_function, hidden_sort, hidden_function, variable_role, variable_sort}
use Rattle.form_rows.specs.Entries.{role_at, name_at}
use Rattle.form.specs.Forms.{items_at}
use Rattle.own_repeats.specs.Scans.{found, walked}
use Rattle.own_declarations.specs.Sorts.{is_named}
use Rattle.own_declarations.specs.Checked.{wrong_at, variable_at}
use Rattle.own_declarations.specs.RowNames.{constants_found}
use Rattle.form_walks.specs.Lists.{keep_append}
use Rattle.own_declarations.specs.Spelled.{Spells, first_found}
use Rattle.own_declarations.specs.Runs.{parameters_of, exports_of, imports_of, hidden_of, equations_of, at_exports, at_imports, at_hidden, at_groups, at_equations, parts, quiet_run, walk_module, then_fine, check_walks}
use Rattle.own_declarations.specs.DeclarationLaws.{Stands, member_append}
use Rattle.own_declarations.specs.ItemLaws.{group_entries}
use Rattle.own_declarations.specs.declared.Own.{Own}

-- ---- lists and choices

constants_append : (xs ys : List Item) → constants (xs ++ ys) ≡ constants xs ++ constants ys
unfolding constants names_in
constants_append xs ys =
    ap (map (λ (i : Item). i.name)) (keep_append (λ (i : Item). is_constant i.shape) xs ys)
    ∙ map-append (λ (i : Item). i.name) (keep (λ (i : Item). is_constant i.shape) xs) (keep (λ (i : Item). is_constant i.shape) ys)

either : (a b : Bool) → pick a true b ≡ (a || b)
unfolding pick
either true b = refl
either false b = refl

pub either_way : (a b : Bool) → pick a true b ≡ pick b true a
unfolding pick
either_way true true = refl
either_way true false = refl
either_way false true = refl
either_way false false = refl

-- the refusal k of n where the test passes
unfoldable pub told_at : Bool → ℕ → Name → Check
told_at b k n = pick b (stop k (lone n)) (fine tt)

pub refused_then : (k : ℕ) (n : Name) (b : Bool) (o : Option Name) → ◌≡◌ {A = Check} (told_at b k n >> unless k o) (unless k (pick b (some n) o))
unfolding told_at unless pick ◌>>◌
refused_then k n true o = refl
refused_then k n false o = refl

pub either_false : (b : Bool) → pick b true false ≡ b
unfolding pick
either_false true = refl
either_false false = refl

found_last : (p : ℕ → Bool) (c i : ℕ) → found p i (suc c) ≡ pick (found p i c) true (p (i + c))
unfolding found pick
found_last p zero i = rw (add-zero i) (either_false (p i))
found_last p (suc c) i = let z : i + suc c ≡ suc i + c = omega arith in rw z (go (p i) (found_last p c (suc i)))
  where
    go : (b : Bool) → found p (suc i) (suc c) ≡ pick (found p (suc i) c) true (p (suc i + c))
        → pick b true (found p (suc i) (suc c)) ≡ pick (pick b true (found p (suc i) c)) true (p (suc i + c))
    go true h = refl
    go false h = h

pub found_more : (p : ℕ → Bool) (start i : ℕ) → start ≤ i → found p start (suc i - start) ≡ pick (found p start (i - start)) true (p i)
found_more p start i h =
    let z : suc i - start ≡ suc (i - start) = omega arith in
    let y : start + (i - start) ≡ i = omega arith in
    rw z (rw y at (found_last p (i - start) start))

-- ---- the variables before a place

module _ (text tape : List ℕ) (own : Own) where
  -- the names of the variables before place i
  abbrev Before : ℕ → List Name → Type 0
  Before i seen = (n : Name) → found (is_named text tape 17 n) own.from (i - own.from) ≡ member n seen

  before_variable : (i : ℕ) (x : Name) (seen : List Name) → own.from ≤ i → role_at tape i ≡ variable_role → name_at text tape i ≡ x → Before i seen → Before (suc i) (x ∷ seen)
  unfolding is_named member pick
  before_variable i x seen h e f k n = found_more (is_named text tape 17 n) own.from i h ∙ rw (k n, e, f) (either_way (member n seen) (same n x))

  before_other : (i : ℕ) (seen : List Name) → own.from ≤ i → (role_at tape i ≡ variable_role → ⊥) → Before i seen → Before (suc i) seen
  unfolding is_named pick
  before_other i seen h q k n =
      found_more (is_named text tape 17 n) own.from i h ∙ rw (k n, ne_eqb (role_at tape i) variable_role q) (either_false (member n seen))

  before_none : Before own.from []
  unfolding found member
  before_none n = let z : own.from - own.from ≡ 0 = omega arith in rw z

  before_run : (es : List Entry) (i : ℕ) (seen : List Name) → own.from ≤ i → All (λ (r : ℕ). r ≡ variable_role → ⊥) es → Spells text tape i es → Before i seen → Before (i + length es) seen
  before_run [] i seen h l k b = rw (add-zero i) b
  before_run (e ∷ es) i seen h l k b =
      let z : i + suc (length es) ≡ suc i + length es = omega arith in
      rw z (before_run es (suc i) seen (omega arith) l.1 k.2 (before_other i seen h (λ q. l.0 (sym k.0 ∙ q)) b))

-- ---- the walk

module _ (text tape w : List ℕ) (own : Own) (m : Module) (v : Visible) (s : Stands text tape w own m v) (b c : ℕ) (hs : List Item) (hidden : items_at text tape w b c ≡ hs) where
  abbrev walk : ℕ → List Entry → Check
  walk i es = walked (variable_at text tape w own b c) i (length es)

  -- the constants in reach
  abbrev in_reach : List Name
  in_reach = constants (v.items ++ hs)

  wrong_told : (i : ℕ) (n : Name) (seen : List Name) → own.from ≤ i → name_at text tape i ≡ n → Before text tape own i seen → wrong_at text tape w own b c i ≡ (member n seen || member n in_reach)
  unfolding wrong_at
  wrong_told i n seen h e k =
      rw (
        e,
        first_found text tape (is_named text tape 17 n) (i - own.from) own.from i refl,
        k n,
        constants_found text tape w own.rows own.count n,
        s.rows,
        constants_found text tape w b c n,
        hidden,
        constants_append v.items hs,
        member_append n (constants v.items),
      )
      (either (member n seen) _)

  walk_other : (e : Entry) (es : List Entry) (i : ℕ) → (e.role ≡ variable_role → ⊥) → Spells text tape i (e ∷ es) → walk i (e ∷ es) ≡ walk (suc i) es
  unfolding walked variable_at ◌>>◌ pick
  walk_other e es i q k = rw (k.0, ne_eqb e.role 17 q)

  walk_quiet : (es : List Entry) (i : ℕ) → All (λ (r : ℕ). r ≡ variable_role → ⊥) es → Spells text tape i es → walk i es ≡ fine tt
  unfolding variable_at pick
  walk_quiet es i h k =
      quiet_run (check_walks (variable_at text tape w own b c)) (λ (r : ℕ). r ≡ variable_role → ⊥) text tape
      (λ j q. rw (ne_eqb (role_at tape j) variable_role q)) es i h k

  walk_variable : (n : Name) (es : List Entry) (i : ℕ) (seen : List Name) → own.from ≤ i → Before text tape own i seen
      → Spells text tape i (entry variable_role n ∷ es)
      → walk i (entry variable_role n ∷ es) ≡ (told_at (member n seen || member n in_reach) bad_variable n >> walk (suc i) es)
  unfolding walked variable_at told_at pick
  walk_variable n es i seen h l k = rw (k.0, wrong_told i n seen h k.1 l, k.1)

  -- the variables that share the sort a, and what follows them
  group_right : (ns : List Name) (a : Name) (es : List Entry) (vs : List Variable) (i : ℕ) (seen : List Name) → own.from ≤ i → Before text tape own i seen
      → Spells text tape i (group_entries ns a ++ es)
      → ((j : ℕ) (seen' : List Name) → own.from ≤ j → Before text tape own j seen' → Spells text tape j es → walk j es ≡ unless bad_variable (wrong_variable in_reach seen' vs))
      → walk i (group_entries ns a ++ es) ≡ unless bad_variable (wrong_variable in_reach seen (map (λ (x : Name). record { name = x; sort = a }) ns ++ vs))
  unfolding wrong_variable first_bad
  group_right [] a es vs i seen h l k rest =
      walk_other (entry variable_sort a) es i (λ q. omega arith) k
      ∙ rest (suc i) seen (omega arith) (before_other text tape own i seen h (λ q. let z = sym k.0 ∙ q in omega arith) l) k.2
  group_right (n ∷ ns) a es vs i seen h l k rest =
      walk_variable n (group_entries ns a ++ es) i seen h l k
      ∙ ap (λ (x : Check). told_at (member n seen || member n in_reach) bad_variable n >> x)
      (group_right ns a es vs (suc i) (n ∷ seen) (omega arith) (before_variable text tape own i n seen h k.0 k.1 l) k.2 rest)
      ∙ refused_then bad_variable n (member n seen || member n in_reach) (wrong_variable in_reach (n ∷ seen) (map (λ (x : Name). record { name = x; sort = a }) ns ++ vs))

  groups_right : (gs : List VariableGroup) (i : ℕ) (seen : List Name) → own.from ≤ i → Before text tape own i seen → Spells text tape i (each flat_group gs)
      → walk i (each flat_group gs) ≡ unless bad_variable (wrong_variable in_reach seen (each group_variables gs))
  unfolding each flat_group group_variables wrong_variable unless walked first_bad
  groups_right [] i seen h l k = refl
  groups_right (g ∷ gs) i seen h l k =
      group_right g.names g.sort (each flat_group gs) (each group_variables gs) i seen h l k (λ j seen' x y z. groups_right gs j seen' x y z)

  -- ---- the module

  module_right : walk own.from (flat_module m) ≡ unless bad_variable (wrong_variable in_reach [] (variables_of m))
  unfolding variables_of variable_at ◌>>◌ pick
  module_right =
      let a = own.from in
      let p = parts text tape a m s.entries in
      let parameters = all_parameters P (λ q. omega arith) (λ q. omega arith) (λ q. omega arith) (λ q. omega arith) (λ q. omega arith) m.parameters in
      let exports = all_signature P export_sort export_function (λ q. omega arith) (λ q. omega arith) (λ q. omega arith) (λ q. omega arith) m.exports in
      let imports = all_imports P (λ r h l q. omega arith) m.imports in
      let hidden = all_signature P hidden_sort hidden_function (λ q. omega arith) (λ q. omega arith) (λ q. omega arith) (λ q. omega arith) m.hidden in
      let past = before_run text tape own in
      let head = before_other text tape own a [] (omega arith) (λ q. let z = sym p.head ∙ q in omega arith) (before_none text tape own) in
      let before_imports = past (exports_of m) (at_exports a m) [] (omega arith) exports p.exports (past (parameters_of m) (suc a) [] (omega arith) parameters p.parameters head) in
      let before_groups = past (hidden_of m) (at_hidden a m) [] (omega arith) hidden p.hidden (past (imports_of m) (at_imports a m) [] (omega arith) imports p.imports before_imports) in
      walk_module (check_walks (variable_at text tape w own b c)) a m
      ∙ rw (
        p.head,
        walk_quiet (parameters_of m) (suc a) parameters p.parameters,
        walk_quiet (exports_of m) (at_exports a m) exports p.exports,
        walk_quiet (imports_of m) (at_imports a m) imports p.imports,
        walk_quiet (hidden_of m) (at_hidden a m) hidden p.hidden,
        groups_right m.groups (at_groups a m) [] (omega arith) before_groups p.groups,
        walk_quiet (equations_of m) (at_equations a m) (all_equations P (λ r h q. omega arith) m.equations) p.equations,
        then_fine,
      )
    where
      P : ℕ → Type 0
      P r = r ≡ variable_role → ⊥

  -- 12 by places and rows is the meaning's
  pub variables_told : walked (variable_at text tape w own b c) own.from (own.end - own.from) ≡ unless bad_variable (wrong_variable (constants (v.items ++ hs)) [] (variables_of m))
  variables_told = let z : own.end - own.from ≡ length (flat_module m) = omega (arith, s.end) in rw z module_right
