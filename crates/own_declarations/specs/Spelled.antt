-- Entries as they stand on the tape from a place on, and the names of those with a role: what the module's entries declare as sorts.
use Rattle.std.specs.Prelude.{◌≡◌, Bool, eqb}
use Rattle.std.proofs.Math.Path.{refl, ap₂}
use Rattle.std.proofs.Common.{◌∙◌, add-zero}
use Rattle.std.proofs.Math.Bool.{true, false}
use mathlib.Core.List.{List, [], ◌∷◌, ◌++◌, map, append-nil}
use Prim.Native.Nat.{ℕ, zero, suc, ◌+◌, ◌-◌, ◌%◌, ◌<◌, ◌≤◌}
use native.Mathlib.Omega.{arith}
use borrow.Author.Tests.{lt-ltb, le-ltb, eq-eqb, ne_eqb}
use Rattle.std.proofs.Math.Dec.{ltb}
use Rattle.std.proofs.Math.ListN.{length}
use Rattle.meaning.specs.Lists.{pick, each}
use Rattle.meaning.specs.Names.{Name, same, member}
use Rattle.meaning.specs.Syntax.{Function, Signature, Parameter, Module}
use Rattle.tape.specs.Roles.{All, behind_name, all_type, all_imports, all_groups, all_equations, all_behind, all_each}
use Rattle.tape.specs.Tape.{Entry, entry, flat_function, flat_signature, flat_parameter, flat_import, flat_group, flat_equation, flat_module, spelled, entries, module_role, parameter_role, parameter_sort, parameter_function, export_sort, export_function, hidden_sort, hidden_function}
use Rattle.text_names.specs.Word.{name_of}
use Rattle.form_rows.specs.Entries.{role_at, name_at, last_with, home_at}
use Rattle.form_walks.specs.Flat.{names_with, names_append, names_none}
use Rattle.own_repeats.specs.Scans.{found, first_of}
use Rattle.own_declarations.specs.Sorts.{is_named, place_of}
use Rattle.own_declarations.specs.declared.Own.{Own}

-- the entries stand on the tape from place i on
abbrev pub Spells : List ℕ → List ℕ → ℕ → List Entry → Type 0
Spells text tape i [] = Unit {0}
Spells text tape i (e ∷ es) = (role_at tape i ≡ e.role) × (name_at text tape i ≡ e.name) × Spells text tape (suc i) es

-- the roles are not below k
abbrev pub Above : ℕ → List Entry → Type 0
Above k es = All (λ (r : ℕ). k ≤ r) es

-- the entries with the role
abbrev pub is_role : ℕ → ℕ → Bool
is_role role r = eqb r role

-- ---- names

-- an entry with another role
names_other : (role : ℕ) (e : Entry) (es : List Entry) → (e.role ≡ role → ⊥) → names_with (is_role role) (e ∷ es) ≡ names_with (is_role role) es
unfolding names_with pick
names_other role e es h = rw (ne_eqb e.role role h)

nothing_picked : (b : Bool) → ◌≡◌ {A = List Name} [] (pick b [] [])
unfolding pick
nothing_picked true = refl
nothing_picked false = refl

pub names_map : (role r : ℕ) (ns : List Name) → names_with (is_role role) (map (entry r) ns) ≡ pick (eqb r role) ns []
unfolding names_with pick
names_map role r [] = nothing_picked (eqb r role)
names_map role r (n ∷ ns) = rw (names_map role r ns) (go (eqb r role))
  where
    go : (b : Bool) → pick b (n ∷ pick b ns []) (pick b ns []) ≡ pick b (n ∷ ns) []
    go true = refl
    go false = refl

-- one of the three roles of sorts
pub record SortRole (role : ℕ) : Type 0 where
  pub odd : role % 2 ≡ 1
  pub more : 1 < role
  pub less : role < 9

module _ (role : ℕ) (s : SortRole role) where
  -- no role but a sort's has it
  abbrev Other : ℕ → Type 0
  Other r = is_role role r ≡ false

  types_other : (r : ℕ) → 9 ≤ r → Other r
  types_other r h = ne_eqb r role (λ q. omega (arith, s.less))

  names_functions : (r : ℕ) → r % 2 ≡ 0 → (fs : List Function) → names_with (is_role role) (each (flat_function r) fs) ≡ []
  unfolding flat_function
  names_functions r h fs =
      names_none (is_role role) (each (flat_function r) fs)
      (all_each Other (flat_function r)
      (λ f. (ne_eqb r role (λ q. omega (arith, s.odd)), all_type Other (types_other 9 (omega arith)) (types_other 10 (omega arith)) f)) fs)

  names_signature : (q r : ℕ) → r % 2 ≡ 0 → (g : Signature) → names_with (is_role role) (flat_signature q r g) ≡ pick (eqb q role) g.sorts []
  unfolding flat_signature
  names_signature q r h g =
      names_append (is_role role) (map (entry q) g.sorts) (each (flat_function r) g.functions)
      ∙ rw (names_functions r h g.functions, append-nil) (names_map role q g.sorts)

  names_parameter : (p : Parameter) → names_with (is_role role) (flat_parameter p) ≡ pick (eqb 3 role) p.signature.sorts []
  unfolding flat_parameter
  names_parameter p = names_other role (entry parameter_role p.name) _ (λ q. omega (arith, s.odd))
      ∙ names_signature parameter_sort parameter_function refl p.signature

  names_parameters : (ps : List Parameter) → names_with (is_role role) (each flat_parameter ps) ≡ pick (eqb 3 role) (each (λ (p : Parameter). p.signature.sorts) ps) []
  unfolding each names_with pick
  names_parameters [] = nothing_picked (eqb 3 role)
  names_parameters (p ∷ ps) =
      names_append (is_role role) (flat_parameter p) (each flat_parameter ps)
      ∙ ap₂ (λ (x y : List Name). x ++ y) (names_parameter p) (names_parameters ps)
      ∙ go (eqb 3 role)
    where
      go : (b : Bool) → pick b p.signature.sorts [] ++ pick b (each (λ (p : Parameter). p.signature.sorts) ps) []
          ≡ pick b (p.signature.sorts ++ each (λ (p : Parameter). p.signature.sorts) ps) []
      go true = refl
      go false = refl

  pub names_module : (m : Module) → names_with (is_role role) (flat_module m)
      ≡ pick (eqb 3 role) (each (λ (p : Parameter). p.signature.sorts) m.parameters) [] ++ (pick (eqb 5 role) m.exports.sorts [] ++ pick (eqb 7 role) m.hidden.sorts [])
  unfolding flat_module
  names_module m =
      names_other role (entry module_role m.name) _ (λ q. omega (arith, s.more))
      ∙ rw (
        names_append (is_role role) (each flat_parameter m.parameters),
        names_append (is_role role) (flat_signature export_sort export_function m.exports),
        names_append (is_role role) (each flat_import m.imports),
        names_append (is_role role) (flat_signature hidden_sort hidden_function m.hidden),
        names_append (is_role role) (each flat_group m.groups),
        names_parameters m.parameters,
        names_signature export_sort export_function refl m.exports,
        names_none (is_role role) (each flat_import m.imports) (all_imports Other (λ r h l. types_other r (omega arith)) m.imports),
        names_signature hidden_sort hidden_function refl m.hidden,
        names_none (is_role role) (each flat_group m.groups) (all_groups Other (types_other 17 (omega arith)) (types_other 18 (omega arith)) m.groups),
        names_none (is_role role) (each flat_equation m.equations) (all_equations Other (λ r h. types_other r (omega arith)) m.equations),
        append-nil,
      )

-- ---- on the tape

module _ (text tape : List ℕ) where
  pub spells_front : (es fs : List Entry) (i : ℕ) → Spells text tape i (es ++ fs) → Spells text tape i es
  spells_front [] fs i h = tt
  spells_front (e ∷ es) fs i h = (h.0, h.1, spells_front es fs (suc i) h.2)

  pub spells_behind : (es fs : List Entry) (i : ℕ) → Spells text tape i (es ++ fs) → Spells text tape (i + length es) fs
  spells_behind [] fs i h = rw (add-zero i) h
  spells_behind (e ∷ es) fs i h = let z : i + suc (length es) ≡ suc i + length es = omega arith in rw z (spells_behind es fs (suc i) h.2)

  -- an entry with the role and the name is found where the names with the role have it
  named_found : (role : ℕ) (n : Name) (es : List Entry) (i : ℕ) → Spells text tape i es → found (is_named text tape role n) i (length es) ≡ member n (names_with (is_role role) es)
  unfolding found is_named names_with member pick
  named_found role n [] i h = refl
  named_found role n (e ∷ es) i h = rw (h.0, h.1) (go (eqb e.role role) (named_found role n es (suc i) h.2))
    where
      go : (b : Bool) → found (is_named text tape role n) (suc i) (length es) ≡ member n (names_with (is_role role) es)
          → pick (pick b (same n e.name) false) true (found (is_named text tape role n) (suc i) (length es)) ≡ member n (pick b (e.name ∷ names_with (is_role role) es) (names_with (is_role role) es))
      go true q = rw q
      go false q = q

  pub first_found : (p : ℕ → Bool) (c i e : ℕ) → e - i ≡ c → ltb (first_of p i c) e ≡ found p i c
  unfolding first_of found pick
  first_found p zero i e h = le-ltb i e (omega arith)
  first_found p (suc c) i e h = go (p i) (first_found p c (suc i) e (omega arith))
    where
      go : (b : Bool) → ltb (first_of p (suc i) c) e ≡ found p (suc i) c → ltb (pick b i (first_of p (suc i) c)) e ≡ pick b true (found p (suc i) c)
      go true q = lt-ltb i e (omega arith)
      go false q = q

  pub place_found : (own : Own) (role : ℕ) (n : Name) (es : List Entry) → own.end ≡ own.from + length es → Spells text tape own.from es
      → ltb (place_of text tape own role n) own.end ≡ member n (names_with (is_role role) es)
  unfolding place_of
  place_found own role n es e h =
      let z : own.end - own.from ≡ length es = omega arith in
      rw z (first_found (is_named text tape role n) (length es) own.from own.end z ∙ named_found role n es own.from h)

  -- ---- where an entry of a module is from

  role_above : (k : ℕ) (es : List Entry) (i j : ℕ) → Above k es → Spells text tape i es → j < length es → k ≤ role_at tape (i + j)
  role_above k [] i j h l n = absurd (omega arith)
  role_above k (e ∷ es) i zero h l n = rw (add-zero i, l.0) h.0
  role_above k (e ∷ es) i (suc j) h l n =
      let z : i + suc j ≡ suc i + j = omega arith in rw z (role_above k es (suc i) j h.1 l.2 (omega arith))

  last_there : (role a : ℕ) → role_at tape a ≡ role → last_with role tape a ≡ a
  unfolding last_with pick
  last_there role zero h = refl
  last_there role (suc a) h = rw (eq-eqb (role_at tape (suc a)) role h)

  -- back over entries with higher roles
  pub last_over : (role a : ℕ) (es : List Entry) → role_at tape a ≡ role → Above (suc role) es → Spells text tape (suc a) es → (j : ℕ) → j ≤ length es → last_with role tape (a + j) ≡ a
  unfolding last_with pick
  last_over role a es h l s zero n = rw (add-zero a) (last_there role a h)
  last_over role a es h l s (suc j) n =
      let z : a + suc j ≡ suc (a + j) = omega arith in
      let y : suc a + j ≡ suc (a + j) = omega arith in
      let high : suc role ≤ role_at tape (suc (a + j)) = rw y at (role_above (suc role) es (suc a) j l s (omega arith)) in
      rw (z, ne_eqb (role_at tape (suc (a + j))) role (λ q. omega arith)) (last_over role a es h l s j (omega arith))

  -- the home of a module's entry is the module
  pub home_there : (m : Module) (a d : ℕ) → Spells text tape a (flat_module m) → a ≤ d → d < a + length (flat_module m) → name_of text (home_at tape d) ≡ m.name
  unfolding home_at flat_module behind_name
  home_there m a d h l n =
      let z : a + (d - a) ≡ d = omega arith in
      let e : last_with module_role tape d ≡ a = rw z at (last_over module_role a (behind_name m) h.0 (all_behind (λ (r : ℕ). 2 ≤ r) (λ r k. k) m) h.2 (d - a) (omega arith)) in
      rw e h.1

-- ---- a tape spells its entries

spells_shift : (text tape : List ℕ) (w : ℕ) (es : List Entry) (i : ℕ) → Spells text tape i es → Spells text (w ∷ tape) (suc i) es
spells_shift text tape w [] i h = tt
spells_shift text tape w (e ∷ es) i h = (h.0, h.1, spells_shift text tape w es (suc i) h.2)

pub entries_spelled : (text tape : List ℕ) (n : ℕ) → Spells text tape 0 (entries text n tape)
unfolding entries spelled
entries_spelled text tape zero = tt
entries_spelled text [] (suc n) = tt
entries_spelled text (w ∷ tape) (suc n) = (refl, refl, spells_shift text tape w (entries text n tape) 0 (entries_spelled text tape n))
