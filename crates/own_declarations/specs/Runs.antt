-- A module's entries part by part, and what is told of them place by place: it is told of the parts in turn.
use Rattle.std.specs.Prelude.{◌≡◌, refl, List, [], ◌∷◌, ◌++◌, ℕ, zero, suc, ◌+◌, length}
use Rattle.std.proofs.Common.{sym, ap, ◌∙◌, add-zero, arith, length-append}
use Rattle.meaning.specs.Lists.{each}
use Rattle.meaning.specs.Syntax.{Module}
use Rattle.meaning.specs.Checks.{Check, fine, stop, ◌>>◌}
use Rattle.tape.specs.Roles.{All}
use Rattle.tape.specs.Tape.{Entry, flat_signature, flat_parameter, flat_import, flat_group, flat_equation, flat_module, module_role, export_sort, export_function, hidden_sort, hidden_function}
use Rattle.form_rows.specs.Entries.{role_at}
use Rattle.own_repeats.specs.Scans.{walked}
use Rattle.own_declarations.specs.Spelled.{Spells, spells_front, spells_behind}

-- ---- the parts of a module that stands from place a on

abbrev pub parameters_of : Module → List Entry
parameters_of m = each flat_parameter m.parameters

abbrev pub exports_of : Module → List Entry
exports_of m = flat_signature export_sort export_function m.exports

abbrev pub imports_of : Module → List Entry
imports_of m = each flat_import m.imports

abbrev pub hidden_of : Module → List Entry
hidden_of m = flat_signature hidden_sort hidden_function m.hidden

abbrev pub groups_of : Module → List Entry
groups_of m = each flat_group m.groups

abbrev pub equations_of : Module → List Entry
equations_of m = each flat_equation m.equations

module _ (a : ℕ) (m : Module) where
  abbrev pub at_exports : ℕ
  at_exports = suc a + length (parameters_of m)

  abbrev pub at_imports : ℕ
  at_imports = at_exports + length (exports_of m)

  abbrev pub at_hidden : ℕ
  at_hidden = at_imports + length (imports_of m)

  abbrev pub at_groups : ℕ
  at_groups = at_hidden + length (hidden_of m)

  abbrev pub at_equations : ℕ
  at_equations = at_groups + length (groups_of m)

pub record Parts (text tape : List ℕ) (a : ℕ) (m : Module) : Type 0 where
  pub head : role_at tape a ≡ module_role
  pub parameters : Spells text tape (suc a) (parameters_of m)
  pub exports : Spells text tape (at_exports a m) (exports_of m)
  pub imports : Spells text tape (at_imports a m) (imports_of m)
  pub hidden : Spells text tape (at_hidden a m) (hidden_of m)
  pub groups : Spells text tape (at_groups a m) (groups_of m)
  pub equations : Spells text tape (at_equations a m) (equations_of m)
  pub end : at_equations a m + length (equations_of m) ≡ a + length (flat_module m)

pub parts : (text tape : List ℕ) (a : ℕ) (m : Module) → Spells text tape a (flat_module m) → Parts text tape a m
unfolding flat_module
parts text tape a m s =
    let behind_hidden = groups_of m ++ equations_of m in
    let behind_imports = hidden_of m ++ behind_hidden in
    let behind_exports = imports_of m ++ behind_imports in
    let behind_parameters = exports_of m ++ behind_exports in
    let k₁ = spells_behind text tape (parameters_of m) behind_parameters (suc a) s.2 in
    let k₂ = spells_behind text tape (exports_of m) behind_exports (at_exports a m) k₁ in
    let k₃ = spells_behind text tape (imports_of m) behind_imports (at_imports a m) k₂ in
    let k₄ = spells_behind text tape (hidden_of m) behind_hidden (at_hidden a m) k₃ in
    record {
      head = s.0;
      parameters = spells_front text tape (parameters_of m) behind_parameters (suc a) s.2;
      exports = spells_front text tape (exports_of m) behind_exports (at_exports a m) k₁;
      imports = spells_front text tape (imports_of m) behind_imports (at_imports a m) k₂;
      hidden = spells_front text tape (hidden_of m) behind_hidden (at_hidden a m) k₃;
      groups = spells_front text tape (groups_of m) (equations_of m) (at_groups a m) k₄;
      equations = spells_behind text tape (groups_of m) (equations_of m) (at_groups a m) k₄;
      end =
          omega (
            arith,
            length-append (parameters_of m) behind_parameters,
            length-append (exports_of m) behind_exports,
            length-append (imports_of m) behind_imports,
            length-append (hidden_of m) behind_hidden,
            length-append (groups_of m) (equations_of m),
          );
    }

-- ---- told place by place: at no place `none`, and what is told of a place is joined to what is told of those behind it

pub record Walks {M : Type 0} (join : M → M → M) (none : M) (tell : ℕ → M) (walk : ℕ → ℕ → M) : Type 0 where
  pub unit : (x : M) → join none x ≡ x
  pub assoc : (x y z : M) → join (join x y) z ≡ join x (join y z)
  pub empty : (i : ℕ) → walk i 0 ≡ none
  pub more : (i c : ℕ) → walk i (suc c) ≡ join (tell i) (walk (suc i) c)

module _ {M : Type 0} {join : M → M → M} {none : M} {tell : ℕ → M} {walk : ℕ → ℕ → M} (w : Walks join none tell walk) where
  walk_split : (c d i : ℕ) → walk i (c + d) ≡ join (walk i c) (walk (i + c) d)
  walk_split zero d i = let z : 0 + d ≡ d = omega arith in rw (z, w.empty i, add-zero i) (sym (w.unit (walk i d)))
  walk_split (suc c) d i =
      let z : suc c + d ≡ suc (c + d) = omega arith in
      let y : i + suc c ≡ suc i + c = omega arith in
      rw (z, y, w.more i (c + d), w.more i c)
      (ap (join (tell i)) (walk_split c d (suc i)) ∙ sym (w.assoc (tell i) (walk (suc i) c) (walk (suc i + c) d)))

  pub walk_append : (es fs : List Entry) (i : ℕ) → walk i (length (es ++ fs)) ≡ join (walk i (length es)) (walk (i + length es) (length fs))
  walk_append es fs i = rw (length-append es fs) (walk_split (length es) (length fs) i)

  -- entries of which nothing is told
  pub quiet_run : (P : ℕ → Type 0) (text tape : List ℕ) → ((j : ℕ) → P (role_at tape j) → tell j ≡ none) → (es : List Entry) (i : ℕ) → All P es
      → Spells text tape i es → walk i (length es) ≡ none
  quiet_run P text tape q [] i h s = w.empty i
  quiet_run P text tape q (e ∷ es) i h s =
      w.more i (length es) ∙ ap (λ (x : M). join x (walk (suc i) (length es))) (q i (rw s.0 h.0)) ∙ w.unit (walk (suc i) (length es))
      ∙ quiet_run P text tape q es (suc i) h.1 s.2

  pub walk_module : (a : ℕ) (m : Module)
      → walk a (length (flat_module m))
      ≡ join (tell a) (join (walk (suc a) (length (parameters_of m)))
      (join (walk (at_exports a m) (length (exports_of m))) (join (walk (at_imports a m) (length (imports_of m)))
      (join (walk (at_hidden a m) (length (hidden_of m)))
      (join (walk (at_groups a m) (length (groups_of m))) (walk (at_equations a m) (length (equations_of m))))))))
  unfolding flat_module
  walk_module a m =
      rw (
        w.more a,
        walk_append (parameters_of m),
        walk_append (exports_of m),
        walk_append (imports_of m),
        walk_append (hidden_of m),
        walk_append (groups_of m),
      )

-- ---- checks one after the other, up to the first refusal

pub then_fine : (c : Check) → (c >> fine tt) ≡ c
unfolding ◌>>◌
then_fine (fine tt) = refl
then_fine (stop k w) = refl

pub then_then : (a b c : Check) → ((a >> b) >> c) ≡ (a >> (b >> c))
unfolding ◌>>◌
then_then (fine tt) b c = refl
then_then (stop k w) b c = refl

pub check_walks : (f : ℕ → Check) → Walks ◌>>◌ (fine tt) f (walked f)
unfolding walked ◌>>◌
check_walks f = record { unit = λ c. refl; assoc = then_then; empty = λ i. refl; more = λ i c. refl }

pub walked_append : (f : ℕ → Check) (es fs : List Entry) (d : ℕ) → walked f d (length (es ++ fs)) ≡ (walked f d (length es) >> walked f (d + length es) (length fs))
walked_append f es fs d = walk_append (check_walks f) es fs d
