-- A module's own parameters by places are the meaning's (meaning/specs/Own.antt).
use Rattle.std.specs.Prelude.{◌≡◌, refl, Bool, true, false, List, [], ◌∷◌, ◌++◌, map, ℕ, suc, ◌+◌, ◌-◌, ◌<◌, ◌≤◌, eqb, length}
use Rattle.std.proofs.Common.{ap, ap₂, ◌∙◌, append-nil, arith, ne_eqb}
use Rattle.meaning.specs.Lists.{pick, each}
use Rattle.meaning.specs.Names.{Name}
use Rattle.meaning.specs.Syntax.{Parameter, Module}
use Rattle.meaning.specs.Normal.{Slot, Visible}
use Rattle.meaning.specs.Own.{own_slot}
use Rattle.meaning.specs.Evaluate.{seen_sorts}
use Rattle.tape.specs.Roles.{behind_parameters, all_signature, all_behind_parameters}
use Rattle.text_names.specs.Word.{name_of}
use Rattle.tape.specs.Tape.{Entry, flat_signature, flat_parameter, flat_module, parameter_sort, parameter_function}
use Rattle.form_rows.specs.Entries.{home_at}
use Rattle.form_walks.specs.Flat.{names_with, names_append, names_none}
use Rattle.own_declarations.specs.Spelled.{Spells, is_role, home_there}
use Rattle.own_declarations.specs.DeclarationLaws.{Stands}
use Rattle.own_declarations.specs.declared.Own.{Own}
use Rattle.own_items.specs.Parameters.{declared_slot, declared_slots}

-- the parameter of that name that the module declares
abbrev of_module : Name → Name → Slot
of_module home a = record { name = a; home = home }

slots_spelled : (text tape : List ℕ) (home : Name) (es : List Entry) (i : ℕ) → Spells text tape i es
    → ((d : ℕ) → i ≤ d → d < i + length es → name_of text (home_at tape d) ≡ home)
    → declared_slots text tape i (length es) ≡ map (of_module home) (names_with (is_role 2) es)
unfolding declared_slots declared_slot names_with pick
slots_spelled text tape home [] i h k = refl
slots_spelled text tape home (e ∷ es) i h k =
    rw (h.0, h.1, k i (omega arith) (omega arith), slots_spelled text tape home es (suc i) h.2 (λ d l n. k d (omega arith) (omega arith)))
    (go (eqb e.role 2))
  where
    go : (b : Bool) → pick b (of_module home e.name ∷ map (of_module home) (names_with (is_role 2) es)) (map (of_module home) (names_with (is_role 2) es))
        ≡ map (of_module home) (pick b (e.name ∷ names_with (is_role 2) es) (names_with (is_role 2) es))
    go true = refl
    go false = refl

names_parameters : (ps : List Parameter) → names_with (is_role 2) (each flat_parameter ps) ≡ map (λ (p : Parameter). p.name) ps
unfolding each flat_parameter names_with pick
names_parameters [] = refl
names_parameters (p ∷ ps) =
    names_append (is_role 2) (flat_parameter p) (each flat_parameter ps)
    ∙ ap₂ (λ (x y : List Name). x ++ y)
    (ap (λ (x : List Name). p.name ∷ x)
    (names_none (is_role 2) (flat_signature parameter_sort parameter_function p.signature)
    (all_signature (λ (r : ℕ). is_role 2 r ≡ false) 3 4 refl refl refl refl p.signature)))
    (names_parameters ps)

names_module : (m : Module) → names_with (is_role 2) (flat_module m) ≡ map (λ (p : Parameter). p.name) m.parameters
unfolding flat_module names_with pick
names_module m =
    names_append (is_role 2) (each flat_parameter m.parameters) (behind_parameters m)
    ∙ ap₂ (λ (x y : List Name). x ++ y) (names_parameters m.parameters)
    (names_none (is_role 2) (behind_parameters m) (all_behind_parameters (λ (r : ℕ). is_role 2 r ≡ false) (λ r h. ne_eqb r 2 (λ q. omega arith)) m))
    ∙ append-nil (map (λ (p : Parameter). p.name) m.parameters)

slots_named : (m : Module) (seen : List Name) (ps : List Parameter) → map (of_module m.name) (map (λ (p : Parameter). p.name) ps) ≡ map (own_slot m seen) ps
unfolding own_slot
slots_named m seen [] = refl
slots_named m seen (p ∷ ps) = ap (of_module m.name p.name ∷◌) (slots_named m seen ps)

-- the parameters by places are those of the module that the entries spell
pub parameters_told : (text tape w : List ℕ) (own : Own) (m : Module) (v : Visible) → Stands text tape w own m v
    → declared_slots text tape own.from (own.end - own.from) ≡ map (own_slot m (seen_sorts m v)) m.parameters
parameters_told text tape w own m v s =
    let z : own.end - own.from ≡ length (flat_module m) = omega (arith, s.end) in
    rw z
    (slots_spelled text tape m.name (flat_module m) own.from s.entries (λ d l n. home_there text tape m own.from d s.entries l n)
    ∙ ap (map (of_module m.name)) (names_module m)
    ∙ slots_named m (seen_sorts m v) m.parameters)
