-- Where the entries of module k stand: from its head up to the next one, or to the end of the tape.
use Rattle.std.specs.Prelude.{◌≡◌, ℕ, ◌+◌, ◌≤◌, length, take, drop}
use Rattle.std.proofs.Common.{sym, ◌∙◌, arith, take-append-drop, length-append, length-take-le, drop_at}
use Rattle.std.proofs.Math.Path.{ap, subst}
use mathlib.Core.List.{List, [], ◌∷◌, ◌++◌, append_assoc}
use Rattle.std.proofs.Math.ListN.{get_or}
use Rattle.meaning.specs.OrderLaws.{Every, every_middle}
use Rattle.meaning.specs.Syntax.{Module}
use Rattle.invariants.specs.Limits.{Limited}
use Rattle.tape.specs.Tape.{flat_module, flat_modules}
use Rattle.form_rows.specs.Entries.{role_at}
use Rattle.modules.specs.Modules.{Heads}
use Rattle.modules.specs.ModuleLaws.{heads_number, begin, end}
use Rattle.modules.specs.ModuleLaws.{Spells as Says}
use Rattle.modules.specs.ReachedLaws.{drop_some}
use Rattle.own_declarations.specs.Spelled.{Spells}
use Rattle.own_equations.specs.Placed.{module_spelled}
use Rattle.imports.specs.Spelling.{no_entry}
use Rattle.evaluate_module.specs.Places.{ModuleAt, Other, low_other}
use Rattle.evaluate_module.specs.Sofar.{Told}

module _ (ms ys : List Module) (k : ℕ) (m : Module) (e : drop k ms ≡ m ∷ ys) where
  front_size : length (take k ms) ≡ k
  front_size = length-take-le k ms (omega (arith, drop_some k ms ys m e))

  pub split : ms ≡ take k ms ++ (m ∷ ys)
  split = sym (take-append-drop k ms) ∙ ap (λ (r : List Module). take k ms ++ r) e

  module _ (text tape : List ℕ) (t : ℕ) (h : Heads) (s : Says text tape t ms h) where
    pub begins_there : get_or h.places k 0 ≡ length (flat_modules (take k ms))
    begins_there = ap (λ (j : ℕ). get_or h.places j 0) (sym front_size) ∙ begin text tape t ms h s (take k ms) m ys split

    pub ends_there : get_or h.places (k + 1) 0 ≡ get_or h.places k 0 + length (flat_module m)
    ends_there =
        ap (λ (j : ℕ). get_or h.places (j + 1) 0) (sym front_size)
        ∙ end text tape t ms h s (take k ms) m ys split
        ∙ ap (λ (i : ℕ). i + length (flat_module m)) (sym begins_there)

module _ (text tape : List ℕ) (t : ℕ) (h : Heads) (ms : List Module) (told : Told text tape t h ms) where
  module _ (k : ℕ) (m : Module) (ys : List Module) (e : drop k ms ≡ m ∷ ys) where
    entries_there : Spells text tape (get_or h.places k 0) (flat_module m)
    entries_there =
        subst (λ (i : ℕ). Spells text tape i (flat_module m)) (sym (begins_there ms ys k m e text tape t h told.spells))
        (module_spelled text tape t (take k ms) ys m (told.spells.says ∙ ap flat_modules (split ms ys k m e)))

    next_there : drop (k + 1) ms ≡ ys
    next_there =
        let size : length (take k ms ++ (m ∷ [])) ≡ k + 1 = length-append (take k ms) (m ∷ []) ∙ ap (λ (j : ℕ). j + 1) (front_size ms ys k m e) in
        ap (drop (k + 1)) (split ms ys k m e ∙ sym (append_assoc (take k ms) (m ∷ []) ys)) ∙ drop_at (take k ms ++ (m ∷ [])) ys (k + 1) size

  -- a module's head is no entry of an import expression, and past the tape there is none
  other_behind : length tape ≤ t → (k : ℕ) (m : Module) (ys : List Module) → drop k ms ≡ m ∷ ys → Other (role_at tape (get_or h.places (k + 1) 0))
  unfolding flat_module
  other_behind short k m [] e =
      let number : k + 1 ≡ h.count = omega (arith, drop_some k ms [] m e, heads_number text tape t ms h told.spells) in
      let last : get_or h.places (k + 1) 0 ≡ t = ap (λ (j : ℕ). get_or h.places j 0) number ∙ told.spells.begun.ended in
      subst Other (sym (no_entry tape (get_or h.places (k + 1) 0) (omega arith))) (low_other 0 (omega arith))
  other_behind short k m (y ∷ ys) e =
      subst Other (sym (entries_there (k + 1) y ys (next_there k m (y ∷ ys) e)).0) (low_other 1 (omega arith))

  pub module_there : length tape ≤ t → (k : ℕ) (m : Module) (ys : List Module) → drop k ms ≡ m ∷ ys
      → ModuleAt text tape (get_or h.places k 0) (get_or h.places (k + 1) 0) m
  module_there short k m ys e = record {
    entries = entries_there k m ys e;
    whole = ends_there ms ys k m e text tape t h told.spells;
    limited = every_middle Limited (take k ms) ys m (subst (Every Limited) (split ms ys k m e) told.limited);
    after = other_behind short k m ys e;
  }
