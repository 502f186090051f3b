-- The visible part of an accepted module: from its name, parameters, exports and imports alone.
use Rattle.std.specs.Prelude.{◌≡◌, ℕ, Bool, true, false, not}
use Rattle.std.proofs.Math.Path.{refl, ap, ap₂}
use Rattle.std.proofs.Common.{sym, ◌∙◌, arith}
use Rattle.std.proofs.Math.Option.{Option, none, some}
use mathlib.Core.List.{List, [], ◌∷◌, ◌++◌, map}
use Rattle.std.proofs.lemmas.Bool.{not-false}
use Rattle.meaning.specs.Lists.{pick, or_else, first_some, each, union}
use Rattle.meaning.specs.Names.{Name, member}
use Rattle.meaning.specs.Numbers.{bad_sort}
use Rattle.meaning.specs.Syntax.{Function, Signature, Parameter, Module}
use Rattle.meaning.specs.Origins.{Section, Item, export_section, parameter_section, function_shape, one_item}
use Rattle.meaning.specs.Normal.{Visible}
use Rattle.meaning.specs.Written.{visible_in_order}
use Rattle.meaning.specs.Checks.{Check, fine}
use Rattle.meaning.specs.Own.{resolved, function_type, own_sort, own_function, own_section, own_slot, own_visible, lacking, parameter_functions, available_sorts}
use Rattle.meaning.specs.Evaluate.{seen_sorts, joined_visible, own_checks}
use Rattle.meaning.specs.OrderLaws.{Every, any_none}
use Rattle.meaning.specs.OutcomeLaws.{fine_same, then_fine, bind_fine, unless_fine}
use Rattle.meaning.specs.VisiblyLaws.{Seen, imported_visibly, joined_visibly, evaluate_visibly}
use Rattle.laws.specs.EveryLaws.{every_so, every_split}

-- a module without what it hides
abbrev pub shown_only : Module → Module
shown_only m = record {
  name = m.name;
  parameters = m.parameters;
  exports = m.exports;
  imports = m.imports;
  hidden = record { sorts = []; functions = [] };
  groups = [];
  equations = [];
}

-- ---- lists

pub map_agree : {A B : Type 0} (g h : A → B) (xs : List A) → Every (λ x. g x ≡ h x) xs → map g xs ≡ map h xs
map_agree g h [] e = refl
map_agree g h (x ∷ xs) e = ap₂ ◌∷◌ e.0 (map_agree g h xs e.1)

none_each : {A B : Type 0} (f : A → Option B) (xs : List A) → first_some f xs ≡ none → Every (λ x. f x ≡ none) xs
unfolding first_some or_else
none_each f [] e = tt
none_each {A} {B} f (x ∷ xs) e = go (f x) refl e (none_each f xs)
  where
    go : (o : Option B) → f x ≡ o → or_else o (first_some f xs) ≡ none → (first_some f xs ≡ none → Every (λ x. f x ≡ none) xs)
        → Every (λ x. f x ≡ none) (x ∷ xs)
    go none q e later = (q, later e)
    go (some b) q e later = let z : ◌≡◌ {A = ℕ} 0 1 = cc in absurd (omega arith)

pub pick_none : {A : Type 0} (b : Bool) (a : A) (more : Option A) → pick b (some a) more ≡ none → (b ≡ false) × (more ≡ none)
unfolding pick
pick_none true a more e = let z : ◌≡◌ {A = ℕ} 0 1 = cc in absurd (omega arith)
pick_none false a more e = (refl, e)

-- ---- where no sort is lacking, none of the types that are shown has a hidden sort of the module's own

module _ (m : Module) (seen : List Name) where
  resolved_shown : (s : Name) → not (member s seen) ≡ false → resolved m seen s ≡ resolved (shown_only m) seen s
  unfolding resolved pick
  resolved_shown s e = rw (not-false (member s seen) e)

  function_shown : (sec : Section) (f : Function) → lacking seen f ≡ none → own_function m seen sec f ≡ own_function (shown_only m) seen sec f
  unfolding own_function function_type lacking
  function_shown sec f e =
      let sorts = every_so _ _ (f.output ∷ f.inputs) resolved_shown (any_none _ (f.output ∷ f.inputs) (pick_none _ f.name none e).0) in
      λ i. record {
        standing = sec;
        name = f.name;
        shape = function_shape (record { inputs = map_agree (resolved m seen) (resolved (shown_only m) seen) f.inputs sorts.1 i; output = sorts.0 i });
        origin = (own_function m seen sec f).origin;
      }

  section_shown : (sec : Section) (g : Signature) → Every (λ f. lacking seen f ≡ none) g.functions
      → own_section m seen sec g ≡ own_section (shown_only m) seen sec g
  unfolding own_section own_sort
  section_shown sec g h =
      ap (λ (is : List Item). map (own_sort m seen sec) g.sorts ++ is)
      (map_agree (own_function m seen sec) (own_function (shown_only m) seen sec) g.functions (every_so _ _ g.functions (function_shown sec) h))

  parameters_shown : (ps : List Parameter) → Every (λ f. lacking seen f ≡ none) (parameter_functions ps)
      → each (λ (p : Parameter). own_section m seen (parameter_section p.name) p.signature) ps
      ≡ each (λ (p : Parameter). own_section (shown_only m) seen (parameter_section p.name) p.signature) ps
  unfolding parameter_functions each
  parameters_shown [] h = refl
  parameters_shown (p ∷ ps) h =
      let r = every_split _ p.signature.functions (parameter_functions ps) h in
      ap₂ (λ (xs ys : List Item). xs ++ ys) (section_shown (parameter_section p.name) p.signature r.0) (parameters_shown ps r.1)

  pub own_shown : available_sorts m seen ≡ fine tt → own_visible m seen ≡ own_visible (shown_only m) seen
  unfolding available_sorts own_visible own_slot
  own_shown e =
      let h = then_fine _ _ tt e in
      let k = then_fine _ _ tt h.1 in
      λ i. record {
        parameters = (own_visible m seen).parameters;
        items =
            parameters_shown m.parameters (none_each _ _ (unless_fine bad_sort _ h.0)) i
            ++ section_shown export_section m.exports (none_each _ _ (unless_fine bad_sort _ k.0)) i;
      }

-- ---- an accepted module

-- u is what the module shows: what its imports show, and what is its own without what it hides
pub record Shows (env : List Seen) (m : Module) (u : Visible) : Type 0 where
  pub imported : Visible
  pub from_imports : imported_visibly env m.imports ≡ fine imported
  pub whole : u ≡ visible_in_order (joined_visible (shown_only m) imported)

joined_shown : (m : Module) (v u : Visible) → joined_visibly m v ≡ fine u → u ≡ visible_in_order (joined_visible (shown_only m) v)
unfolding joined_visibly own_checks joined_visible seen_sorts
joined_shown m v u e =
    let h = then_fine _ _ u e in
    let k = then_fine _ _ tt h.0 in
    let a = then_fine _ _ tt k.1 in
    let r = then_fine _ _ u h.1 in
    let own = own_shown m (seen_sorts m v) a.0 in
    sym (fine_same _ u r.1)
    ∙ (λ i. visible_in_order (record { parameters = v.parameters ++ (own i).parameters; items = union one_item v.items (own i).items }))

pub accepted_shows : (names : Check) (env : List Seen) (m : Module) (u : Visible) → evaluate_visibly names env m ≡ fine u → Shows env m u
unfolding evaluate_visibly
accepted_shows names env m u e =
    let a = then_fine _ _ u e in
    let b = then_fine _ _ u a.1 in
    let g = bind_fine _ _ u b.1 in
    record { imported = g.0; from_imports = g.1; whole = joined_shown m g.0 u g.2 }
