-- What is told of two tapes is what the decision says of the modules that they spell (ask_decision/specs/Decide.antt).
use Rattle.std.specs.Prelude.{◌≡◌, refl, ℕ, Bool, true, false, List, eqb}
use Rattle.std.proofs.Math.Path.{ap}
use Rattle.std.proofs.Common.{◌∙◌}
use Rattle.std.proofs.Math.Bool.{not, ◌&&◌}
use Rattle.std.proofs.Math.Option.{Option}
use Rattle.meaning.specs.Lists.{pick, agree, first_some}
use Rattle.meaning.specs.Names.{Name, member}
use Rattle.meaning.specs.Syntax.{Module}
use Rattle.meaning.specs.Evaluate.{named_by, missing, too_late}
use Rattle.meaning.specs.Reached.{Placed, module_names}
use Rattle.ask_decision.specs.Same.{same_module}
use Rattle.ask_decision.specs.Decide.{Why, otherwise, itself_changed, shown_changed, alike, name_changed, names_changed}
use Rattle.ask_tape.specs.Compared.{modules_compared, parameters_compared, exports_compared, imports_compared}
use Rattle.ask_alike.specs.Alike.{same_entry}
use Rattle.modules.specs.Modules.{Heads}
use Rattle.modules.specs.ModuleLaws.{Spells}
use Rattle.ask_objections.specs.Objections.{module_entries, otherwise_at, itself_at, section_at, shown_at, used_alike, name_objection, names_at, objection_at}
use Rattle.ask_objections.specs.Spelled.{PlacedIn, module_spelled, name_spelled, parameters_spelled, exports_spelled, imports_spelled, names_spelled, stands_as}

-- what the decision looks for in a pass; d and d' are all modules' names
unfoldable pub objection_of : Name → List Name → List Name → ℕ → Placed → Placed → Option Why
objection_of asked d d' pass x x' =
    let names = names_changed d d' x x' in
    let shown = pick (eqb pass 2) (shown_changed x x') names in
    let itself = pick (eqb pass 1) (itself_changed asked x x') shown in
    pick (eqb pass 0) (otherwise x x') itself

-- two standings are one where names are missing and late alike; c, e and their like: there is such a module, and an earlier one
standings : (c e c' e' : Bool)
    → eqb (pick (not c) 0 (pick (c && not e) 1 2)) (pick (not c') 0 (pick (c' && not e') 1 2))
    ≡ pick (alike (not c) (not c')) (alike (c && not e) (c' && not e')) false
unfolding alike not ◌&&◌ pick
standings false e false e' = refl
standings false e true true = refl
standings false e true false = refl
standings true true false e' = refl
standings true false false e' = refl
standings true true true true = refl
standings true true true false = refl
standings true false true true = refl
standings true false true false = refl

module _
    (text tape : List ℕ) (t : ℕ) (ms : List Module) (h : Heads) (s : Spells text tape t ms h)
    (other new : List ℕ) (t' : ℕ) (ms' : List Module) (h' : Heads) (s' : Spells other new t' ms' h')
    (x x' : Placed) (p : PlacedIn ms x) (p' : PlacedIn ms' x')
  where
    pub module_meant : agree same_entry (module_entries text tape h x.number) (module_entries other new h' x'.number) ≡ same_module x.self x'.self
    module_meant = rw (module_spelled text tape t ms h s x p, module_spelled other new t' ms' h' s' x' p') (modules_compared x.self x'.self)

    otherwise_meant : otherwise_at text tape h other new h' x.number x'.number ≡ otherwise x x'
    unfolding otherwise_at otherwise
    otherwise_meant = rw (name_spelled text tape t ms h s x p, name_spelled other new t' ms' h' s' x' p')

    itself_meant : (asked : Name) → itself_at text tape h other new h' asked x.number x'.number ≡ itself_changed asked x x'
    unfolding itself_at itself_changed
    itself_meant asked = rw (name_spelled text tape t ms h s x p, module_meant)

    shown_meant : shown_at text tape h other new h' x.number x'.number ≡ shown_changed x x'
    unfolding shown_at section_at shown_changed
    shown_meant = rw (
      name_spelled text tape t ms h s x p,
      parameters_spelled text tape t ms h s x p,
      parameters_spelled other new t' ms' h' s' x' p',
      exports_spelled text tape t ms h s x p,
      exports_spelled other new t' ms' h' s' x' p',
      imports_spelled text tape t ms h s x p,
      imports_spelled other new t' ms' h' s' x' p',
      parameters_compared x.self.parameters x'.self.parameters,
      exports_compared x.self.exports x'.self.exports,
      imports_compared x.self.imports x'.self.imports,
    )

    abbrev d : List Name
    d = module_names ms

    abbrev d' : List Name
    d' = module_names ms'

    name_meant : (w : Name) → name_objection text tape h other new h' x.number x'.number w ≡ name_changed d d' x x' w
    unfolding name_objection used_alike name_changed missing too_late
    name_meant w = rw (
      name_spelled text tape t ms h s x p,
      stands_as text tape t ms h s x p w,
      stands_as other new t' ms' h' s' x' p' w,
      standings (member w d) (member w x.earlier) (member w d') (member w x'.earlier),
    )

    names_meant : names_at text tape h other new h' x.number x'.number ≡ names_changed d d' x x'
    unfolding names_at names_changed
    names_meant =
        ap (first_some (name_objection text tape h other new h' x.number x'.number)) (names_spelled text tape t ms h s x p)
        ∙ ap (λ (f : Name → Option Why). first_some f (named_by x.self)) (λ i w. name_meant w i)

    pub objection_meant : (asked : Name) (pass : ℕ)
        → objection_at text tape h other new h' asked pass x.number x'.number ≡ objection_of asked d d' pass x x'
    unfolding objection_at objection_of
    objection_meant asked pass = rw (otherwise_meant, itself_meant asked, shown_meant, names_meant)
