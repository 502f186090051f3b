-- What evaluating one module comes to (meaning/specs/Evaluate.antt, `evaluate`).
use Rattle.std.specs.Prelude.{◌≡◌, ℕ, ◌+◌, List, ◌∷◌, drop, Result, Ok, Err}
use Rattle.meaning.specs.Names.{Name}
use Rattle.meaning.specs.Syntax.{Module}
use Rattle.meaning.specs.Normal.{Normal}
use Rattle.meaning.specs.Checks.{Outcome, fine, stop}
use Rattle.meaning.specs.Evaluate.{Evaluated, evaluate}
use Rattle.meaning.specs.Reached.{total_of, module_names}
use Rattle.form.specs.declared.Refusal.{Refusal}
use Rattle.form.specs.Verdicts.{culprit_of}
use Rattle.modules.specs.Modules.{Heads}
use Rattle.modules.specs.Meant.{Earlier}
use Rattle.evaluate_states.specs.declared.State.{State}
use Rattle.evaluate_module.specs.Sofar.{Ready, Sofar}

-- the module m is evaluated, with this normal form
abbrev pub evaluated_as : Module → Normal → Evaluated
evaluated_as m n = record { name = m.name; normal = n }

-- its outcome is a normal form, which is kept, and the next module may follow
pub record KeptMeant (text : List ℕ) (t : ℕ) (w' : List ℕ) (h : Heads) (k : ℕ) (r : State) (ms : List Module) (env : List Evaluated) (m : Module)
    (outcome : Outcome Normal) : Type 0 where
  pub normal : Normal
  pub fine_so : outcome ≡ fine normal
  pub ready : Ready t w' h (k + 1) r
  pub sofar : Sofar text t w' h r ms (evaluated_as m normal ∷ env)

-- how it ends: with what is kept then, or the refusal
abbrev pub Stepped : Type 0
Stepped = Result State Refusal

abbrev pub StepMeant : List ℕ → ℕ → List ℕ → Heads → ℕ → List Module → List Evaluated → Module → Outcome Normal → Stepped → Type 0
StepMeant text t w' h k ms env m outcome (Ok r) = KeptMeant text t w' h k r ms env m outcome
StepMeant text t w' h k ms env m outcome (Err y) = outcome ≡ stop y.number (culprit_of text y.culprit)

-- for whatever modules the tape spells, and whichever of them are evaluated
pub record Stepping (text : List ℕ) (t : ℕ) (w : List ℕ) (h : Heads) (k : ℕ) (s : State) (r : Stepped) (w' : List ℕ) : Type 0 where
  pub meant : (ms : List Module) (env : List Evaluated) (m : Module) (ys : List Module) (earlier : List Name) → Sofar text t w h s ms env
      → drop k ms ≡ m ∷ ys → Earlier (module_names ms) k earlier
      → StepMeant text t w' h k ms env m (evaluate (module_names ms) earlier k (total_of env) env m) r
