-- Steps 1 to 3, and the union of step 4: what a module imports, if its names are right and each thing is declared once.
use Rattle.std.specs.Prelude.{◌≡◌, ℕ, ◌+◌, ◌-◌, ◌≤◌, List, [], ◌∷◌, ◌++◌, get_or, drop, Ok, Err}
use Rattle.std.proofs.Common.{sym, ◌∙◌, arith, le_trans, length-append, length-take}
use Rattle.std.proofs.Math.Path.{ap}
use Rattle.std.proofs.Math.ListN.{length}
use Rattle.meaning.specs.Lists.{each}
use Rattle.meaning.specs.Names.{Name}
use Rattle.meaning.specs.OrderLaws.{Every}
use Rattle.meaning.specs.Syntax.{Clause, Import, Module}
use Rattle.meaning.specs.Normal.{Normal}
use Rattle.meaning.specs.Checks.{Check, Outcome, ◌>>◌}
use Rattle.meaning.specs.Evaluate.{Evaluated, named_by, names_right, declared_once, imported}
use Rattle.meaning.specs.Reached.{module_names}
use Rattle.tape.specs.Tape.{flat_clause, flat_import, flat_module}
use Rattle.form.specs.declared.Refusal.{Refusal}
use Rattle.form.specs.Memory.{part, Kept}
use Rattle.form.specs.FormLaws.{kept_all}
use Rattle.form.specs.Blocks.{Makes, MadeIn}
use Rattle.form.specs.Verdicts.{Verdict, Made, culprit_of, told}
use Rattle.form_layout.specs.Layout.{joining_block, second_block}
use Rattle.modules.specs.Modules.{declared, Heads}
use Rattle.modules.specs.Meant.{Earlier, names_told}
use Rattle.own_declarations.specs.ItemLaws.{few_inputs}
use Rattle.own_declarations.specs.OnceLaws.{once_by_places}
use Rattle.unite_checks.specs.Made.{makes_as, refused_makes, stops, goes_on}
use Rattle.form_keeping.specs.Environment.{EnvStands}
use Rattle.imports.specs.Clausal.{Ground}
use Rattle.imports.specs.Spelling.{clause_entries}
use Rattle.imports.specs.Expressions.{FewClauses}
use Rattle.evaluate_module.specs.Steps.{first_checks, ImportedRoom, Imported}
use Rattle.evaluate_module.specs.Places.{ModuleAt, module_parts, ahead, rest, imports_there}
use Rattle.evaluate_module.specs.Sofar.{Told}
use Rattle.evaluate_module.specs.Heads.{module_there}

-- ---- the meaning

-- steps 1 and 2
abbrev first_steps : List Name → List Name → Module → Check
first_steps declared earlier m = names_right declared earlier (named_by m) >> declared_once m

-- what M imports, if they pass
unfoldable pub begun : List Name → List Name → List Evaluated → Module → Outcome Normal
begun declared earlier env m = first_steps declared earlier m >> imported env m.imports

-- ---- what it asks of the memory, and what comes of it

pub record StartedRoom (w : List ℕ) (t : ℕ) (h : Heads) (k : ℕ) : Type 0 where
  pub ground : Ground w t h
  pub begins : get_or h.places k 0 ≤ get_or h.places (k + 1) 0
  pub within : get_or h.places (k + 1) 0 ≤ t
  pub few_entries : get_or h.places (k + 1) 0 - get_or h.places k 0 ≤ 32768

-- for whatever modules the tape spells, and whichever of them are evaluated
pub record Started (text : List ℕ) (t : ℕ) (w : List ℕ) (h : Heads) (k : ℕ) (r : Made) (w' : List ℕ) : Type 0 where
  pub kept : Kept joining_block.low second_block.high w w'
  pub made_in : MadeIn joining_block r
  pub made : (ms : List Module) (env : List Evaluated) (m : Module) (ys : List Module) (earlier : List Name) → Told text (part w 0 t) t h ms
      → EnvStands text (part w 0 t) w (declared text (part w 0 t) h) env → drop k ms ≡ m ∷ ys → Earlier (module_names ms) k earlier
      → Makes text (part w' 0 t) w' r (begun (module_names ms) earlier env m)

-- ---- no more clauses than entries

clauses_size : (cs : List Clause) → length cs ≤ length (each flat_clause cs)
unfolding each
clauses_size [] = omega arith
clauses_size (c ∷ cs) = omega (arith, clauses_size cs, length-append (flat_clause c) (each flat_clause cs), ap length (clause_entries c))

few_clauses : (is : List Import) → length (each flat_import is) ≤ 32768 → Every FewClauses is
unfolding each flat_import
few_clauses [] h = tt
few_clauses (x ∷ is) h =
    let n = length-append (each flat_clause x.clauses) (each flat_import is) in
    let c = clauses_size x.clauses in
    (omega (arith, h, n, c), few_clauses is (omega (arith, h, n)))

imports_size : (m : Module) → length (each flat_import m.imports) ≤ length (flat_module m)
imports_size m =
    let is = each flat_import m.imports in
    omega (arith, ap length (module_parts m), length-append (ahead m) (is ++ rest m), length-append is (rest m))

-- ---- on the tape

pub short_part : (w : List ℕ) (t : ℕ) → length (part w 0 t) ≤ t
short_part w t = omega (arith, length-take (t - 0) (drop 0 w))

first_told : (text tape : List ℕ) (t : ℕ) (h : Heads) (ms : List Module) → Told text tape t h ms → length tape ≤ t → (k : ℕ) (m : Module)
    (ys : List Module) → drop k ms ≡ m ∷ ys → (earlier : List Name) → Earlier (module_names ms) k earlier
    → first_checks text tape h k (get_or h.places k 0) (get_or h.places (k + 1) 0) ≡ first_steps (module_names ms) earlier m
unfolding first_checks
first_told text tape t h ms told short k m ys e earlier f =
    let there = module_there text tape t h ms told short k m ys e in
    let size : get_or h.places (k + 1) 0 - get_or h.places k 0 ≡ length (flat_module m) = omega (arith, there.whole) in
    rw (
      names_told text tape t ms h told.spells k m ys e earlier f,
      size,
      once_by_places text tape (get_or h.places k 0) m (few_inputs m there.limited) there.entries,
    )

module _ (text : List ℕ) (t : ℕ) (w : List ℕ) (h : Heads) (k from end : ℕ) (begins : from ≡ get_or h.places k 0)
    (ends : end ≡ get_or h.places (k + 1) 0) where
  pub imported_room : StartedRoom w t h k → ImportedRoom w t h from end
  imported_room c = record {
    ground = c.ground;
    begins = omega (arith, begins, ends, c.begins);
    within = omega (arith, ends, c.within);
  }

  module _ (v : Verdict) (checked : told text v ≡ first_checks text (part w 0 t) h k from end) where
    -- what the first two steps come to is what the meaning has
    steps_told : (ms : List Module) (m : Module) (ys : List Module) (earlier : List Name) → Told text (part w 0 t) t h ms → drop k ms ≡ m ∷ ys
        → Earlier (module_names ms) k earlier → first_steps (module_names ms) earlier m ≡ told text v
    steps_told ms m ys earlier said e f =
        sym (first_told text (part w 0 t) t h ms said (short_part w t) k m ys e earlier f) ∙ rw (← begins, ← ends) (sym checked)

    pub started_refused : (y : Refusal) → v ≡ Err y → Started text t w h k (Err y) w
    unfolding told begun
    started_refused y q = record {
      kept = kept_all joining_block.low second_block.high w;
      made_in = tt;
      made = λ ms env m ys earlier said stands e f.
          refused_makes text (part w 0 t) w y (begun (module_names ms) earlier env m)
          (stops _ (imported env m.imports) y.number (culprit_of text y.culprit) (steps_told ms m ys earlier said e f ∙ ap (told text) q));
    }

    pub started_on : (r : Made) (w' : List ℕ) → v ≡ Ok tt → StartedRoom w t h k → Imported text t w h from end r w' → Started text t w h k r w'
    unfolding told begun
    started_on r w' q c x = record {
      kept = x.kept;
      made_in = x.made_in;
      made = λ ms env m ys earlier said stands e f.
          let there : ModuleAt text (part w 0 t) from end m = rw (begins, ends) (module_there text (part w 0 t) t h ms said (short_part w t) k m ys e) in
          let few : length (each flat_import m.imports) ≤ 32768 = omega (arith, imports_size m, there.whole, begins, ends, c.few_entries) in
          makes_as text (part w' 0 t) w' r (imported env m.imports) (begun (module_names ms) earlier env m)
          (goes_on _ (imported env m.imports) (steps_told ms m ys earlier said e f ∙ ap (told text) q))
          (x.made m.imports env (imports_there text (part w 0 t) from end m there) (le_trans there.limited.imports (omega arith))
          (few_clauses m.imports few) stands);
    }
