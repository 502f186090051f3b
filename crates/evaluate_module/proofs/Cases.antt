-- One law for each way through the code.
use Rattle.std.specs.Prelude.{Ok, Err}
use mathlib.Core.Path.{◌≡◌, sym, ap, ◌∙◌, subst}
use mathlib.Core.Bool.{Bool, true, false}
use mathlib.Core.List.{List}
use lib.Dec.{eqb}
use Prim.Native.Nat.{ℕ, zero, suc, ◌+◌, ◌-◌, ◌≤◌, ◌<◌}
use native.Mathlib.Omega.{arith}
use mir.Syntax.{w32}
use mir.Val.{Fits}
use borrow.Author.Rules.{rules}
use lib.ListN.{take}
use Rattle.meaning.specs.Lists.{pick}
use Rattle.meaning.specs.Normal.{empty}
use Rattle.meaning.specs.Checks.{Check, fine, ◌>>◌}
use Rattle.meaning.specs.Evaluate.{names_right, imported}
use Rattle.tape.specs.Tape.{import_role}
use Rattle.form_rows.specs.Entries.{role_at, next_with}
use Rattle.form.specs.declared.Form.{Form}
use Rattle.form.specs.declared.Block.{Block}
use Rattle.form.specs.declared.Refusal.{Refusal}
use Rattle.form.specs.Memory.{part}
use Rattle.form.specs.Verdicts.{Verdict, Made, culprit_of, told}
use Rattle.form.specs.Forms.{Stands}
use Rattle.form.specs.Blocks.{MadeThere}
use Rattle.form_layout.specs.Layout.{joining_block, tape_end}
use Rattle.modules.specs.Modules.{declared, named_in, Heads}
use Rattle.own_repeats.specs.Scans.{walked}
use Rattle.own_repeats.specs.Once.{once_at}
use Rattle.unite.specs.United.{empty_in}
use Rattle.unite.specs.Standing.{empty_stands}
use Rattle.unite_checks.specs.Made.{makes_as, stops, goes_on}
use Rattle.imports.specs.Spelling.{ImportsAt}
use Rattle.imports.specs.Expressions.{ImportsRoom, ImportsMade, all_imported}
use Rattle.evaluate_module.specs.Steps.{first_checks, ImportedRoom, Imported}
use Rattle.evaluate_module.specs.FirstSteps.{imported_room, started_refused, started_on}
use Rattle.evaluate_module.specs.LastSteps.{complete_room, joined_refused, joined_done, finished_refused, finished_never, equations_room, equations_counted, equations_right, finished_done}

-- ---- one check after the other

told_stop : (text : List ℕ) (a b : Check) (v : Verdict) (x : Refusal) → told text v ≡ a → v ≡ Err x → told text (Err x) ≡ (a >> b)
unfolding told
told_stop text a b v x e h = sym (stops a b x.number (culprit_of text x.culprit) (sym e ∙ ap (told text) h))

told_fine : (text : List ℕ) (a b : Check) (v r : Verdict) → told text v ≡ a → v ≡ Ok tt → told text r ≡ b → told text r ≡ (a >> b)
unfolding told
told_fine text a b v r e h q = q ∙ sym (goes_on a b (sym e ∙ ap (told text) h))

module _ (text tape : List ℕ) (h : Heads) (k from end : ℕ) where
  pub names_stop : (v : Verdict) (x : Refusal) → told text v ≡ names_right (declared text tape h) (take k (declared text tape h)) (named_in text tape h k)
      → v ≡ Err x → told text (Err x) ≡ first_checks text tape h k from end
  unfolding first_checks
  names_stop v x e q = told_stop text _ _ v x e q

  pub names_fine : (v r : Verdict) → told text v ≡ names_right (declared text tape h) (take k (declared text tape h)) (named_in text tape h k) → v ≡ Ok tt
      → told text r ≡ walked (once_at text tape from) from (end - from) → told text r ≡ first_checks text tape h k from end
  unfolding first_checks
  names_fine v r e q z = told_fine text _ _ v r e q z

-- ---- imports

next_within : (role : ℕ) (tape : List ℕ) (c i : ℕ) → next_with role tape i c ≤ i + c
unfolding next_with pick
next_within role tape zero i = omega arith
next_within role tape (suc c) i = go (eqb (role_at tape i) role) (next_within role tape c (suc i))
  where
    go : (b : Bool) → next_with role tape (suc i) c ≤ suc i + c → pick b i (next_with role tape (suc i) c) ≤ i + suc c
    go true h = omega arith
    go false h = omega arith

place_small : (w : List ℕ) (t : ℕ) (h : Heads) (from end i : ℕ) → ImportedRoom w t h from end → i ≡ next_with import_role (part w 0 t) from (end - from)
    → i < 131072
unfolding tape_end
place_small w t h from end i c e =
    let l = next_within 11 (part w 0 t) (end - from) from in
    let k = c.ground.tape in
    omega (arith, e, l, k, c.begins, c.within)

nothing_there : (b : Block) (f : Form) → f ≡ empty_in b → MadeThere b f
unfolding empty_in
nothing_there b f e = rw e (omega arith)

pub place_fits : (w : List ℕ) (t : ℕ) (h : Heads) (from end i : ℕ) → ImportedRoom w t h from end → i ≡ next_with import_role (part w 0 t) from (end - from)
    → Fits w32 i
place_fits w t h from end i c e = omega (arith, place_small w t h from end i c e)

pub imports_room : (w : List ℕ) (t : ℕ) (h : Heads) (from end i j : ℕ) (b : Block) (f : Form) → ImportedRoom w t h from end
    → i ≡ next_with import_role (part w 0 t) from (end - from) → j ≡ i → b ≡ joining_block → f ≡ empty_in b → ImportsRoom w t h j (Ok f)
imports_room w t h from end i j b f c e q z g = record {
  ground = c.ground;
  there = nothing_there joining_block f (g ∙ ap empty_in z);
  place = subst (λ (n : ℕ). n < 131072) (sym q) (place_small w t h from end i c e);
}

pub all_made : (text : List ℕ) (t : ℕ) (w w' : List ℕ) (h : Heads) (from end i j : ℕ) (b : Block) (f : Form) (r : Made)
    → i ≡ next_with import_role (part w 0 t) from (end - from) → j ≡ i → b ≡ joining_block → f ≡ empty_in b → ImportsMade text t w h 32768 j (Ok f) r w'
    → Imported text t w h from end r w'
all_made text t w w' h from end i j b f r e q z g x = record {
  kept = x.kept;
  made_in = x.made_in;
  made = λ is env at few clauses v.
      makes_as text (part w' 0 t) w' r _ (imported env is) (sym (all_imported env is))
      (x.made is env (fine empty) (subst (λ (n : ℕ). ImportsAt text (part w 0 t) n is) (sym (q ∙ e)) at) few clauses v
      (subst (λ (k : Form). Stands text (part w 0 t) w k empty) (sym g) (empty_stands text (part w 0 t) w b)));
}

pub ruleset cases = (names_stop, names_fine, place_fits, imports_room, all_made, imported_room, started_refused, started_on, complete_room, joined_refused, joined_done, rules)

pub ruleset last_cases = (finished_refused, finished_never, equations_room, equations_counted, equations_right, finished_done, rules)
