-- Before the first module: nothing is kept, no module is evaluated, and the row behind those of all modules has nothing.
use Rattle.std.specs.Prelude.{◌≡◌, Bool, ℕ, ◌+◌, ◌*◌, ◌≤◌}
use Rattle.std.proofs.Math.Path.{refl, sym, subst}
use Rattle.std.proofs.Common.{ap, ◌∙◌}
use mathlib.Core.List.{List, []}
use native.Mathlib.Omega.{arith}
use Rattle.std.proofs.Math.ListN.{length}
use Rattle.meaning.specs.Lists.{before}
use Rattle.meaning.specs.Numbers.{memory_size}
use Rattle.meaning.specs.Syntax.{Module}
use Rattle.meaning.specs.Normal.{empty}
use Rattle.meaning.specs.Evaluate.{normal_of}
use Rattle.meaning.specs.Names.{Name, same}
use Rattle.meaning.specs.Reached.{Placed, in_turn, reached, total_of, module_names}
use Rattle.form.specs.declared.Form.{Form}
use Rattle.form.specs.Memory.{part}
use Rattle.form.specs.Forms.{Stands, form_size}
use Rattle.form.specs.FormLaws.{tape_same}
use Rattle.form_layout.specs.Layout.{tape_end, kept_start, table_start, memory_laid}
use Rattle.module_set.specs.ModuleSet.{holds}
use Rattle.modules.specs.Modules.{declared, reached_set, Heads}
use Rattle.modules.specs.ModuleLaws.{heads_number}
use Rattle.modules.specs.ReachedLaws.{chosen}
use Rattle.modules.specs.Meant.{none_earlier, reached_modules}
use Rattle.form_keeping.specs.Keeping.{Cleared}
use Rattle.form_keeping.specs.Starting.{table_none, env_none}
use Rattle.imports.specs.Clausal.{number_within}
use Rattle.evaluate_storing.specs.Places.{scratch_there}
use Rattle.evaluate_states.specs.States.{first_state}
use Rattle.evaluate_module.specs.Sofar.{Told, Ready, Sofar}
use Rattle.form_keeping.specs.Environment.{LastStands}
use Rattle.evaluate_turns.specs.Turns.{Ended, normalised, EndsAs, Resumed, Turned, Given, AllTurned}
use Rattle.evaluate_turns.specs.Asked.{chosen_none, asked_none}
use Rattle.evaluate_turns.specs.ByNumber.{places_ordered, places_within, places_few}

table_behind : tape_end ≤ table_start
unfolding tape_end table_start
table_behind = omega arith

pub table_there : (w : List ℕ) → memory_size ≤ length w → table_start + 65 * form_size ≤ length w
unfolding memory_size table_start
table_there w h = omega arith

module _ (text : List ℕ) (t : ℕ) (w w' : List ℕ) (h : Heads) (given : Given text t w h) (cleared : Cleared table_start 65 kept_start w w') where
  tape_stays : part w' 0 t ≡ part w 0 t
  tape_stays = tape_same w w' t cleared.kept.size (λ i p q. cleared.kept.below i (omega (arith, table_behind, given.tape)))

  size : memory_size ≤ length w'
  size = omega (arith, given.size, cleared.kept.size)

  ready : Ready t w' h 0 first_state
  unfolding first_state
  ready =
      let s = given.told.spells in
      record {
        laid = memory_laid (length w') t given.tape size;
        scratch = scratch_there (length w') size;
        tape = given.tape;
        heads = s.begun.few;
        ordered = places_ordered text (part w 0 t) t given.modules h s;
        within = places_within text (part w 0 t) t given.modules h s;
        few_entries = places_few text (part w 0 t) t given.modules h s given.told.small;
        below = table_none w w' cleared;
        start = omega arith;
        space = omega arith;
        right = record { items = omega arith; equations = omega arith; nodes = omega arith };
      }

  sofar : (ms : List Module) → Told text (part w 0 t) t h ms → Sofar text t w' h first_state ms []
  unfolding first_state total_of
  sofar ms told = record {
    told = subst (λ (tape : List ℕ). Told text tape t h ms) (sym tape_stays) told;
    stands = env_none w w' cleared text (part w' 0 t) (declared text (part w' 0 t) h) (number_within text (part w' 0 t) h told.spells.begun.few);
    seen = tt;
    sound = tt;
    totals = record { items = refl; equations = refl; nodes = refl };
  }

  pub resumed : Resumed text t w' h 0 first_state
  resumed = record {
    prepared = record { ready = ready; modules = given.modules; evaluated = []; sofar = sofar given.modules given.told };
    earlier = [];
    before_it = none_earlier (module_names given.modules);
  }

  -- all rows of the table have the same
  none_latest : LastStands text t w' 64 empty
  unfolding normal_of before
  none_latest = record {
    number = omega arith;
    fits = (table_none w w' cleared).fits 64 (omega arith);
    stands = subst (λ (f : Form). Stands text (part w' 0 t) w' f empty) (cleared.rows 0 (omega arith) ∙ sym (cleared.rows 64 (omega arith)))
        ((env_none w w' cleared text (part w' 0 t) [] (λ x. omega arith)).stands []);
  }

  module _ (k set : ℕ) (e : holds set ≡ reached_set text (part w 0 t) h k) where
    reached_so : (ms : List Module) (asked : Name) → Told text (part w 0 t) t h ms → k ≡ before (same asked) (module_names ms)
        → chosen (holds set) 0 [] ms ≡ reached asked ms
    reached_so ms asked told number =
        ap (λ (p : ℕ → Bool). chosen p 0 [] ms) (e ∙ ap (reached_set text (part w 0 t) h) number)
        ∙ sym (reached_modules text (part w 0 t) t ms h told.spells told.fresh asked)

    pub all_turned : (r : Ended) (w'' : List ℕ) → Turned text t w' h set 0 0 first_state r w'' → AllTurned text t w h k r w''
    all_turned r w'' turned = record {
      meant = λ ms asked told number.
          subst (λ (xs : List Placed). EndsAs text t w'' r (in_turn (module_names ms) [] empty xs)) (reached_so ms asked told number)
          (turned.meant ms [] [] empty (sofar ms told) (none_earlier (module_names ms)) refl);
    }

    -- where there is no module k, none is reached
    pub none_turned : h.count ≤ k → AllTurned text t w h k (normalised 0 64) w'
    unfolding in_turn
    none_turned l = record {
      meant = λ ms asked told number.
          let some : h.count ≡ length ms = heads_number text (part w 0 t) t ms h told.spells in
          let none : chosen (holds set) 0 [] ms ≡ [] =
          chosen_none (holds set) 0 [] ms (λ j u v. asked_none text (part w 0 t) h k set e l j (omega arith)) in
          subst (λ (xs : List Placed). EndsAs text t w' (normalised 0 64) (in_turn (module_names ms) [] empty xs)) (sym none ∙ reached_so ms asked told number)
          (record { count_so = refl; last_so = none_latest });
    }
