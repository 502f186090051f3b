-- The steps together, each with what the one before it has left: after a module whose normal form is kept, the next may follow.
use Rattle.std.specs.Prelude.{◌≡◌, ℕ, ◌+◌, ◌*◌, ◌≤◌, ◌<◌, length, get_or, drop, Ok, Err}
use Rattle.std.proofs.Common.{sym, ap, ◌∙◌, arith}
use Rattle.std.proofs.Math.Path.{subst}
use mathlib.Core.List.{List, ◌∷◌}
use Rattle.meaning.specs.Names.{Name}
use Rattle.meaning.specs.Syntax.{Module}
use Rattle.meaning.specs.Normal.{Normal}
use Rattle.meaning.specs.Checks.{fine, Size, size, add_sizes}
use Rattle.meaning.specs.Written.{in_order}
use Rattle.meaning.specs.Evaluate.{Evaluated, evaluate}
use Rattle.meaning.specs.Reached.{total_of, module_names}
use Rattle.meaning.specs.Numbers.{parameter_room}
use Rattle.form_rows.specs.Rows.{row_size}
use Rattle.form.specs.declared.Refusal.{Refusal}
use Rattle.form.specs.declared.Form.{Form}
use Rattle.form.specs.Memory.{part, Kept as KeptOutside}
use Rattle.form.specs.Forms.{Stands, equation_size, slot_size}
use Rattle.form.specs.Blocks.{Makes, MadeIn, MadeThere}
use Rattle.form.specs.Verdicts.{Made, culprit_of}
use Rattle.form_layout.specs.Layout.{joining_block, second_block, kept_start, table_start, Laid}
use Rattle.modules.specs.Modules.{declared, Heads}
use Rattle.modules.specs.ModuleLaws.{declared_names}
use Rattle.modules.specs.Meant.{Earlier}
use Rattle.modules.specs.ReachedLaws.{names_distinct, names_number, name_by_number, drop_some}
use Rattle.unite_checks.specs.Made.{refused_outcome, done_outcome, then_stops, then_goes_on}
use Rattle.own_equations.specs.Seen.{AllSeen, imported_seen, evaluated_seen}
use Rattle.invariants.specs.HiddenItems.{HiddenSound}
use Rattle.laws.specs.Outcomes.{Gives, gives_then}
use Rattle.invariants.specs.HiddenEvaluated.{evaluated_sound}
use Rattle.form_keeping.specs.Environment.{number_of, EnvStands, env_stays, TableBelow, table_stays}
use Rattle.form_keeping.specs.Growing.{below_right}
use Rattle.imports.specs.Clausal.{Ground, number_within, kept_table}
use Rattle.own_completing.specs.declared.Totals.{Totals}
use Rattle.own_completing.specs.Room.{StillRight, TotalsMeant, size_meant}
use Rattle.own_completing.specs.Completed.{Joined, KeptDone, MakesIn}
use Rattle.evaluate_storing.specs.Places.{StoreRoom, form_space}
use Rattle.evaluate_storing.specs.Storing.{stored_table, stored_env}
use Rattle.evaluate_states.specs.declared.State.{State}
use Rattle.evaluate_states.specs.States.{with_form, KeptRoom, KeptState}
use Rattle.evaluate_module.specs.Places.{ModuleAt}
use Rattle.evaluate_module.specs.Sofar.{Told, Ready, Sofar}
use Rattle.evaluate_module.specs.Stepping.{evaluated_as, Stepping}
use Rattle.evaluate_module.specs.Heads.{module_there}
use Rattle.evaluate_module.specs.FirstSteps.{begun, StartedRoom, Started, short_part}
use Rattle.evaluate_module.specs.LastSteps.{JoinedRoom, FinishedRoom, OwnJoined, all_joined, Finished, steps_ordered, joined_distinct, ordered_size}
use Rattle.form_frames.specs.Changes.{onward, tape_kept}

-- ---- places

kept_space : (size t : ℕ) → Laid size t → kept_start + (64 * parameter_room * slot_size + 1024 * row_size + 512 * equation_size + 4096) ≤ table_start
kept_space size t l = l.kept_table

-- the next form behind those of k modules
next_space : (t : ℕ) (w : List ℕ) (h : Heads) (k : ℕ) (s : State) (f : Form) → Ready t w h k s → MadeThere joining_block f
    → s.cursor + form_space f
    ≤ kept_start + ((k + 1) * parameter_room * slot_size + (with_form s.totals f).items * row_size + (with_form s.totals f).equations * equation_size
    + (with_form s.totals f).nodes)
unfolding with_form
next_space t w h k s f ready made = omega (arith, ready.space, made.fits.parameters)

module _ (t : ℕ) (w : List ℕ) (h : Heads) (k : ℕ) (s : State) (number : k < h.count) (ready : Ready t w h k s) where
  cursor_within : s.cursor ≤ table_start
  cursor_within =
      omega (arith, number, kept_space (length w) t ready.laid, ready.space, ready.heads, ready.right.items, ready.right.equations, ready.right.nodes)

  ground : Ground w t h
  ground = record {
    laid = ready.laid;
    tape = ready.tape;
    table = below_right w s.cursor cursor_within ready.below;
    heads = ready.heads;
  }

  store_fits : (size : ℕ) (f : Form) → size ≡ length w → MadeThere joining_block f → StillRight s.totals (Ok f) → StoreRoom size t k f s.cursor
  unfolding with_form
  store_fits size f e made right = record {
    laid = subst (λ (n : ℕ). Laid n t) (sym e) ready.laid;
    scratch = omega (arith, e, ready.scratch);
    made = made;
    start = ready.start;
    space =
        omega (arith, number, kept_space (length w) t ready.laid, next_space t w h k s f ready made, ready.heads, right.0, right.1, right.2);
    number = omega (arith, number, ready.heads);
  }

  pub start_room : StartedRoom w t h k
  start_room = record {
    ground = ground;
    begins = ready.ordered k number;
    within = ready.within k number;
    few_entries = ready.few_entries k number;
  }

-- ---- the totals

totals_next : (text tape w : List ℕ) (f : Form) (a : Normal) (env : List Evaluated) (totals r : Totals) (x : Name)
    → r ≡ with_form totals f → Stands text tape w f a → TotalsMeant totals (total_of env)
    → TotalsMeant r (total_of (record { name = x; normal = in_order a } ∷ env))
unfolding with_form total_of add_sizes
totals_next text tape w f a env totals r x e stands meant =
    let sizes = ordered_size a ∙ size_meant text tape w f a stands in
    record {
      items = omega (arith, ap (λ (u : Totals). u.items) e, ap (λ (z : Size). z.items) sizes, meant.items);
      equations = omega (arith, ap (λ (u : Totals). u.equations) e, ap (λ (z : Size). z.equations) sizes, meant.equations);
      nodes = omega (arith, ap (λ (u : Totals). u.nodes) e, ap (λ (z : Size). z.nodes) sizes, meant.nodes);
    }

-- ---- what comes of them

-- the memory is w at first, then w₁, w₂ and w₃, and w' where a form is kept
module _ (text : List ℕ) (t : ℕ) (w : List ℕ) (h : Heads) (k : ℕ) (s : State) (number : k < h.count) (ready : Ready t w h k s)
    (so_far : Made) (w₁ : List ℕ) (x : Started text t w h k so_far w₁) where
  laid : Laid (length w) t
  laid = ready.laid

  pub join_room : JoinedRoom (length w₁) t h k so_far
  join_room = record {
    laid = subst (λ (n : ℕ). Laid n t) (sym x.kept.size) laid;
    tape = ready.tape;
    within = ready.within k number;
    few_entries = ready.few_entries k number;
    there = x.made_in;
  }

  module _ (rows : Joined) (w₂ : List ℕ) (z : OwnJoined text t w₁ h k so_far rows w₂) where
    pub finish_room : FinishedRoom (length w₂) t h k so_far rows s.totals
    finish_room = record { joined = rw z.kept.size join_room; rows_within = z.rows_within; right = ready.right }

  module _ (rows : Joined) (w₂ : List ℕ) (z : OwnJoined text t w₁ h k so_far rows w₂) (made : Made) (w₃ : List ℕ)
      (y : Finished text t w₂ h k so_far rows s.totals made w₃) where
    joined_kept : KeptOutside joining_block.low second_block.high w w₂
    joined_kept = onward x.kept z.kept

    made_so : (ms : List Module) (env : List Evaluated) (m : Module) (ys : List Module) (earlier : List Name) → Sofar text t w h s ms env
        → drop k ms ≡ m ∷ ys → Earlier (module_names ms) k earlier
        → MakesIn text t joining_block.low second_block.high w₂ w₃ made (all_joined (begun (module_names ms) earlier env m) k (total_of env) m)
    unfolding begun
    made_so ms env m ys earlier sofar e f =
        let there = module_there text (part w 0 t) t h ms sofar.told (short_part w t) k m ys e in
        let o = begun (module_names ms) earlier env m in
        y.made m o (total_of env) sofar.totals
        (z.so m o
        (subst (λ (tape : List ℕ). ModuleAt text tape (get_or h.places k 0) (get_or h.places (k + 1) 0) m)
        (sym (tape_kept laid.joining.tape x.kept)) there)
        (gives_then AllSeen _ _ (λ c. imported_seen env sofar.seen m.imports)) (x.made ms env m ys earlier sofar.told sofar.stands e f))

    pub steps_refused : (c : Refusal) → made ≡ Err c → Stepping text t w h k s (Err c) w₃
    steps_refused c q = record {
      meant = λ ms env m ys earlier sofar e f.
          let o = all_joined (begun (module_names ms) earlier env m) k (total_of env) m in
          let z = subst (λ (u : Made). Makes text (part w₃ 0 t) w₃ u o) q (made_so ms env m ys earlier sofar e f).makes in
          steps_ordered (module_names ms) earlier k (total_of env) env m
          ∙ then_stops o (λ (a : Normal). fine (in_order a)) c.number (culprit_of text c.culprit) (refused_outcome text (part w₃ 0 t) w₃ c o z);
    }

    module _ (f : Form) (q : made ≡ Ok f) where
      made_there : MadeThere joining_block f
      made_there = subst (MadeIn joining_block) q y.made_in

      still_right : StillRight s.totals (Ok f)
      still_right = subst (StillRight s.totals) q y.right

      pub keep_room : (size : ℕ) → size ≡ length w₂ → KeptRoom size t k f s
      keep_room size e = record { store = store_fits t w h k s number ready size f (e ∙ joined_kept.size) made_there still_right; right = still_right }

      module _ (r : State) (w' : List ℕ) (stored : KeptState text t k f s r w₃ w') (kept : KeptOutside joining_block.low second_block.high w w₃) where
        store_room : StoreRoom (length w₃) t k f s.cursor
        store_room = (keep_room (length w₃) (kept.size ∙ sym joined_kept.size)).store

        behind : second_block.high ≤ table_start
        behind = omega (arith, laid.second_kept, kept_table (length w) t laid)

        below : TableBelow w₃ s.cursor
        below = table_stays joining_block.low second_block.high s.cursor w w₃ behind kept ready.below

        length_still : length w' ≡ length w
        length_still = stored.stored.grown.size ∙ kept.size

        ready_next : Ready t w' h (k + 1) r
        unfolding with_form
        ready_next = record {
          laid = subst (λ (n : ℕ). Laid n t) (sym length_still) laid;
          scratch = omega (arith, length_still, ready.scratch);
          tape = ready.tape;
          heads = ready.heads;
          ordered = ready.ordered;
          within = ready.within;
          few_entries = ready.few_entries;
          below = stored_table text t k f s.cursor r.cursor w₃ w' store_room stored.stored below;
          start = omega (arith, stored.stored.cursor, ready.start);
          space = rw (stored.totals, stored.stored.cursor) (next_space t w h k s f ready made_there);
          right = rw stored.totals (record { items = still_right.0; equations = still_right.1; nodes = still_right.2 });
        }

        module _ (ms : List Module) (env : List Evaluated) (m : Module) (ys : List Module) (earlier : List Name) (sofar : Sofar text t w h s ms env)
            (e : drop k ms ≡ m ∷ ys) (a : Normal) (joined : all_joined (begun (module_names ms) earlier env m) k (total_of env) m ≡ fine a)
            (stands : Stands text (part w₃ 0 t) w₃ f a) where
          abbrev ds : List Name
          ds = declared text (part w 0 t) h

          names : ds ≡ module_names ms
          names = declared_names text (part w 0 t) t ms h sofar.told.spells

          tape_still : part w' 0 t ≡ part w 0 t
          tape_still = stored.stored.tape ∙ tape_kept laid.joining.tape kept

          own_number : number_of ds m.name ≡ k
          own_number =
              ap (λ (ws : List Name). number_of ws m.name) names
              ∙ ap (number_of (module_names ms)) (sym (name_by_number k ms ys m e))
              ∙ names_distinct ms sofar.told.fresh k (omega (arith, drop_some k ms ys m e, names_number ms))

          env_then : EnvStands text (part w₃ 0 t) w₃ ds env
          env_then =
              env_stays text t joining_block.low second_block.high w w₃ ds env laid.joining.tape laid.second_kept (kept_table (length w) t laid)
              kept (number_within text (part w 0 t) h ready.heads) (ground t w h k s number ready).table sofar.stands

          env_next : EnvStands text (part w' 0 t) w' ds (evaluated_as m (in_order a) ∷ env)
          env_next =
              stored_env text t k f s.cursor r.cursor w₃ w' store_room stored.stored below ds env m.name a own_number
              (omega (arith, ap length names, names_number ms, drop_some k ms ys m e)) (number_within text (part w 0 t) h ready.heads) stands
              (joined_distinct (module_names ms) earlier env sofar.sound k (total_of env) m a joined) env_then

          sofar_next : evaluate (module_names ms) earlier k (total_of env) env m ≡ fine (in_order a)
              → Sofar text t w' h r ms (evaluated_as m (in_order a) ∷ env)
          sofar_next outcome = record {
            told = subst (λ (tape : List ℕ). Told text tape t h ms) (sym tape_still) sofar.told;
            stands =
                subst (λ (tape : List ℕ). EnvStands text (part w' 0 t) w' (declared text tape h) (evaluated_as m (in_order a) ∷ env)) (sym tape_still) env_next;
            seen = (subst (Gives AllSeen) outcome (evaluated_seen env sofar.seen (module_names ms) earlier k (total_of env) m), sofar.seen);
            sound = (
              subst (Gives HiddenSound) outcome (evaluated_sound (module_names ms) earlier k (total_of env) env m sofar.sound),
              sofar.sound,
            );
            totals = totals_next text (part w₃ 0 t) w₃ f a env s.totals r.totals m.name stored.totals stands sofar.totals;
          }

      pub steps_kept : (r : State) (w' : List ℕ) → KeptState text t k f s r w₃ w' → Stepping text t w h k s (Ok r) w'
      steps_kept r w' stored = record {
        meant = λ ms env m ys earlier sofar e before_it.
            let o = all_joined (begun (module_names ms) earlier env m) k (total_of env) m in
            let made_there = made_so ms env m ys earlier sofar e before_it in
            let z = done_outcome text (part w₃ 0 t) w₃ f o (subst (λ (u : Made). Makes text (part w₃ 0 t) w₃ u o) q made_there.makes) in
            let kept = onward joined_kept (subst (KeptDone joining_block.low second_block.high w₂ w₃) q made_there.kept) in
            let outcome =
            steps_ordered (module_names ms) earlier k (total_of env) env m
            ∙ then_goes_on o (λ (a : Normal). fine (in_order a)) z.normal z.outcome in
            record {
              normal = in_order z.normal;
              fine_so = outcome;
              ready = ready_next r w' stored kept;
              sofar = sofar_next r w' stored kept ms env m ys earlier sofar e z.normal z.outcome z.stands outcome;
            };
      }
