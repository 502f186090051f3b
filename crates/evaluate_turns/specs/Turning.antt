-- One module more, or one that is passed over: how a call goes on, and how it ends with it (meaning/specs/Reached.antt, `in_turn`).
use Rattle.std.specs.Prelude.{◌≡◌, refl, Bool, true, false, ℕ, ◌+◌, ◌-◌, ◌≤◌, ◌<◌, length, get_or, drop, Ok, Err}
use Rattle.std.proofs.Common.{sym, ◌∙◌, arith, length-take}
use Rattle.std.proofs.Math.Path.{ap, subst}
use mathlib.Core.List.{List, [], ◌∷◌}
use Rattle.meaning.specs.Lists.{pick}
use Rattle.meaning.specs.Names.{Name}
use Rattle.meaning.specs.Numbers.{module_limit}
use Rattle.meaning.specs.OrderLaws.{same_self}
use Rattle.meaning.specs.Syntax.{Module}
use Rattle.meaning.specs.Normal.{Normal}
use Rattle.meaning.specs.Checks as Meaning
use Rattle.meaning.specs.Checks.{fine, stop}
use Rattle.meaning.specs.Evaluate.{Evaluated, normal_of, evaluate}
use Rattle.meaning.specs.Reached.{Placed, refused_at, end_or, in_turn, total_of, module_names}
use Rattle.text_names.specs.Word.{name_of}
use Rattle.form_rows.specs.Entries.{word_at}
use Rattle.form.specs.declared.Refusal.{Refusal}
use Rattle.form.specs.Memory.{part}
use Rattle.form.specs.Forms.{Stands}
use Rattle.form.specs.Verdicts.{culprit_of}
use Rattle.module_set.specs.ModuleSet.{holds}
use Rattle.modules.specs.Modules.{Heads}
use Rattle.modules.specs.ModuleLaws.{heads_number}
use Rattle.modules.specs.ReachedLaws.{names_number, name_by_number, drop_some, chosen}
use Rattle.modules.specs.Meant.{Earlier, one_earlier}
use Rattle.form_keeping.specs.Environment.{kept_form, LastStands}
use Rattle.evaluate_states.specs.declared.State.{State}
use Rattle.evaluate_module.specs.Sofar.{Ready, Sofar}
use Rattle.evaluate_module.specs.Stepping.{Stepped, evaluated_as, StepMeant, Stepping}
use Rattle.evaluate_turns.specs.Turns.{Ended, normalised, refused, EndsAs, Resumed, Turned, AskedTurned}
use Rattle.evaluate_turns.specs.Asked.{Asked, before_asked, chosen_none}
use Rattle.evaluate_turns.specs.ByNumber.{ModuleAt, module_at, drop_later, own_name, own_number}

-- ---- the meaning

module _ (set k : ℕ) (earlier : List Name) (ms ys : List Module) (m : Module) (e : drop k ms ≡ m ∷ ys) where
  abbrev later : List Placed
  later = chosen (holds set) (k + 1) (m.name ∷ earlier) (drop (k + 1) ms)

  chosen_here : holds set k ≡ true → chosen (holds set) k earlier (drop k ms) ≡ record { self = m; number = k; earlier = earlier } ∷ later
  unfolding chosen pick
  chosen_here c = rw (e, c, drop_later k ms ys m e)

  chosen_not : holds set k ≡ false → chosen (holds set) k earlier (drop k ms) ≡ later
  unfolding chosen pick
  chosen_not c = rw (e, c, drop_later k ms ys m e)

module _ (ds : List Name) (env : List Evaluated) (n : Normal) (x : Placed) (xs : List Placed) where
  turn_stop : (j : ℕ) (y : Meaning.Culprit) → evaluate ds x.earlier x.number (total_of env) env x.self ≡ stop j y
      → in_turn ds env n (x ∷ xs) ≡ refused_at j (length env + 1) x.self.name y
  unfolding in_turn end_or
  turn_stop j y e = rw e

  turn_fine : (new : Normal) → evaluate ds x.earlier x.number (total_of env) env x.self ≡ fine new
      → in_turn ds env n (x ∷ xs) ≡ in_turn ds (evaluated_as x.self new ∷ env) new xs
  unfolding in_turn end_or
  turn_fine new e = rw e

-- ---- the latest module's form stands for its normal form

module _ (text : List ℕ) (t : ℕ) (w : List ℕ) (h : Heads) (s : State) (k : ℕ) (ms : List Module) (env : List Evaluated) (m : Module) (ys : List Module)
    (n : Normal) (e : drop k ms ≡ m ∷ ys) (ready : Ready t w h (k + 1) s) (sofar : Sofar text t w h s ms (evaluated_as m n ∷ env)) where
  latest_normal : normal_of (evaluated_as m n ∷ env) m.name ≡ n
  unfolding normal_of pick
  latest_normal = rw (same_self m.name)

  latest_stands : LastStands text t w k n
  latest_stands =
      let spells = sofar.told.spells in
      let few : k ≤ 64 = omega (arith, ready.heads, drop_some k ms ys m e, heads_number text (part w 0 t) t ms h spells) in
      let number = own_number text (part w 0 t) t ms h spells k m ys e sofar.told.fresh in
      record {
        number = few;
        fits = ready.below.fits k few;
        stands = subst (λ (j : ℕ). Stands text (part w 0 t) w (kept_form w j) n) number
            (subst (Stands text (part w 0 t) w (kept_form w _)) latest_normal (sofar.stands.stands m.name));
      }

-- ---- what the code asks of memory

module _ (text : List ℕ) (t : ℕ) (w : List ℕ) (h : Heads) (k : ℕ) (s : State) (resumed : Resumed text t w h k s) where
  pub tape_there : t ≤ length w
  tape_there = omega (arith, resumed.prepared.sofar.told.spells.within, length-take (t - 0) (drop 0 w))

  pub ready_there : Ready t w h k s
  ready_there = resumed.prepared.ready

  pub few_there : h.count ≤ module_limit
  few_there = resumed.prepared.ready.heads

-- ---- how the code goes on

module _ (text : List ℕ) (t : ℕ) (w : List ℕ) (h : Heads) (k : ℕ) (s : State) (c : k < h.count) where
  at : (ms : List Module) (env : List Evaluated) → Sofar text t w h s ms env → ModuleAt ms k
  at ms env sofar = module_at ms k (omega (arith, c, heads_number text (part w 0 t) t ms h sofar.told.spells))

  at_earlier : (ms : List Module) (env : List Evaluated) (sofar : Sofar text t w h s ms env) (earlier : List Name) → Earlier (module_names ms) k earlier
      → Earlier (module_names ms) (k + 1) ((at ms env sofar).self.name ∷ earlier)
  at_earlier ms env sofar earlier before_it =
      let m = at ms env sofar in
      one_earlier (module_names ms) k m.self.name earlier (omega (arith, drop_some k ms m.later m.self m.here, names_number ms))
      (name_by_number k ms m.later m.self m.here) before_it

  -- module k is not in the set
  pub passed_resumed : Resumed text t w h k s → Resumed text t w h (k + 1) s
  passed_resumed resumed =
      let p = resumed.prepared in
      let ready = p.ready in
      record {
        prepared = record {
          ready = record {
            laid = ready.laid;
            scratch = ready.scratch;
            tape = ready.tape;
            heads = ready.heads;
            ordered = ready.ordered;
            within = ready.within;
            few_entries = ready.few_entries;
            below = ready.below;
            start = ready.start;
            space = omega (arith, ready.space);
            right = ready.right;
          };
          modules = p.modules;
          evaluated = p.evaluated;
          sofar = p.sofar;
        };
        earlier = (at p.modules p.evaluated p.sofar).self.name ∷ resumed.earlier;
        before_it = at_earlier p.modules p.evaluated p.sofar resumed.earlier resumed.before_it;
      }

  pub passed_turned : (set count : ℕ) (b : Bool) (end : Ended) (w' : List ℕ) → b ≡ holds set k → b ≡ false
      → Turned text t w h set (k + 1) count s end w' → Turned text t w h set k count s end w'
  passed_turned set count b end w' e f more = record {
    meant = λ ms env earlier n sofar before_it size.
        let m = at ms env sofar in
        subst (λ (xs : List Placed). EndsAs text t w' end (in_turn (module_names ms) env n xs))
        (sym (chosen_not set k earlier ms m.later m.self m.here (sym e ∙ f)))
        (more.meant ms env (m.self.name ∷ earlier) n sofar (at_earlier ms env sofar earlier before_it) size);
  }

  module _ (step : Stepped) (w₁ : List ℕ) (stepping : Stepping text t w h k s step w₁) where
    stepped : (ms : List Module) (env : List Evaluated) (earlier : List Name) (sofar : Sofar text t w h s ms env)
        → Earlier (module_names ms) k earlier → (r : Stepped) → step ≡ r
        → StepMeant text t w₁ h k ms env (at ms env sofar).self (evaluate (module_names ms) earlier k (total_of env) env (at ms env sofar).self) r
    stepped ms env earlier sofar before_it r e =
        let m = at ms env sofar in
        subst (StepMeant text t w₁ h k ms env m.self (evaluate (module_names ms) earlier k (total_of env) env m.self)) e
        (stepping.meant ms env m.self m.later earlier sofar m.here before_it)

    -- module k is in the set, and refused
    pub turn_refused : (set count : ℕ) (b : Bool) (name : ℕ) (y : Refusal) → b ≡ holds set k → b ≡ true
        → name ≡ word_at (part w 0 t) (get_or h.places k 0) → step ≡ Err y
        → Turned text t w h set k count s (refused y (count + 1) name) w₁
    turn_refused set count b name y e f q g = record {
      meant = λ ms env earlier n sofar before_it size.
          let m = at ms env sofar in
          let stop_so = stepped ms env earlier sofar before_it (Err y) g in
          let end = refused y (count + 1) name in
          subst (λ (xs : List Placed). EndsAs text t w₁ end (in_turn (module_names ms) env n xs))
          (sym (chosen_here set k earlier ms m.later m.self m.here (sym e ∙ f)))
          (subst (EndsAs text t w₁ end) (sym (turn_stop (module_names ms) env n _ _ y.number (culprit_of text y.culprit) stop_so))
          (record {
            number_so = refl;
            count_so = ap (λ (i : ℕ). i + 1) (sym size);
            module_so = ap (name_of text) q ∙ own_name text (part w 0 t) t ms h sofar.told.spells k m.self m.later m.here;
            culprit_so = refl;
          }));
    }

    -- module k is in the set, and its normal form kept
    module _ (r : State) (g : step ≡ Ok r) where
      pub kept_resumed : Resumed text t w h k s → Resumed text t w₁ h (k + 1) r
      kept_resumed resumed =
          let p = resumed.prepared in
          let m = at p.modules p.evaluated p.sofar in
          let kept = stepped p.modules p.evaluated resumed.earlier p.sofar resumed.before_it (Ok r) g in
          record {
            prepared = record {
              ready = kept.ready;
              modules = p.modules;
              evaluated = evaluated_as m.self kept.normal ∷ p.evaluated;
              sofar = kept.sofar;
            };
            earlier = m.self.name ∷ resumed.earlier;
            before_it = at_earlier p.modules p.evaluated p.sofar resumed.earlier resumed.before_it;
          }

      pub kept_turned : (set count : ℕ) (b : Bool) (end : Ended) (w₂ : List ℕ) → b ≡ holds set k → b ≡ true
          → Turned text t w₁ h set (k + 1) (count + 1) r end w₂ → Turned text t w h set k count s end w₂
      kept_turned set count b end w₂ e f more = record {
        meant = λ ms env earlier n sofar before_it size.
            let m = at ms env sofar in
            let kept = stepped ms env earlier sofar before_it (Ok r) g in
            let new = evaluated_as m.self kept.normal in
            subst (λ (xs : List Placed). EndsAs text t w₂ end (in_turn (module_names ms) env n xs))
            (sym (chosen_here set k earlier ms m.later m.self m.here (sym e ∙ f)))
            (subst (EndsAs text t w₂ end) (sym (turn_fine (module_names ms) env n _ _ kept.normal kept.fine_so))
            (more.meant ms (new ∷ env) (m.self.name ∷ earlier) kept.normal kept.sofar (at_earlier ms env sofar earlier before_it)
            (omega (arith, size))));
      }

      -- and it is the latest of the set
      pub last_turned : (set count : ℕ) → Asked h set k → Turned text t w h set k count s (normalised (count + 1) k) w₁
      unfolding in_turn
      last_turned set count asked = record {
        meant = λ ms env earlier n sofar before_it size.
            let m = at ms env sofar in
            let kept = stepped ms env earlier sofar before_it (Ok r) g in
            let placed : Placed = record { self = m.self; number = k; earlier = earlier } in
            let none : chosen (holds set) (k + 1) (m.self.name ∷ earlier) (drop (k + 1) ms) ≡ [] =
            chosen_none (holds set) (k + 1) (m.self.name ∷ earlier) (drop (k + 1) ms) (λ j l u. asked.latest j (omega arith)) in
            let alone : chosen (holds set) k earlier (drop k ms) ≡ placed ∷ [] =
            chosen_here set k earlier ms m.later m.self m.here asked.in_it ∙ ap (λ (xs : List Placed). placed ∷ xs) none in
            subst (λ (xs : List Placed). EndsAs text t w₁ (normalised (count + 1) k) (in_turn (module_names ms) env n xs)) (sym alone)
            (subst (EndsAs text t w₁ (normalised (count + 1) k)) (sym (turn_fine (module_names ms) env n placed [] kept.normal kept.fine_so))
            (record {
              count_so = omega (arith, size);
              last_so = latest_stands text t w₁ h r k ms env m.self m.later kept.normal m.here kept.ready kept.sofar;
            }));
      }

-- ---- the loop over the modules before the asked one: what is left to do from here is what is left to do from the start

pub record Going (text : List ℕ) (t : ℕ) (w₀ : List ℕ) (h : Heads) (set asked : ℕ) (first : State) (k count : ℕ) (s : State) (w : List ℕ) : Type 0 where
  pub size : length w ≡ length w₀
  pub few : count ≤ k
  pub early : k ≤ asked
  pub resumed : Resumed text t w h k s
  pub goes_on : (end : Ended) (w' : List ℕ) → Turned text t w h set k count s end w' → Turned text t w₀ h set 0 0 first end w'

module _ (text : List ℕ) (t : ℕ) (w₀ : List ℕ) (h : Heads) (set asked : ℕ) (first : State) where
  pub going_first : Resumed text t w₀ h 0 first → Going text t w₀ h set asked first 0 0 first w₀
  going_first r = record { size = refl; few = omega arith; early = omega arith; resumed = r; goes_on = λ end w' x. x }

  module _ (k count : ℕ) (s : State) (w : List ℕ) (v : Going text t w₀ h set asked first k count s w) where
    pub going_resumed : Resumed text t w h k s
    going_resumed = v.resumed

    pub going_size : length w ≡ length w₀
    going_size = v.size

    pub going_few : count ≤ k
    going_few = v.few

    -- past the loop
    module _ (l : asked ≤ k) where
      at_asked : k ≡ asked
      at_asked = omega (arith, v.early)

      pub resumed_asked : Resumed text t w h asked s
      resumed_asked = rw (← at_asked) v.resumed

      pub few_asked : count ≤ asked
      few_asked = omega (arith, v.few, v.early)

      pub going_asked : (end : Ended) (w' : List ℕ) → Asked h set asked → AskedTurned text t w h asked count s end w'
          → Turned text t w₀ h set 0 0 first end w'
      going_asked end w' a x = v.goes_on end w' (rw at_asked (x.turned set a))

    module _ (b : Bool) (a : Asked h set asked) (c : k < asked) (e : b ≡ holds set k) where
      within : k < h.count
      within = before_asked h set asked k a c

      pub going_passed : b ≡ false → Going text t w₀ h set asked first (k + 1) count s w
      going_passed f = record {
        size = v.size;
        few = omega (arith, v.few);
        early = omega (arith, c);
        resumed = passed_resumed text t w h k s within v.resumed;
        goes_on = λ end w' x. v.goes_on end w' (passed_turned text t w h k s within set count b end w' e f x);
      }

      module _ (f : b ≡ true) (step : Stepped) (w₁ : List ℕ) (stepping : Stepping text t w h k s step w₁) where
        pub going_refused : (name : ℕ) (y : Refusal) → name ≡ word_at (part w 0 t) (get_or h.places k 0) → step ≡ Err y
            → Turned text t w₀ h set 0 0 first (refused y (count + 1) name) w₁
        going_refused name y q g =
            v.goes_on (refused y (count + 1) name) w₁
            (turn_refused text t w h k s within step w₁ stepping set count b name y e f q g)

        pub going_kept : (r : State) → length w₁ ≡ length w → step ≡ Ok r → Going text t w₀ h set asked first (k + 1) (count + 1) r w₁
        going_kept r l g = record {
          size = l ∙ v.size;
          few = omega (arith, v.few);
          early = omega (arith, c);
          resumed = kept_resumed text t w h k s within step w₁ stepping r g v.resumed;
          goes_on = λ end w' x. v.goes_on end w' (kept_turned text t w h k s within step w₁ stepping r g set count b end w' e f x);
        }

-- ---- the asked module itself

module _ (text : List ℕ) (t : ℕ) (w : List ℕ) (h : Heads) (k count : ℕ) (s : State) (c : k < h.count) (w₁ : List ℕ) where
  pub asked_refused : (name : ℕ) (y : Refusal) → name ≡ word_at (part w 0 t) (get_or h.places k 0)
      → Stepping text t w h k s (Err y) w₁ → AskedTurned text t w h k count s (refused y (count + 1) name) w₁
  asked_refused name y q stepping = record {
    turned = λ set a.
        turn_refused text t w h k s c (Err y) w₁ stepping set count true name y (sym a.in_it) refl q refl;
  }

  pub asked_kept : (r : State) → Stepping text t w h k s (Ok r) w₁ → AskedTurned text t w h k count s (normalised (count + 1) k) w₁
  asked_kept r stepping = record { turned = λ set a. last_turned text t w h k s c (Ok r) w₁ stepping r refl set count a }
