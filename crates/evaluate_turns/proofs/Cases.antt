-- One law for each way through the code.
use mathlib.Core.Path.{◌≡◌, sym, subst, subst₂}
use mathlib.Core.List.{List}
use Prim.Native.Nat.{ℕ, ◌+◌, ◌-◌, ◌*◌, ◌<◌, ◌≤◌}
use native.Mathlib.Omega.{arith}
use borrow.Author.Rules.{rules}
use lib.ListN.{length, drop, length-take}
use Rattle.form.specs.Memory.{part}
use Rattle.form.specs.Forms.{form_size}
use Rattle.form_layout.specs.Layout.{kept_start, table_start}
use Rattle.module_set.specs.ModuleSet.{holds}
use Rattle.modules.specs.Modules.{reached_set, Heads}
use Rattle.form_keeping.specs.Keeping.{Cleared}
use Rattle.evaluate_states.specs.declared.State.{State}
use Rattle.evaluate_states.specs.States.{first_state}
use Rattle.evaluate_turns.specs.Asked.{Asked, asked_so}
use Rattle.evaluate_turns.specs.Turns.{Ended, normalised, Resumed, Turned, Given, AllTurned}
use Rattle.evaluate_turns.specs.Turning.{tape_there, ready_there, few_there, going_first, going_resumed, going_size, going_few, resumed_asked, few_asked, going_asked, going_passed, going_refused, going_kept}
use Rattle.evaluate_turns.specs.Beginning.{table_there, resumed, all_turned, none_turned}

module _ (text : List ℕ) (t : ℕ) (w : List ℕ) (h : Heads) where
  pub given_tape : Given text t w h → t ≤ length w
  given_tape g = omega (arith, g.told.spells.within, length-take (t - 0) (drop 0 w))

  pub given_table : (table rows : ℕ) → Given text t w h → table ≡ table_start → rows ≤ 65 * form_size → table + rows ≤ length w
  given_table table rows g e l = omega (arith, e, l, table_there w g.size)

  pub asked_there : (k set count : ℕ) → Given text t w h → holds set ≡ reached_set text (part w 0 t) h k → count ≡ h.count → k < count → Asked h set k
  asked_there k set count g q e l = asked_so text (part w 0 t) h k set q g.told.spells.begun.few (omega (arith, e, l))

  module _ (w' : List ℕ) (table kept : ℕ) (g : Given text t w h) (e : table ≡ table_start) (f : kept ≡ kept_start) (c : Cleared table 65 kept w w') where
    cleared : Cleared table_start 65 kept_start w w'
    cleared = subst₂ (λ (a b : ℕ). Cleared a 65 b w w') e f c

    module _ (k set : ℕ) (q : holds set ≡ reached_set text (part w 0 t) h k) where
      pub reached_none : (count : ℕ) → count ≡ h.count → count ≤ k → AllTurned text t w h k (normalised 0 64) w'
      reached_none count n l = none_turned text t w w' h g cleared k set q (omega (arith, n, l))

      pub reached_turned : (s : State) (r : Ended) (w'' : List ℕ) → s ≡ first_state → Turned text t w' h set 0 0 s r w'' → AllTurned text t w h k r w''
      reached_turned s r w'' z x = all_turned text t w w' h g cleared k set q r w'' (subst (λ (a : State). Turned text t w' h set 0 0 a r w'') z x)

    pub begins : (s : State) → s ≡ first_state → Resumed text t w' h 0 s
    begins s z = subst (Resumed text t w' h 0) (sym z) (resumed text t w w' h g cleared)

pub ruleset cases = (tape_there, ready_there, few_there, going_first, going_resumed, going_size, going_few, resumed_asked, few_asked, going_asked, going_passed, going_refused, going_kept, given_tape, given_table, begins, asked_there, reached_turned, reached_none, rules)
