-- Every answer's number, and the names told with it: 0 to 15 and 17 to 19 without an actual name, 22 to 26, and 27 without one.
use Rattle.std.specs.Prelude.{◌≡◌, refl, ◌⊎◌, ℕ, ◌≤◌, ◌<◌}
use Rattle.std.proofs.Math.Logic.{inl}
use Rattle.std.proofs.Common.{inr, arith, lit<}
use mathlib.Core.List.{List, []}
use Rattle.std.proofs.Math.Dec.{lit≤}
use Rattle.meaning.specs.Numbers.{bad_parameter, ill_typed, lent_short, formal_absent, other_type}
use Rattle.meaning.specs.Laws.{by_cases}
use Rattle.meaning.specs.Names.{Name}
use Rattle.meaning.specs.Syntax.{Module}
use Rattle.meaning.specs.Normal.{empty}
use Rattle.meaning.specs.Checks.{Culprit}
use Rattle.meaning.specs.Reached.{reached, Ended, normalised, refused_at, in_turn, module_names, normalise}
use Rattle.meaning.specs.Texts.{Texts, Reading, all_read, refused_in, read_texts}
use Rattle.meaning.specs.Answer.{Answer, refusal, of_ended, unread, of_read, within, answer}
use Rattle.promises.specs.Counts.{BindingMistake, OfEvaluating, CountedIn, in_turn_counted, refused_from}
use Rattle.promises.specs.ReadNumbers.{refused_low}

-- the numbers that came back once: 16, a binding pair wrong, which 22 to 27 replace (document 02, Five), and 20, imports in a cycle (Nine)
abbrev pub bad_binding : ℕ
bad_binding = 16

abbrev pub in_cycle : ℕ
in_cycle = 20

abbrev pub Given : Answer → Type 0
Given r =
    (((r.number ≤ bad_parameter) ⊎ ((ill_typed ≤ r.number) × (r.number ≤ lent_short))) × (r.culprit.actual ≡ [])) ⊎ BindingMistake r.number r.culprit

evaluating_given : (k count : ℕ) (m : Name) (w : Culprit) → OfEvaluating k w → Given (refusal k count m w 0)
unfolding refusal
evaluating_given k count m w (inl (inl h, e)) = inl (inl h.1, e)
evaluating_given k count m w (inl (inr h, e)) = inl (inr (h.0, omega (arith, h.1)), e)
evaluating_given k count m w (inr h) = inr h

module _ (memory_lent output_lent : ℕ) (asked : Name) (texts : Texts) where
  ended_given : (ms : List Module) (e : Ended) → CountedIn (module_names ms) 0 (reached asked ms) e → Given (of_ended asked e)
  unfolding of_ended
  ended_given ms (normalised count n) h = inl (inl (lit≤ tt), refl)
  ended_given ms (refused_at k count m w) h = evaluating_given k count m w (refused_from _ _ _ _ _ h.1.refused.self h.1.outcome)

  read_given : (r : Reading) → read_texts texts ≡ r → Given (of_read asked r)
  unfolding of_read normalise of_ended refusal unread
  read_given (all_read ms) q =
      by_cases (λ (e : Ended). Given (of_ended asked e)) _ _ _
      (λ e. ended_given ms (in_turn (module_names ms) [] empty (reached asked ms)) (in_turn_counted (module_names ms) [] empty (reached asked ms)))
      (λ e. inl (inl (lit≤ tt), refl))
  read_given (refused_in l number at) q = inl (inl (omega (arith, refused_low texts l number at q)), refl)

  pub given : Given (answer memory_lent output_lent asked texts)
  unfolding answer within refusal
  given =
      by_cases Given _ _ _ (λ e. inl (inr (lit≤ tt, lit≤ tt), refl))
      (λ e. by_cases Given _ _ _ (λ f. read_given (read_texts texts) refl) (λ f. inl (inr (lit≤ tt, lit≤ tt), refl)))

  -- they are given no more
  never : (k : ℕ) → bad_parameter < k → (ill_typed ≤ k → k ≤ lent_short → ⊥) → k < formal_absent
      → (answer memory_lent output_lent asked texts).number ≡ k → ⊥
  never k low between high e = go (answer memory_lent output_lent asked texts) given e
    where
      go : (r : Answer) → Given r → r.number ≡ k → ⊥
      go r (inl (inl h, b)) e = omega (arith, h)
      go r (inl (inr h, b)) e = between (omega (arith, h.0)) (omega (arith, h.1))
      go r (inr (inl h)) e = omega (arith, h.0)
      go r (inr (inr h)) e = omega (arith, h.0)

  pub never_sixteen : (answer memory_lent output_lent asked texts).number ≡ bad_binding → ⊥
  never_sixteen = never bad_binding (lit< tt) (λ a b. omega (arith, a)) (lit< tt)

  pub never_twenty : (answer memory_lent output_lent asked texts).number ≡ in_cycle → ⊥
  never_twenty = never in_cycle (lit< tt) (λ a b. omega (arith, b)) (lit< tt)

  -- an actual name is told with 22 to 26 alone
  pub actual_blank : let r = answer memory_lent output_lent asked texts in ((formal_absent ≤ r.number) × (r.number ≤ other_type)) ⊎ (r.culprit.actual ≡ [])
  actual_blank = go (answer memory_lent output_lent asked texts) given
    where
      go : (r : Answer) → Given r → ((formal_absent ≤ r.number) × (r.number ≤ other_type)) ⊎ (r.culprit.actual ≡ [])
      go r (inl h) = inr h.1
      go r (inr (inl h)) = inl h
      go r (inr (inr h)) = inr h.1
