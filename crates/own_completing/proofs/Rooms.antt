-- Room, way by way.
use Rattle.std.specs.Prelude.{Ok, Err}
use mathlib.Core.Path.{◌≡◌, refl, sym, ap, ◌∙◌}
use mathlib.Core.Bool.{Bool, true, false}
use Prim.Native.Nat.{ℕ, ◌+◌}
use borrow.Author.Rules.{rules}
use Rattle.meaning.specs.Lists.{pick}
use Rattle.meaning.specs.Numbers.{parameter_room, item_room, equation_room, item_total, equation_total, node_total, no_room}
use Rattle.form.specs.declared.Form.{Form}
use Rattle.form.specs.declared.Refusal.{Refusal}
use Rattle.form.specs.Verdicts.{Verdict, Made, refusal}
use Rattle.unite_checks.specs.Consistent.{nobody, within}
use Rattle.unite_checks.specs.Checked.{enough}
use Rattle.own_completing.specs.declared.Totals.{Totals}
use Rattle.own_completing.specs.Room.{together, fitting_together, fitting_all}

-- what follows a verdict
abbrev after : (v : Verdict) → Made → Made
after (Ok x) r = r
after (Err x) r = Err x

after_within : (c : Bool) (r : Made) → after (pick c (Ok tt) (Err (refusal no_room nobody))) r ≡ pick c r (Err (refusal no_room nobody))
unfolding pick
after_within true r = refl
after_within false r = refl

-- ---- `fitting_together`

module _ (f : Form) (totals : Totals) (items equations nodes : ℕ) (v : Verdict) (i : items ≡ totals.items + (f.visible_count + f.hidden_count))
    (e : equations ≡ totals.equations + f.equation_count) (n : nodes ≡ totals.nodes + f.node_count)
    (h : v ≡ within items item_total equations equation_total nodes node_total) where
  told_together : after v (Ok f) ≡ fitting_together f totals
  unfolding within fitting_together together
  told_together = ap (λ (u : Verdict). after u (Ok f)) (rw (i, e, n) at h) ∙ after_within (together f totals) (Ok f)

  pub together_stop : (x : Refusal) → v ≡ Err x → Err x ≡ fitting_together f totals
  together_stop x q = ap (λ (u : Verdict). after u (Ok f)) (sym q) ∙ told_together

  pub together_fine : v ≡ Ok tt → Ok f ≡ fitting_together f totals
  together_fine q = ap (λ (u : Verdict). after u (Ok f)) (sym q) ∙ told_together

-- ---- `fitting_all`

module _ (f : Form) (totals : Totals) (items : ℕ) (v : Verdict) (i : items ≡ f.visible_count + f.hidden_count)
    (h : v ≡ within f.parameter_count parameter_room items item_room f.equation_count equation_room) where
  told_all : (r : Made) → r ≡ fitting_together f totals → after v r ≡ fitting_all f totals
  unfolding within fitting_all enough
  told_all r q =
      ap (λ (u : Verdict). after u r) (rw i at h) ∙ after_within (enough f) r ∙ ap (λ (s : Made). pick (enough f) s (Err (refusal no_room nobody))) q

  pub all_stop : (x : Refusal) → v ≡ Err x → Err x ≡ fitting_all f totals
  all_stop x q = ap (λ (u : Verdict). after u (fitting_together f totals)) (sym q) ∙ told_all (fitting_together f totals) refl

  pub all_fine : (r : Made) → v ≡ Ok tt → r ≡ fitting_together f totals → r ≡ fitting_all f totals
  all_fine r q p = ap (λ (u : Verdict). after u r) (sym q) ∙ told_all r p

pub ruleset rooms = (together_stop, together_fine, all_stop, all_fine, rules)
