-- The checks after a clause or a union, way by way.
use Rattle.std.specs.Prelude.{Ok, Err}
use mathlib.Core.Path.{◌≡◌, refl, sym, ap, ◌∙◌}
use mathlib.Core.Bool.{Bool, true, false}
use Prim.Native.Nat.{ℕ, ◌+◌}
use borrow.Author.Rules.{rules}
use Rattle.meaning.specs.Lists.{pick}
use Rattle.meaning.specs.Numbers.{parameter_room, item_room, equation_room, no_room}
use Rattle.form.specs.declared.Form.{Form}
use Rattle.form.specs.declared.Refusal.{Refusal}
use Rattle.form.specs.Verdicts.{Verdict, Made, refusal}
use Rattle.unite_checks.specs.Consistent.{nobody, within}
use Rattle.unite_checks.specs.Checked.{CheckRoom, enough, fitting, CheckedForm, order_laid, checked_stop, checked_fine}

-- the form's verdict
abbrev verdict_of : (v : Verdict) → Form → Made
verdict_of (Ok x) f = Ok f
verdict_of (Err x) f = Err x

as_fitting : (f : Form) → verdict_of (within f.parameter_count parameter_room (f.visible_count + f.hidden_count) item_room f.equation_count equation_room) f ≡ fitting f
unfolding within fitting enough pick
as_fitting f = go (enough f)
  where
    go : (c : Bool) → verdict_of (pick c (Ok tt) (Err (refusal no_room nobody))) f ≡ pick c (Ok f) (Err (refusal no_room nobody))
    go true = refl
    go false = refl

pub fit_stop : (f : Form) (items : ℕ) (x : Refusal) (v : Verdict) → items ≡ f.visible_count + f.hidden_count
    → v ≡ within f.parameter_count parameter_room items item_room f.equation_count equation_room → v ≡ Err x → Err x ≡ fitting f
fit_stop f items x v i e h = ap (λ (u : Verdict). verdict_of u f) (sym h) ∙ ap (λ (u : Verdict). verdict_of u f) (rw i at e) ∙ as_fitting f

pub fit_fine : (f : Form) (items : ℕ) (v : Verdict) → items ≡ f.visible_count + f.hidden_count
    → v ≡ within f.parameter_count parameter_room items item_room f.equation_count equation_room → v ≡ Ok tt → Ok f ≡ fitting f
fit_fine f items v i e h = ap (λ (u : Verdict). verdict_of u f) (sym h) ∙ ap (λ (u : Verdict). verdict_of u f) (rw i at e) ∙ as_fitting f

pub ruleset checks = (fit_stop, fit_fine, order_laid, checked_stop, checked_fine, rules)
