-- How a check and an evaluation end, and what a culprit and a check's verdict stand for (meaning/specs/Checks.antt).
use Rattle.std.specs.Prelude.{◌≡◌, ℕ, List, [], Result, Ok, Err}
use Rattle.std.proofs.Common.{ap, ◌∙◌}
use Rattle.meaning.specs.Names.{Name}
use Rattle.meaning.specs.Checks as Meaning
use Rattle.meaning.specs.Checks.{lone, Check, Outcome, fine, stop}
use Rattle.text_names.specs.Word.{name_of, no_name}
use Rattle.form.specs.declared.Culprit.{Culprit}
use Rattle.form.specs.declared.Form.{Form}
use Rattle.form.specs.declared.Refusal.{Refusal}

-- how a check ends: passed, or refused
abbrev pub Verdict : Type 0
Verdict = Result (Unit {0}) Refusal

-- how an evaluation ends: with a normal form, or refused
abbrev pub Made : Type 0
Made = Result Form Refusal

abbrev pub refusal : ℕ → Culprit → Refusal
refusal k c = record { number = k; culprit = c }

unfoldable pub culprit_of : List ℕ → Culprit → Meaning.Culprit
culprit_of text c = record { name = name_of text c.name; actual = name_of text c.actual }

-- a word without an actual name
pub lone_of : (text : List ℕ) (w : ℕ) → culprit_of text (record { name = w; actual = 0 }) ≡ lone (name_of text w)
unfolding culprit_of
lone_of text w = ap (λ (a : Name). record { name = name_of text w; actual = a }) (no_name text)

-- no culprit at all
pub nobody_of : (text : List ℕ) → culprit_of text (record { name = 0; actual = 0 }) ≡ lone []
nobody_of text = lone_of text 0 ∙ ap lone (no_name text)

unfoldable pub told : List ℕ → Verdict → Check
told text (Ok x) = fine tt
told text (Err r) = stop r.number (culprit_of text r.culprit)
