-- One law for each way through the code, in the code's terms.
use mathlib.Core.Path.{◌≡◌, ap}
use mathlib.Core.List.{List}
use Prim.Native.Nat.{ℕ}
use borrow.Author.Rules.{rules}
use Rattle.values_c.specs.Values.{laid}
use Rattle.answer.specs.declared.Answer.{Answer}
use Rattle.answer.specs.Answers.{Returned, returned}
use Rattle.answer_values.specs.Laid.{answer_values, names_laid}
use Rattle.asf_c.specs.Handed.{handed, handed_call}

-- ---- a call

pub call_handed : (c : Returned) (r : Answer) (out work values₀ values names₀ names : List ℕ) → returned r out work ≡ c
    → values ≡ laid 0 (answer_values r) values₀ → names ≡ names_laid r.evaluating r.culprit r.actual names₀
    → handed r.number out work values names ≡ handed_call c values₀ names₀
unfolding handed handed_call returned
call_handed c r out work values₀ values names₀ names e v n = rw (v, n) (ap (λ (c : Returned). handed_call c values₀ names₀) e)

pub ruleset cases = (call_handed, rules)
