-- One law for each way through the code, in the code's terms.
use mathlib.Core.Path.{◌≡◌, ap, ◌∙◌}
use mathlib.Core.List.{List, [], ◌∷◌}
use Prim.Native.Nat.{ℕ, ◌+◌}
use borrow.Author.Rules.{rules}
use lib.ListN.{length, set}
use Rattle.values_c.specs.Values.{laid, bit_of}
use Rattle.list_pen.specs.Pen.{Pen, pen, written}
use Rattle.answer.specs.declared.Name.{Name}
use Rattle.answer.specs.declared.Answer.{Answer}
use Rattle.answer_values.specs.Laid.{answer_values, names_laid}

-- ---- values

pub answer_laid : (r : Answer) (xs xs₁ xs₂ xs₃ xs₄ : List ℕ) (m : ℕ) → xs₁ ≡ laid 0 (r.number ∷ r.modules ∷ r.at ∷ []) xs
    → xs₂ ≡ laid 3 (r.evaluating.length ∷ r.culprit.length ∷ r.listing ∷ []) xs₁ → m ≡ bit_of r.in_library → xs₃ ≡ set xs₂ 6 m
    → xs₄ ≡ set xs₃ 7 r.actual.length → xs₄ ≡ laid 0 (answer_values r) xs
unfolding laid answer_values
answer_laid r xs xs₁ xs₂ xs₃ xs₄ m e₁ e₂ b e₃ e₄ = rw (e₄, e₃, b, e₂, e₁)

-- ---- names

pub all_laid : (m w n : Name) (xs xs₁ xs₂ xs₃ : List ℕ) (a b c : ℕ) → pen a xs₁ ≡ written (length xs + 1) m.bytes (pen 0 xs)
    → pen b xs₂ ≡ written (length xs + 1) w.bytes (pen a xs₁) → pen c xs₃ ≡ written (length xs + 1) n.bytes (pen b xs₂)
    → xs₃ ≡ names_laid m w n xs
unfolding names_laid
all_laid m w n xs xs₁ xs₂ xs₃ a b c e₁ e₂ e₃ =
    let limit = length xs + 1 in
    ap (λ (p : Pen). p.out) (e₃ ∙ ap (written limit n.bytes) (e₂ ∙ ap (written limit w.bytes) e₁))

pub ruleset cases = (answer_laid, all_laid, rules)
