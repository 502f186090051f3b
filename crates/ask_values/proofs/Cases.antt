-- One law for each way through the code, in the code's terms.
use mathlib.Core.Path.{◌≡◌, ap, ◌∙◌}
use mathlib.Core.List.{List, [], ◌∷◌}
use Prim.Native.Nat.{ℕ, ◌+◌, ◌/◌, ◌%◌}
use lib.ListN.{length, set}
use Rattle.values_c.specs.Values.{laid, bit_of}
use Rattle.list_pen.specs.Pen.{Pen, pen, written}
use Rattle.answer.specs.declared.Name.{Name}
use Rattle.ask.specs.declared.Decision.{Decision}
use Rattle.ask_values.specs.Laid.{decision_values, names_laid}

-- ---- values

pub decision_laid : (r : Decision) (xs xs₁ xs₂ xs₃ xs₄ xs₅ : List ℕ) (m n : ℕ)
    → xs₁ ≡ laid 0 (r.reason ∷ r.set % 4294967296 ∷ r.set / 4294967296 ∷ []) xs → m ≡ bit_of r.in_new
    → xs₂ ≡ laid 3 (r.number ∷ r.place ∷ m ∷ []) xs₁ → n ≡ bit_of r.in_library → xs₃ ≡ set xs₂ 6 n
    → xs₄ ≡ set xs₃ 7 r.by.length → xs₅ ≡ set xs₄ 8 r.name.length → xs₅ ≡ laid 0 (decision_values r) xs
unfolding laid decision_values
decision_laid r xs xs₁ xs₂ xs₃ xs₄ xs₅ m n e₁ b e₂ c e₃ e₄ e₅ = rw (e₅, e₄, e₃, c, e₂, b, e₁)

-- ---- names

pub both_laid : (m n : Name) (xs xs₁ xs₂ : List ℕ) (a b : ℕ) → pen a xs₁ ≡ written (length xs + 1) m.bytes (pen 0 xs)
    → pen b xs₂ ≡ written (length xs + 1) n.bytes (pen a xs₁) → xs₂ ≡ names_laid m n xs
unfolding names_laid
both_laid m n xs xs₁ xs₂ a b e₁ e₂ =
    let limit = length xs + 1 in ap (λ (p : Pen). p.out) (e₂ ∙ ap (written limit n.bytes) e₁)
