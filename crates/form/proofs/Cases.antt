-- Laws of moving an equation's row in and out: w is the memory, b the place where the row starts.
use mathlib.Core.Path.{◌≡◌}
use mathlib.Core.List.{List, [], ◌∷◌}
use Prim.Native.Nat.{ℕ, ◌+◌, ◌*◌}
use native.Mathlib.Numerals.{add-three}
use lib.ListN.{get_or}
use lib.Seq.{sets}
use borrow.Author.Rules.{rules}
use Rattle.form.specs.declared.EquationRow.{EquationRow}
use Rattle.form.specs.Forms.{equation_size, equation_row_at, equation_words}

pub equation_read : (w : List ℕ) (base i b home position tag conditions start count : ℕ) → b ≡ base + i * equation_size → home ≡ get_or w b 0
    → position ≡ get_or w (b + 1) 0 → tag ≡ get_or w (b + 2) 0 → conditions ≡ get_or w (b + 3) 0 → start ≡ get_or w (b + 4) 0 → count ≡ get_or w (b + 5) 0
    → ◌≡◌ {A = EquationRow} (record { home = home; position = position; tag = tag; conditions = conditions; start = start; count = count })
    (equation_row_at w (base + i * equation_size))
unfolding equation_row_at
equation_read w base i b home position tag conditions start count e h p t c s n = rw (← e, h, p, t, c, s, n)

pub equation_written : (w w₁ w₂ : List ℕ) (base i b start : ℕ) (q : EquationRow) → b ≡ base + i * equation_size
    → w₁ ≡ sets w b (q.home ∷ q.position ∷ q.tag ∷ []) → w₂ ≡ sets w₁ (b + 3) (q.conditions ∷ start ∷ q.count ∷ [])
    → w₂ ≡ sets w (base + i * equation_size) (equation_words q start)
unfolding equation_words
equation_written w w₁ w₂ base i b start q e f g = rw (← e, g, f, add-three b)

pub ruleset cases = (equation_read, equation_written, rules)
