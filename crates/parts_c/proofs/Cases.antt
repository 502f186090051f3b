-- One law for each way through the code, in the code's terms.
use mathlib.Core.Path.{◌≡◌, sym, ap, ◌∙◌}
use mathlib.Core.List.{List, [], ◌∷◌}
use Prim.Native.Nat.{ℕ, ◌-◌}
use borrow.Author.Rules.{rules}
use borrow.Author.Tests.{eq-eqb, ne_eqb}
use lib.ListN.{set}
use Rattle.types.specs.declared.Part.{Part}
use Rattle.meaning.specs.Lists.{pick}
use Rattle.values_c.specs.Values.{laid, bit_of}
use Rattle.reader.specs.declared.Line.{Line}
use Rattle.reader.specs.declared.Line.TheVariants.{Keyed, End, Bad}
use Rattle.reader.specs.declared.Places.{Places}
use Rattle.reader.specs.Places.{places_at, LineRead}
use Rattle.text_fetching.proofs.Cases.{forward}
use Rattle.parts_c.specs.Handed.{valued, line_values, handed_line, part_values, handed_part}

-- ---- a line

pub places_laid : (p : Places) (xs xs₁ xs₂ xs₃ : List ℕ) → xs₁ ≡ laid 0 (p.number ∷ p.mark ∷ p.value ∷ []) xs → xs₂ ≡ set xs₁ 3 p.end
    → xs₃ ≡ set xs₂ 4 p.next → xs₃ ≡ laid 0 (line_values p) xs
unfolding laid line_values
places_laid p xs xs₁ xs₂ xs₃ e₁ e₂ e₃ = rw (e₃, e₂, e₁)

module _ (text : List ℕ) (at : ℕ) (l : Line) (read : LineRead text at l) (values : List ℕ) where
  pub keyed : (p : Places) (after : List ℕ) → l ≡ Keyed p → after ≡ laid 0 (line_values p) values
      → valued 0 after ≡ handed_line (places_at text at) values
  unfolding handed_line
  keyed p after e h = rw h (ap (λ (l : Line). handed_line l values) (sym e ∙ read.placed))

  pub at_the_end : l ≡ End → valued 1 values ≡ handed_line (places_at text at) values
  unfolding handed_line
  at_the_end e = ap (λ (l : Line). handed_line l values) (sym e ∙ read.placed)

  pub no_line : (place : ℕ) → l ≡ Bad place → valued 21 values ≡ handed_line (places_at text at) values
  unfolding handed_line
  no_line place e = ap (λ (l : Line). handed_line l values) (sym e ∙ read.placed)

-- ---- a module's text

module _ (p q : Part) (e : p ≡ q) (values : List ℕ) where
  pub part_none : p.end ≡ 0 → valued 1 values ≡ handed_part q values
  unfolding handed_part pick
  part_none z = rw (← e, eq-eqb p.end 0 z)

  pub part_there : (b : ℕ) (after : List ℕ) → (p.end ≡ 0 → ⊥) → b ≡ bit_of p.marked → after ≡ laid 0 (b ∷ p.start ∷ (p.end - p.start) ∷ []) values
      → valued 0 after ≡ handed_part q values
  unfolding handed_part part_values pick
  part_there b after n f h = rw (← e, ne_eqb p.end 0 n, ← f, h)

pub ruleset cases = (places_laid, keyed, at_the_end, no_line, forward, part_none, part_there, rules)
