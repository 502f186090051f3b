-- One law for each way through the code, in the code's terms.
use mathlib.Core.Path.{◌≡◌, ap, ◌∙◌}
use mathlib.Core.List.{List}
use Prim.Native.Nat.{ℕ, ◌+◌}
use borrow.Author.Rules.{rules}
use lib.ListN.{length}
use Rattle.meaning.specs.Texts.{Texts}
use Rattle.list_pen.specs.Pen.{Pen, pen, written}
use Rattle.answer.specs.declared.Name.{Name}
use Rattle.ask_names.specs.Named.{Named}
use Rattle.ask_c.specs.Handed.{name_laid, NameHanded}

pub name_handed : (r : Name) (work₀ work names₀ names : List ℕ) (t : Texts) (k a : ℕ) → Named r work work₀ t k
    → pen a names ≡ written (length names₀ + 1) r.bytes (pen 0 names₀) → NameHanded r.length work names work₀ names₀ t k
unfolding name_laid
name_handed r work₀ work names₀ names t k a e p = record {
  size_so = ap (λ (n : Name). n.length) e.name_so;
  memory_so = e.memory_so;
  names_so = ap (λ (q : Pen). q.out) p ∙ ap (λ (n : Name). (written (length names₀ + 1) n.bytes (pen 0 names₀)).out) e.name_so;
}

pub ruleset cases = (name_handed, rules)
