-- Laws of uniting items and hidden parts.
use mathlib.Core.Path.{◌≡◌, refl, sym, transport}
use mathlib.Core.Bool.{Bool, true, false}
use mathlib.Core.List.{List}
use Prim.Native.Nat.{ℕ, ◌≤◌}
use native.Mathlib.Omega.{arith}
use lib.ListN.{length}
use lib.Seq.{take_all}
use borrow.Author.Rules.{rules}
use Rattle.meaning.specs.Lists.{keep, union}
use Rattle.form.specs.declared.Form.{Form}
use Rattle.form.specs.Memory.{part}
use Rattle.form.specs.Forms.{items_at}
use Rattle.form.specs.FormLaws.{length_items, kept_all}
use Rattle.form_frames.specs.Changes.{at_first}
use Rattle.clause_translation.specs.declared.Mode.{Mode}
use Rattle.unite_items.specs.Absorb.{Absorbed, AbsorbedWithin}
use Rattle.unite_items.specs.Turns.{Room}
use Rattle.unite.specs.United.{with_items, SlotsUnited, VisibleUnited, SeenUnited, ItemsUnited}
use Rattle.unite.specs.Hiding.{items_room, hidden_united_within}

-- no rows absorbed leave everything as it is
none_absorbed : (text tape w : List ℕ) (m : Mode) (visible drop : Bool) (s d nd o cap : ℕ) → nd ≤ cap
    → AbsorbedWithin text tape w m visible drop s 0 d nd o cap nd w
unfolding items_at keep union
none_absorbed text tape w m visible drop s d nd o cap fits = record {
  items = sym (take_all cap (items_at text tape w d nd) (omega (arith, length_items text tape w d nd)));
  grows = omega arith;
  within = fits;
  kept = at_first (kept_all _ _ w);
  whole = λ p. record {
    items = refl;
    grows = omega arith;
    few = omega arith;
    noted = λ i x h. absurd (omega arith);
    notes = λ i x h. absurd (omega arith);
    kept = at_first (kept_all _ _ w);
  };
}

module _ (text : List ℕ) (t : ℕ) (w w' : List ℕ) (m : Mode) (g f r : Form) (notes n : ℕ) where
  pub visible_united : (drop : Bool) → Absorbed text (part w 0 t) w m true drop g.visible g.visible_count f.visible f.visible_count notes n w'
      → r ≡ with_items f f.parameter_count n f.hidden_count → VisibleUnited text t w m drop g f notes r w'
  unfolding with_items
  visible_united drop a e = record { form = rw e; absorbed = rw e a }

  pub items_united : (cap : ℕ)
      → AbsorbedWithin text (part w 0 t) w m false false g.hidden g.hidden_count f.hidden f.hidden_count notes cap n w'
      → r ≡ with_items f f.parameter_count f.visible_count n → ItemsUnited text t w m g f notes cap r w'
  unfolding with_items
  items_united cap a e = record { form = rw e; absorbed = rw e a }

-- parameters that were united leave room for visible items
module _ (text : List ℕ) (t : ℕ) (w : List ℕ) (m : Mode) (g f : Form) (notes : ℕ) (named : Form) (w₁ : List ℕ)
    (x : SlotsUnited text t w g f named w₁) where
  pub rows_room : Room (length w) t m g.visible g.visible_count f.visible f.visible_count notes
      → Room (length w₁) t m g.visible g.visible_count named.visible named.visible_count notes
  unfolding with_items
  rows_room =
      transport (λ i. Room (sym x.kept.size i) t m g.visible g.visible_count (sym x.form i).visible (sym x.form i).visible_count notes)

  pub seen_united : (r : Form) (w' : List ℕ) → VisibleUnited text t w₁ m false g named notes r w' → SeenUnited text t w m g f notes r w'
  seen_united r w' y = record { named = named; between = w₁; parameters = x; rows = y }

-- where g has no hidden items, the form as it is has them all
pub none_united : (text : List ℕ) (t : ℕ) (w : List ℕ) (m : Mode) (g f : Form) (notes cap : ℕ) → g.hidden_count ≡ 0 → f.hidden_count ≤ cap
    → ItemsUnited text t w m g f notes cap f w
unfolding with_items
none_united text t w m g f notes cap none fits = record {
  form = refl;
  absorbed = rw none (none_absorbed text (part w 0 t) w m false false g.hidden f.hidden f.hidden_count notes cap fits);
}

pub ruleset seen = (rows_room, seen_united, rules)

pub ruleset unions = (visible_united, items_united, none_united, items_room, hidden_united_within, rules)
