-- Forms that stand go on standing with more parameters and rows; and what nothing stands for.
use Rattle.std.specs.Prelude.{◌≡◌, refl, ℕ, ◌+◌, ◌*◌, ◌≤◌, List, [], ◌∷◌}
use Rattle.std.proofs.Common.{arith}
use Rattle.meaning.specs.Lists.{sum}
use Rattle.meaning.specs.Origins.{Item, ResolvedEquation}
use Rattle.meaning.specs.Normal.{Slot, Normal, nothing_visible, nothing_hidden, empty}
use Rattle.form_rows.specs.Rows.{row_size}
use Rattle.form.specs.declared.Form.{Form}
use Rattle.form.specs.declared.Block.{Block}
use Rattle.form.specs.declared.EquationRow.{EquationRow}
use Rattle.form.specs.Memory.{Same}
use Rattle.form.specs.Forms.{slots_at, items_at, node_item, nodes_of, equation_row_at, EquationStands, EquationsStand, Pointing, visible_at, Stands, equation_size, slot_size}
use Rattle.form.specs.FormLaws.{slots_same, items_same}
use Rattle.unite.specs.United.{empty_in, with_items}

-- the visible part of a form whose parameters and visible rows stay
pub visible_same : (text tape w w' : List ℕ) (f : Form) → Same f.parameters (f.parameters + f.parameter_count * slot_size) w w'
    → Same f.visible (f.visible + f.visible_count * row_size) w w' → visible_at text tape w' f ≡ visible_at text tape w f
unfolding visible_at
visible_same text tape w w' f p q =
    let slots = slots_same w w' text f.parameters f.parameter_count p in
    let items = items_same w w' text tape f.visible f.visible_count q in
    λ i. record { parameters = slots i; items = items i }

-- ---- with more parameters and rows

module _ (text tape w : List ℕ) (f : Form) (p v h : ℕ) where
  equation_as : (r : EquationRow) (e : ResolvedEquation) → EquationStands text tape w f r e → EquationStands text tape w (with_items f p v h) r e
  unfolding with_items nodes_of
  equation_as r e s =
      record { home = s.home; position = s.position; tag = s.tag; conditions = s.conditions; within = s.within; nodes = s.nodes }

  equations_as : (b : ℕ) (es : List ResolvedEquation) → EquationsStand text tape w f b es → EquationsStand text tape w (with_items f p v h) b es
  equations_as b [] s = tt
  equations_as b (e ∷ es) s = (equation_as (equation_row_at w b) e s.0, equations_as (b + equation_size) es s.1)

  module _ (more_visible : f.visible_count ≤ v) (more_hidden : f.hidden_count ≤ h) where
    pointing_as : Pointing text tape w f → Pointing text tape w (with_items f p v h)
    unfolding with_items node_item
    pointing_as q = record {
      visible = λ i l e. let x = q.visible i l e in record { inside = omega (arith, x.inside); function = x.function };
      hidden = λ i l e. let x = q.hidden i l e in record { inside = omega (arith, x.inside); no_sort = x.no_sort; alone = x.alone };
    }

    pub stands_more : (n : Normal) (slots : List Slot) (seen unseen : List Item) → Stands text tape w f n → slots_at text w f.parameters p ≡ slots
        → items_at text tape w f.visible v ≡ seen → items_at text tape w f.hidden h ≡ unseen
        → Stands text tape w (with_items f p v h) (record {
          visible = record { parameters = slots; items = seen };
          hidden = record { items = unseen; equations = n.hidden.equations };
        })
    unfolding with_items visible_at
    stands_more n slots seen unseen s a b c = record {
      visible = λ i. record { parameters = a i; items = b i };
      hidden = c;
      equation_count = s.equation_count;
      node_count = s.node_count;
      equations = equations_as f.equations n.hidden.equations s.equations;
      small = s.small;
      pointing = pointing_as s.pointing;
    }

-- ---- nothing

pub empty_stands : (text tape w : List ℕ) (b : Block) → Stands text tape w (empty_in b) empty
unfolding empty_in empty nothing_visible nothing_hidden visible_at slots_at items_at sum
empty_stands text tape w b = record {
  visible = refl;
  hidden = refl;
  equation_count = refl;
  node_count = refl;
  equations = tt;
  small = tt;
  pointing = record { visible = λ i h. absurd (omega arith); hidden = λ i h. absurd (omega arith) };
}
