-- Visible parts united: what the form stands for when parameters are behind its own, and when items were absorbed into its own.
use Rattle.std.specs.Prelude.{◌≡◌, Bool, ℕ, ◌+◌, ◌*◌, ◌≤◌}
use Rattle.std.proofs.Common.{sym, ◌∙◌, arith}
use Rattle.std.proofs.Math.Path.{ap, ap₂, subst}
use mathlib.Core.List.{List, ◌++◌, map}
use Rattle.meaning.specs.Lists.{pick, keep, union}
use Rattle.meaning.specs.Origins.{Item, one_item}
use Rattle.meaning.specs.Normal.{Visible, Normal, move_item}
use Rattle.form_rows.specs.Rows.{row_size}
use Rattle.form.specs.declared.Form.{Form}
use Rattle.form.specs.Memory.{part, KeptTwo}
use Rattle.form.specs.Forms.{items_at, visible_at, Stands, slot_size}
use Rattle.form.specs.Blocks.{Outside}
use Rattle.form_frames.specs.Changes.{tape_kept_two, still_stands, still_stands_two}
use Rattle.clause_translation.specs.declared.Mode.{Mode}
use Rattle.clause_translation.specs.Translation.{moved_in, moved}
use Rattle.unite_items.specs.Absorb.{taken}
use Rattle.unite.specs.United.{other_slots, SlotsUnited, VisibleUnited, sorts, functions}
use Rattle.unite.specs.Standing.{stands_more}

-- ---- parameters

-- the parameters of g that are none of f's behind those of f
pub slots_stand : (text : List ℕ) (t : ℕ) (w w' : List ℕ) (g f r : Form) (from : Visible) (to : Normal) → SlotsUnited text t w g f r w' → t ≤ f.parameters
    → Outside (f.parameters + f.parameter_count * slot_size) (f.parameters + (f.parameter_count + g.parameter_count) * slot_size) f
    → visible_at text (part w 0 t) w g ≡ from → Stands text (part w 0 t) w f to
    → Stands text (part w' 0 t) w' r (record {
      visible = record { parameters = to.visible.parameters ++ other_slots to.visible from; items = to.visible.items };
      hidden = to.hidden;
    })
unfolding visible_at
slots_stand text t w w' g f r from to x h o e s =
    let stood = still_stands {t = t} (omega arith) x.kept o s in
    subst (λ (z : Form). Stands text (part w' 0 t) w' z (record {
      visible = record { parameters = to.visible.parameters ++ other_slots to.visible from; items = to.visible.items };
      hidden = to.hidden;
    })) (sym x.form)
    (stands_more text (part w' 0 t) w' f r.parameter_count f.visible_count f.hidden_count (omega arith) (omega arith) to
    (to.visible.parameters ++ other_slots to.visible from) to.visible.items to.hidden.items stood
    (x.slots ∙ ap₂ (λ (u v : Visible). u.parameters ++ other_slots u v) s.visible e)
    (ap (λ (v : Visible). v.items) stood.visible) stood.hidden)

-- ---- visible items

-- the visible items of g that are taken, under new names, absorbed into those of f
module _ (text : List ℕ) (t : ℕ) (w w' : List ℕ) (m : Mode) (drop : Bool) (g f : Form) (notes : ℕ) (r : Form)
    (x : VisibleUnited text t w m drop g f notes r w') (h : t ≤ f.visible) (l : t ≤ notes) where
  abbrev first : ℕ
  first = f.visible + f.visible_count * row_size

  abbrev last : ℕ
  last = f.visible + (f.visible_count + g.visible_count) * row_size

  abbrev come : List Item → List Item
  come seen = map (move_item (sorts text t w m) (functions text t w m)) (keep (taken text drop m.parameter) seen)

  kept : KeptTwo first last notes (notes + g.visible_count) w w'
  kept = x.absorbed.kept

  visible_tape : part w' 0 t ≡ part w 0 t
  visible_tape = tape_kept_two (omega arith) l kept

  pub visible_stands : (to : Normal) (seen : List Item) → Outside first last f → Outside notes (notes + g.visible_count) f
      → Stands text (part w 0 t) w f to → items_at text (part w 0 t) w g.visible g.visible_count ≡ seen
      → Stands text (part w' 0 t) w' r (record {
        visible = record { parameters = to.visible.parameters; items = union one_item to.visible.items (come seen) };
        hidden = to.hidden;
      })
  unfolding visible_at moved_in moved pick
  visible_stands to seen o p s e =
      let stood = still_stands_two {t = t} (omega arith) l kept o p s in
      let own = ap (λ (v : Visible). v.items) s.visible in
      subst (λ (z : Form). Stands text (part w' 0 t) w' z (record {
        visible = record { parameters = to.visible.parameters; items = union one_item to.visible.items (come seen) };
        hidden = to.hidden;
      })) (sym x.form)
      (stands_more text (part w' 0 t) w' f f.parameter_count r.visible_count f.hidden_count x.absorbed.grows (omega arith) to
      to.visible.parameters (union one_item to.visible.items (come seen)) to.hidden.items stood
      (ap (λ (v : Visible). v.parameters) stood.visible)
      (ap (λ (tape : List ℕ). items_at text tape w' f.visible r.visible_count) visible_tape ∙ x.absorbed.items
      ∙ ap₂ (λ (us vs : List Item). union one_item us (come vs)) own e)
      stood.hidden)
