-- What uniting comes to: through a renaming onto nothing it is the meaning's `move`, as it is the meaning's `unite`; and where there is room
-- for all equations none is left out.
use Rattle.std.specs.Prelude.{◌≡◌, refl, ℕ, ◌+◌, ◌≤◌, true, not}
use Rattle.std.proofs.Common.{ap, ap₂, ◌∙◌, inr, arith}
use Rattle.std.proofs.Math.Path.{subst}
use mathlib.Core.List.{List, [], ◌∷◌, ◌++◌, map}
use Rattle.std.proofs.Math.ListN.{length, length-map}
use Rattle.std.proofs.Math.Seq.{take_all}
use Rattle.meaning.specs.Lists.{pick, keep, any, union}
use Rattle.meaning.specs.Names.{Name}
use Rattle.meaning.specs.Origins.{FunctionType, one_item, one_equation}
use Rattle.meaning.specs.Normal.{Slot, Visible, Hidden, Normal, is_parameter_of, nothing_visible, nothing_hidden, empty, unite_visible, unite_hidden, unite, move_item, move_hidden_item, move_equation, move_visible, move_hidden, move}
use Rattle.meaning.specs.Clauses.{renaming}
use Rattle.form.specs.declared.Form.{Form}
use Rattle.form.specs.declared.Block.{Block}
use Rattle.form.specs.Memory.{part}
use Rattle.form.specs.Forms.{Stands}
use Rattle.form.specs.FullLists.{length_union}
use Rattle.clause_translation.specs.declared.Mode.{Mode}
use Rattle.clause_pairs.specs.Pairs.{pairs_at}
use Rattle.clause_translation.specs.Translation.{sort_name, function_name}
use Rattle.clause_translation.specs.MovedLaws.{map_kept, item_kept, hidden_kept, equation_kept, sort_name_same, function_name_same, sort_name_renamed, function_name_renamed}
use Rattle.unite_nodes.specs.Found.{Noted}
use Rattle.unite.specs.United.{other_slots, visible_onto, hidden_onto, moved_onto, within, sorts, functions, HiddenUnited, United}

-- ---- parameters

-- none is one of nothing's
none_one : (from : Visible) → other_slots nothing_visible from ≡ from.parameters
unfolding other_slots keep pick is_parameter_of nothing_visible any
none_one from = go from.parameters
  where
    go : (slots : List Slot) → keep (λ (q : Slot). not (is_parameter_of nothing_visible from q)) slots ≡ slots
    go [] = refl
    go (q ∷ slots) = ap (q ∷◌) (go slots)

-- ---- room

module _ (σ : Name → Name) (φ : Name → FunctionType → Name) where
  -- where there is room for the equations of both, none is left out
  pub within_all : (room : ℕ) (to from : Hidden) → length to.equations + length from.equations ≤ room
      → within room (hidden_onto σ φ to from) ≡ hidden_onto σ φ to from
  unfolding within hidden_onto
  within_all room to from h =
      let moved = map (move_equation σ φ) from.equations in
      let all = union one_equation to.equations moved in
      let few : length all ≤ room = omega (arith, length_union one_equation to.equations moved, length-map from.equations (move_equation σ φ)) in
      let whole = take_all room all few in
      λ i. record { items = union one_item to.items (map (move_hidden_item σ φ) from.items); equations = whole i }

  -- onto nothing
  pub onto_nothing : (n : Normal) → moved_onto σ φ empty n ≡ move σ φ n
  unfolding moved_onto visible_onto hidden_onto empty nothing_visible nothing_hidden move move_visible move_hidden
  onto_nothing n =
      let slots = none_one n.visible in
      λ i. record {
        visible = record { parameters = slots i; items = union one_item [] (map (move_item σ φ) n.visible.items) };
        hidden = move_hidden σ φ n.hidden;
      }

-- ---- the kinds of modes

-- a renaming, onto nothing
pub moved_by_renaming : (text tape w : List ℕ) (m : Mode) (n : Normal) → m.kind ≡ 1
    → moved_onto (sort_name text tape w m) (function_name text tape w m) empty n
    ≡ move (renaming (pairs_at text tape m.pairs)) (λ (f : Name) (t : FunctionType). renaming (pairs_at text tape m.pairs) f) n
moved_by_renaming text tape w m n h =
    onto_nothing (sort_name text tape w m) (function_name text tape w m) n
    ∙ ap₂ (λ (σ : Name → Name) (φ : Name → FunctionType → Name). move σ φ n) (sort_name_renamed text tape w m h) (function_name_renamed text tape w m h)

-- all as it is
pub united_as_is : (text tape w : List ℕ) (m : Mode) (to from : Normal) → m.kind ≡ 0
    → moved_onto (sort_name text tape w m) (function_name text tape w m) to from ≡ unite to from
unfolding moved_onto visible_onto hidden_onto other_slots unite unite_visible unite_hidden
united_as_is text tape w m to from h =
    let σ = sort_name text tape w m in
    let φ = function_name text tape w m in
    let s = sort_name_same text tape w m h in
    let f = function_name_same text tape w m h in
    let seen = map_kept (move_item σ φ) from.visible.items (item_kept σ φ s f) in
    let unseen = map_kept (move_hidden_item σ φ) from.hidden.items (hidden_kept σ φ s f) in
    let said = map_kept (move_equation σ φ) from.hidden.equations (equation_kept σ φ s f) in
    λ i. record {
      visible = record {
        parameters = to.visible.parameters ++ other_slots to.visible from.visible;
        items = union one_item to.visible.items (seen i);
      };
      hidden = record { items = union one_item to.hidden.items (unseen i); equations = union one_equation to.hidden.equations (said i) };
    }

-- ---- what a form stands for where there is room for the equations of both

module _ (text : List ℕ) (t : ℕ) (w : List ℕ) (m : Mode) (g f : Form) (b : Block) (r : Form) (w' : List ℕ)
    (room : f.equation_count + g.equation_count ≤ b.equation_room) (from to : Normal)
    (source : Stands text (part w 0 t) w g from) (target : Stands text (part w 0 t) w f to) where
  all_within : within b.equation_room (hidden_onto (sorts text t w m) (functions text t w m) to.hidden from.hidden)
      ≡ hidden_onto (sorts text t w m) (functions text t w m) to.hidden from.hidden
  all_within =
      within_all (sorts text t w m) (functions text t w m) b.equation_room to.hidden from.hidden
      (omega (arith, room, source.equation_count, target.equation_count))

  pub hidden_stands : (notes : ℕ) → HiddenUnited text t w m g f b notes r w'
      → Noted (sorts text t w m) (functions text t w m) text (part w 0 t) w true notes g.visible g.visible_count f.visible f.visible_count
      → Stands text (part w' 0 t) w' r
      (record { visible = to.visible; hidden = hidden_onto (sorts text t w m) (functions text t w m) to.hidden from.hidden })
  hidden_stands notes x noted =
      subst (λ (h : Hidden). Stands text (part w' 0 t) w' r (record { visible = to.visible; hidden = h })) all_within
      (x.stands (inr (omega arith)) from to source target noted)

  pub united_stands : United text t w m g f b r w' → Stands text (part w' 0 t) w' r (moved_onto (sorts text t w m) (functions text t w m) to from)
  unfolding moved_onto
  united_stands x =
      subst (λ (h : Hidden). Stands text (part w' 0 t) w' r (record {
        visible = visible_onto (sorts text t w m) (functions text t w m) to.visible from.visible;
        hidden = h;
      })) all_within (x.stands from to source target)
