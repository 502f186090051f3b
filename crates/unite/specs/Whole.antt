-- A whole form united with another: the room that each step has, and what comes of the three.
use Rattle.std.specs.Prelude.{◌≡◌, List, ◌++◌, map, ℕ, ◌+◌, ◌*◌, ◌≤◌}
use Rattle.std.proofs.Math.Path.{sym, ap, subst, transport}
use Rattle.std.proofs.Common.{◌∙◌, inl, inr, arith}
use Rattle.std.proofs.Math.Bool.{true, false}
use Rattle.std.proofs.Math.ListN.{length}
use Rattle.meaning.specs.Lists.{union}
use Rattle.meaning.specs.Names.{Name}
use Rattle.meaning.specs.Origins.{FunctionType, one_item}
use Rattle.meaning.specs.Normal.{Visible, Normal, move_item}
use Rattle.form_rows.specs.Rows.{row_size}
use Rattle.form.specs.declared.Form.{Form}
use Rattle.form.specs.declared.Block.{Block}
use Rattle.form.specs.Memory.{part, Kept}
use Rattle.form.specs.Forms.{items_at, visible_at, Stands}
use Rattle.form.specs.FormLaws.{Apart, kept_same, items_same}
use Rattle.form.specs.Blocks.{BlockLaid, Lies}
use Rattle.form_frames.specs.Changes.{onward, wider, around, apart_in, outside_in, tape_kept, still_stands}
use Rattle.clause_translation.specs.declared.Mode.{Mode}
use Rattle.clause_translation.specs.Translation.{sort_name, function_name}
use Rattle.clause_translation.specs.MovedLaws.{sort_name_apart, function_name_apart}
use Rattle.unite_items.specs.Turns.{Room}
use Rattle.unite_nodes.specs.Joined.{with_counts}
use Rattle.unite_nodes.specs.Found.{Noted}
use Rattle.unite.specs.Rooms.{SlotsRoom, HiddenRoom, Inside, UniteRoom}
use Rattle.unite.specs.United.{with_items, other_slots, visible_onto, hidden_onto, within, sorts, functions}
use Rattle.unite.specs.United.{SlotsUnited, VisibleUnited, SeenUnited, HiddenUnited, United}
use Rattle.unite.specs.InBlock.{inside_as, outside_notes, outside_slots, outside_rows, hidden_room_in}
use Rattle.unite.specs.Noting.{all_noted}
use Rattle.unite.specs.Hiding.{keep_all}
use Rattle.unite.specs.Showing.{slots_stand, visible_stands}

-- new names are the same where the tape and the mode's table stay
module _ (text : List ℕ) (t : ℕ) (w w' : List ℕ) (m : Mode) (low high : ℕ) (behind : t ≤ low) (kept : Kept low high w w')
    (apart : Apart low high m.visible (m.visible + m.count * row_size)) where
  tape_stays : part w' 0 t ≡ part w 0 t
  tape_stays = tape_kept behind kept

  table_stays : items_at text (part w 0 t) w' m.visible m.count ≡ items_at text (part w 0 t) w m.visible m.count
  table_stays = items_same w w' text (part w 0 t) m.visible m.count (kept_same low high _ _ w w' apart kept)

  pub sorts_stay : sorts text t w' m ≡ sorts text t w m
  sorts_stay = ap (λ (tape : List ℕ). sort_name text tape w' m) tape_stays ∙ sort_name_apart text (part w 0 t) w w' m table_stays

  pub functions_stay : functions text t w' m ≡ functions text t w m
  functions_stay = ap (λ (tape : List ℕ). function_name text tape w' m) tape_stays ∙ function_name_apart text (part w 0 t) w w' m table_stays

-- ---- room

module _ (text : List ℕ) (t : ℕ) (w : List ℕ) (m : Mode) (g f : Form) (b : Block) (room : UniteRoom (length w) t m g f b) where
  abbrev laid : BlockLaid (length w) t b room.names room.rows room.hidden_rows room.sources
  laid = room.laid

  abbrev lies : Lies b f
  lies = room.inside.lies

  pub slots_room : SlotsRoom (length w) t g f
  slots_room = record {
    tape = omega (arith, laid, lies);
    few = room.few_parameters;
    room = omega (arith, room, laid, lies);
    own_rows = inr (omega (arith, room, laid, lies));
    source = apart_in (omega (arith, room, laid, lies)) room.outside.parameters;
    source_rows = apart_in (omega (arith, room, laid, lies)) room.outside.visible;
  }

  pub visible_room : Room (length w) t m g.visible g.visible_count f.visible f.visible_count b.visible_notes
  visible_room = record {
    tape_table = omega (arith, room, laid, lies);
    tape_note = omega (arith, room, laid, lies);
    table = omega (arith, room, laid, lies);
    note = omega (arith, room, laid, lies);
    few = room.few_visible;
    table_note = inr (omega (arith, room, laid, lies));
    table_source = apart_in (omega (arith, room, laid, lies)) room.outside.visible;
    note_source = apart_in (omega (arith, room, laid, lies)) room.outside.visible;
    table_mode = apart_in (omega (arith, room, laid, lies)) room.mode;
    note_mode = apart_in (omega (arith, room, laid, lies)) room.mode;
  }

  -- ---- after the parameters and the visible items

  module _ (seen : Form) (w₂ : List ℕ) (both : SeenUnited text t w m g f b.visible_notes seen w₂) where
    abbrev named : Form
    named = both.named

    abbrev w₁ : List ℕ
    w₁ = both.between

    abbrev x : SlotsUnited text t w g f named w₁
    x = both.parameters

    abbrev y : VisibleUnited text t w₁ m false g named b.visible_notes seen w₂
    y = both.rows

    named_few : named.parameter_count ≤ room.names
    named_few = omega (arith, room, x.few)

    named_inside : Inside b room.names room.rows room.hidden_rows named
    named_inside =
        subst (Inside b room.names room.rows room.hidden_rows) (sym x.form)
        (inside_as laid room.inside _ _ _ named_few room.inside.visible room.inside.hidden)

    slots_kept : Kept b.low b.high w w₁
    slots_kept = wider (omega (arith, room, laid, lies)) x.kept

    seen_form : seen ≡ with_items f named.parameter_count seen.visible_count f.hidden_count
    unfolding with_items
    seen_form = y.form ∙ ap (λ (z : Form). with_items z z.parameter_count seen.visible_count z.hidden_count) x.form

    seen_few : seen.visible_count ≤ f.visible_count + g.visible_count
    unfolding with_items
    seen_few = omega (arith, y.absorbed.few, ap (λ (z : Form). z.visible_count) x.form)

    seen_inside : Inside b room.names room.rows room.hidden_rows seen
    seen_inside =
        subst (Inside b room.names room.rows room.hidden_rows) (sym seen_form)
        (inside_as laid room.inside _ _ _ named_few (omega (arith, room, seen_few)) room.inside.hidden)

    visible_kept : Kept b.low b.high w₁ w₂
    unfolding with_items
    visible_kept =
        let base : named.visible ≡ f.visible = ap (λ (z : Form). z.visible) x.form in
        let have : named.visible_count ≡ f.visible_count = ap (λ (z : Form). z.visible_count) x.form in
        around (omega (arith, room, laid, lies)) (omega (arith, room, laid, lies)) y.absorbed.kept

    pub hidden_room : HiddenRoom (length w₂) t m g seen b b.visible_notes
    unfolding with_items
    hidden_room =
        let size : length w₂ ≡ length w = visible_kept.size ∙ slots_kept.size in
        let have : seen.hidden_count ≡ f.hidden_count = ap (λ (z : Form). z.hidden_count) seen_form in
        hidden_room_in (subst (λ (n : ℕ). BlockLaid n t b room.names room.rows room.hidden_rows room.sources) (sym size) laid) seen_inside m g
        b.visible_notes _ (outside_in (omega (arith, room, laid)) room.outside) (apart_in (omega (arith, room, laid)) room.mode)
        (omega arith) (omega (arith, room)) (omega (arith, room)) room.hidden_source (omega (arith, room))
        (inr (omega (arith, laid))) (inl (omega (arith, room, laid)))

    -- ---- after all

    module _ (r : Form) (w₃ : List ℕ) (z : HiddenUnited text t w₂ m g seen b b.visible_notes r w₃) where
      made_form : r
          ≡ with_counts (with_items f named.parameter_count seen.visible_count r.hidden_count)
          r.equation_count r.node_count
      unfolding with_items
      made_form =
          z.form
          ∙ ap (λ (u : Form). with_counts (with_items u u.parameter_count u.visible_count r.hidden_count)
          r.equation_count r.node_count) seen_form

      all_kept : Kept b.low b.high w w₃
      unfolding with_items
      all_kept =
          let base : seen.hidden ≡ f.hidden = ap (λ (u : Form). u.hidden) seen_form in
          let nodes : seen.nodes ≡ f.nodes = ap (λ (u : Form). u.nodes) seen_form in
          onward (onward slots_kept visible_kept) (around (omega (arith, room, laid, lies)) (omega (arith, room, laid, lies)) z.kept)

      -- ---- what it stands for

      behind : t ≤ b.low
      behind = room.laid.tape

      abbrev σ : Name → Name
      σ = sorts text t w m

      abbrev φ : Name → FunctionType → Name
      φ = functions text t w m

      sorts_named : sorts text t w₁ m ≡ σ
      sorts_named = sorts_stay text t w w₁ m b.low b.high behind slots_kept room.mode

      functions_named : functions text t w₁ m ≡ φ
      functions_named = functions_stay text t w w₁ m b.low b.high behind slots_kept room.mode

      sorts_seen : sorts text t w₂ m ≡ sorts text t w₁ m
      sorts_seen = sorts_stay text t w₁ w₂ m b.low b.high behind visible_kept room.mode

      functions_seen : functions text t w₂ m ≡ functions text t w₁ m
      functions_seen = functions_stay text t w₁ w₂ m b.low b.high behind visible_kept room.mode

      noted : Noted (sorts text t w₂ m) (functions text t w₂ m) text (part w₂ 0 t) w₂ true b.visible_notes g.visible g.visible_count
          seen.visible seen.visible_count
      unfolding with_items
      noted =
          let base : named.visible ≡ seen.visible = sym (ap (λ (u : Form). u.visible) y.form) in
          let right = all_noted text (part w₁ 0 t) w₁ m true g.visible g.visible_count named.visible named.visible_count b.visible_notes
          seen.visible_count w₂ y.absorbed (omega (arith, room, laid, lies, seen_few, room.few_visible))
          (kept_same b.low b.high _ _ w₁ w₂ room.outside.visible visible_kept) in
          let tape = tape_stays text t w₁ w₂ m b.low b.high behind visible_kept room.mode in
          transport (λ i. Noted (sym sorts_seen i) (sym functions_seen i) text (sym tape i) w₂ true b.visible_notes g.visible g.visible_count
          (base i) seen.visible_count) right

      abbrev made : Normal → Normal → Normal
      made from to = record {
        visible = visible_onto σ φ to.visible from.visible;
        hidden = within b.equation_room (hidden_onto σ φ to.hidden from.hidden);
      }

      all_stands : (from to : Normal) → Stands text (part w 0 t) w g from → Stands text (part w 0 t) w f to → Stands text (part w₃ 0 t) w₃ r (made from to)
      unfolding visible_at visible_onto with_items
      all_stands from to s u =
          let s₁ = still_stands behind slots_kept room.outside s in
          let s₂ = still_stands behind visible_kept room.outside s₁ in
          let u₁ = slots_stand text t w w₁ g f named from.visible to x (omega (arith, laid, lies))
          (outside_slots laid room.inside g.parameter_count room.parameters) s.visible u in
          let have : named.visible_count ≡ f.visible_count = ap (λ (v : Form). v.visible_count) x.form in
          let u₂ = visible_stands text t w₁ w₂ m false g named b.visible_notes seen y
          (omega (arith, laid, named_inside.lies)) visible_room.tape_note _ from.visible.items
          (outside_rows laid named_inside g.visible_count (omega (arith, room)))
          (outside_notes laid named_inside _ _ (omega arith)) u₁
          (ap (λ (v : Visible). v.items) s₁.visible) in
          let all = keep_all text m.parameter from.visible.items in
          let σs = sorts_seen ∙ sorts_named in
          let φs = functions_seen ∙ functions_named in
          subst (Stands text (part w₃ 0 t) w₃ r)
          (λ i. record {
            visible = record {
              parameters = to.visible.parameters ++ other_slots to.visible from.visible;
              items = union one_item to.visible.items (map (move_item (sorts_named i) (functions_named i)) (all i));
            };
            hidden = within b.equation_room (hidden_onto (σs i) (φs i) to.hidden from.hidden);
          })
          (z.stands (inr (omega arith)) from _ s₂ u₂ noted)

      pub united : United text t w m g f b r w₃
      unfolding with_items with_counts
      united =
          record {
            lies = subst (Lies b) (sym made_form) (omega (arith, lies));
            names = omega (arith, x.few, ap (λ (u : Form). u.parameter_count) made_form);
            visible = omega (arith, seen_few, ap (λ (u : Form). u.visible_count) made_form);
            hidden = omega (arith, z.few, ap (λ (u : Form). u.hidden_count) seen_form);
            equations = z.equations;
            nodes = z.nodes;
            kept = all_kept;
            stands = all_stands;
          }
