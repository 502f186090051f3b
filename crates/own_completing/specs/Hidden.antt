-- What a module itself says comes into the form of what it imports: the room for it, what changes, and what the form stands for then.
use Rattle.std.specs.Prelude.{◌≡◌, List, ℕ, ◌+◌, ◌*◌, ◌≤◌, ◌<◌, length, get_or, take}
use Rattle.std.proofs.Math.Path.{refl}
use Rattle.std.proofs.Common.{sym, ap, ◌∙◌, subst, inl, inr, arith}
use Rattle.std.proofs.Math.Bool.{true}
use Rattle.meaning.specs.Origins.{Item}
use Rattle.meaning.specs.Normal.{Hidden, Normal, unite_hidden, unite}
use Rattle.form_rows.specs.Rows.{item_of, row_at, row_size}
use Rattle.form.specs.declared.Form.{Form}
use Rattle.form.specs.declared.Block.{Block}
use Rattle.form.specs.Memory.{part, Kept}
use Rattle.form.specs.Forms.{items_at, visible_at, node_of, Stands}
use Rattle.form.specs.Blocks.{BlockLaid, Outside}
use Rattle.form_frames.specs.Changes.{onward, wider, around, outside, still_stands}
use Rattle.clause_translation.specs.declared.Mode.{Mode}
use Rattle.clause_translation.specs.Translation.{sort_name, function_name, moved_in, moved, moved_hidden}
use Rattle.clause_translation.specs.MovedLaws.{moved_same}
use Rattle.unite_nodes.specs.Joined.{with_counts}
use Rattle.unite_nodes.specs.Found.{Noted}
use Rattle.unite.specs.Rooms.{HiddenRoomWithin, Inside}
use Rattle.unite.specs.United.{with_items, hidden_onto, moved_onto, within, sorts, functions, HiddenUnitedWithin}
use Rattle.unite.specs.InBlock.{hidden_room_in}
use Rattle.unite.specs.Noting.{item_moved, node_moved, shape_moved}
use Rattle.unite.specs.Corollaries.{united_as_is}

-- the mode that leaves all as it is
abbrev pub as_is : Mode
as_is = record { kind = 0; pairs = 0; parameter = 0; visible = 0; count = 0 }

-- each of n rows is noted where it stands
pub record SameNoted (w : List ℕ) (o n : ℕ) (w' : List ℕ) : Type 0 where
  pub words : (i : ℕ) → i < n → get_or w' (o + i) 0 ≡ i
  pub kept : Kept o (o + n) w w'

-- f lies in the block, which has room for 1,024 hidden rows and 512 equations; g has its parameters and its visible rows, its own hidden rows
-- behind them, and its equations and nodes behind the block
pub record JoinRoom (size t : ℕ) (g f : Form) (b : Block) : Type 0 where
  pub names : ℕ
  pub rows : ℕ
  pub sources : ℕ
  pub laid : BlockLaid size t b names rows 1024 sources
  pub inside : Inside b names rows 1024 f
  pub few_rows : rows ≤ 65536
  pub enough_notes : rows ≤ sources
  pub enough_equations : 512 ≤ b.equation_room
  pub same_names : g.parameters ≡ f.parameters
  pub same_name_count : g.parameter_count ≡ f.parameter_count
  pub same_rows : g.visible ≡ f.visible
  pub same_row_count : g.visible_count ≡ f.visible_count
  pub own_rows : g.hidden ≡ f.visible + f.visible_count * row_size
  pub own_row_count : f.visible_count + g.hidden_count ≤ rows
  pub own_equations : b.high ≤ g.equations
  pub own_nodes : b.high ≤ g.nodes
  pub own_node_room : g.nodes + 65536 ≤ size

pub record HiddenJoined (text : List ℕ) (t : ℕ) (w : List ℕ) (g f : Form) (b : Block) (r : Form) (w' : List ℕ) : Type 0 where
  pub form :
      r ≡ with_counts (with_items f f.parameter_count f.visible_count r.hidden_count) r.equation_count r.node_count
  pub few : r.hidden_count ≤ 1024
  pub equations : r.equation_count ≤ b.equation_room
  pub nodes : r.node_count ≤ b.node_room
  pub kept : Kept b.low b.high w w'
  pub seen : (to : Normal) → Stands text (part w 0 t) w f to → visible_at text (part w' 0 t) w' r ≡ to.visible
  pub items : (from to : Normal) → Stands text (part w 0 t) w g from → Stands text (part w 0 t) w f to
      → items_at text (part w' 0 t) w' r.hidden r.hidden_count ≡ take 1024 (unite_hidden to.hidden from.hidden).items
  pub stands : r.hidden_count < 1024 → (from to : Normal) → Stands text (part w 0 t) w g from → Stands text (part w 0 t) w f to
      → Stands text (part w' 0 t) w' r (record { visible = to.visible; hidden = within b.equation_room (unite_hidden to.hidden from.hidden) })

-- ---- notes

-- a row that is noted where it stands is noted right
module _ (text tape w : List ℕ) where
  item_stays : (x : Item) → item_moved (sort_name text tape w as_is) (function_name text tape w as_is) true x ≡ x
  unfolding item_moved moved_in moved moved_hidden
  item_stays x = moved_same text tape w as_is refl true x

  noted_same : (base n o : ℕ) → n ≤ 65536 → ((i : ℕ) → i < n → get_or w (o + i) 0 ≡ i)
      → Noted (sort_name text tape w as_is) (function_name text tape w as_is) text tape w true o base n base n
  noted_same base n o few word =
      let σ = sort_name text tape w as_is in
      let φ = function_name text tape w as_is in
      let there : (i : ℕ) → i < n → item_of text tape (row_at w (base + get_or w (o + i) 0 * row_size)) ≡ item_of text tape (row_at w (base + i * row_size)) =
      λ i h. ap (λ (j : ℕ). item_of text tape (row_at w (base + j * row_size))) (word i h) in
      record {
        small = few;
        inside = λ i h z. subst (λ (j : ℕ). j < n) (sym (word i h)) h;
        node = λ i h z k.
            ap (node_of true k) (there i h ∙ sym (item_stays (item_of text tape (row_at w (base + i * row_size)))))
            ∙ node_moved σ φ true k (item_of text tape (row_at w (base + i * row_size)));
        shape = λ i h z.
            ap (λ (x : Item). x.shape) (there i h ∙ sym (item_stays (item_of text tape (row_at w (base + i * row_size)))))
            ∙ shape_moved σ φ true (item_of text tape (row_at w (base + i * row_size)));
      }

-- ---- hidden parts

hidden_as_is : (text tape w : List ℕ) (to from : Normal)
    → hidden_onto (sort_name text tape w as_is) (function_name text tape w as_is) to.hidden from.hidden ≡ unite_hidden to.hidden from.hidden
unfolding moved_onto unite
hidden_as_is text tape w to from = ap (λ (n : Normal). n.hidden) (united_as_is text tape w as_is to from refl)

module _ (text : List ℕ) (t : ℕ) (w : List ℕ) (g f : Form) (b : Block) (room : JoinRoom (length w) t g f b) where
  pub note_room : b.visible_notes + g.visible_count ≤ length w
  note_room = omega (arith, room)

  module _ (w₁ : List ℕ) (x : SameNoted w b.visible_notes g.visible_count w₁) where
    pub hidden_room : g.node_count ≤ 65536 → HiddenRoomWithin (length w₁) t as_is g f b b.visible_notes 1024
    hidden_room few =
        rw x.kept.size (hidden_room_in room.laid room.inside as_is g b.visible_notes 1024 (outside (omega (arith, room))) (inl (omega arith))
        room.inside.hidden (omega arith) (omega arith) (omega (arith, room)) (omega (arith, room.own_node_room)) (inr (omega (arith, room.laid)))
        (inl (omega (arith, room))))

    notes_kept : Kept b.low b.high w w₁
    notes_kept = wider (omega (arith, room)) x.kept

    notes_tape : t ≤ b.visible_notes
    notes_tape = omega (arith, room.laid)

    -- neither form has the notes among its words
    notes_outside_f : Outside b.visible_notes (b.visible_notes + g.visible_count) f
    notes_outside_f = outside (omega (arith, room))

    notes_outside_g : Outside b.visible_notes (b.visible_notes + g.visible_count) g
    notes_outside_g = outside (omega (arith, room))

    f_noted : (n : Normal) → Stands text (part w 0 t) w f n → Stands text (part w₁ 0 t) w₁ f n
    f_noted n s = still_stands notes_tape x.kept notes_outside_f s

    g_noted : (n : Normal) → Stands text (part w 0 t) w g n → Stands text (part w₁ 0 t) w₁ g n
    g_noted n s = still_stands notes_tape x.kept notes_outside_g s

    module _ (r : Form) (w' : List ℕ) (z : HiddenUnitedWithin text t w₁ as_is g f b b.visible_notes 1024 r w') where
      united_kept : Kept b.low b.high w₁ w'
      united_kept = around (omega (arith, room)) (omega (arith, room)) z.kept

      abbrev tape : List ℕ
      tape = part w₁ 0 t

      abbrev NotedRows : ℕ → ℕ → Type 0
      NotedRows source rows =
          Noted (sorts text t w₁ as_is) (functions text t w₁ as_is) text tape w₁ true b.visible_notes source g.visible_count f.visible rows

      noted : NotedRows g.visible f.visible_count
      noted =
          let count = room.same_row_count in
          subst (λ (source : ℕ). NotedRows source f.visible_count) (sym room.same_rows)
          (subst (NotedRows f.visible) count
          (noted_same text tape w₁ f.visible g.visible_count b.visible_notes
          (omega (arith, room.inside.visible, room.few_rows, count)) x.words))

      pub hidden_joined : HiddenJoined text t w g f b r w'
      hidden_joined = record {
        form = z.form;
        few = z.few;
        equations = z.equations;
        nodes = z.nodes;
        kept = onward notes_kept united_kept;
        seen = λ to u. z.seen ∙ (f_noted to u).visible;
        items = λ from to s u.
            z.items from to (g_noted from s) (f_noted to u) ∙ ap (λ (h : Hidden). take 1024 h.items) (hidden_as_is text tape w₁ to from);
        stands = λ l from to s u.
            subst (λ (h : Hidden). Stands text (part w' 0 t) w' r (record { visible = to.visible; hidden = within b.equation_room h }))
            (hidden_as_is text tape w₁ to from) (z.stands (inl l) from to (g_noted from s) (f_noted to u) noted);
      }
