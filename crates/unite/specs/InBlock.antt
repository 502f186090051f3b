-- What a form that lies in a block lies apart from, and the room that it has for another's hidden part.
use Rattle.std.specs.Prelude.{ℕ, ◌+◌, ◌*◌, ◌≤◌}
use native.Mathlib.Omega.{arith}
use Rattle.form_rows.specs.Rows.{row_size}
use Rattle.form.specs.declared.Form.{Form}
use Rattle.form.specs.declared.Block.{Block}
use Rattle.form.specs.FormLaws.{Apart}
use Rattle.form.specs.Blocks.{BlockLaid, Outside}
use Rattle.form.specs.Forms.{slot_size}
use Rattle.form_frames.specs.Changes.{apart_in, outside, outside_in}
use Rattle.clause_translation.specs.declared.Mode.{Mode}
use Rattle.unite.specs.Rooms.{Inside, HiddenRoomWithin}
use Rattle.unite.specs.United.{with_items}

module _ {size t : ℕ} {b : Block} {names rows hidden_rows sources : ℕ} (laid : BlockLaid size t b names rows hidden_rows sources) {f : Form}
    (inside : Inside b names rows hidden_rows f) where
  -- with other parameters and rows it lies there too
  pub inside_as : (p v h : ℕ) → p ≤ names → v ≤ rows → h ≤ hidden_rows → Inside b names rows hidden_rows (with_items f p v h)
  unfolding with_items
  inside_as p v h few_slots few_rows few_hidden = omega arith

  -- the notes and what is behind them are none of the form
  pub outside_notes : (low high : ℕ) → b.visible_notes ≤ low → Outside low high f
  outside_notes low high h = outside (omega arith)

  -- nor is the room behind its parameters, and behind its visible rows
  pub outside_slots : (c : ℕ) → f.parameter_count + c ≤ names
      → Outside (f.parameters + f.parameter_count * slot_size) (f.parameters + (f.parameter_count + c) * slot_size) f
  outside_slots c h = outside (omega arith)

  pub outside_rows : (c : ℕ) → f.visible_count + c ≤ rows
      → Outside (f.visible + f.visible_count * row_size) (f.visible + (f.visible_count + c) * row_size) f
  outside_rows c h = outside (omega arith)

  -- room for the hidden part of g, whose visible items are noted from `notes` on
  pub hidden_room_in : (m : Mode) (g : Form) (notes cap : ℕ) → Outside b.hidden (b.hidden_notes + g.hidden_count) g
      → Apart b.hidden (b.hidden_notes + g.hidden_count) m.visible (m.visible + m.count * row_size)
      → f.hidden_count ≤ cap → cap ≤ hidden_rows → cap ≤ 65536 → g.hidden_count ≤ sources → g.nodes + g.node_count ≤ size
      → Apart b.hidden (b.nodes + b.node_room) notes (notes + g.visible_count)
      → Apart b.hidden_notes (b.hidden_notes + g.hidden_count) notes (notes + g.visible_count)
      → HiddenRoomWithin size t m g f b notes cap
  hidden_room_in m g notes cap outside mode have many few source nodes rows_apart notes_apart = record {
    tape = omega arith;
    parameters = omega arith;
    visible = omega arith;
    hidden = omega arith;
    equations = omega arith;
    nodes = omega arith;
    hidden_notes = omega arith;
    enough = laid.enough;
    have = have;
    few = few;
    few_equations = inside.equations;
    few_nodes = inside.nodes;
    source_nodes = nodes;
    outside = outside_in (omega arith) outside;
    mode = apart_in (omega arith) mode;
    notes_rows = apart_in (omega arith) rows_apart;
    notes_notes = notes_apart;
  }
