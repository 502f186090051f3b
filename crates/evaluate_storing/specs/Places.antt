-- Where a normal form is kept, and where notes and order table stand while it is put in order.
use Rattle.std.specs.Prelude.{◌≡◌, refl, ℕ, ◌+◌, ◌*◌, ◌≤◌}
use Rattle.std.proofs.Common.{arith}
use Rattle.meaning.specs.Numbers.{module_limit, memory_size}
use Rattle.form_rows.specs.Rows.{row_size}
use Rattle.form.specs.declared.Form.{Form}
use Rattle.form.specs.Blocks.{MadeThere}
use Rattle.form.specs.Forms.{equation_size, slot_size}
use Rattle.form_layout.specs.Layout.{block_at, joining_block, kept_start, table_start, Laid}
use Rattle.list_keeping.specs.Nodes.{kept_form}
use Rattle.list_keeping.specs.Kept.{KeepRoom, order_place}
use Rattle.form_keeping.specs.Environment.{Between, below_outside, made_between}
use Rattle.form_keeping.specs.Growing.{table_end}

-- the words that what f has takes
abbrev pub form_space : Form → ℕ
form_space f = f.parameter_count * slot_size + f.visible_count * row_size + f.hidden_count * row_size + f.equation_count * equation_size
    + f.node_count

-- what f has, in places one behind the other
unfoldable pub place_form : Form → ℕ → Form
place_form f cursor = record {
  parameters = cursor;
  parameter_count = f.parameter_count;
  visible = cursor + f.parameter_count * slot_size;
  visible_count = f.visible_count;
  hidden = cursor + f.parameter_count * slot_size + f.visible_count * row_size;
  hidden_count = f.hidden_count;
  equations = cursor + f.parameter_count * slot_size + f.visible_count * row_size + f.hidden_count * row_size;
  equation_count = f.equation_count;
  nodes = cursor + f.parameter_count * slot_size + f.visible_count * row_size + f.hidden_count * row_size + f.equation_count * equation_size;
  node_count = f.node_count;
}

pub placed_form : (f : Form) (cursor : ℕ) → kept_form f (place_form f cursor) ≡ place_form f cursor
unfolding kept_form place_form
placed_form f cursor = refl

pub placed_between : (f : Form) (cursor : ℕ) → Between cursor (cursor + form_space f) (place_form f cursor)
unfolding place_form
placed_between f cursor = omega arith

-- ---- notes and order table

unfoldable pub scratch_start : ℕ
scratch_start = 1025672

-- notes of 512 items, and an order table of 8 parameters, 512 items and 256 equations
abbrev pub scratch_room : ℕ
scratch_room = 1288

pub scratch_there : (size : ℕ) → memory_size ≤ size → scratch_start + scratch_room ≤ size
unfolding memory_size scratch_start
scratch_there size h = omega arith

pub scratch_behind : table_end ≤ scratch_start
unfolding scratch_start table_start
scratch_behind = omega arith

scratch_small : scratch_start + scratch_room ≤ 1073741824
unfolding scratch_start
scratch_small = omega arith

-- ---- room

pub record StoreRoom (size t k : ℕ) (f : Form) (cursor : ℕ) : Type 0 where
  pub laid : Laid size t
  pub scratch : scratch_start + scratch_room ≤ size
  pub made : MadeThere joining_block f
  pub start : kept_start ≤ cursor
  pub space : cursor + form_space f ≤ table_start
  pub number : k ≤ module_limit

joining_equations : 256 ≤ joining_block.equation_room
unfolding joining_block block_at
joining_equations = omega arith

module _ (size t k : ℕ) (f : Form) (cursor : ℕ) (room : StoreRoom size t k f cursor) where
  joining_below : joining_block.high ≤ kept_start
  joining_below = omega (arith, room.laid)

  pub tape_below : t ≤ kept_start
  tape_below = omega (arith, room.laid)

  made_here : Between joining_block.low joining_block.high f
  made_here =
      made_between size t joining_block 32776 33280 1024 33280 f room.laid.joining (omega arith) (omega arith) (omega arith) joining_equations room.made

  pub space_small : cursor + form_space f ≤ 1073741824
  space_small = omega (arith, room.space, scratch_behind, scratch_small)

  pub keep_room : KeepRoom size t f (place_form f cursor) scratch_start (order_place f scratch_start)
  unfolding place_form order_place
  keep_room =
      let b = made_here in
      let x = room.made.fits in
      let behind : joining_block.high ≤ scratch_start = omega (arith, joining_below, room.start, room.space, scratch_behind) in
      record {
        tape = omega (arith, tape_below, room.start);
        parameters = omega arith;
        visible = omega arith;
        hidden = omega arith;
        equations = omega arith;
        nodes = omega (arith, room.space, scratch_behind);
        outside = below_outside cursor _ joining_block.low joining_block.high f (omega (arith, joining_below, room.start)) b;
        parameters_before = omega (arith, b.parameters_end, behind);
        visible_before = omega (arith, b.visible_end, behind);
        hidden_before = omega (arith, b.hidden_end, behind);
        equations_before = omega (arith, b.equations_end, behind);
        nodes_before = omega (arith, b.nodes_end, behind);
        notes = omega arith;
        room = omega (arith, x.parameters, x.items, x.equations, room.scratch);
        small = omega (arith, x.items, scratch_small);
        visible_few = omega (arith, x.items);
        hidden_few = omega (arith, x.items);
      }
