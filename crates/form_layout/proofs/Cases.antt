-- Each answer of the layout's functions, as its definition has it.
use mathlib.Core.Path.{◌≡◌, refl}
use Prim.Native.Nat.{ℕ, ◌+◌, ◌*◌, ◌≤◌}
use native.Mathlib.Omega.{arith}
use borrow.Author.Rules.{rules}
use Rattle.form_rows.specs.Rows.{row_size}
use Rattle.form.specs.declared.Block.{Block}
use Rattle.form.specs.Forms.{equation_size, slot_size}
use Rattle.form_layout.specs.Layout.{block_span, block_at, tape_end, joining_block, first_block, second_block, kept_start, table_start}

pub tape_number : 65536 ≡ tape_end
unfolding tape_end
tape_number = refl

pub kept_number : 999032 ≡ kept_start
unfolding kept_start
kept_number = refl

pub table_number : 1024632 ≡ table_start
unfolding table_start
table_number = refl

pub is_block : (low names rows hidden_rows equations sources : ℕ) → record {
  low = low;
  parameters = low;
  visible = low + names * slot_size;
  hidden = low + names * slot_size + rows * row_size;
  equations = low + names * slot_size + rows * row_size + hidden_rows * row_size;
  nodes = low + names * slot_size + rows * row_size + hidden_rows * row_size + equations * equation_size;
  visible_notes = low + names * slot_size + rows * row_size + hidden_rows * row_size + equations * equation_size + equations * 64;
  hidden_notes = low + names * slot_size + rows * row_size + hidden_rows * row_size + equations * equation_size + equations * 64 + sources;
  order = low + names * slot_size + rows * row_size + hidden_rows * row_size + equations * equation_size + equations * 64 + sources + sources;
  high = low + names * slot_size + rows * row_size + hidden_rows * row_size + equations * equation_size + equations * 64 + sources + sources + names + rows;
  equation_room = equations;
  node_room = equations * 64;
}
    ≡ block_at low names rows hidden_rows equations sources
unfolding block_at
is_block low names rows hidden_rows equations sources = refl

pub joining_fits : 65536 + block_span 32776 33280 1024 512 33280 ≤ 1073741824
joining_fits = omega arith

pub first_fits : 849432 + block_span 16 1024 1024 512 2048 ≤ 1073741824
first_fits = omega arith

pub second_fits : 924232 + block_span 16 1024 1024 512 2048 ≤ 1073741824
second_fits = omega arith

pub is_joining : (r : Block) → r ≡ block_at 65536 32776 33280 1024 512 33280 → r ≡ joining_block
unfolding joining_block
is_joining r h = h

pub is_first : (r : Block) → r ≡ block_at 849432 16 1024 1024 512 2048 → r ≡ first_block
unfolding first_block
is_first r h = h

pub is_second : (r : Block) → r ≡ block_at 924232 16 1024 1024 512 2048 → r ≡ second_block
unfolding second_block
is_second r h = h

pub ruleset cases =
    (tape_number, kept_number, table_number, joining_fits, first_fits, second_fits, is_joining, is_first, is_second, is_block, rules)
