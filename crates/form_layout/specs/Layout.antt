-- The layout of the working memory, in numbers: docs/MEMORY.md has it as a table. Every size follows from those of document 01.
use Rattle.std.specs.Prelude.{ℕ, ◌+◌, ◌*◌, ◌≤◌}
use Rattle.std.proofs.Common.{arith}
use Rattle.meaning.specs.Numbers.{module_limit, parameter_room, item_total, equation_total, node_total, memory_size}
use Rattle.form_rows.specs.Rows.{row_size}
use Rattle.form.specs.declared.Block.{Block}
use Rattle.form.specs.Blocks.{BlockLaid}
use Rattle.form.specs.Forms.{equation_size, slot_size, form_size}

-- ---- a block

-- the words of a block with room for so many parameters, visible and hidden rows, equations, and rows of a source
abbrev pub block_span : ℕ → ℕ → ℕ → ℕ → ℕ → ℕ
block_span names rows hidden_rows equations sources =
    names * slot_size + rows * row_size + hidden_rows * row_size + equations * equation_size + equations * 64 + sources + sources + names + rows

unfoldable pub block_at : ℕ → ℕ → ℕ → ℕ → ℕ → ℕ → Block
block_at low names rows hidden_rows equations sources = record {
  low = low;
  parameters = low;
  visible = low + names * slot_size;
  hidden = low + names * slot_size + rows * row_size;
  equations = low + names * slot_size + rows * row_size + hidden_rows * row_size;
  nodes = low + names * slot_size + rows * row_size + hidden_rows * row_size + equations * equation_size;
  visible_notes = low + names * slot_size + rows * row_size + hidden_rows * row_size + equations * equation_size + equations * 64;
  hidden_notes = low + names * slot_size + rows * row_size + hidden_rows * row_size + equations * equation_size + equations * 64 + sources;
  order = low + names * slot_size + rows * row_size + hidden_rows * row_size + equations * equation_size + equations * 64 + sources + sources;
  high = low + names * slot_size + rows * row_size + hidden_rows * row_size + equations * equation_size + equations * 64 + sources + sources + names + rows;
  equation_room = equations;
  node_room = equations * 64;
}

pub block_laid : (size t low names rows hidden_rows equations sources : ℕ) → t ≤ low → low + block_span names rows hidden_rows equations sources ≤ size
    → low + block_span names rows hidden_rows equations sources ≤ 1073741824
    → BlockLaid size t (block_at low names rows hidden_rows equations sources) names rows hidden_rows sources
unfolding block_at
block_laid size t low names rows hidden_rows equations sources h within small = omega arith

-- ---- the blocks

-- two texts have at most so many entries; a module stands in one of them, so half as many are its own items, parameters or equations
unfoldable pub tape_end : ℕ
tape_end = 65536

-- what a module may import and its own: parameters and items; of hidden ones, equations and nodes twice what fits
unfoldable pub joining_block : Block
joining_block = block_at 65536 32776 33280 1024 512 33280

-- two normal forms that fit, united before the check
unfoldable pub first_block : Block
first_block = block_at 849432 16 1024 1024 512 2048

unfoldable pub second_block : Block
second_block = block_at 924232 16 1024 1024 512 2048

unfoldable pub kept_start : ℕ
kept_start = 999032

-- eight parameters of each module, of two words each, and all items, equations and nodes that fit together
unfoldable pub table_start : ℕ
table_start = 1024632

pub record Laid (size t : ℕ) : Type 0 where
  pub joining : BlockLaid size t joining_block 32776 33280 1024 33280
  pub first : BlockLaid size t first_block 16 1024 1024 2048
  pub second : BlockLaid size t second_block 16 1024 1024 2048
  pub joining_first : joining_block.high ≤ first_block.low
  pub first_second : first_block.high ≤ second_block.low
  pub second_kept : second_block.high ≤ kept_start
  pub kept_table : kept_start + (module_limit * parameter_room * slot_size + item_total * row_size + equation_total * equation_size + node_total) ≤ table_start
  pub table : table_start + (module_limit + 1) * form_size ≤ size

pub memory_laid : (size t : ℕ) → t ≤ tape_end → memory_size ≤ size → Laid size t
unfolding tape_end joining_block first_block second_block kept_start table_start memory_size block_at
memory_laid size t h l = record {
  joining = block_laid size t 65536 32776 33280 1024 512 33280 (omega arith) (omega arith) (omega arith);
  first = block_laid size t 849432 16 1024 1024 512 2048 (omega arith) (omega arith) (omega arith);
  second = block_laid size t 924232 16 1024 1024 512 2048 (omega arith) (omega arith) (omega arith);
  joining_first = omega arith;
  first_second = omega arith;
  second_kept = omega arith;
  kept_table = omega arith;
  table = omega arith;
}
