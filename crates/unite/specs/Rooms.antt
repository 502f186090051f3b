-- What uniting asks of places and counts.
use Rattle.std.specs.Prelude.{ℕ, ◌+◌, ◌*◌, ◌≤◌, ◌<◌}
use Rattle.meaning.specs.Numbers.{node_limit}
use Rattle.form_rows.specs.Rows.{row_size}
use Rattle.form.specs.declared.Form.{Form}
use Rattle.form.specs.declared.Block.{Block}
use Rattle.form.specs.FormLaws.{Apart}
use Rattle.form.specs.Blocks.{BlockLaid, Lies, Outside}
use Rattle.form.specs.Forms.{equation_size, slot_size}
use Rattle.clause_translation.specs.declared.Mode.{Mode}

-- parameters of g go behind those of f, apart from the tape and from what parameters are held against: g's parameters, and both forms'
-- visible rows
pub record SlotsRoom (size t : ℕ) (g f : Form) : Type 0 where
  pub tape : t ≤ f.parameters
  pub few : f.parameter_count + g.parameter_count ≤ 65536
  pub room : f.parameters + (f.parameter_count + g.parameter_count) * slot_size ≤ size
  pub own_rows :
      Apart (f.parameters + f.parameter_count * slot_size) (f.parameters + (f.parameter_count + g.parameter_count) * slot_size)
      f.visible (f.visible + f.visible_count * row_size)
  pub source :
      Apart (f.parameters + f.parameter_count * slot_size) (f.parameters + (f.parameter_count + g.parameter_count) * slot_size)
      g.parameters (g.parameters + g.parameter_count * slot_size)
  pub source_rows :
      Apart (f.parameters + f.parameter_count * slot_size) (f.parameters + (f.parameter_count + g.parameter_count) * slot_size)
      g.visible (g.visible + g.visible_count * row_size)

-- the k-th of them, where n stand at f
pub record SlotRoom (size t : ℕ) (g f : Form) (k n : ℕ) : Type 0 where
  pub all : SlotsRoom size t g f
  pub turn : k < g.parameter_count
  pub have : f.parameter_count ≤ n
  pub few : n ≤ f.parameter_count + k

-- the hidden items and the equations of g come into f, which has room for `cap` hidden rows, before the notes of hidden items; the words that
-- may be written are none of g, none of the mode's table, and none of the notes of visible items
pub record HiddenRoomWithin (size t : ℕ) (m : Mode) (g f : Form) (b : Block) (notes cap : ℕ) : Type 0 where
  pub tape : t ≤ f.hidden
  pub parameters : f.parameters + f.parameter_count * slot_size ≤ f.hidden
  pub visible : f.visible + f.visible_count * row_size ≤ f.hidden
  pub hidden : f.hidden + cap * row_size ≤ f.equations
  pub equations : f.equations + b.equation_room * equation_size ≤ f.nodes
  pub nodes : f.nodes + b.node_room ≤ b.hidden_notes
  pub hidden_notes : b.hidden_notes + g.hidden_count ≤ size
  pub enough : b.equation_room * node_limit ≤ b.node_room
  pub have : f.hidden_count ≤ cap
  pub few : cap ≤ 65536
  pub few_equations : f.equation_count ≤ b.equation_room
  pub few_nodes : f.node_count ≤ b.node_room
  pub source_nodes : g.nodes + g.node_count ≤ size
  pub outside : Outside f.hidden (b.hidden_notes + g.hidden_count) g
  pub mode : Apart f.hidden (b.hidden_notes + g.hidden_count) m.visible (m.visible + m.count * row_size)
  pub notes_rows : Apart f.hidden (f.nodes + b.node_room) notes (notes + g.visible_count)
  pub notes_notes : Apart b.hidden_notes (b.hidden_notes + g.hidden_count) notes (notes + g.visible_count)

-- the same with room for all of them
abbrev pub HiddenRoom : ℕ → ℕ → Mode → Form → Form → Block → ℕ → Type 0
HiddenRoom size t m g f b notes = HiddenRoomWithin size t m g f b notes (f.hidden_count + g.hidden_count)

-- the form lies in the block, with at most so many names and rows, and no more equations and nodes than the block has room for
pub record Inside (b : Block) (names rows hidden_rows : ℕ) (f : Form) : Type 0 where
  pub lies : Lies b f
  pub parameters : f.parameter_count ≤ names
  pub visible : f.visible_count ≤ rows
  pub hidden : f.hidden_count ≤ hidden_rows
  pub equations : f.equation_count ≤ b.equation_room
  pub nodes : f.node_count ≤ b.node_room

-- all of g comes into f, which lies in the block; g and the mode's table lie outside it. The block has room for some numbers of names, rows
-- and notes, and these are enough
pub record UniteRoom (size t : ℕ) (m : Mode) (g f : Form) (b : Block) : Type 0 where
  pub names : ℕ
  pub rows : ℕ
  pub hidden_rows : ℕ
  pub sources : ℕ
  pub laid : BlockLaid size t b names rows hidden_rows sources
  pub inside : Inside b names rows hidden_rows f
  pub outside : Outside b.low b.high g
  pub mode : Apart b.low b.high m.visible (m.visible + m.count * row_size)
  pub parameters : f.parameter_count + g.parameter_count ≤ names
  pub visible : f.visible_count + g.visible_count ≤ rows
  pub hidden : f.hidden_count + g.hidden_count ≤ hidden_rows
  pub visible_source : g.visible_count ≤ sources
  pub hidden_source : g.hidden_count ≤ sources
  pub few_parameters : f.parameter_count + g.parameter_count ≤ 65536
  pub few_visible : f.visible_count + g.visible_count ≤ 65536
  pub few_hidden : f.hidden_count + g.hidden_count ≤ 65536
  pub source_nodes : g.nodes + g.node_count ≤ size
