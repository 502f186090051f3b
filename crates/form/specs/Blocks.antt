-- Where a normal form is made: a block of the working memory, what lies outside it, and what comes of making.
use Rattle.std.specs.Prelude.{◌≡◌, ℕ, ◌+◌, ◌*◌, ◌≤◌, List, Ok, Err}
use Rattle.meaning.specs.Numbers.{parameter_room, item_room, equation_room, node_limit}
use Rattle.meaning.specs.Normal.{Normal}
use Rattle.meaning.specs.Checks.{Outcome, fine, stop}
use Rattle.form_rows.specs.Rows.{row_size}
use Rattle.form.specs.declared.Form.{Form}
use Rattle.form.specs.declared.Block.{Block}
use Rattle.form.specs.Forms.{Stands, equation_size, slot_size}
use Rattle.form.specs.FormLaws.{Apart}
use Rattle.form.specs.Verdicts.{Made, culprit_of}

-- the parts of a block of a memory of `size` words, the tape below it up to t: in order, with room for so many parameters, visible and
-- hidden rows, and notes for so many rows of a source
pub record BlockLaid (size t : ℕ) (b : Block) (names rows hidden_rows sources : ℕ) : Type 0 where
  pub tape : t ≤ b.low
  pub first : b.low ≤ b.parameters
  pub parameters : b.parameters + names * slot_size ≤ b.visible
  pub visible : b.visible + rows * row_size ≤ b.hidden
  pub hidden : b.hidden + hidden_rows * row_size ≤ b.equations
  pub equations : b.equations + b.equation_room * equation_size ≤ b.nodes
  pub nodes : b.nodes + b.node_room ≤ b.visible_notes
  pub enough : b.equation_room * node_limit ≤ b.node_room
  pub visible_notes : b.visible_notes + sources ≤ b.hidden_notes
  pub hidden_notes : b.hidden_notes + sources ≤ b.order
  pub order : b.order + (names + rows) ≤ b.high
  pub within : b.high ≤ size
  pub small : b.high ≤ 1073741824

-- the form has its parts in the block
pub record Lies (b : Block) (f : Form) : Type 0 where
  pub parameters : f.parameters ≡ b.parameters
  pub visible : f.visible ≡ b.visible
  pub hidden : f.hidden ≡ b.hidden
  pub equations : f.equations ≡ b.equations
  pub nodes : f.nodes ≡ b.nodes

-- the words from low up to high are none of the form's
pub record Outside (low high : ℕ) (f : Form) : Type 0 where
  pub parameters : Apart low high f.parameters (f.parameters + f.parameter_count * slot_size)
  pub visible : Apart low high f.visible (f.visible + f.visible_count * row_size)
  pub hidden : Apart low high f.hidden (f.hidden + f.hidden_count * row_size)
  pub equations : Apart low high f.equations (f.equations + f.equation_count * equation_size)
  pub nodes : Apart low high f.nodes (f.nodes + f.node_count)

-- the form has no more than fits (document 01, 18)
pub record Fits (f : Form) : Type 0 where
  pub parameters : f.parameter_count ≤ parameter_room
  pub items : f.visible_count + f.hidden_count ≤ item_room
  pub equations : f.equation_count ≤ equation_room

-- what was made is what the meaning says: a form that stands for the normal form, or the refusal
abbrev pub Makes : List ℕ → List ℕ → List ℕ → Made → Outcome Normal → Type 0
Makes text tape w (Ok f) (fine n) = Stands text tape w f n
Makes text tape w (Ok f) (stop k c) = ⊥
Makes text tape w (Err r) (fine n) = ⊥
Makes text tape w (Err r) (stop k c) = (r.number ≡ k) × (culprit_of text r.culprit ≡ c)

-- a form that was made lies in the block, and fits
pub record MadeThere (b : Block) (f : Form) : Type 0 where
  pub lies : Lies b f
  pub fits : Fits f
  pub nodes : f.node_count ≤ b.node_room

abbrev pub MadeIn : Block → Made → Type 0
MadeIn b (Ok f) = MadeThere b f
MadeIn b (Err r) = Unit {0}
