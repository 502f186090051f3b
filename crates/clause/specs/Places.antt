-- Where things lie while a binding is made: the block has room for both forms, and the form that grows lies in it.
use Rattle.std.specs.Prelude.{◌≡◌, ℕ, ◌+◌, ◌*◌, ◌≤◌}
use Rattle.std.proofs.Common.{sym, subst, arith}
use Rattle.form_rows.specs.Rows.{row_size}
use Rattle.form.specs.declared.Form.{Form}
use Rattle.form.specs.declared.Block.{Block}
use Rattle.form.specs.FormLaws.{Apart}
use Rattle.form.specs.Blocks.{BlockLaid, Fits}
use Rattle.clause_translation.specs.declared.Mode.{Mode}
use Rattle.unite_nodes.specs.Joined.{with_counts}
use Rattle.unite.specs.Rooms.{Inside}
use Rattle.unite.specs.United.{empty_in, with_items}
use Rattle.unite_checks.specs.Steps.{BlockRoom}
use Rattle.clause.specs.Rooms.{OwnRoom, StepRoom, Seen}

-- ---- the block, with room for both forms

abbrev pub Laid : ℕ → ℕ → Block → Type 0
Laid size t b = BlockLaid size t b 16 1024 1024 2048

pub block_laid : (size t : ℕ) (b : Block) → BlockRoom size t b → Laid size t b
block_laid size t b o = omega arith

-- what fits: of the form that is bound, and of the actual one
abbrev pub Counts : Form → Form → Type 0
Counts g actual = Fits g × Fits actual

-- the mode's table is that of g
pub mode_apart : (size t : ℕ) (m : Mode) (g : Form) (b : Block) → OwnRoom size t m g b
    → Apart b.low b.high m.visible (m.visible + m.count * row_size)
mode_apart size t m g b own = rw (own.mode.table, own.mode.count) own.room.outside.visible

pub own_step : (size t : ℕ) (m : Mode) (g actual : Form) (b : Block) → StepRoom size t m g actual b → OwnRoom size t m g b
own_step size t m g actual b x = record { room = x.room.own; mode = x.mode }

-- ---- the form lies in the block

abbrev pub InsideBlock : Block → Form → Type 0
InsideBlock b f = Inside b 16 1024 1024 f

pub empty_inside : (b : Block) (p v : ℕ) → p ≤ 16 → v ≤ 1024 → InsideBlock b (with_items (empty_in b) p v 0)
unfolding with_items empty_in
empty_inside b p v h l = omega arith

pub seen_inside : (g actual : Form) (b : Block) → Counts g actual → (f : Form) → Seen g actual b f → InsideBlock b f
seen_inside g actual b c f n =
    subst (InsideBlock b) (sym n.form)
    (empty_inside b f.parameter_count f.visible_count (omega (arith, n.parameters, c)) (omega (arith, n.items, c)))

-- with other hidden items and equations
pub inside_more : (b : Block) (f r : Form) → InsideBlock b f
    → r ≡ with_counts (with_items f f.parameter_count f.visible_count r.hidden_count) r.equation_count r.node_count
    → r.hidden_count ≤ 1024 → r.equation_count ≤ b.equation_room → r.node_count ≤ b.node_room → InsideBlock b r
unfolding with_items with_counts
inside_more b f r x e h n k = subst (InsideBlock b) (sym e) (omega arith)
