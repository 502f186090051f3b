-- The normal forms that are kept, and the modules evaluated so far that they stand for.
use Rattle.std.specs.Prelude.{◌≡◌, ℕ, ◌+◌, ◌*◌, ◌≤◌, List}
use Rattle.std.proofs.Common.{sym, subst, arith}
use Rattle.meaning.specs.Lists.{before}
use Rattle.meaning.specs.Names.{Name, same}
use Rattle.meaning.specs.Numbers.{module_limit}
use Rattle.meaning.specs.Normal.{Normal}
use Rattle.meaning.specs.Evaluate.{Evaluated, normal_of}
use Rattle.form_rows.specs.Rows.{row_size}
use Rattle.form.specs.declared.Form.{Form}
use Rattle.form.specs.declared.Block.{Block}
use Rattle.form.specs.Memory.{part, Kept}
use Rattle.form.specs.Forms.{Stands, equation_size, slot_size, form_size}
use Rattle.form.specs.Blocks.{BlockLaid, Outside, Fits, MadeThere}
use Rattle.form_frames.specs.Changes.{outside, still_stands}
use Rattle.form_layout.specs.Layout.{kept_start, table_start}
use Rattle.form_keeping.specs.Keeping.{form_at, form_same}

-- every part of the form lies from low up to high
pub record Between (low high : ℕ) (f : Form) : Type 0 where
  pub parameters : low ≤ f.parameters
  pub visible : low ≤ f.visible
  pub hidden : low ≤ f.hidden
  pub equations : low ≤ f.equations
  pub nodes : low ≤ f.nodes
  pub parameters_end : f.parameters + f.parameter_count * slot_size ≤ high
  pub visible_end : f.visible + f.visible_count * row_size ≤ high
  pub hidden_end : f.hidden + f.hidden_count * row_size ≤ high
  pub equations_end : f.equations + f.equation_count * equation_size ≤ high
  pub nodes_end : f.nodes + f.node_count ≤ high

pub above_outside : (low high a e : ℕ) (f : Form) → high ≤ a → Between a e f → Outside low high f
above_outside low high a e f h b = outside (omega arith)

pub below_outside : (low high a e : ℕ) (f : Form) → e ≤ low → Between a e f → Outside low high f
below_outside low high a e f h b = outside (omega arith)

-- a form that was made in a block lies between its ends
pub made_between : (size t : ℕ) (b : Block) (names rows hidden_rows sources : ℕ) (f : Form) → BlockLaid size t b names rows hidden_rows sources
    → 8 ≤ names → 512 ≤ rows → 512 ≤ hidden_rows → 256 ≤ b.equation_room → MadeThere b f → Between b.low b.high f
made_between size t b names rows hidden_rows sources f l n r h e m = omega arith

-- ---- the table

-- where the normal form of module k is
abbrev pub kept_form : List ℕ → ℕ → Form
kept_form w k = form_at w (table_start + k * form_size)

-- the form kept for module number `last` stands for the normal form
pub record LastStands (text : List ℕ) (t : ℕ) (w : List ℕ) (last : ℕ) (n : Normal) : Type 0 where
  pub number : last ≤ module_limit
  pub fits : Fits (kept_form w last)
  pub stands : Stands text (part w 0 t) w (kept_form w last) n

-- each kept form fits, and ends below the cursor
pub record TableBelow (w : List ℕ) (cursor : ℕ) : Type 0 where
  pub between : (k : ℕ) → k ≤ module_limit → Between kept_start cursor (kept_form w k)
  pub fits : (k : ℕ) → k ≤ module_limit → Fits (kept_form w k)

-- and lies where kept forms lie
abbrev pub TableRight : List ℕ → Type 0
TableRight w = TableBelow w table_start

-- the number of a name among those that are declared
abbrev pub number_of : List Name → Name → ℕ
number_of ds x = before (same x) ds

-- the kept form of a name stands for its module's normal form, and that of a module not evaluated, or of none, for the empty one
pub record EnvStands (text tape w : List ℕ) (ds : List Name) (env : List Evaluated) : Type 0 where
  pub stands : (x : Name) → Stands text tape w (kept_form w (number_of ds x)) (normal_of env x)

-- ---- what changes below the kept forms leaves them

form_stays : (low high : ℕ) (w w' : List ℕ) (k : ℕ) → high ≤ table_start → Kept low high w w' → kept_form w' k ≡ kept_form w k
form_stays low high w w' k h c = form_same w w' (table_start + k * form_size) (λ i p q. c.above i (omega arith))

pub table_stays : (low high cursor : ℕ) (w w' : List ℕ) → high ≤ table_start → Kept low high w w' → TableBelow w cursor → TableBelow w' cursor
table_stays low high cursor w w' h c r = record {
  between = λ k l. subst (Between kept_start cursor) (sym (form_stays low high w w' k h c)) (r.between k l);
  fits = λ k l. subst Fits (sym (form_stays low high w w' k h c)) (r.fits k l);
}

pub env_stays : (text : List ℕ) (t low high : ℕ) (w w' : List ℕ) (ds : List Name) (env : List Evaluated) → t ≤ low → high ≤ kept_start
    → kept_start ≤ table_start → Kept low high w w' → ((x : Name) → number_of ds x ≤ module_limit) → TableRight w
    → EnvStands text (part w 0 t) w ds env → EnvStands text (part w' 0 t) w' ds env
env_stays text t low high w w' ds env a h l c few r s = record {
  stands = λ x.
      let k = number_of ds x in
      subst (λ (f : Form). Stands text (part w' 0 t) w' f (normal_of env x)) (sym (form_stays low high w w' k (omega arith) c))
      (still_stands a c (above_outside low high kept_start table_start (kept_form w k) h (r.between k (few x))) (s.stands x));
}
