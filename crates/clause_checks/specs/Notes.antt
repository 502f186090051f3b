-- The notes of formal items: for each formal row of a mode's table, where a form has it under its new name.
use Rattle.std.specs.Prelude.{◌≡◌, ℕ, ◌+◌, ◌*◌, ◌≤◌, ◌<◌, Bool, true, false, List, get_or, set}
use Rattle.meaning.specs.Lists.{pick, before}
use Rattle.meaning.specs.Origins.{Item, in_parameter}
use Rattle.text_names.specs.Word.{name_of}
use Rattle.form_rows.specs.Rows.{item_of, row_at, row_size}
use Rattle.form.specs.declared.Form.{Form}
use Rattle.form.specs.Memory.{Kept}
use Rattle.form.specs.Forms.{items_at}
use Rattle.form.specs.FormLaws.{Apart}
use Rattle.clause_translation.specs.declared.Mode.{Mode}
use Rattle.clause_translation.specs.Translation.{moved}
use Rattle.clause_checks.specs.Searches.{like}

module _ (text tape w : List ℕ) (m : Mode) where
  -- the item of row k of the mode's table, and whether it is formal
  unfoldable pub mode_item : ℕ → Item
  mode_item k = item_of text tape (row_at w (m.visible + k * row_size))

  unfoldable pub formal_row : ℕ → Bool
  formal_row k = in_parameter (name_of text m.parameter) (mode_item k).standing

  -- the first visible item of y called what i is called when it is moved, and of the shape that it has then
  unfoldable pub moved_place : Form → Item → ℕ
  moved_place y i = before (like (moved text tape w m i).name (moved text tape w m i).shape) (items_at text tape w y.visible y.visible_count)

  unfoldable pub note_stored : Form → ℕ → ℕ → List ℕ
  note_stored y notes k = let stored = set w (notes + k) (moved_place y (mode_item k)) in pick (formal_row k) stored w

-- a note for each row, behind the tape, apart from the mode's table and from y's rows
pub record NoteRoom (size t : ℕ) (m : Mode) (y : Form) (notes : ℕ) : Type 0 where
  pub tape : t ≤ notes
  pub within : notes + m.count ≤ size
  pub table : Apart notes (notes + m.count) m.visible (m.visible + m.count * row_size)
  pub rows : Apart notes (notes + m.count) y.visible (y.visible + y.visible_count * row_size)

pub record FormalsNoted (text tape w w' : List ℕ) (m : Mode) (y : Form) (notes : ℕ) : Type 0 where
  pub kept : Kept notes (notes + m.count) w w'
  pub others : (k : ℕ) → k < m.count → formal_row text tape w m k ≡ false → get_or w' (notes + k) 0 ≡ get_or w (notes + k) 0
  pub formals : (k : ℕ) → k < m.count → formal_row text tape w m k ≡ true → get_or w' (notes + k) 0 ≡ moved_place text tape w m y (mode_item text tape w m k)
