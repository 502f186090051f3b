-- The room that absorbing asks for, and what one turn of it leaves.
use Rattle.std.specs.Prelude.{◌≡◌, ℕ, ◌+◌, ◌*◌, ◌≤◌, ◌<◌, Bool, true, false, List, [], ◌∷◌, get_or}
use Rattle.meaning.specs.Lists.{union}
use Rattle.meaning.specs.Origins.{Item, one_item}
use Rattle.form_rows.specs.declared.Row.{Row}
use Rattle.form_rows.specs.Rows.{item_of, row_at, row_size}
use Rattle.form_rows.specs.RowLaws.{IsRow}
use Rattle.form.specs.Memory.{KeptTwo}
use Rattle.form.specs.Forms.{items_at}
use Rattle.form.specs.FormLaws.{Apart}
use Rattle.clause_translation.specs.declared.Mode.{Mode}
use Rattle.clause_translation.specs.Translation.{moved_in}
use Rattle.unite_items.specs.Absorb.{taken}

-- ---- room: for one row more behind n rows at b

pub record Space (size t b n : ℕ) (x : Row) : Type 0 where
  pub tape : t ≤ size
  pub row : IsRow x
  pub room : b + n * row_size + row_size ≤ size

-- and for a word at a place apart from them
pub record Place (size t d n place : ℕ) (x : Row) : Type 0 where
  pub space : Space size t d n x
  pub few : n < 65536
  pub word : place < size
  pub apart : Apart d (d + n * row_size + row_size) place (place + 1)

pub record TurnRoom (size t k d n o : ℕ) : Type 0 where
  pub tape : t ≤ size
  pub few : n < 65536
  pub room : d + n * row_size + row_size ≤ size
  pub word : o + k < size
  pub apart : Apart d (d + n * row_size + row_size) (o + k) (o + k + 1)

-- for all rows of a source, up to `cap` rows in the table: it and the note lie behind the tape, within the memory, apart from each other, from
-- the source and from the table of the mode
pub record RoomWithin (size t : ℕ) (m : Mode) (s ns d cap o : ℕ) : Type 0 where
  pub tape_table : t ≤ d
  pub tape_note : t ≤ o
  pub table : d + cap * row_size ≤ size
  pub note : o + ns ≤ size
  pub few : cap ≤ 65536
  pub table_note : Apart d (d + cap * row_size) o (o + ns)
  pub table_source : Apart d (d + cap * row_size) s (s + ns * row_size)
  pub note_source : Apart o (o + ns) s (s + ns * row_size)
  pub table_mode : Apart d (d + cap * row_size) m.visible (m.visible + m.count * row_size)
  pub note_mode : Apart o (o + ns) m.visible (m.visible + m.count * row_size)

-- and for all of them behind nd rows
abbrev pub Room : ℕ → ℕ → Mode → ℕ → ℕ → ℕ → ℕ → ℕ → Type 0
Room size t m s ns d nd o = RoomWithin size t m s ns d (nd + ns) o

-- ---- one turn

-- x absorbed into n rows at d, and noted at a place: r rows are there then
pub record Taken (text tape w : List ℕ) (m : Mode) (visible : Bool) (x : Item) (d n place r : ℕ) (w' : List ℕ) : Type 0 where
  pub items : items_at text tape w' d r ≡ union one_item (items_at text tape w d n) (moved_in text tape w m visible x ∷ [])
  pub grows : n ≤ r
  pub few : r ≤ n + 1
  pub noted : get_or w' place 0 < r
  pub note : (z : Item) → get_or (items_at text tape w' d r) (get_or w' place 0) z ≡ moved_in text tape w m visible x
  pub kept : KeptTwo (d + n * row_size) (d + n * row_size + row_size) place (place + 1) w w'

-- row k of the source, if it is taken
pub record Turned (text tape w : List ℕ) (m : Mode) (visible drop : Bool) (s k d n o r : ℕ) (w' : List ℕ) : Type 0 where
  pub left : taken text drop m.parameter (item_of text tape (row_at w (s + k * row_size))) ≡ false → r ≡ n
  pub stays : taken text drop m.parameter (item_of text tape (row_at w (s + k * row_size))) ≡ false → w' ≡ w
  pub takes :
      taken text drop m.parameter (item_of text tape (row_at w (s + k * row_size))) ≡ true
      → Taken text tape w m visible (item_of text tape (row_at w (s + k * row_size))) d n (o + k) r w'
