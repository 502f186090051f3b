-- A module's own parameters by places of the tape, and what storing their words leaves.
use Rattle.std.specs.Prelude.{◌≡◌, List, [], ◌∷◌, ◌++◌, ℕ, zero, suc, ◌+◌, ◌-◌, ◌*◌, ◌≤◌, ◌<◌, eqb, length, get_or}
use Rattle.meaning.specs.Lists.{pick}
use Rattle.meaning.specs.Normal.{Slot}
use Rattle.text_names.specs.Word.{name_of}
use Rattle.tape.specs.Tape.{parameter_role}
use Rattle.form_rows.specs.Entries.{role_at, word_at, name_at, home_at}
use Rattle.form.specs.Memory.{part, Kept}
use Rattle.form.specs.Forms.{slots_at, slot_size}

-- the parameter that is declared at i
unfoldable pub declared_slot : List ℕ → List ℕ → ℕ → Slot
declared_slot text tape i = record { name = name_at text tape i; home = name_of text (home_at tape i) }

-- the parameters among c entries from i on
unfoldable pub declared_slots : List ℕ → List ℕ → ℕ → ℕ → List Slot
declared_slots text tape i zero = []
declared_slots text tape i (suc c) =
    let more = declared_slots text tape (suc i) c in
    let here = declared_slot text tape i ∷ more in
    pick (eqb (role_at tape i) parameter_role) here more

-- the two words of the parameter at i stored at a place
pub record SlotPut (t place i : ℕ) (w w' : List ℕ) : Type 0 where
  pub name : place < length w → get_or w' place 0 ≡ word_at (part w 0 t) i
  pub home : place + 1 < length w → get_or w' (place + 1) 0 ≡ home_at (part w 0 t) i
  pub kept : Kept place (place + slot_size) w w'

-- behind the tape and the n parameters at base there is room for one for each entry
pub record SlotsRoom (size t from end base n : ℕ) : Type 0 where
  pub few : n ≤ 1073741824
  pub behind : t ≤ base + n * slot_size
  pub room : base + (n + (end - from)) * slot_size ≤ size

-- the module's parameters are those from n up to r at base, and all else stays
pub record SlotsAppended (t from end base n : ℕ) (w w' : List ℕ) (r : ℕ) : Type 0 where
  pub kept : Kept (base + n * slot_size) (base + r * slot_size) w w'
  pub grows : n ≤ r
  pub few : r ≤ n + (end - from)
  pub slots :
      (text : List ℕ) → slots_at text w' base r ≡ slots_at text w base n ++ declared_slots text (part w 0 t) (from) (end - from)
