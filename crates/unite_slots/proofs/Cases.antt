-- Laws of the slots of two parameters, in the code's terms.
use mathlib.Core.Path.{◌≡◌}
use Prim.Native.Nat.{ℕ, ◌+◌}
use mathlib.Core.Bool.{Bool, true, false}
use mathlib.Core.List.{List}
use lib.ListN.{get_or}
use borrow.Author.Rules.{rules}
use Rattle.meaning.specs.Names.{same}
use Rattle.meaning.specs.Normal.{same_slot}
use Rattle.text_names.specs.Word.{name_of}
use Rattle.form.specs.Forms.{slot_at}
use Rattle.form_walks.specs.Rows.{seek_start, seek_end, seek_again, seek_found}

module _ (text w : List ℕ) (a b x y : ℕ) (c : Bool) (e : x ≡ get_or w a 0) (f : y ≡ get_or w b 0) (g : c ≡ same (name_of text x) (name_of text y)) where
  abbrev alike : Bool
  alike = same_slot (slot_at text w a) (slot_at text w b)

  pub slot_named : c ≡ false → false ≡ alike
  unfolding same_slot slot_at
  slot_named h = rw (← e, ← f, ← g, h)

  pub slot_homed : (z v : ℕ) (r : Bool) → c ≡ true → z ≡ get_or w (a + 1) 0 → v ≡ get_or w (b + 1) 0 → r ≡ same (name_of text z) (name_of text v) → r ≡ alike
  unfolding same_slot slot_at
  slot_homed z v r h i j k = rw (← e, ← f, ← g, h, ← i, ← j) k

pub ruleset slots = (slot_named, slot_homed, rules)

pub ruleset seeks = (seek_start, seek_again, seek_found, seek_end, rules)
