-- What absorbing items leaves: the table's items, where each source row went, and what stays.
use Rattle.std.specs.Prelude.{◌≡◌, ◌⊎◌, ℕ, ◌+◌, ◌*◌, ◌≤◌, ◌<◌, Bool, true, not, List, [], ◌∷◌, map, get_or, take}
use Rattle.meaning.specs.Lists.{pick, keep, any, before, union}
use Rattle.meaning.specs.Origins.{Item, one_item, in_parameter}
use Rattle.text_names.specs.Word.{name_of}
use Rattle.form_rows.specs.Rows.{row_size}
use Rattle.form.specs.Memory.{Kept, KeptTwo}
use Rattle.form.specs.Forms.{items_at}
use Rattle.clause_translation.specs.declared.Mode.{Mode}
use Rattle.clause_translation.specs.Translation.{moved_in}

-- x placed in a table of n rows at b: it is row r, which is n where it was none of them
pub record Placed (text tape w : List ℕ) (b n : ℕ) (x : Item) (r : ℕ) (w' : List ℕ) : Type 0 where
  pub row : r ≡ before (one_item x) (items_at text tape w b n)
  pub items : items_at text tape w' b (pick (any (one_item x) (items_at text tape w b n)) n (n + 1)) ≡ union one_item (items_at text tape w b n) (x ∷ [])
  pub kept : Kept (b + n * row_size) (b + n * row_size + row_size) w w'

-- which source rows are taken: where `drop` says so, those that stand in the parameter are left out
unfoldable pub taken : List ℕ → Bool → ℕ → Item → Bool
taken text drop parameter i = pick drop (not (in_parameter (name_of text parameter) i.standing)) true

-- ns rows at s absorbed into nd rows at d, through the mode, noted from o on: r rows are there then. A row left out has no note
pub record Absorbed (text tape w : List ℕ) (m : Mode) (visible drop : Bool) (s ns d nd o r : ℕ) (w' : List ℕ) : Type 0 where
  pub items :
      items_at text tape w' d r
      ≡ union one_item (items_at text tape w d nd)
      (map (moved_in text tape w m visible) (keep (taken text drop m.parameter) (items_at text tape w s ns)))
  pub grows : nd ≤ r
  pub few : r ≤ nd + ns
  pub noted : (i : ℕ) (x : Item) → i < ns → taken text drop m.parameter (get_or (items_at text tape w s ns) i x) ≡ true → get_or w' (o + i) 0 < r
  pub notes :
      (i : ℕ) (x : Item) → i < ns → taken text drop m.parameter (get_or (items_at text tape w s ns) i x) ≡ true
      → get_or (items_at text tape w' d r) (get_or w' (o + i) 0) x ≡ moved_in text tape w m visible (get_or (items_at text tape w s ns) i x)
  pub kept : KeptTwo (d + nd * row_size) (d + (nd + ns) * row_size) o (o + ns) w w'

-- the same while the table has less than `cap` rows. Where it stops before the end the table is full
pub record AbsorbedWithin (text tape w : List ℕ) (m : Mode) (visible drop : Bool) (s ns d nd o cap r : ℕ) (w' : List ℕ) : Type 0 where
  pub items :
      items_at text tape w' d r
      ≡ take cap (union one_item (items_at text tape w d nd)
      (map (moved_in text tape w m visible) (keep (taken text drop m.parameter) (items_at text tape w s ns))))
  pub grows : nd ≤ r
  pub within : r ≤ cap
  pub kept : KeptTwo (d + nd * row_size) (d + cap * row_size) o (o + ns) w w'
  pub whole : (r < cap) ⊎ (nd + ns ≤ cap) → Absorbed text tape w m visible drop s ns d nd o r w'
