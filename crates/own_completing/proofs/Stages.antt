-- The stages one after the other.
use mathlib.Core.Path.{◌≡◌}
use mathlib.Core.List.{List}
use Prim.Native.Nat.{ℕ, ◌+◌, ◌≤◌}
use borrow.Author.Rules.{rules}
use lib.ListN.{length}
use Rattle.form.specs.declared.Form.{Form}
use Rattle.form.specs.declared.Block.{Block}
use Rattle.form.specs.Verdicts.{Made}
use Rattle.own_declarations.specs.declared.Own.{Own}
use Rattle.own_items.specs.declared.OwnRows.{OwnRows}
use Rattle.own_equations.specs.Own.{owned, own_at}
use Rattle.unite.specs.United.{with_items}
use Rattle.own_completing.specs.declared.Totals.{Totals}
use Rattle.own_completing.specs.Said.{said_form, RoomMade, MadeJoined}
use Rattle.own_completing.specs.Completed.{Rooms, Counted, EquationsJoined}
use Rattle.own_completing.specs.EquationLaws.{said_room, typed_few, room_made, equations_completed}
use Rattle.own_completing.specs.ItemLaws.{items_room, items_ready, checks_ready, checks_room, items_refused, items_fine, rooms_there, counted_there, equations_laid}

-- ---- `complete_equations`: the forms as what made them says

module _ (t : ℕ) (own : Own) (f : Form) (counts : OwnRows) (b : Block) (scratch : ℕ) (said : Form) (few : Counted own f counts)
    (es : said ≡ said_form f counts scratch) where
  pub type_room : (size : ℕ) → Rooms size t own f b scratch → said.visible_count + said.hidden_count ≤ 65536
  type_room size room = rw es (typed_few t own f counts b scratch few size room)

  module _ (text w : List ℕ) (home : ℕ) (room : Rooms (length w) t own f b scratch) (made : Made) (w₁ : List ℕ)
      (typed : owned made w₁ ≡ own_at text t said home own.from own.end w) (seen : Form)
      (eq : seen ≡ with_items f counts.parameter_count counts.visible_count f.hidden_count) where
    pub made_rooms : (size : ℕ) → size ≡ length w → RoomMade size t made seen b
    made_rooms size e = room_made t own f counts b scratch few text w home room made w₁ (rw es at typed) size seen e eq

    pub equations_done : (totals : Totals) (r : Made) (w' : List ℕ) (high : ℕ) → MadeJoined text t w₁ made seen b totals r w' → high ≡ scratch + 131072
        → EquationsJoined text t w home own f counts b high totals r w'
    equations_done totals r w' high x e =
        rw e (equations_completed t own f counts b scratch few text w home room made w₁ (rw es at typed) totals r w' (rw eq at x))

pub ruleset equations_stage = (said_room, type_room, made_rooms, equations_done, rules)

pub ruleset items_stage = (items_room, items_ready, checks_ready, checks_room, items_refused, items_fine, rules)

pub ruleset laid_stage = (rooms_there, counted_there, equations_laid, rules)
