-- The tests of where names stand, in the code's terms: n is the length of the text, w, a and b are words.
use mathlib.Core.Path.{◌≡◌}
use mathlib.Core.Bool.{Bool, true, false}
use Prim.Native.Nat.{ℕ, ◌+◌, ◌/◌, ◌%◌, ◌<◌, ◌≤◌}
use lib.Dec.{leb}
use borrow.Author.Rules.{rules}
use borrow.Author.Tests.{le-leb, lt-leb}
use Rattle.meaning.specs.Lists.{pick}
use Rattle.text_seams.specs.Sides.{has_room, have_room, both_behind}

module _ (n w : ℕ) where
  pub room_there : (r : Bool) → w % 256 ≤ 40 → r ≡ leb (w / 256 + 40) n → r ≡ has_room n w
  unfolding has_room pick
  room_there r h e = rw (le-leb (w % 256) 40 h) e

  pub room_not : 40 < w % 256 → false ≡ has_room n w
  unfolding has_room pick
  room_not h = rw (lt-leb (w % 256) 40 h)

module _ (n a b : ℕ) where
  module _ (p : Bool) (e : p ≡ has_room n a) where
    pub rooms_both : (r : Bool) → p ≡ true → r ≡ has_room n b → r ≡ have_room n a b
    unfolding have_room pick
    rooms_both r h f = rw (← e, h) f

    pub rooms_not : p ≡ false → false ≡ have_room n a b
    unfolding have_room pick
    rooms_not h = rw (← e, h)

  pub behind_both : (r : Bool) → n ≤ a / 256 → r ≡ leb n (b / 256) → r ≡ both_behind n a b
  unfolding both_behind pick
  behind_both r h e = rw (le-leb n (a / 256) h) e

  pub behind_not : a / 256 < n → false ≡ both_behind n a b
  unfolding both_behind pick
  behind_not h = rw (lt-leb n (a / 256) h)

-- what the answers for these functions hand to `search`
pub ruleset cases = (room_there, room_not, rooms_both, rooms_not, behind_both, behind_not, rules)
