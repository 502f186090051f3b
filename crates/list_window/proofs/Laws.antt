-- Laws of one byte: it stands in the window or before it, and it is below the limit or not.
use mathlib.Core.Path.{◌≡◌}
use mathlib.Core.List.{List}
use Prim.Native.Nat.{ℕ, ◌+◌, ◌-◌, ◌<◌, ◌≤◌}
use borrow.Author.Tests.{lt-ltb, le-ltb}
use lib.ListN.{set}
use Rattle.meaning.specs.Lists.{pick}
use Rattle.list_window.specs.Pen.{Pen, pen, places_before, shown, mark}

-- a byte through a window
module _ (s at b : ℕ) (o : List ℕ) where
  pub shown_in : s ≤ at → shown s at b o ≡ set o (at - s) b
  unfolding shown pick
  shown_in h = rw (le-ltb at s h)

  pub shown_before : at < s → shown s at b o ≡ o
  unfolding shown pick
  shown_before h = rw (lt-ltb at s h)

-- one byte
module _ (l : ℕ) where
  pub mark_on : (b : ℕ) (p : Pen) → p.at < l → mark l b p ≡ pen (p.at + 1) (shown (places_before l p.out) p.at b p.out)
  unfolding mark pick
  mark_on b p h = rw (lt-ltb p.at l h)

  pub mark_off : (b : ℕ) (p : Pen) → l ≤ p.at → mark l b p ≡ p
  unfolding mark pick
  mark_off b p h = rw (le-ltb p.at l h)
