-- Bytes laid over a list from a place on. The place stops at a limit. The list is a window on the places: it begins at place 0 or, where the
-- limit is further on, so that its last place is the last but one before the limit. What would stand outside of it is lost.
use Rattle.std.specs.Prelude.{ℕ, ◌+◌, ◌-◌, List, [], ◌∷◌, ltb, length, set}
use Rattle.meaning.specs.Lists.{pick}

-- where the next byte goes, and the list as it is
pub record Pen : Type 0 where
  pub at : ℕ
  pub out : List ℕ

abbrev pub pen : ℕ → List ℕ → Pen
pen n o = record { at = n; out = o }

-- how many places lie before the window
unfoldable pub places_before : ℕ → List ℕ → ℕ
places_before limit o = limit - (length o + 1)

-- a byte at a place, through the window behind s places
unfoldable pub shown : ℕ → ℕ → ℕ → List ℕ → List ℕ
shown s at b o = pick (ltb at s) o (set o (at - s) b)

-- one byte
unfoldable pub mark : ℕ → ℕ → Pen → Pen
mark limit b p = pick (ltb p.at limit) (pen (p.at + 1) (shown (places_before limit p.out) p.at b p.out)) p

-- bytes, one after the other
unfoldable pub written : ℕ → List ℕ → Pen → Pen
written limit [] p = p
written limit (b ∷ bs) p = written limit bs (mark limit b p)
