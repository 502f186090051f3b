-- The part of a listing that its visible lines fill: they stand in front.
use Rattle.std.specs.Prelude.{ℕ, zero, suc, Bool, true, false, List, ltb, length, take}
use Rattle.meaning.specs.Lists.{pick}
use Rattle.meaning.specs.Reader.{Reading, a_line, at_end, refused_line, line_at}
use Rattle.reader.specs.declared.Line.{Line}
use Rattle.reader.specs.declared.Line.TheVariants.{Keyed, End, Bad}
use Rattle.reader.specs.Places.{key_number}

-- by the number of its key a line belongs to the front: before `hidden-sort`, 7, or after `end`, 11
unfoldable pub in_front : ℕ → Bool
in_front n = pick (ltb n 7) true (ltb 11 n)

-- what was read belongs to the front
unfoldable pub front_line : Reading → Bool
front_line (a_line key value next) = in_front (key_number key)
front_line at_end = false
front_line (refused_line number place) = false

-- the place after what was read at a place
unfoldable pub after : Reading → ℕ → ℕ
after (a_line key value next) at = next
after at_end at = at
after (refused_line number place) at = place

-- past the lines of the front from a place on, at most n of them: at the first other line, at a bad one, or at the end
unfoldable pub front_end : List ℕ → ℕ → ℕ → ℕ
front_end text zero at = at
front_end text (suc n) at =
    let r = line_at text at in
    let more = front_end text n (after r at) in
    pick (front_line r) more at

unfoldable pub visible_end : List ℕ → ℕ
visible_end text = front_end text (length text) 0

unfoldable pub front_part : List ℕ → List ℕ
front_part text = take (visible_end text) text

-- the test of the front, of the reader's answer
unfoldable pub is_front : Line → Bool
is_front (Keyed p) = in_front p.number
is_front End = false
is_front (Bad place) = false
