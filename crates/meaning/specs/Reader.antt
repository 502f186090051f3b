-- The listing reader's lines (document 01, "The listing"): one line's key and value at a place, the end, or 21.
use Rattle.std.specs.Prelude.{ℕ, ◌+◌, Bool, not, ◌&&◌, ◌||◌, List, eqb, leb, ltb, length, get_or}
use Rattle.meaning.specs.Lists.{pick}
use Rattle.meaning.specs.Names.{byte, slice, member}
use Rattle.meaning.specs.Numbers.{bad_line}
use Rattle.meaning.specs.Tokens.{run_end}
use Rattle.meaning.specs.Listing.{listing_keys}
use Rattle.meaning.specs.Answer.{in_line}

-- a line's key and value, and the place after it; the end; or a refusal with its number, at the place where the reader stays
pub data Reading : Type 0 where
  a_line : (key value : List ℕ) (next : ℕ) → Reading
  at_end : Reading
  refused_line : (number place : ℕ) → Reading

-- a key goes on at the front of s
abbrev pub in_key : List ℕ → Bool
in_key s = not (eqb (get_or s 0 0) (byte "\n") || eqb (get_or s 0 0) (byte "="))

-- an unknown key, no `=`, a last line without LF, or a place past the end is 21; at the end exactly it says so. The line ends at e, its key at k
unfoldable pub line_at : List ℕ → ℕ → Reading
line_at text at =
    let e = run_end in_line text at in
    let k = run_end in_key text at in
    let right = member (slice text at k) listing_keys && ltb k e && ltb e (length text) && leb at (length text) in
    let told = pick right (a_line (slice text at k) (slice text (k + 1) e) (e + 1)) (refused_line bad_line at) in
    pick (eqb at (length text)) at_end told

-- opens every definition of this file
unfoldable pub reader_opened : Unit {0}
unfolding line_at
reader_opened = tt
