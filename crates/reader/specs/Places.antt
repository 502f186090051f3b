-- What the reader gives, by places in the listing, and what it means: the reading that the meaning has at that place.
use Rattle.std.specs.Prelude.{◌≡◌, ℕ, ◌+◌, List, eqb, ltb, length}
use Rattle.std.proofs.Common.{sym, ◌∙◌}
use Rattle.meaning.specs.Listing.{listing_keys}
use Rattle.meaning.specs.Lists.{pick}
use Rattle.meaning.specs.Names.{slice, Name}
use Rattle.meaning.specs.Numbers.{bad_line}
use Rattle.meaning.specs.Tokens.{run_end, number_in}
use Rattle.meaning.specs.Answer.{in_line}
use Rattle.meaning.specs.Reader.{Reading, a_line, at_end, refused_line, in_key, line_at}
use Rattle.reader.specs.declared.Line.{Line}
use Rattle.reader.specs.declared.Line.TheVariants.{Keyed, End, Bad}
use Rattle.reader.specs.declared.Step.{Step}

-- a key's number in the listing's order, from 1 on; 0 if it is none
unfoldable pub key_number : Name → ℕ
key_number key = number_in listing_keys 1 key

-- what stands at a place: the line that ends at e and whose key ends at k, the end, or no line
unfoldable pub places_at : List ℕ → ℕ → Line
places_at text at =
    let e = run_end in_line text at in
    let k = run_end in_key text at in
    let n = key_number (slice text at k) in
    let known = pick (eqb n 0) (Bad at) (Keyed (record { number = n; mark = k; value = k + 1; end = e; next = e + 1 })) in
    let keyed = pick (ltb k e) known (Bad at) in
    let ended = pick (ltb e (length text)) keyed (Bad at) in
    pick (ltb (length text) at) (Bad at) (pick (eqb at (length text)) End ended)

-- what an answer means, read at a place: the number of a bad line is 21
unfoldable pub reading : List ℕ → ℕ → Line → Reading
reading text at (Keyed p) = a_line (slice text at p.mark) (slice text p.value p.end) p.next
reading text at End = at_end
reading text at (Bad place) = refused_line bad_line place

-- what reading at a place promises
pub record LineRead (text : List ℕ) (at : ℕ) (r : Line) : Type 0 where
  pub placed : r ≡ places_at text at
  pub meant : reading text at r ≡ line_at text at

-- two results that this allows coincide
pub line_coincide : (text : List ℕ) (at : ℕ) (r s : Line) → LineRead text at r → LineRead text at s → r ≡ s
line_coincide text at r s h g = h.placed ∙ sym g.placed

-- the place after what was read
unfoldable pub place_after : Line → ℕ → ℕ
place_after (Keyed p) at = p.next
place_after End at = at
place_after (Bad place) at = place

unfoldable pub step_at : List ℕ → ℕ → Step
step_at text at = record { line = places_at text at; cursor = record { at = place_after (places_at text at) at } }
