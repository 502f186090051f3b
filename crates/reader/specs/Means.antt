-- What the reader gives by places is, read as lines, what the meaning says.
use Rattle.std.specs.Prelude.{◌≡◌, refl, ℕ, ◌+◌, Bool, true, false, not, ◌&&◌, List, [], ◌∷◌, eqb, leb, ltb, length}
use Rattle.std.proofs.Common.{ap, ◌∙◌, arith, leb-true, leb-false, ne_eqb, lt-ltb, le-ltb}
use Rattle.meaning.specs.Listing.{listing_keys}
use Rattle.meaning.specs.Lists.{pick}
use Rattle.meaning.specs.Names.{slice, Name, same, member}
use Rattle.meaning.specs.Numbers.{bad_line}
use Rattle.meaning.specs.Tokens.{run_end, number_in}
use Rattle.meaning.specs.Answer.{in_line}
use Rattle.meaning.specs.Reader.{at_end, refused_line, in_key, line_at}
use Rattle.reader.specs.declared.Line.{Line}
use Rattle.reader.specs.declared.Line.TheVariants.{Keyed, End, Bad}
use Rattle.reader.specs.declared.Places.{Places}
use Rattle.reader.specs.Places.{key_number, places_at, reading, LineRead}

-- a key has a number where it is one of the keys
number_member : (ks : List Name) (n : ℕ) (w : Name) → (n ≡ 0 → ⊥) → eqb (number_in ks n w) 0 ≡ not (member w ks)
unfolding number_in member pick
number_member [] n w h = refl
number_member (k ∷ ks) n w h = go (same w k) (number_member ks (n + 1) w (λ e. omega arith))
  where
    go : (b : Bool) → eqb (number_in ks (n + 1) w) 0 ≡ not (member w ks)
        → eqb (pick b n (number_in ks (n + 1) w)) 0 ≡ not (pick b true (member w ks))
    go true g = ne_eqb n 0 h
    go false g = g

-- a place is past the end, or within the listing
past_or_within : (at size : ℕ) → ltb size at ≡ not (leb at size)
past_or_within at size = go (leb at size) refl
  where
    go : (b : Bool) → leb at size ≡ b → ltb size at ≡ not b
    go true e = le-ltb size at (leb-true at size e)
    go false e = lt-ltb size at (leb-false at size e)

past_no_end : (at size : ℕ) → leb at size ≡ false → eqb at size ≡ false
past_no_end at size e = ne_eqb at size (λ z. omega (arith, leb-false at size e))

failing : (b : Bool) → (b && false) ≡ false
failing true = refl
failing false = refl

-- the tests of both: the code's as it makes them, the meaning's as document 01 tells them
same_tests : (text : List ℕ) (at : ℕ) (p : Places) (within end ended keyed known : Bool) → (within ≡ false → end ≡ false)
    → reading text at (pick (not within) (Bad at) (pick end End (pick ended (pick keyed (pick (not known) (Bad at) (Keyed p)) (Bad at)) (Bad at))))
    ≡ pick end at_end (pick (known && keyed && ended && within) (reading text at (Keyed p)) (refused_line bad_line at))
unfolding reading pick
same_tests text at p false end ended keyed known h = rw (h refl, failing (known && keyed && ended))
same_tests text at p true true ended keyed known h = refl
same_tests text at p true false false keyed known h = rw (failing (known && keyed))
same_tests text at p true false true false known h = rw (failing known)
same_tests text at p true false true true true h = refl
same_tests text at p true false true true false h = refl

means : (text : List ℕ) (at : ℕ) → reading text at (places_at text at) ≡ line_at text at
unfolding places_at line_at reading key_number
means text at =
    let e = run_end in_line text at in
    let k = run_end in_key text at in
    let key = slice text at k in
    rw (past_or_within at (length text), number_member listing_keys 1 key (λ h. omega arith))
    (same_tests text at (record { number = key_number key; mark = k; value = k + 1; end = e; next = e + 1 })
    (leb at (length text)) (eqb at (length text)) (ltb e (length text)) (ltb k e) (member key listing_keys) (past_no_end at (length text)))

pub line_read : (text : List ℕ) (at : ℕ) (r : Line) → r ≡ places_at text at → LineRead text at r
line_read text at r h = record { placed = h; meant = ap (reading text at) h ∙ means text at }
