-- The visible part of a listing, from its bytes alone (document 01, "The listing"): all lines whose key stands before `hidden-sort` in the
-- order of keys, with the origins that follow them; so too where no hidden sort is listed.
use Rattle.std.specs.Prelude.{ℕ, Bool, false, List, [], ◌∷◌, eqb}
use Rattle.meaning.specs.Lists.{pick, each}
use Rattle.meaning.specs.Names.{bytes, byte, same, member, on_front}
use Rattle.meaning.specs.Listing.{visible_keys}

-- the lines of a text, each with the LF that ends it; what stands after the last LF is a line too
unfoldable pub cut_lines : List ℕ → List (List ℕ)
cut_lines [] = []
cut_lines (b ∷ s) =
    let rest = cut_lines s in
    let longer = on_front b rest in
    let ended = (b ∷ []) ∷ rest in
    pick (eqb b (byte "\n")) ended longer

-- a line's key: up to its first `=`
unfoldable pub key_of : List ℕ → List ℕ
key_of [] = []
key_of (b ∷ s) = let more = b ∷ key_of s in pick (eqb b (byte "=")) [] more

-- the lines kept; `kept` says whether the line before is one
unfoldable pub keep_visible : Bool → List (List ℕ) → List (List ℕ)
keep_visible kept [] = []
keep_visible kept (l ∷ ls) =
    let keeps = pick (same (key_of l) (bytes "origin")) kept (member (key_of l) visible_keys) in
    let more = keep_visible keeps ls in
    let here = l ∷ more in
    pick keeps here more

unfoldable pub visible_part : List ℕ → List ℕ
visible_part text = each (λ (l : List ℕ). l) (keep_visible false (cut_lines text))

-- opens every definition of this file
unfoldable pub visible_part_opened : Unit {0}
unfolding cut_lines key_of keep_visible visible_part
visible_part_opened = tt
