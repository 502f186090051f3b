-- The visible part of a listing's bytes is the text of its visible lines, where each line stays a line.
use Rattle.std.specs.Prelude.{◌≡◌, refl, ℕ, Bool, true, false, List, [], ◌∷◌, ◌++◌, map, eqb}
use Rattle.std.proofs.Common.{sym, ap, ◌∙◌, append_assoc}
use Rattle.meaning.specs.Lists.{pick, each}
use Rattle.meaning.specs.Names.{bytes, byte, same, member}
use Rattle.meaning.specs.Listing.{Line, line_text, lines_text, visible_keys, shown}
use Rattle.meaning.specs.OrderLaws.{Every}
use Rattle.laws.specs.Decides.{both_true}
use Rattle.laws.specs.EveryLaws.{every_so, every_append}
use Rattle.promises.specs.VisiblePart.{cut_lines, key_of, keep_visible, visible_part}
use Rattle.promises.specs.ListingLaws.{Within, not_byte, key_letter, PlainLine, key_letters, not_so}

-- ---- a line is cut off as it was written

cut_line : (w rest : List ℕ) → Within (not_byte (byte "\n")) w → cut_lines (w ++ (byte "\n" ∷ rest)) ≡ (w ++ (byte "\n" ∷ [])) ∷ cut_lines rest
unfolding cut_lines pick
cut_line [] rest h = refl
cut_line (b ∷ w) rest h = rw (not_so (eqb b (byte "\n")) h.0, cut_line w rest h.1)

key_cut : (k rest : List ℕ) → Within key_letter k → key_of (k ++ (byte "=" ∷ rest)) ≡ k
unfolding key_of pick
key_cut [] rest h = refl
key_cut (b ∷ k) rest h = rw (not_so (eqb b (byte "=")) (both_true _ _ h.0).0, key_cut k rest h.1)

abbrev before_end : Line → List ℕ
before_end l = l.key ++ (byte "=" ∷ l.value)

line_ended : (l : Line) → line_text l ≡ before_end l ++ (byte "\n" ∷ [])
unfolding line_text
line_ended l = sym (append_assoc l.key (byte "=" ∷ l.value) (byte "\n" ∷ []))

line_cut : (l : Line) (rest : List ℕ) → PlainLine l → cut_lines (line_text l ++ rest) ≡ line_text l ∷ cut_lines rest
line_cut l rest p =
    let key = every_so _ (λ b. not_byte (byte "\n") b ≡ true) l.key (λ b q. (both_true (not_byte (byte "=") b) _ q).1) (key_letters l p) in
    ap (λ (t : List ℕ). cut_lines (t ++ rest)) (line_ended l)
    ∙ ap cut_lines (append_assoc (before_end l) (byte "\n" ∷ []) rest)
    ∙ cut_line (before_end l) rest (every_append _ l.key (byte "=" ∷ l.value) key (refl, p.value))
    ∙ ap (λ (t : List ℕ). t ∷ cut_lines rest) (sym (line_ended l))

line_key : (l : Line) → PlainLine l → key_of (line_text l) ≡ l.key
unfolding line_text
line_key l p = key_cut l.key (l.value ++ (byte "\n" ∷ [])) (key_letters l p)

-- ---- so the same lines are kept

map_pick : (b : Bool) (l : Line) (ls : List Line)
    → pick b (line_text l ∷ map line_text ls) (map line_text ls) ≡ map line_text (pick b (l ∷ ls) ls)
unfolding pick
map_pick true l ls = refl
map_pick false l ls = refl

lines_kept : (ls : List Line) → Every PlainLine ls → (kept : Bool)
    → keep_visible kept (cut_lines (lines_text ls)) ≡ map line_text (shown kept ls)
unfolding lines_text each cut_lines keep_visible shown
lines_kept [] p kept = refl
lines_kept (l ∷ ls) p kept =
    let keeps = pick (same l.key (bytes "origin")) kept (member l.key visible_keys) in
    ap (keep_visible kept) (line_cut l (each line_text ls) p.0)
    ∙ ap (λ (k : List ℕ). keeping (pick (same k (bytes "origin")) kept (member k visible_keys))) (line_key l p.0)
    ∙ ap (λ (more : List (List ℕ)). pick keeps (line_text l ∷ more) more) (lines_kept ls p.1 keeps)
    ∙ map_pick keeps l (shown keeps ls)
  where
    keeping : Bool → List (List ℕ)
    keeping b = pick b (line_text l ∷ keep_visible b (cut_lines (each line_text ls))) (keep_visible b (cut_lines (each line_text ls)))

joined : (ls : List Line) → each (λ (t : List ℕ). t) (map line_text ls) ≡ each line_text ls
unfolding each
joined [] = refl
joined (l ∷ ls) = ap (λ (t : List ℕ). line_text l ++ t) (joined ls)

pub visible_tie : (ls : List Line) → Every PlainLine ls → visible_part (lines_text ls) ≡ lines_text (shown false ls)
unfolding visible_part lines_text
visible_tie ls p = ap (each (λ (t : List ℕ). t)) (lines_kept ls p false) ∙ joined (shown false ls)
