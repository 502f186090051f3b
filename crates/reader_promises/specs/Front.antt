-- The front of the text of lines is the text of the lines in front.
use Rattle.std.specs.Prelude.{◌≡◌, refl, ℕ, zero, suc, ◌+◌, ◌≤◌, Bool, true, false, List, [], ◌∷◌, length, take, drop}
use Rattle.std.proofs.Common.{arith, length-append}
use Rattle.std.proofs.Math.Seq.{take-append-add}
use Rattle.meaning.specs.Lists.{pick, each}
use Rattle.meaning.specs.OrderLaws.{Every}
use Rattle.meaning.specs.Listing.{Line, line_text, lines_text}
use Rattle.reader.specs.Places.{key_number}
use Rattle.reader.specs.Visible.{in_front, front_line, after, front_end, visible_end, front_part}
use Rattle.promises.specs.ListingLaws.{PlainLine}
use Rattle.reader_promises.specs.Lines.{Gives, line_size, text_size, lines_past, lines_from}

-- the lines up to the first whose key stands from `hidden-sort` to `end` in the listing's order
unfoldable pub leading : List Line → List Line
leading [] = []
leading (l ∷ ls) = let more = l ∷ leading ls in pick (in_front (key_number l.key)) more []

-- reading past them
leading_from : (ls : List Line) (text : List ℕ) (at n : ℕ) → at ≤ length text → drop at text ≡ lines_text ls → Every PlainLine ls
    → length (lines_text ls) ≤ n → front_end text n at ≡ at + length (lines_text (leading ls))
unfolding front_end leading lines_text each pick Gives front_line after
leading_from [] text at zero p h r m = omega arith
leading_from [] text at (suc n) p h r m = rw (lines_from [] text at p h r) (omega arith)
leading_from (l ∷ ls) text at zero p h r m =
    absurd (omega (arith, line_size l, length-append (line_text l) (lines_text ls)))
leading_from (l ∷ ls) text at (suc n) p h r m =
    let next = at + length (line_text l) in
    let within : next ≤ length text = omega (arith, text_size text at l (lines_text ls) p h) in
    let rest = leading_from ls text next n within (lines_past text at l ls h) r.1
    (omega (arith, line_size l, length-append (line_text l) (lines_text ls))) in
    rw (lines_from (l ∷ ls) text at p h r).0 (go (in_front (key_number l.key)) rest)
  where
    go : (b : Bool) → front_end text n (at + length (line_text l)) ≡ at + length (line_text l) + length (lines_text (leading ls))
        → pick b (front_end text n (at + length (line_text l))) at ≡ at + length (lines_text (pick b (l ∷ leading ls) []))
    go true e = rw e (omega (arith, length-append (line_text l) (lines_text (leading ls))))
    go false e = omega arith

-- they stand in front
leading_first : (ls : List Line) → take (length (lines_text (leading ls))) (lines_text ls) ≡ lines_text (leading ls)
unfolding leading lines_text each pick
leading_first [] = refl
leading_first (l ∷ ls) = go (in_front (key_number l.key)) (leading_first ls)
  where
    go : (b : Bool) → take (length (lines_text (leading ls))) (lines_text ls) ≡ lines_text (leading ls)
        → take (length (lines_text (pick b (l ∷ leading ls) []))) (lines_text (l ∷ ls)) ≡ lines_text (pick b (l ∷ leading ls) [])
    go true e = rw (length-append, take-append-add, e)
    go false e = refl

pub front_leads : (ls : List Line) → Every PlainLine ls → front_part (lines_text ls) ≡ lines_text (leading ls)
unfolding front_part visible_end
front_leads ls r =
    let e = leading_from ls (lines_text ls) 0 (length (lines_text ls)) (omega arith) refl r (omega arith) in
    let s : front_end (lines_text ls) (length (lines_text ls)) 0 ≡ length (lines_text (leading ls)) = omega arith in
    rw s (leading_first ls)
