-- Laws of the front of a listing, in the code's terms: l is what was read at a place, r what is told of it.
use mathlib.Core.Path.{◌≡◌, refl, sym, ap, ◌∙◌}
use mathlib.Core.Bool.{Bool, true, false, ◌&&◌, false≢true}
use mathlib.Core.List.{List}
use Prim.Native.Nat.{ℕ, zero, suc, ◌-◌, ◌<◌, ◌≤◌}
use native.Mathlib.Omega.{arith}
use lib.Dec.{leb, ltb}
use lib.ListN.{length, take, drop}
use borrow.Author.Tests.{lt-ltb, le-ltb, ltb-true}
use Rattle.meaning.specs.Lists.{pick}
use Rattle.meaning.specs.Laws.{by_cases}
use Rattle.meaning.specs.Names.{slice, member}
use Rattle.meaning.specs.Tokens.{run_end}
use Rattle.meaning.specs.Listing.{listing_keys}
use Rattle.meaning.specs.Answer.{in_line}
use Rattle.meaning.specs.Reader.{Reading, in_key, line_at}
use Rattle.reader.specs.declared.Line.{Line}
use Rattle.reader.specs.declared.Line.TheVariants.{Keyed, End, Bad}
use Rattle.reader.specs.declared.Places.{Places}
use Rattle.reader.specs.Places.{places_at, reading, LineRead, place_after}
use Rattle.reader.specs.Visible.{in_front, front_line, after, front_end, visible_end, front_part, is_front}

-- the test of the front
module _ (l : Line) (p : Places) (h : l ≡ Keyed p) where
  pub front_early : p.number < 7 → true ≡ is_front l
  unfolding is_front in_front pick
  front_early g = rw (h, lt-ltb p.number 7 g)

  pub front_late : 7 ≤ p.number → ltb 11 p.number ≡ is_front l
  unfolding is_front in_front pick
  front_late g = rw (h, le-ltb p.number 7 g)

pub front_none : (l : Line) → l ≡ End → false ≡ is_front l
unfolding is_front
front_none l h = rw h

pub front_bad : (l : Line) (place : ℕ) → l ≡ Bad place → false ≡ is_front l
unfolding is_front
front_bad l place h = rw h

-- an answer and its meaning go on alike
module _ (s : List ℕ) (at : ℕ) where
  Alike : Line → Type 0
  Alike l = (is_front l ≡ front_line (reading s at l)) × (place_after l at ≡ after (reading s at l) at)

  alike : Alike (places_at s at)
  unfolding Alike places_at reading is_front front_line place_after after
  alike =
      let bad : Alike (Bad at) = (refl, refl) in
      by_cases Alike _ _ _ (λ h. bad)
      (λ h. by_cases Alike _ _ _ (λ h. (refl, refl))
      (λ h. by_cases Alike _ _ _
      (λ h. by_cases Alike _ _ _ (λ h. by_cases Alike _ _ _ (λ h. bad) (λ h. (refl, refl))) (λ h. bad))
      (λ h. bad)))

  -- what is read lies within the listing
  Within : Reading → Type 0
  Within r = after r at ≤ length s

  within : at ≤ length s → Within (line_at s at)
  unfolding Within line_at after
  within p =
      let k = run_end in_key s at in
      let e = run_end in_line s at in
      let ends = third (member (slice s at k) listing_keys) (ltb k e) (ltb e (length s)) (leb at (length s)) in
      by_cases Within _ _ _ (λ h. p) (λ h. by_cases Within _ _ _ (λ g. omega (arith, ltb-true e (length s) (ends g))) (λ g. p))
    where
      third : (a b c d : Bool) → (a && b && c && d) ≡ true → c ≡ true
      third true true true d e = refl
      third true true false d e = absurd (false≢true e)
      third true false c d e = absurd (false≢true e)
      third false b c d e = absurd (false≢true e)

  module _ (l : Line) (h : LineRead s at l) where
    front_read : is_front l ≡ front_line (line_at s at)
    unfolding Alike
    front_read = ap is_front h.placed ∙ alike.0 ∙ ap front_line (ap (reading s at) (sym h.placed) ∙ h.meant)

    after_read : place_after l at ≡ after (line_at s at) at
    unfolding Alike
    after_read =
        ap (λ (x : Line). place_after x at) h.placed ∙ alike.1
        ∙ ap (λ (x : Reading). after x at) (ap (reading s at) (sym h.placed) ∙ h.meant)

    -- a turn of the loop, of which so many are left
    module _ (left : ℕ) (f : Bool) (g : f ≡ is_front l) where
      pub front_on : f ≡ true → (fewer next : ℕ) → left ≡ suc fewer → next ≡ place_after l at → front_end s left at ≡ front_end s fewer next
      unfolding front_end pick
      front_on t fewer next count e = ap (λ (n : ℕ). front_end s n at) count ∙ rw (← front_read, ← g, t, e, after_read)

      pub front_off : 0 < left → f ≡ false → front_end s left at ≡ at
      unfolding front_end pick
      front_off more t = let count : left ≡ suc (left - 1) = omega arith in rw (count, ← front_read, ← g, t)

pub front_start : (s : List ℕ) → visible_end s ≡ front_end s (length s) 0
unfolding visible_end
front_start s = refl

pub front_out : (s : List ℕ) (left at : ℕ) → left ≤ 0 → front_end s left at ≡ at
unfolding front_end
front_out s left at h = let z : left ≡ 0 = omega arith in rw z

-- the front ends within the listing
front_within : (s : List ℕ) (n at : ℕ) → at ≤ length s → front_end s n at ≤ length s
unfolding front_end Within
front_within s zero at h = h
front_within s (suc n) at h =
    by_cases (λ e. e ≤ length s) _ _ _ (λ g. front_within s n (after (line_at s at) at) (within s at h)) (λ g. h)

pub visible_within : (s : List ℕ) (e : ℕ) → e ≡ visible_end s → e ≤ length s
unfolding visible_end
visible_within s e h = rw h (front_within s (length s) 0 (omega arith))

pub part_front : (s : List ℕ) (e : ℕ) → e ≡ visible_end s → take (e - 0) (drop 0 s) ≡ front_part s
unfolding front_part
part_front s e h = let m : e - 0 ≡ e = omega arith in rw (m, h)
