-- Laws of `written`: one text after another, what is kept, what is counted, and what stands there where there is room.
use mathlib.Core.Path.{◌≡◌, refl, sym, ap, ◌∙◌}
use mathlib.Core.Bool.{Bool, true, false}
use lib.Dec.{ltb}
use mathlib.Core.List.{List, [], ◌∷◌, ◌++◌}
use Prim.Native.Nat.{ℕ, suc, ◌+◌, ◌-◌, ◌<◌, ◌≤◌, min}
use native.Mathlib.Omega.{arith}
use native.Mathlib.Nat.{add-zero, zero-add}
use borrow.Author.Tests.{ltb-true, ltb-false}
use lib.ListN.{length, set, take, drop, length-set, length-take, length-drop, drop_of_length-le}
use lib.Seq.{sets, sets-eq, set_out, take-nil, take-add, take-take, take_at, length-take-le}
use Rattle.list_window.specs.Pen.{Pen, pen, places_before, shown, mark, written}
use Rattle.list_window.proofs.Laws.{shown_in, shown_before, mark_on, mark_off}

-- either a is below b, or not
pub by_order : {A : Type 0} (a b : ℕ) → (a < b → A) → (b ≤ a → A) → A
by_order {A} a b f g = go (ltb a b) refl
  where
    go : (t : Bool) → ltb a b ≡ t → A
    go true e = f (ltb-true a b e)
    go false e = g (ltb-false a b e)

-- a byte through a window leaves the list as long as it was
shown_kept : (s at b : ℕ) (o : List ℕ) → length (shown s at b o) ≡ length o
shown_kept s at b o =
    by_order at s (λ h. ap length (shown_before s at b o h)) (λ h. ap length (shown_in s at b o h) ∙ length-set o (at - s) b)

module _ (l : ℕ) where
  -- one text after another is both together
  pub written_append : (a b : List ℕ) (p : Pen) → written l (a ++ b) p ≡ written l b (written l a p)
  unfolding written
  written_append [] b p = refl
  written_append (x ∷ a) b p = written_append a b (mark l x p)

  -- the same for code: q is where the first ended
  pub then : (a b : List ℕ) (p q r : Pen) → q ≡ written l a p → r ≡ written l b q → r ≡ written l (a ++ b) p
  then a b p q r e f = f ∙ ap (written l b) e ∙ sym (written_append a b p)

  mark_kept : (b : ℕ) (p : Pen) → length (mark l b p).out ≡ length p.out
  mark_kept b p = by_order p.at l
      (λ h. ap (λ (q : Pen). length q.out) (mark_on l b p h) ∙ shown_kept (places_before l p.out) p.at b p.out)
      (λ h. ap (λ (q : Pen). length q.out) (mark_off l b p h))

  -- the list keeps its length
  pub written_kept : (bs : List ℕ) (p : Pen) → length (written l bs p).out ≡ length p.out
  unfolding written
  written_kept [] p = refl
  written_kept (b ∷ bs) p = written_kept bs (mark l b p) ∙ mark_kept b p

  -- past the limit nothing happens
  written_full : (bs : List ℕ) (p : Pen) → l ≤ p.at → written l bs p ≡ p
  unfolding written
  written_full [] p h = refl
  written_full (b ∷ bs) p h = ap (written l bs) (mark_off l b p h) ∙ written_full bs p h

  -- before the window the place moves
  pub written_before : (bs : List ℕ) (at : ℕ) (o : List ℕ) → at + length bs ≤ l - (length o + 1) → written l bs (pen at o) ≡ pen (at + length bs) o
  unfolding written places_before
  written_before [] at o h = ap (λ (n : ℕ). pen n o) (sym (add-zero at))
  written_before (b ∷ bs) at o h =
      let same : shown (places_before l o) at b o ≡ o = shown_before (places_before l o) at b o (omega arith) in
      let sum : at + 1 + length bs ≡ at + suc (length bs) = omega arith in
      ap (written l bs) (mark_on l b (pen at o) (omega arith) ∙ ap (pen (at + 1)) same) ∙ written_before bs (at + 1) o (omega arith)
      ∙ ap (λ (n : ℕ). pen n o) sum

  -- in it, up to the limit, the bytes are stored one after the other
  pub written_in : (bs : List ℕ) (at i : ℕ) (o : List ℕ) → at ≡ (l - (length o + 1)) + i → at + length bs ≤ l
      → written l bs (pen at o) ≡ pen (at + length bs) (sets o i bs)
  unfolding written places_before
  written_in [] at i o e h = ap (λ (n : ℕ). pen n o) (sym (add-zero at))
  written_in (b ∷ bs) at i o e h =
      let place : at - places_before l o ≡ i = omega arith in
      let stored : shown (places_before l o) at b o ≡ set o i b = shown_in (places_before l o) at b o (omega arith) ∙ ap (λ (n : ℕ). set o n b) place in
      let sum : at + 1 + length bs ≡ at + suc (length bs) = omega arith in
      ap (written l bs) (mark_on l b (pen at o) (omega arith) ∙ ap (pen (at + 1)) stored)
      ∙ written_in bs (at + 1) (suc i) (set o i b) (omega (arith, length-set o i b)) (omega arith)
      ∙ ap (λ (n : ℕ). pen n (sets o i (b ∷ bs))) sum

  -- whatever the window, the place moves by as many
  written_place : (bs : List ℕ) (at : ℕ) (o : List ℕ) → at + length bs ≤ l → (written l bs (pen at o)).at ≡ at + length bs
  unfolding written
  written_place [] at o h = sym (add-zero at)
  written_place (b ∷ bs) at o h =
      ap (λ (p : Pen). (written l bs p).at) (mark_on l b (pen at o) (omega arith)) ∙ written_place bs (at + 1) _ (omega arith) ∙ omega arith

  -- beyond it the place stays there
  written_long : (bs : List ℕ) (at : ℕ) (o : List ℕ) → at ≤ l → l < at + length bs → (written l bs (pen at o)).at ≡ l
  unfolding written
  written_long [] at o h k = absurd (omega arith)
  written_long (b ∷ bs) at o h k =
      by_order at l
      (λ i. ap (λ (p : Pen). (written l bs p).at) (mark_on l b (pen at o) i) ∙ written_long bs (at + 1) _ (omega arith) (omega arith))
      (λ i. ap (λ (p : Pen). p.at) (written_full (b ∷ bs) (pen at o) i) ∙ omega arith)

  -- what would pass the limit may be left out
  pub written_taken : (bs : List ℕ) (at : ℕ) (o : List ℕ) → written l bs (pen at o) ≡ written l (take (l - at) bs) (pen at o)
  unfolding written
  written_taken [] at o = ap (λ (xs : List ℕ). written l xs (pen at o)) (sym (take-nil (l - at)))
  written_taken (b ∷ bs) at o =
      by_order at l
      (λ h. let left : l - at ≡ suc (l - (at + 1)) = omega arith in
      rw left (ap (written l bs) (mark_on l b (pen at o) h) ∙ written_taken bs (at + 1) _
      ∙ ap (written l (take (l - (at + 1)) bs)) (sym (mark_on l b (pen at o) h))))
      (λ h. written_full (b ∷ bs) (pen at o) h ∙ sym (written_full (take (l - at) (b ∷ bs)) (pen at o) h))

-- What a count tells: k is the place that bytes reached from 0 on, where the limit was one more than n.
module _ (n k : ℕ) (bs e o : List ℕ) (c : pen k e ≡ written (n + 1) bs (pen 0 o)) where
  at_most : length bs ≤ n + 1 → k ≡ length bs
  at_most h = ap (λ (p : Pen). p.at) c ∙ written_place (n + 1) bs 0 o (omega arith) ∙ omega arith

  pub count_over : n < k → n < length bs
  count_over h = by_order n (length bs) (λ i. i) (λ i. let e : k ≡ length bs = at_most (omega arith) in absurd (omega arith))

  pub count_fits : k ≤ n → k ≡ length bs
  count_fits h = by_order (n + 1) (length bs)
      (λ i. let e : k ≡ n + 1 = ap (λ (p : Pen). p.at) c ∙ written_long (n + 1) bs 0 o (omega arith) (omega arith) in absurd (omega arith))
      (λ i. at_most i)

-- What stands there where there is room for all of it
pub laid : (l at k : ℕ) (bs o o' : List ℕ) → l ≤ length o + 1 → at + length bs ≤ l → at + length bs ≤ length o → pen k o' ≡ written l bs (pen at o)
    → o' ≡ take at o ++ bs ++ drop (at + length bs) o
laid l at k bs o o' w h r e = ap (λ (p : Pen). p.out) (e ∙ written_in l bs at at o (omega arith) h) ∙ sets-eq bs o at r

-- the place that is reached
pub reached : (l at k : ℕ) (bs o o' : List ℕ) → at + length bs ≤ l → pen k o' ≡ written l bs (pen at o) → k ≡ at + length bs
reached l at k bs o o' h e = ap (λ (p : Pen). p.at) e ∙ written_place l bs at o h

-- what is stored past a list's end is lost
sets_past : (vs l : List ℕ) (i : ℕ) → length l ≤ i → sets l i vs ≡ l
sets_past [] l i h = refl
sets_past (v ∷ vs) l i h = ap (λ (m : List ℕ). sets m (suc i) vs) (set_out l i v h) ∙ sets_past vs l (suc i) (omega arith)

sets_taken : (vs l : List ℕ) (i : ℕ) → sets l i vs ≡ sets l i (take (length l - i) vs)
sets_taken [] l i = ap (sets l i) (sym (take-nil (length l - i)))
sets_taken (v ∷ vs) l i =
    by_order i (length l)
    (λ h. let left : length l - i ≡ suc (length (set l i v) - suc i) = omega (arith, length-set l i v) in
    rw left (sets_taken vs (set l i v) (suc i)))
    (λ h. sets_past (v ∷ vs) l i h ∙ sym (sets_past (take (length l - i) (v ∷ vs)) l i h))

-- The part that a window of n places shows of a text written from place 0 on, where `before` places lie before it.
module _ (before n k : ℕ) (bs o o' : List ℕ) (size : length o ≡ n) (e : pen k o' ≡ written (before + n + 1) bs (pen 0 o)) where
  abbrev behind : List ℕ
  behind = take (n + 1) (drop before bs)

  halves : take (before + n + 1 - 0) bs ≡ take before bs ++ behind
  halves = let sum : before + n + 1 - 0 ≡ before + (n + 1) = omega arith in ap (λ (m : ℕ). take m bs) sum ∙ take-add before (n + 1) bs

  ends_before : length bs ≤ before → min (k - before) n ≡ length (take n (drop before bs))
  ends_before h =
      let place = reached (before + n + 1) 0 k bs o o' (omega arith) e in
      omega (arith, place, length-take n (drop before bs), length-drop before bs)

  stored : before < length bs → pen k o' ≡ pen (before + length behind) (sets o 0 behind)
  stored h =
      let l = before + n + 1 in
      let first : length (take before bs) ≡ before = length-take-le before bs (omega arith) in
      let moved = written_before l (take before bs) 0 o (omega (arith, first, size)) ∙ ap (λ (m : ℕ). pen m o) (zero-add (length (take before bs)) ∙ first) in
      e ∙ written_taken l bs 0 o ∙ ap (λ (xs : List ℕ). written l xs (pen 0 o)) halves ∙ written_append l (take before bs) behind (pen 0 o)
      ∙ ap (written l behind) moved
      ∙ written_in l behind before 0 o (omega (arith, size)) (omega (arith, length-take (n + 1) (drop before bs)))

  -- how long it is
  pub window_size : min (k - before) n ≡ length (take n (drop before bs))
  window_size =
      by_order before (length bs)
      (λ h. let place : k ≡ before + length behind = ap (λ (p : Pen). p.at) (stored h) in
      omega (arith, place, length-take (n + 1) (drop before bs), length-take n (drop before bs)))
      ends_before

  -- and what it is
  pub window_shows : take (min (k - before) n) o' ≡ take n (drop before bs)
  window_shows =
      by_order before (length bs)
      (λ h. let part : take (length o) behind ≡ take n (drop before bs) =
      ap (λ (m : ℕ). take m behind) size ∙ take-take n (n + 1) (drop before bs) (omega arith) in
      let cut : length o - 0 ≡ length o = omega arith in
      let laid_out = ap (λ (p : Pen). p.out) (stored h) ∙ sets_taken behind o 0 ∙ ap (λ (m : ℕ). sets o 0 (take m behind)) cut ∙ ap (sets o 0) part
      ∙ sets-eq (take n (drop before bs)) o 0 (omega (arith, size, length-take n (drop before bs))) in
      ap (λ (xs : List ℕ). take (min (k - before) n) xs) laid_out ∙ take_at (take n (drop before bs)) _ (min (k - before) n) (sym window_size))
      (λ h. let none : take n (drop before bs) ≡ [] = ap (take n) (drop_of_length-le bs h) ∙ take-nil n in
      let zero_size : min (k - before) n ≡ 0 = window_size ∙ ap length none in
      ap (λ (m : ℕ). take m o') zero_size ∙ sym none)

-- Lent no memory, nothing is written
pub none_written : (l k at : ℕ) (bs o' : List ℕ) → pen k o' ≡ written l bs (pen at []) → o' ≡ []
none_written l k at bs o' e = no_length o' (ap (λ (p : Pen). length p.out) e ∙ written_kept l bs (pen at []))
  where
    no_length : (xs : List ℕ) → length xs ≡ 0 → xs ≡ []
    no_length [] h = refl
    no_length (x ∷ xs) h = absurd (omega arith)
