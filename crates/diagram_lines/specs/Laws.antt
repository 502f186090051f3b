-- Laws of `drew`: lines after lines, past the most that are counted, and a loop that draws lines.
use Rattle.std.specs.Prelude.{◌≡◌, Bool, ltb, ℕ, ◌+◌, ◌<◌, ◌≤◌, length}
use Rattle.std.proofs.Math.Path.{refl, sym, ap}
use Rattle.std.proofs.Common.{◌∙◌, lt-ltb, le-ltb}
use mathlib.Core.List.{List, [], ◌∷◌, ◌++◌}
use Rattle.std.proofs.Math.Bool.{true, false}
use native.Mathlib.Omega.{arith}
use Rattle.meaning.specs.Lists.{pick}
use Rattle.meaning.specs.Listing.{Line, line_text}
use Rattle.list_pen.specs.Pen.{Pen, pen, written}
use Rattle.diagram_lines.specs.Sheet.{line_limit, Drawing, drawing, one_more, drew_line, drew}

module _ (l : ℕ) where
  pub drew_append : (xs ys : List Line) (s : Drawing) → drew l (xs ++ ys) s ≡ drew l ys (drew l xs s)
  unfolding drew
  drew_append [] ys s = refl
  drew_append (x ∷ xs) ys s = drew_append xs ys (drew_line l x s)

  -- the same for code: t is what the first left
  pub drew_then : (xs ys : List Line) (s t r : Drawing) → t ≡ drew l xs s → r ≡ drew l ys t → r ≡ drew l (xs ++ ys) s
  drew_then xs ys s t r e f = f ∙ ap (drew l ys) e ∙ sym (drew_append xs ys s)

  line_full : (x : Line) (s : Drawing) → line_limit ≤ s.lines → drew_line l x s ≡ s
  unfolding drew_line pick
  line_full x s h = rw (le-ltb s.lines line_limit h)

  -- past the most that are counted nothing happens
  pub drew_full : (xs : List Line) (s : Drawing) → line_limit ≤ s.lines → drew l xs s ≡ s
  unfolding drew
  drew_full [] s h = refl
  drew_full (x ∷ xs) s h = ap (drew l xs) (line_full x s h) ∙ drew_full xs s h

  pub line_on : (x : Line) (at lines r : ℕ) (o o' : List ℕ) → lines < line_limit → pen r o' ≡ written l (line_text x) (pen at o)
      → drawing r (lines + 1) o' ≡ drew l (x ∷ []) (drawing at lines o)
  unfolding drew drew_line pick
  line_on x at lines r o o' h e = rw (lt-ltb lines line_limit h) (ap (λ (p : Pen). one_more lines p) e)

-- the count never falls, and grows by the first line where it may
module _ (l : ℕ) where
  line_count : (x : Line) (s : Drawing) → s.lines ≤ (drew_line l x s).lines
  unfolding drew_line pick
  line_count x s = go (ltb s.lines line_limit)
    where
      go : (b : Bool) → s.lines ≤ (pick b (one_more s.lines (written l (line_text x) (pen s.at s.out))) s).lines
      go true = omega arith
      go false = omega arith

  pub drew_grows : (xs : List Line) (s : Drawing) → s.lines ≤ (drew l xs s).lines
  unfolding drew
  drew_grows [] s = omega arith
  drew_grows (x ∷ xs) s = omega (arith, line_count x s, drew_grows xs (drew_line l x s))

  pub drew_more : (x : Line) (xs : List Line) (at lines at' lines' : ℕ) (o o' : List ℕ) → lines < line_limit
      → drawing at' lines' o' ≡ drew l (x ∷ xs) (drawing at lines o) → lines < lines'
  unfolding drew drew_line pick
  drew_more x xs at lines at' lines' o o' h e =
      let s = one_more lines (written l (line_text x) (pen at o)) in
      let first : drew l (x ∷ xs) (drawing at lines o) ≡ drew l xs s = rw (lt-ltb lines line_limit h) refl in
      omega (arith, ap (λ (y : Drawing). y.lines) (e ∙ first), drew_grows xs s)

-- a loop that draws these lines: what is left of them is to be drawn from here on
pub record Going (l : ℕ) (whole : List Line) (at₀ lines₀ : ℕ) (o₀ : List ℕ) (left : List Line) (at lines : ℕ) (o : List ℕ) : Type 0 where
  pub sized : length o ≡ length o₀
  pub comes : drew l whole (drawing at₀ lines₀ o₀) ≡ drew l left (drawing at lines o)

module _ (l : ℕ) (whole : List Line) (at₀ lines₀ : ℕ) (o₀ : List ℕ) where
  pub going_start : Going l whole at₀ lines₀ o₀ whole at₀ lines₀ o₀
  going_start = record { sized = refl; comes = refl }

  module _ (left : List Line) (at lines : ℕ) (o : List ℕ) (v : Going l whole at₀ lines₀ o₀ left at lines o) where
    -- some of them are drawn
    pub going_on : (xs left' : List Line) (at' lines' : ℕ) (o' : List ℕ) → length o' ≡ length o → left ≡ xs ++ left'
        → drawing at' lines' o' ≡ drew l xs (drawing at lines o) → Going l whole at₀ lines₀ o₀ left' at' lines' o'
    going_on xs left' at' lines' o' k e f = record {
      sized = k ∙ v.sized;
      comes = v.comes ∙ ap (λ (ls : List Line). drew l ls (drawing at lines o)) e ∙ drew_append l xs left' (drawing at lines o) ∙ ap (drew l left') (sym f);
    }

    -- none is
    pub going_by : (left' : List Line) → left ≡ left' → Going l whole at₀ lines₀ o₀ left' at lines o
    going_by left' e = record { sized = v.sized; comes = v.comes ∙ ap (λ (ls : List Line). drew l ls (drawing at lines o)) e }

    pub going_end : left ≡ [] → drawing at lines o ≡ drew l whole (drawing at₀ lines₀ o₀)
    unfolding drew
    going_end e = sym (v.comes ∙ ap (λ (ls : List Line). drew l ls (drawing at lines o)) e)

    pub going_full : line_limit ≤ lines → drawing at lines o ≡ drew l whole (drawing at₀ lines₀ o₀)
    going_full h = sym (v.comes ∙ drew_full l left (drawing at lines o) h)
