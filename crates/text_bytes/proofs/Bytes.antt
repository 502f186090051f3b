-- Laws of single bytes of a text, and of two as one, in the code's terms: t is the text, l the library behind it.
use mathlib.Core.Path.{◌≡◌, sym, ap, ◌∙◌}
use mathlib.Core.List.{List, ◌++◌}
use Prim.Native.Nat.{ℕ, ◌+◌, ◌-◌, ◌<◌, ◌≤◌}
use native.Mathlib.Omega.{arith}
use lib.ListN.{length, get_or, get_or-append, get_or-eq_default}
use lib.Seq.{get_or-append-add}
use borrow.Author.Rules.{rules}
use Rattle.text_bytes.specs.Joint.{joint}

pub past_end : (s : List ℕ) (i : ℕ) → length s ≤ i → 0 ≡ get_or s i 0
past_end s i h = sym (get_or-eq_default s 0 h)

pub past_seam : (xs ys : List ℕ) (i : ℕ) → length xs ≤ i → get_or (xs ++ ys) i 0 ≡ get_or ys (i - length xs) 0
past_seam xs ys i h =
    let place : i ≡ length xs + (i - length xs) = omega arith in
    ap (λ (j : ℕ). get_or (xs ++ ys) j 0) place ∙ get_or-append-add xs ys (i - length xs) 0

module _ (l t : List ℕ) where
  pub byte_left : (i : ℕ) → i < length t → get_or t i 0 ≡ get_or (joint l t) i 0
  unfolding joint
  byte_left i h = sym (get_or-append t l 0 i h)

  pub byte_right : (i r : ℕ) → length t ≤ i → r ≡ get_or l (i - length t) 0 → r ≡ get_or (joint l t) i 0
  unfolding joint
  byte_right i r h e = e ∙ sym (past_seam t l i h)

pub ruleset cases = (byte_left, byte_right, rules)
