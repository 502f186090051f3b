-- Notes of rows that stay where they are, one after the other; and the hidden parts joined.
use mathlib.Core.Path.{◌≡◌, refl, ◌∙◌}
use mathlib.Core.Bool.{Bool, true, false}
use mathlib.Core.List.{List}
use Prim.Native.Nat.{ℕ, ◌+◌, ◌≤◌, ◌<◌}
use native.Mathlib.Omega.{arith}
use lib.Dec.{eqb}
use lib.ListN.{length, get_or, set}
use lib.Seq.{get_or-set_same}
use borrow.Author.Rules.{rules}
use borrow.Author.Tests.{eqb-true, eqb-false}
use Rattle.form.specs.Memory.{Kept}
use Rattle.form.specs.FormLaws.{kept_all, kept_wider, kept_then, kept_set}
use Rattle.own_completing.specs.Hidden.{SameNoted, note_room, hidden_room, hidden_joined}

-- the first i of n rows are noted
pub record Noting (w₀ : List ℕ) (o n : ℕ) (w : List ℕ) (i : ℕ) : Type 0 where
  pub inside : i ≤ n
  pub words : (k : ℕ) → k < i → get_or w (o + k) 0 ≡ k
  pub kept : Kept o (o + i) w₀ w

module _ (w₀ : List ℕ) (o n : ℕ) where
  pub note_start : Noting w₀ o n w₀ 0
  note_start = record { inside = omega arith; words = λ k h. absurd (omega arith); kept = kept_all o (o + 0) w₀ }

  module _ (w : List ℕ) (i : ℕ) (inv : Noting w₀ o n w i) where
    pub note_end : n ≤ i → SameNoted w₀ o n w
    note_end h = record {
      words = λ k l. inv.words k (omega arith);
      kept = kept_wider o (o + i) o (o + n) w₀ w (omega arith) (omega (arith, inv.inside)) inv.kept;
    }

    module _ (room : o + n ≤ length w₀) (w' : List ℕ) (h : i < n) (e : w' ≡ set w (o + i) i) where
      stored : Kept (o + i) (o + i + 1) w w'
      stored = rw e (kept_set w (o + i) i)

      word_now : (k : ℕ) → k < i + 1 → (q : Bool) → eqb k i ≡ q → get_or w' (o + k) 0 ≡ k
      word_now k l true q =
          let at : k ≡ i = eqb-true k i q in
          let inside : o + i < length w = omega (arith, inv.kept.size, room) in
          rw (at, e) (get_or-set_same w (o + i) i 0 inside)
      word_now k l false q =
          let other = eqb-false k i q in
          let before : k < i = omega arith in
          stored.below (o + k) (omega arith) ∙ inv.words k before

      pub note_again : Noting w₀ o n w' (i + 1)
      note_again = record {
        inside = omega arith;
        words = λ k l. word_now k l (eqb k i) refl;
        kept = kept_then o (o + (i + 1)) w₀ w w' (kept_wider o (o + i) o (o + (i + 1)) w₀ w (omega arith) (omega arith) inv.kept)
            (kept_wider (o + i) (o + i + 1) o (o + (i + 1)) w w' (omega arith) (omega arith) stored);
      }

pub ruleset notes = (note_start, note_again, note_end, note_room, hidden_room, hidden_joined, rules)
