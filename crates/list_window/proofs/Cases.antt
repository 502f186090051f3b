-- One law for each way through the code, in the code's terms.
use mathlib.Core.Path.{◌≡◌, sym, ap, ◌∙◌}
use mathlib.Core.List.{List, [], ◌∷◌}
use Prim.Native.Nat.{ℕ, ◌+◌, ◌-◌, ◌<◌, ◌≤◌}
use borrow.Author.Rules.{rules}
use lib.ListN.{length, set}
use lib.Seq.{set_out}
use Rattle.list_window.specs.Pen.{pen, places_before, shown, written}
use Rattle.list_window.proofs.Laws.{shown_in, shown_before, mark_on, mark_off}

module _ (s at b : ℕ) (o : List ℕ) where
  pub show_in : s ≤ at → set o (at - s) b ≡ shown s at b o
  show_in h = sym (shown_in s at b o h)

  pub show_past : s ≤ at → length o ≤ at - s → o ≡ shown s at b o
  show_past h k = sym (set_out o (at - s) b k) ∙ show_in h

  pub show_before : at < s → o ≡ shown s at b o
  show_before h = sym (shown_before s at b o h)

module _ (l : ℕ) (b at : ℕ) (o : List ℕ) where
  pub put_in : (s : ℕ) (o' : List ℕ) → at < l → s ≡ l - (length o + 1) → o' ≡ shown s at b o → pen (at + 1) o' ≡ written l (b ∷ []) (pen at o)
  unfolding written places_before
  put_in s o' h e f = ap (pen (at + 1)) (f ∙ ap (λ (k : ℕ). shown k at b o) e) ∙ sym (mark_on l b (pen at o) h)

  pub put_full : l ≤ at → pen at o ≡ written l (b ∷ []) (pen at o)
  unfolding written
  put_full h = sym (mark_off l b (pen at o) h)

-- what the answers of this crate hand to `search`
pub ruleset cases = (show_in, show_past, show_before, put_in, put_full, rules)
