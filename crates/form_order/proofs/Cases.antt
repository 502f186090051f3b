-- What the places of the code ask, one law each: the hypotheses are the facts that the place has.
use mathlib.Core.Path.{◌≡◌, refl, sym, ◌∙◌}
use mathlib.Core.Bool.{Bool, true, false}
use mathlib.Core.List.{List}
use Prim.Native.Nat.{ℕ, ◌+◌, ◌*◌, ◌≤◌, ◌<◌}
use native.Mathlib.Omega.{arith}
use lib.ListN.{length, get_or}
use borrow.Author.Rules.{rules}
use Rattle.meaning.specs.Lists.{sorted_onto}
use Rattle.meaning.specs.Names.{Name, not_after}
use Rattle.meaning.specs.OrderLaws.{names_ordered}
use Rattle.text_names.specs.Word.{name_of}
use Rattle.form_rows.specs.Rows.{words_from}
use Rattle.form.specs.Memory.{Kept}
use Rattle.form.specs.FormLaws.{kept_all}
use Rattle.form_order.specs.Order.{name_in, upto, name_order, InOrder}
use Rattle.form_order.specs.Sorting.{lt_or_ge, yes_below, no_above, ordered_names, insert_ordered}

-- ---- `comes_before`

pub before_told : (text w : List ℕ) (b s p i x k y : ℕ) (r : Bool) → k ≡ get_or w (p + i) 0 → y ≡ get_or w (b + k * s) 0
    → r ≡ not_after (name_of text y) (name_of text x) → r ≡ not_after (name_in text w b s (get_or w (p + i) 0)) (name_of text x)
unfolding name_in
before_told text w b s p i x k y r ek ey er = rw (ey, ek) at er

-- ---- `find_place`

-- the names before lo are not after x, and those from hi on are
pub record Narrowed (text w : List ℕ) (b s p n x lo hi : ℕ) : Type 0 where
  pub low : lo ≤ hi
  pub high : hi ≤ n
  pub before : (i : ℕ) → i < lo → not_after (name_in text w b s (get_or w (p + i) 0)) (name_of text x) ≡ true
  pub behind : (i : ℕ) → hi ≤ i → i < n → not_after (name_in text w b s (get_or w (p + i) 0)) (name_of text x) ≡ false

module _ (text w : List ℕ) (b s p n x : ℕ) where
  abbrev called : ℕ → Name
  called i = name_in text w b s (get_or w (p + i) 0)

  module _ (ord : InOrder text w b s p n) (lo hi mid : ℕ) (inv : Narrowed text w b s p n x lo hi) (l : lo ≤ mid) (h : mid < hi) (r : Bool)
      (er : r ≡ not_after (name_in text w b s (get_or w (p + mid) 0)) (name_of text x)) where
    abbrev early : ℕ → Bool
    early i = not_after (called i) (name_of text x)

    steady : (i j : ℕ) → i ≤ j → j < n → early j ≡ true → early i ≡ true
    steady i j m k e = names_ordered.transitive (called i) (called j) (name_of text x) (ordered_names text w b s p n ord i j m k) e

    pub narrow_up : r ≡ true → Narrowed text w b s p n x (mid + 1) hi
    narrow_up t = record {
      low = omega arith;
      high = inv.high;
      before = yes_below early n steady mid (omega (arith, inv.high)) (sym er ∙ t);
      behind = inv.behind;
    }

    pub narrow_down : r ≡ false → Narrowed text w b s p n x lo mid
    narrow_down t = record {
      low = l;
      high = omega (arith, inv.high);
      before = inv.before;
      behind = no_above early n steady mid (sym er ∙ t);
    }

-- ---- `insert_word`

-- the words from k up to e have moved up by one
pub record Moved (a e : ℕ) (w₀ w : List ℕ) (k : ℕ) : Type 0 where
  pub low : a ≤ k
  pub high : k ≤ e
  pub size : length w ≡ length w₀
  pub stays : (i : ℕ) → i ≤ k → get_or w i 0 ≡ get_or w₀ i 0
  pub moved : (i : ℕ) → k ≤ i → i < e → get_or w (i + 1) 0 ≡ get_or w₀ i 0
  pub above : (i : ℕ) → e < i → get_or w i 0 ≡ get_or w₀ i 0

-- ---- `order_names`

-- the first r names are in order
pub record Begun (text w₀ w : List ℕ) (b s p n r : ℕ) : Type 0 where
  pub inside : r ≤ n
  pub ordered : InOrder text w b s p r
  pub kept : Kept p (p + n) w₀ w

module _ (text w₀ : List ℕ) (b s p n : ℕ) where
  pub begin : Begun text w₀ w₀ b s p n 0
  unfolding words_from name_order upto sorted_onto
  begin = record { inside = omega arith; ordered = record { words = refl }; kept = kept_all p (p + n) w₀ }

pub ruleset cases = (before_told, narrow_up, narrow_down, insert_ordered, begin, rules)
