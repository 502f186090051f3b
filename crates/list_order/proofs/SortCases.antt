-- What the code that makes order tables asks, one law for each way through it.
use mathlib.Core.Path.{◌≡◌, refl, sym, ◌∙◌}
use mathlib.Core.Bool.{Bool, true, false}
use mathlib.Core.List.{List}
use Prim.Native.Nat.{ℕ, ◌+◌, ◌*◌, ◌≤◌, ◌<◌}
use native.Mathlib.Omega.{arith}
use lib.Dec.{eqb}
use lib.ListN.{get_or}
use borrow.Author.Rules.{rules}
use Rattle.meaning.specs.Lists.{keep, sorted_onto}
use Rattle.form_rows.specs.Rows.{words_from, row_size}
use Rattle.form.specs.Memory.{part, Kept}
use Rattle.form.specs.FormLaws.{kept_all}
use Rattle.form_order.specs.Order.{upto}
use Rattle.form_order.specs.Sorting.{yes_below, no_above}
use Rattle.list_order.specs.declared.Table.{Table}
use Rattle.list_order.specs.declared.Table.TheVariants.{Visible, Sorts, Hidden, Equations}
use Rattle.list_order.specs.Orders.{row_order, is_listed}
use Rattle.list_order.specs.Tables.{row_numbers, InRows, Spot, RowPut, RowsOrdered, front_kept, steady, row_put, row_passed}

-- ---- `is_listed`

module _ (w : List ℕ) (table : Table) (i : ℕ) where
  pub listed_visible : (b : ℕ) → table ≡ Visible b → true ≡ is_listed w table i
  unfolding is_listed
  listed_visible b e = rw e

  pub listed_sorts : (b v : ℕ) → table ≡ Sorts b → v ≡ get_or w (b + i * row_size + 2) 0 → eqb v 0 ≡ is_listed w table i
  unfolding is_listed
  listed_sorts b v e h = rw (e, h)

  pub listed_hidden : (b s n : ℕ) → table ≡ Hidden b s n → true ≡ is_listed w table i
  unfolding is_listed
  listed_hidden b s n e = rw e

  pub listed_equations : (v b n : ℕ) → table ≡ Equations v b n → true ≡ is_listed w table i
  unfolding is_listed
  listed_equations v b n e = rw e

-- ---- `comes_before`

-- ---- `find_place`

-- the rows before lo are not after x, and those from hi on are
pub record Narrowed (text tape low w : List ℕ) (table : Table) (p m x lo hi : ℕ) : Type 0 where
  pub lower : lo ≤ hi
  pub upper : hi ≤ m
  pub before : (i : ℕ) → i < lo → row_order text tape low table (get_or w (p + i) 0) x ≡ true
  pub behind : (i : ℕ) → hi ≤ i → i < m → row_order text tape low table (get_or w (p + i) 0) x ≡ false

module _ (text tape low w : List ℕ) (table : Table) (p m x : ℕ) where
  module _ (rows : InRows text tape low w table p x m) (lo hi mid : ℕ) (inv : Narrowed text tape low w table p m x lo hi) (l : lo ≤ mid)
      (h : mid < hi) (r : Bool) (er : r ≡ row_order text tape low table (get_or w (p + mid) 0) x) where
    abbrev early : ℕ → Bool
    early i = row_order text tape low table (get_or w (p + i) 0) x

    pub narrow_up : r ≡ true → Narrowed text tape low w table p m x (mid + 1) hi
    narrow_up t = record {
      lower = omega arith;
      upper = inv.upper;
      before = yes_below early m (steady text tape low w table p x m rows x) mid (omega (arith, inv.upper)) (sym er ∙ t);
      behind = inv.behind;
    }

    pub narrow_down : r ≡ false → Narrowed text tape low w table p m x lo mid
    narrow_down t = record {
      lower = l;
      upper = omega (arith, inv.upper);
      before = inv.before;
      behind = no_above early m (steady text tape low w table p x m rows x) mid (sym er ∙ t);
    }

-- ---- `order_row`

-- ---- `order_rows`

-- of the first r rows m stand in order
pub record Begun (text : List ℕ) (t : ℕ) (w₀ w : List ℕ) (table : Table) (p n r m : ℕ) : Type 0 where
  pub inside : r ≤ n
  pub few : m ≤ r
  pub rows : InRows text (part w 0 t) (part w 0 p) w table p r m
  pub kept : Kept p (p + n) w₀ w

module _ (text : List ℕ) (t : ℕ) (w₀ : List ℕ) (table : Table) (p n : ℕ) where
  pub begin : Begun text t w₀ w₀ table p n 0 0
  unfolding words_from row_numbers upto keep sorted_onto
  begin = record { inside = omega arith; few = omega arith; rows = record { words = refl }; kept = kept_all p (p + n) w₀ }

  module _ (w : List ℕ) (r m : ℕ) (inv : Begun text t w₀ w table p n r m) where
    pub begun_end : t ≤ p → n ≤ r → RowsOrdered text t w₀ w table p n m
    begun_end ht l =
        let e : r ≡ n = omega (arith, inv.inside) in
        let tapes = front_kept w₀ w t p (p + n) ht inv.kept in
        let lows = front_kept w₀ w p p (p + n) (omega arith) inv.kept in
        record {
          few = omega (arith, inv.few);
          rows = rw (← e, ← tapes, ← lows) inv.rows;
          kept = inv.kept;
        }

pub ruleset listings = (listed_visible, listed_sorts, listed_hidden, listed_equations)

pub ruleset narrowings = (narrow_up, narrow_down)

pub ruleset turns = (row_put, row_passed, begin, begun_end)

pub ruleset cases = (listings, narrowings, turns, rules)
