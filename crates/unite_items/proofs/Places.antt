-- Laws of placing an item: it is one of the rows, or it goes behind them.
use mathlib.Core.Path.{◌≡◌, sym, ◌∙◌}
use mathlib.Core.Logic.{inl}
use Prim.Native.Nat.{ℕ, ◌+◌, ◌*◌, ◌≤◌, ◌<◌}
use mathlib.Core.Bool.{true, false}
use mathlib.Core.List.{List, [], ◌∷◌, ◌++◌}
use native.Mathlib.Omega.{arith}
use native.Mathlib.Numerals.{add-one}
use lib.ListN.{length}
use lib.Seq.{sets}
use borrow.Author.Rules.{rules}
use Rattle.meaning.specs.Lists.{pick, any, before}
use Rattle.meaning.specs.Origins.{Item, one_item}
use Rattle.form_rows.specs.declared.Row.{Row}
use Rattle.form_rows.specs.Rows.{item_of, row_at, row_words, row_size}
use Rattle.form_rows.specs.RowLaws.{row_back}
use Rattle.form.specs.Memory.{Kept}
use Rattle.form.specs.Forms.{items_at}
use Rattle.form.specs.FormLaws.{kept_all, kept_wider, kept_sets, kept_same, items_same, items_grow, length_items}
use Rattle.form_walks.specs.Lists.{before_within, found, none_found}
use Rattle.unite_items.specs.ListLaws.{union_found, union_new}
use Rattle.unite_items.specs.Absorb.{Placed}
use Rattle.unite_items.specs.Turns.{Space}

-- ---- `place_item`

module _ (text tape w : List ℕ) (t b n at : ℕ) (x : Row) (e : at ≡ before (one_item (item_of text tape x)) (items_at text tape w b n)) where
  abbrev xs : List Item
  xs = items_at text tape w b n

  abbrev item : Item
  item = item_of text tape x

  pub place_found : at < n → Placed text tape w b n item at w
  unfolding pick
  place_found h =
      let len : length xs ≡ n = length_items text tape w b n in
      let there : any (one_item item) xs ≡ true = found (one_item item) xs (omega arith) in
      record {
        row = e;
        items = rw there (sym (union_found one_item xs item there));
        kept = kept_all (b + n * row_size) (b + n * row_size + row_size) w;
      }

  module _ (room : Space (length w) t b n x) (w' : List ℕ) (l : w' ≡ sets w (b + n * row_size) (row_words x)) where
    written : Kept (b + n * row_size) (b + n * row_size + row_size) w w'
    unfolding row_words
    written =
        let nine = room.row.nine in
        rw l (kept_wider (b + n * row_size) (b + n * row_size + length (row_words x)) (b + n * row_size) (b + n * row_size + row_size) w (sets w (b + n * row_size) (row_words x)) (omega arith) (omega arith)
        (kept_sets (row_words x) w (b + n * row_size)))

    grown : items_at text tape w' b (n + 1) ≡ xs ++ (item ∷ [])
    grown =
        let last : row_at w' (b + n * row_size) ≡ x = rw l (row_back w (b + n * row_size) x room.row room.room) in
        let first : items_at text tape w' b n ≡ xs =
        items_same w w' text tape b n (kept_same (b + n * row_size) (b + n * row_size + row_size) b (b + n * row_size) w w' (inl (omega arith)) written) in
        rw (add-one n, items_grow text tape w' b n, first, last)

    pub place_new : n ≤ at → Placed text tape w b n item n w'
    unfolding pick
    place_new h =
        let len : length xs ≡ n = length_items text tape w b n in
        let all : at ≤ length xs = rw e (before_within (one_item item) xs) in
        let none : any (one_item item) xs ≡ false = none_found (one_item item) xs (omega arith) in
        record { row = omega (arith, e); items = rw none (grown ∙ sym (union_new one_item xs item none)); kept = written }

pub ruleset places = (place_found, place_new, rules)
