-- Which of two rows of a table comes first, whatever the rows hold: the orders of document 01's listing, of what the rows stand for.
use Rattle.std.specs.Prelude.{ℕ, ◌+◌, ◌*◌, ◌^◌, ◌<◌, Bool, true, List, [], eqb, leb, get_or, take}
use Rattle.meaning.specs.Lists.{pick}
use Rattle.meaning.specs.Names.{bytes_not_after, not_after, by_two}
use Rattle.meaning.specs.Origins.{Item}
use Rattle.meaning.specs.Written.{origin_text, shape_text, shape_rank, visible_order, hidden_order}
use Rattle.meaning.specs.OrderLaws.{IsOrder, order_of, bytes_ordered}
use Rattle.meaning.specs.ListingOrder.{hidden_ordered, Place, place_order, place_ordered}
use Rattle.meaning.proofs.ListingOrder.{visible_ordered}
use Rattle.form_sections.specs.declared.Section.{Section}
use Rattle.form_sections.specs.declared.Section.TheVariants as section
use Rattle.form_rows.specs.Rows.{row_size}
use Rattle.form.specs.declared.EquationRow.{EquationRow}
use Rattle.form.specs.Forms.{items_at, equation_row_at, equation_size}
use Rattle.form_order.specs.Ordered.{row_item}
use Rattle.list_terms.specs.Terms.{equation_at}
use Rattle.list_texts.specs.Parts.{line_size}
use Rattle.list_order.specs.declared.Table.{Table}
use Rattle.list_order.specs.declared.Table.TheVariants.{Visible, Sorts, Hidden, Equations}
use Rattle.list_order.specs.declared.comparing.Order.{Order}
use Rattle.list_order.specs.declared.comparing.Order.TheVariants as order

-- ---- items

-- the word of the name by which a section is ordered
unfoldable pub standing_word : Section → ℕ
standing_word section.Export = 0
standing_word section.Hidden = 0
standing_word (section.Parameter p) = p

-- the rank of a row's kind
unfoldable pub kind_rank : ℕ → ℕ
kind_rank k = pick (eqb k 0) 0 (pick (eqb k 1) 2 1)

unfoldable pub by_name_then_type : Item → Item → Bool
by_name_then_type a b = by_two not_after (λ (i : Item). i.name) (λ (i : Item). shape_text [] i.shape) a b

unfoldable pub by_kind_then_name : Item → Item → Bool
by_kind_then_name a b =
    pick (eqb (shape_rank a.shape) (shape_rank b.shape)) (by_name_then_type a b) (leb (shape_rank a.shape) (shape_rank b.shape))

unfoldable pub by_origin_then_type : List Item → Item → Item → Bool
by_origin_then_type sorts a b = by_two bytes_not_after (λ (i : Item). origin_text i.origin) (λ (i : Item). shape_text sorts i.shape) a b

unfoldable pub item_order : List ℕ → List ℕ → List ℕ → Order → Item → Item → Bool
item_order text tape w order.Visible a b = visible_order a b
item_order text tape w order.Sorts a b = bytes_not_after (origin_text a.origin) (origin_text b.origin)
item_order text tape w (order.Hidden s n) a b = hidden_order (items_at text tape w s n) a b

-- ---- equations

unfoldable pub row_place : List ℕ → List ℕ → ℕ → ℕ → EquationRow → Place
row_place text w visible nodes r = record {
  module_number = r.home;
  position = r.position;
  text = take line_size (equation_at text w visible nodes r);
}

unfoldable pub by_position_then_line : Place → Place → Bool
by_position_then_line a b = pick (eqb a.position b.position) (bytes_not_after a.text b.text) (leb a.position b.position)

-- ---- rows of a table

-- the number of hidden sorts is a number of rows
abbrev pub Countable : Order → Type 0
Countable order.Visible = Unit {0}
Countable order.Sorts = Unit {0}
Countable (order.Hidden s n) = n < 2 ^ 31

abbrev pub Small : Table → Type 0
Small (Visible b) = Unit {0}
Small (Sorts b) = Unit {0}
Small (Hidden b s n) = n < 2 ^ 31
Small (Equations v b a) = Unit {0}

unfoldable pub row_order : List ℕ → List ℕ → List ℕ → Table → ℕ → ℕ → Bool
row_order text tape w (Visible b) i j = visible_order (row_item text tape w b i) (row_item text tape w b j)
row_order text tape w (Sorts b) i j = bytes_not_after (origin_text (row_item text tape w b i).origin) (origin_text (row_item text tape w b j).origin)
row_order text tape w (Hidden b s n) i j = hidden_order (items_at text tape w s n) (row_item text tape w b i) (row_item text tape w b j)
row_order text tape w (Equations v b a) i j =
    place_order (row_place text w v a (equation_row_at w (b + i * equation_size))) (row_place text w v a (equation_row_at w (b + j * equation_size)))

-- which rows are put in order
unfoldable pub is_listed : List ℕ → Table → ℕ → Bool
is_listed w (Visible b) i = true
is_listed w (Sorts b) i = eqb (get_or w (b + i * row_size + 2) 0) 0
is_listed w (Hidden b s n) i = true
is_listed w (Equations v b a) i = true

pub rows_ordered : (text tape w : List ℕ) (table : Table) → IsOrder (row_order text tape w table)
unfolding row_order
rows_ordered text tape w (Visible b) = order_of visible_ordered (row_item text tape w b)
rows_ordered text tape w (Sorts b) = order_of bytes_ordered (λ (i : ℕ). origin_text (row_item text tape w b i).origin)
rows_ordered text tape w (Hidden b s n) = order_of (hidden_ordered (items_at text tape w s n)) (row_item text tape w b)
rows_ordered text tape w (Equations v b a) = order_of place_ordered (λ (i : ℕ). row_place text w v a (equation_row_at w (b + i * equation_size)))
