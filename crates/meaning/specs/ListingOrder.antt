-- The orders of a listing are orders: of hidden items, and of equations by module, position and written line.
use Rattle.std.specs.Prelude.{ℕ, Bool, List, eqb, leb}
use Rattle.meaning.specs.Lists.{pick}
use Rattle.meaning.specs.Names.{bytes_not_after, by_two}
use Rattle.meaning.specs.Origins.{Item}
use Rattle.meaning.specs.Written.{origin_text, shape_text, shape_rank, hidden_order}
use Rattle.meaning.specs.OrderLaws.{IsOrder, Levelled, order_of, levelled_of, then_total, then_transitive, numbers_levelled, bytes_levelled, bytes_ordered, by_two_ordered}

-- ---- items

pub by_rank :
    Levelled (λ (a b : Item). eqb (shape_rank a.shape) (shape_rank b.shape))
    (λ (a b : Item). leb (shape_rank a.shape) (shape_rank b.shape))
by_rank = levelled_of numbers_levelled (λ (i : Item). shape_rank i.shape)

pub hidden_ordered : (sorts : List Item) → IsOrder (hidden_order sorts)
unfolding hidden_order
hidden_ordered sorts = record {
  total = λ a b e. then_total by_rank a b _ _ (by_origin_and_type.total a b) e;
  transitive = λ a b c e f. then_transitive by_rank a b c _ _ _ (by_origin_and_type.transitive a b c) e f;
}
  where
    by_origin_and_type : IsOrder (by_two bytes_not_after (λ (i : Item). origin_text i.origin) (λ (i : Item). shape_text sorts i.shape))
    by_origin_and_type = by_two_ordered bytes_not_after bytes_levelled (λ (i : Item). origin_text i.origin) (λ (i : Item). shape_text sorts i.shape)

-- ---- equations

pub record Place : Type 0 where
  pub module_number : ℕ
  pub position : ℕ
  pub text : List ℕ

unfoldable pub place_order : Place → Place → Bool
place_order a b =
    let by_position = pick (eqb a.position b.position) (bytes_not_after a.text b.text) (leb a.position b.position) in
    pick (eqb a.module_number b.module_number) by_position (leb a.module_number b.module_number)

pub by_module : Levelled (λ (a b : Place). eqb a.module_number b.module_number) (λ (a b : Place). leb a.module_number b.module_number)
by_module = levelled_of numbers_levelled (λ (a : Place). a.module_number)

pub by_position : Levelled (λ (a b : Place). eqb a.position b.position) (λ (a b : Place). leb a.position b.position)
by_position = levelled_of numbers_levelled (λ (a : Place). a.position)

pub place_ordered : IsOrder place_order
unfolding place_order
place_ordered = record {
  total = λ a b e. then_total by_module a b _ _ (λ f. then_total by_position a b _ _ (by_text.total a b) f) e;
  transitive = λ a b c e f.
      then_transitive by_module a b c _ _ _ (λ g h. then_transitive by_position a b c _ _ _ (by_text.transitive a b c) g h) e f;
}
  where
    by_text : IsOrder (λ (a b : Place). bytes_not_after a.text b.text)
    by_text = order_of bytes_ordered (λ (a : Place). a.text)
