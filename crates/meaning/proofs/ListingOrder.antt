-- The order of a listing's visible items is one: by standing, then by rank, then by name and type.
use Rattle.std.specs.Prelude.{[]}
use Rattle.meaning.specs.Names.{same, not_after, by_two}
use Rattle.meaning.specs.Origins.{Item}
use Rattle.meaning.specs.Written.{shape_text, standing_text, visible_order}
use Rattle.meaning.specs.OrderLaws.{IsOrder, Levelled, levelled_of, then_total, then_transitive, by_two_ordered}
use Rattle.meaning.proofs.OrderLaws.{names_levelled}
use Rattle.meaning.specs.ListingOrder.{by_rank}

pub by_standing :
    Levelled (λ (a b : Item). same (standing_text a.standing) (standing_text b.standing))
    (λ (a b : Item). not_after (standing_text a.standing) (standing_text b.standing))
by_standing = levelled_of names_levelled (λ (i : Item). standing_text i.standing)

by_name_and_type : IsOrder (by_two not_after (λ (i : Item). i.name) (λ (i : Item). shape_text [] i.shape))
by_name_and_type = by_two_ordered not_after names_levelled (λ (i : Item). i.name) (λ (i : Item). shape_text [] i.shape)

pub visible_ordered : IsOrder visible_order
unfolding visible_order
visible_ordered = record {
  total = λ a b e. then_total by_standing a b _ _ (λ f. then_total by_rank a b _ _ (by_name_and_type.total a b) f) e;
  transitive = λ a b c e f.
      then_transitive by_standing a b c _ _ _ (λ g h. then_transitive by_rank a b c _ _ _ (by_name_and_type.transitive a b c) g h) e f;
}
