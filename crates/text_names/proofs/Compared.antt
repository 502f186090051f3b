-- Laws of both comparisons and of `same`, in the code's terms.
pub use Rattle.text_spelling.proofs.Same.{same_lengths}
use mathlib.Core.Path.{◌≡◌, refl, sym, ap, ◌∙◌}
use mathlib.Core.Bool.{Bool, true, false}
use mathlib.Core.List.{List}
use Prim.Native.Nat.{ℕ}
use lib.Dec.{ltb}
use Rattle.std.specs.declared.cmp.Ordering.{Ordering}
use Rattle.std.specs.declared.cmp.Ordering.TheVariants.{Less, Equal, Greater}
use Rattle.std.specs.Ordering.{ordering_index, is_le}
use Rattle.meaning.specs.Lists.{pick}
use Rattle.meaning.specs.Names.{same, bytes_not_after, not_after}
use Rattle.meaning.specs.OrderLaws.{same_equal, order_reflexive, bytes_ordered, not_after_self}
use Rattle.text_runs.specs.Orders.{compared, bytes_compared}

-- the first of two is not after the second, by their comparison c
module _ (x y : List ℕ) (le : List ℕ → List ℕ → Bool) (self : (w : List ℕ) → le w w ≡ true) where
  told_by : (c : ℕ) → c ≡ pick (same x y) 1 (pick (le x y) 0 2) → ltb c 2 ≡ le x y
  unfolding pick
  told_by c h = rw h (go (same x y) (le x y) refl refl)
    where
      go : (s n : Bool) → same x y ≡ s → le x y ≡ n → ltb (pick s 1 (pick n 0 2)) 2 ≡ n
      go true n e f = sym (sym f ∙ ap (le x) (sym (same_equal x y e)) ∙ self x)
      go false true e f = refl
      go false false e f = refl

index_le : (o : Ordering) → ltb (ordering_index o) 2 ≡ is_le o
index_le Less = refl
index_le Equal = refl
index_le Greater = refl

-- the same of the comparison o
module _ (x y : List ℕ) (o : Ordering) (r : Bool) (e : r ≡ is_le o) where
  pub not_after_told : ordering_index o ≡ compared x y → r ≡ not_after x y
  unfolding compared
  not_after_told h = e ∙ sym (index_le o) ∙ told_by x y not_after not_after_self (ordering_index o) h

  pub bytes_told : ordering_index o ≡ bytes_compared x y → r ≡ bytes_not_after x y
  unfolding bytes_compared
  bytes_told h = e ∙ sym (index_le o) ∙ told_by x y bytes_not_after (order_reflexive bytes_ordered) (ordering_index o) h
