-- What a binding's pairs have when none of them is wrong: all that is asked of a pair, of each.
use Rattle.std.specs.Prelude.{◌≡◌, true, not}
use mathlib.Core.List.{List, [], ◌∷◌}
use Rattle.meaning.specs.Lists.{pick, any}
use Rattle.meaning.specs.Names.{Name, member}
use Rattle.meaning.specs.Syntax.{Pair}
use Rattle.meaning.specs.Origins.{Item}
use Rattle.meaning.specs.Normal.{Visible, is_called}
use Rattle.meaning.specs.Checks.{◌>>◌, fine, needs, each_beside}
use Rattle.meaning.specs.Clauses.{kind_right, type_right, all_right, pair_right, pairs_right}
use Rattle.meaning.specs.OutcomeLaws.{then_fine, needs_fine}
use Rattle.meaning.specs.OrderLaws.{Every}

module _ (formal : List Item) (rs : List Pair) (whole actual : Visible) where
  pub record RightPair (seen : List Name) (r : Pair) : Type 0 where
    pub formal_there : any (is_called r.old) formal ≡ true
    pub not_before : not (member r.old seen) ≡ true
    pub actual_there : any (is_called r.new) actual.items ≡ true
    pub kinds : all_right formal (kind_right actual) r ≡ true
    pub types : all_right formal (type_right formal rs whole actual) r ≡ true

  pub pair_fine : (seen : List Name) (r : Pair) → pair_right formal rs whole actual seen r ≡ fine tt → RightPair seen r
  unfolding pair_right
  pair_fine seen r e =
      let a = then_fine _ _ tt e in
      let b = then_fine _ _ tt a.1 in
      let c = then_fine _ _ tt b.1 in
      let d = then_fine _ _ tt c.1 in
      record {
        formal_there = needs_fine _ _ _ a.0;
        not_before = needs_fine _ _ _ b.0;
        actual_there = needs_fine _ _ _ c.0;
        kinds = needs_fine _ _ _ d.0;
        types = needs_fine _ _ _ d.1;
      }

  pub fine_pair : (seen : List Name) (r : Pair) → RightPair seen r → pair_right formal rs whole actual seen r ≡ fine tt
  unfolding pair_right needs ◌>>◌ pick
  fine_pair seen r h = rw (h.formal_there, h.not_before, h.actual_there, h.kinds, h.types)

  pub pairs_fine : (seen : List Name) (xs : List Pair) → pairs_right formal rs whole actual seen xs ≡ fine tt
      → Every (λ x. (before : List Name) × RightPair before x) xs
  unfolding pairs_right each_beside
  pairs_fine seen [] e = tt
  pairs_fine seen (x ∷ xs) e =
      let both = then_fine _ _ tt e in ((seen, pair_fine seen x both.0), pairs_fine (x.old ∷ seen) xs both.1)
