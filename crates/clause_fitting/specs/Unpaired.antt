-- Formal items one by one: those of a name, and those whose name no pair binds.
use Rattle.std.specs.Prelude.{◌≡◌, Bool, not}
use Rattle.std.proofs.Math.Path.{refl, ap}
use Rattle.std.proofs.Common.{sym, ◌∙◌}
use Rattle.std.proofs.Math.Bool.{true, false}
use Rattle.std.proofs.Math.Option.{Option, none, some}
use mathlib.Core.List.{List, [], ◌∷◌}
use Rattle.meaning.specs.Lists.{pick, keep, any}
use Rattle.meaning.specs.Names.{Name, same, lesser, least}
use Rattle.meaning.specs.OrderLaws.{same_self, same_equal}
use Rattle.meaning.specs.Syntax.{Pair}
use Rattle.meaning.specs.Origins.{Item, in_parameter}
use Rattle.meaning.specs.Normal.{names_in, is_called}
use Rattle.meaning.specs.Clauses.{paired, unpaired}

-- an item called a that stands in the parameter p
unfoldable pub formal_called : Name → Name → Item → Bool
formal_called p a i = pick (in_parameter p i.standing) (is_called a i) false

unfoldable pub is_none : Option Name → Bool
is_none none = true
is_none (some w) = false

-- an item that stands in the parameter p, whose name none of the pairs binds
unfoldable pub is_unpaired : Name → List Pair → Item → Bool
is_unpaired p rs i = let free = is_none (paired rs i.name) in pick (in_parameter p i.standing) free false

-- the least such name of an item and of those behind it
unfoldable pub unpaired_from : Name → List Pair → Item → Option Name → Option Name
unpaired_from p rs i best = let here = lesser i.name best in pick (is_unpaired p rs i) here best

unfoldable pub unpaired_among : Name → List Pair → List Item → Option Name
unpaired_among p rs [] = none
unpaired_among p rs (i ∷ is) = unpaired_from p rs i (unpaired_among p rs is)

-- ---- that is the meaning's

pub same_other_way : (v w : Name) → same v w ≡ same w v
same_other_way v w = go (same v w) (same w v) refl refl
  where
    go : (a b : Bool) → same v w ≡ a → same w v ≡ b → same v w ≡ same w v
    go true b e f = e ∙ sym (ap (λ (x : Name). same w x) (same_equal v w e) ∙ same_self w)
    go false true e f = ap (λ (x : Name). same v x) (same_equal w v f) ∙ same_self v ∙ sym f
    go false false e f = e ∙ sym f

pub pair_free : (w : Name) (rs : List Pair) → not (any (λ (r : Pair). same w r.old) rs) ≡ is_none (paired rs w)
unfolding any paired is_none pick
pair_free w [] = refl
pair_free w (r ∷ rs) = rw (same_other_way w r.old) (go (same r.old w) (pair_free w rs))
  where
    go : (b : Bool) → not (any (λ (q : Pair). same w q.old) rs) ≡ is_none (paired rs w)
        → not (pick b true (any (λ (q : Pair). same w q.old) rs)) ≡ is_none (pick b (some r.new) (paired rs w))
    go true ih = refl
    go false ih = ih

module _ (p : Name) (rs : List Pair) where
  abbrev free : Name → Bool
  free w = not (any (λ (r : Pair). same w r.old) rs)

  abbrev formal : List Item → List Item
  formal is = keep (λ (i : Item). in_parameter p i.standing) is

  pub unpaired_told : (is : List Item) → unpaired (formal is) rs ≡ unpaired_among p rs is
  unfolding unpaired unpaired_among unpaired_from is_unpaired least keep names_in pick
  unpaired_told [] = refl
  unpaired_told (i ∷ is) = go (in_parameter p i.standing) (unpaired_told is)
    where
      by : (b : Bool) → least (keep free (names_in (formal is))) ≡ unpaired_among p rs is
          → least (pick b (i.name ∷ keep free (names_in (formal is))) (keep free (names_in (formal is))))
          ≡ pick b (lesser i.name (unpaired_among p rs is)) (unpaired_among p rs is)
      by true ih = ap (lesser i.name) ih
      by false ih = ih

      go : (b : Bool) → least (keep free (names_in (formal is))) ≡ unpaired_among p rs is
          → least (keep free (names_in (pick b (i ∷ formal is) (formal is))))
          ≡ pick (pick b (is_none (paired rs i.name)) false) (lesser i.name (unpaired_among p rs is)) (unpaired_among p rs is)
      go true ih = rw (← pair_free i.name rs) (by (free i.name) ih)
      go false ih = ih
