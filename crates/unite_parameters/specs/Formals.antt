-- The items of a parameter one by one: those that another form has not, or has with another type. Where there are none the meaning
-- (meaning/specs/Normal.antt) has all of them among the other's, and their types the same.
use Rattle.std.specs.Prelude.{◌≡◌, Bool, ◌&&◌}
use Rattle.std.proofs.Math.Path.{refl, sym, ap}
use Rattle.std.proofs.Common.{◌∙◌}
use Rattle.std.proofs.Math.Bool.{true, false, not}
use Rattle.std.proofs.lemmas.Bool.{false≢true}
use mathlib.Core.List.{List, [], ◌∷◌}
use Rattle.meaning.specs.Lists.{pick, keep, any, all_among}
use Rattle.meaning.specs.Names.{Name}
use Rattle.meaning.specs.Origins.{Item, in_parameter, one_item}
use Rattle.meaning.specs.Normal.{Visible, formals, shape_agrees, types_agree, same_formals}
use Rattle.laws.specs.Decides.{items_decided}
use Rattle.form_walks.specs.Lists.{any_keep}

-- it stands in the parameter p, and is one with none of b's or, where `typed` says so, has a type that is not the same in both
unfoldable pub other : Bool → Name → Visible → Visible → Item → Bool
other typed p a b i =
    let odd = not (shape_agrees a b i.shape) in
    let changed = pick typed odd false in
    let differs = pick (any (one_item i) b.items) changed true in
    pick (in_parameter p i.standing) differs false

-- what stands in the parameter p of a stands in that of b and, where `typed` says so, has the same types
unfoldable pub formals_among : Bool → Name → Visible → Visible → Bool
formals_among typed p a b = let types = types_agree p a b in all_among one_item (formals p a) (formals p b) && pick typed types true

-- all pass the first test and, where `both` says so, the second: as all pass the first and, where it says so, all pass the second
module _ {A : Type 0} (both : Bool) (s t : A → Bool) where
  abbrev fails : A → Bool
  fails x = pick (s x) (pick both (not (t x)) false) true

  all_both : (xs : List A) → not (any fails xs) ≡ (not (any (λ (x : A). not (s x)) xs) && pick both (not (any (λ (x : A). not (t x)) xs)) true)
  unfolding any pick
  all_both [] = go both
    where
      go : (c : Bool) → true ≡ pick c true true
      go true = refl
      go false = refl
  all_both (x ∷ xs) = go both (s x) (t x) (any fails xs) (any (λ (y : A). not (s y)) xs) (any (λ (y : A). not (t y)) xs) (all_both xs)
    where
      go : (c a b r u v : Bool) → not r ≡ (not u && pick c (not v) true)
          → not (pick (pick a (pick c (not b) false) true) true r) ≡ (not (pick (not a) true u) && pick c (not (pick (not b) true v)) true)
      go c false b r u v ih = refl
      go true true true r u v ih = ih
      go true true false r true v ih = refl
      go true true false r false v ih = refl
      go false true b r u v ih = ih

module _ (p : Name) where
  abbrev stands : Item → Bool
  stands i = in_parameter p i.standing

  -- one with an item that stands in p stands there too, so it is sought among all
  one_stands : (i j : Item) → stands i ≡ true → pick (stands j) (one_item i j) false ≡ one_item i j
  unfolding pick
  one_stands i j h = go (one_item i j) refl (stands j) refl
    where
      go : (b : Bool) → one_item i j ≡ b → (c : Bool) → stands j ≡ c → pick c (one_item i j) false ≡ one_item i j
      go b e true f = refl
      go true e false f = absurd (false≢true (sym f ∙ sym (ap stands (items_decided.equal i j e)) ∙ h))
      go false e false f = sym e

  sought_among : (i : Item) (ys : List Item) → stands i ≡ true → any (one_item i) (keep stands ys) ≡ any (one_item i) ys
  sought_among i ys h = any_keep stands (one_item i) ys ∙ ap (λ (test : Item → Bool). any test ys) (λ k j. one_stands i j h k)

  module _ (typed : Bool) (a b : Visible) where
    abbrev had : Item → Bool
    had i = any (one_item i) (keep stands b.items)

    abbrev changed : Item → Bool
    changed i = pick typed (not (shape_agrees a b i.shape)) false

    other_among : (i : Item) → pick (stands i) (pick (had i) (changed i) true) false ≡ other typed p a b i
    unfolding other pick
    other_among i = go (stands i) refl
      where
        go : (c : Bool) → stands i ≡ c → pick c (pick (had i) (changed i) true) false ≡ pick c (pick (any (one_item i) b.items) (changed i) true) false
        go true h = ap (λ (r : Bool). pick r (changed i) true) (sought_among i b.items h)
        go false h = refl

    pub none_other : not (any (other typed p a b) a.items) ≡ formals_among typed p a b
    unfolding formals_among all_among types_agree formals
    none_other =
        sym (ap not (any_keep stands (λ (i : Item). pick (had i) (changed i) true) a.items
        ∙ ap (λ (test : Item → Bool). any test a.items) (λ k i. other_among i k)))
        ∙ all_both typed had (λ (i : Item). shape_agrees a b i.shape) (keep stands a.items)

  pub same_both : (a b : Visible) → same_formals p a b ≡ (formals_among true p a b && formals_among false p b a)
  unfolding same_formals formals_among pick
  same_both a b = go (all_among one_item (formals p a) (formals p b)) (all_among one_item (formals p b) (formals p a)) (types_agree p a b)
    where
      go : (x y z : Bool) → (x && y && z) ≡ ((x && z) && (y && true))
      go false y z = refl
      go true false true = refl
      go true false false = refl
      go true true true = refl
      go true true false = refl
