-- Laws of order: `same` decides equality, the orders of bytes, of names and of pairs of texts are total and transitive, and sorting gives the one
-- ordered list of the same items.
use Rattle.std.proofs.Math.Path.{◌≡◌, refl, ap}
use Rattle.std.proofs.Common.{sym, ap₂, subst, ◌∙◌, ⊎_elim, arith, true≢false, leb-true, leb-false, eqb-true, le-leb, eq-eqb, ne_eqb}
use Rattle.std.specs.Prelude.{ℕ, suc, Bool, ◌&&◌, eqb, leb, length}
use Rattle.std.proofs.Math.Bool.{true, false}
use Rattle.std.proofs.lemmas.Bool.{false≢true}
use Rattle.std.proofs.Math.Option.{none, some}
use mathlib.Core.List.Memᴰ
use mathlib.Core.List.Permᴰ
use mathlib.Core.List.{List, [], ◌∷◌, ◌++◌, map, Memᴰ, Permᴰ}
use Rattle.meaning.specs.Lists.{pick, any, place_in, sorted_onto, sorted}
use Rattle.meaning.specs.Names.{Name, same, bytes_not_after, elements, weights, not_after, by_name, by_two}
use Rattle.meaning.specs.Checks.{at_odds, least_at_odds}

-- ---- orders

-- any two stand in order, one way or the other, and order passes on
pub record IsOrder {A : Type 0} (le : A → A → Bool) : Type 0 where
  pub total : (a b : A) → le a b ≡ false → le b a ≡ true
  pub transitive : (a b c : A) → le a b ≡ true → le b c ≡ true → le a c ≡ true

-- an order with a test for "level in it": in order both ways round
pub record Levelled {A : Type 0} (level le : A → A → Bool) : Type 0 where
  pub order : IsOrder le
  pub both_ways : (a b : A) → level a b ≡ (le a b && le b a)

pub order_reflexive : {A : Type 0} {le : A → A → Bool} → IsOrder le → (a : A) → le a a ≡ true
order_reflexive {A} {le} o a = go (le a a) refl
  where
    go : (b : Bool) → le a a ≡ b → le a a ≡ true
    go true e = e
    go false e = o.total a a e

-- an order of what is made of each
pub order_of : {A B : Type 0} {le : A → A → Bool} → IsOrder le → (f : B → A) → IsOrder (λ a b. le (f a) (f b))
order_of o f = record { total = λ a b. o.total (f a) (f b); transitive = λ a b c. o.transitive (f a) (f b) (f c) }

pub levelled_of : {A B : Type 0} {level le : A → A → Bool} → Levelled level le → (f : B → A)
    → Levelled (λ a b. level (f a) (f b)) (λ a b. le (f a) (f b))
levelled_of l f = record { order = order_of l.order f; both_ways = λ a b. l.both_ways (f a) (f b) }

-- ---- by one order first and, where two are level in it, by another whose results are s, t and u

module _ {A : Type 0} {level le : A → A → Bool} (l : Levelled level le) where
  level_yes : (a b : A) → le a b ≡ true → le b a ≡ true → level a b ≡ true
  level_yes a b p q = l.both_ways a b ∙ rw (p, q)

  level_no : (a b : A) → le b a ≡ false → level a b ≡ false
  level_no a b q = l.both_ways a b ∙ go (le a b)
    where
      go : (p : Bool) → (p && le b a) ≡ false
      go true = q
      go false = refl

  -- where the choice by both is in order, so is the first
  first_in_order : (a b : A) (s : Bool) → pick (level a b) s (le a b) ≡ true → le a b ≡ true
  unfolding pick
  first_in_order a b s e = go (le a b) (level a b) refl (l.both_ways a b) e
    where
      go : (p k : Bool) → le a b ≡ p → k ≡ (p && le b a) → pick k s p ≡ true → p ≡ true
      go true k q h e = refl
      go false true q h e = absurd (true≢false h)
      go false false q h e = absurd (false≢true e)

  -- and where the two are level, so is the second
  second_in_order : (a b : A) (s : Bool) → pick (level a b) s (le a b) ≡ true → le b a ≡ true → s ≡ true
  unfolding pick
  second_in_order a b s e q = rw (level_yes a b (first_in_order a b s e) q) at e

  in_order_by : (a b : A) (s : Bool) → le a b ≡ true → (le b a ≡ true → s ≡ true) → pick (level a b) s (le a b) ≡ true
  unfolding pick
  in_order_by a b s p h = go (le b a) refl
    where
      go : (q : Bool) → le b a ≡ q → pick (level a b) s (le a b) ≡ true
      go true q = rw (level_yes a b p q) (h q)
      go false q = rw (level_no a b q) p

  pub then_total : (a b : A) (s t : Bool) → (s ≡ false → t ≡ true) → pick (level a b) s (le a b) ≡ false
      → pick (level b a) t (le b a) ≡ true
  unfolding pick
  then_total a b s t h e = go (le a b) (le b a) refl refl
    where
      go : (p q : Bool) → le a b ≡ p → le b a ≡ q → pick (level b a) t (le b a) ≡ true
      go true true p q = rw (level_yes b a q p) (h (rw (level_yes a b p q) at e))
      go true false p q = absurd (true≢false (sym p ∙ (rw (level_no a b q) at e)))
      go false q' p q = in_order_by b a t (l.order.total a b p) (λ r. absurd (false≢true (sym p ∙ r)))

  pub then_transitive : (a b c : A) (s t u : Bool) → (s ≡ true → t ≡ true → u ≡ true) → pick (level a b) s (le a b) ≡ true
      → pick (level b c) t (le b c) ≡ true → pick (level a c) u (le a c) ≡ true
  then_transitive a b c s t u h e f =
      let ab = first_in_order a b s e in
      let bc = first_in_order b c t f in
      in_order_by a c u (l.order.transitive a b c ab bc) (λ ca.
      h (second_in_order a b s e (l.order.transitive b c a bc ca)) (second_in_order b c t f (l.order.transitive c a b ca ab)))

  -- in order both ways round: level in the first, and both ways in the second
  pub then_both : (a b : A) (s t : Bool) → pick (level a b) s (le a b) ≡ true → pick (level b a) t (le b a) ≡ true
      → (level a b ≡ true) × (s ≡ true) × (t ≡ true)
  then_both a b s t e f =
      let ab = first_in_order a b s e in
      let ba = first_in_order b a t f in
      (level_yes a b ab ba, second_in_order a b s e ba, second_in_order b a t f ab)

-- ---- numbers

pub numbers_levelled : Levelled eqb leb
numbers_levelled = record {
  order = record {
    total = λ a b e. le-leb b a (omega (arith, leb-false a b e));
    transitive = λ a b c e f. le-leb a c (omega (arith, leb-true a b e, leb-true b c f));
  };
  both_ways = λ a b. both_ways a b (leb a b) (leb b a) refl refl;
}
  where
    both_ways : (a b : ℕ) (p q : Bool) → leb a b ≡ p → leb b a ≡ q → eqb a b ≡ (p && q)
    both_ways a b true true p q = eq-eqb a b (omega (arith, leb-true a b p, leb-true b a q))
    both_ways a b true false p q = ne_eqb a b (omega (arith, leb-false b a q))
    both_ways a b false q' p q = ne_eqb a b (omega (arith, leb-false a b p))

-- ---- names

pub same_self : (w : Name) → same w w ≡ true
unfolding same pick
same_self [] = refl
same_self (x ∷ xs) = rw (eq-eqb x x refl) (same_self xs)

-- `same` decides equality: here and `same_self`
pub same_equal : (v w : Name) → same v w ≡ true → v ≡ w
unfolding same pick
same_equal [] [] e = refl
same_equal [] (y ∷ ys) e = absurd (false≢true e)
same_equal (x ∷ xs) [] e = absurd (false≢true e)
same_equal (x ∷ xs) (y ∷ ys) e = go (eqb x y) refl e (same_equal xs ys)
  where
    go : (b : Bool) → eqb x y ≡ b → pick b (same xs ys) false ≡ true → (same xs ys ≡ true → xs ≡ ys) → x ∷ xs ≡ y ∷ ys
    go true q e h = ap₂ ◌∷◌ (eqb-true x y q) (h e)
    go false q e h = absurd (false≢true e)

-- ---- texts, by their bytes

bytes_total : (v w : List ℕ) → bytes_not_after v w ≡ false → bytes_not_after w v ≡ true
unfolding bytes_not_after
bytes_total [] w e = absurd (true≢false e)
bytes_total (x ∷ xs) [] e = refl
bytes_total (x ∷ xs) (y ∷ ys) e = then_total numbers_levelled x y _ _ (bytes_total xs ys) e

bytes_transitive : (u v w : List ℕ) → bytes_not_after u v ≡ true → bytes_not_after v w ≡ true → bytes_not_after u w ≡ true
unfolding bytes_not_after
bytes_transitive [] v w e f = refl
bytes_transitive (x ∷ xs) [] w e f = absurd (false≢true e)
bytes_transitive (x ∷ xs) (y ∷ ys) [] e f = absurd (false≢true f)
bytes_transitive (x ∷ xs) (y ∷ ys) (z ∷ zs) e f = then_transitive numbers_levelled x y z _ _ _ (bytes_transitive xs ys zs) e f

pub bytes_antisymmetric : (v w : List ℕ) → bytes_not_after v w ≡ true → bytes_not_after w v ≡ true → v ≡ w
unfolding bytes_not_after
bytes_antisymmetric [] [] e f = refl
bytes_antisymmetric [] (y ∷ ys) e f = absurd (false≢true f)
bytes_antisymmetric (x ∷ xs) [] e f = absurd (false≢true e)
bytes_antisymmetric (x ∷ xs) (y ∷ ys) e f =
    let r = then_both numbers_levelled x y _ _ e f in ap₂ ◌∷◌ (eqb-true x y r.0) (bytes_antisymmetric xs ys r.1 r.2)

pub bytes_ordered : IsOrder bytes_not_after
bytes_ordered = record { total = bytes_total; transitive = bytes_transitive }

-- ---- names

pub names_ordered : IsOrder not_after
unfolding not_after
names_ordered = order_of bytes_ordered (λ (w : Name). weights (elements w))

pub not_after_self : (w : Name) → not_after w w ≡ true
not_after_self w = order_reflexive names_ordered w

-- ---- texts that are level have the same bytes, in both orders

module _ (le : List ℕ → List ℕ → Bool) (order : IsOrder le) (told : (v w : List ℕ) → le v w ≡ true → le w v ≡ true → v ≡ w) where
  pub level_texts : Levelled same le
  level_texts = record { order = order; both_ways = λ v w. go v w (same v w) refl }
    where
      both : (v w : List ℕ) → v ≡ w → (le v w && le w v) ≡ true
      both v w e = rw (e, order_reflexive order w)

      apart : (v w : List ℕ) (p q : Bool) → le v w ≡ p → le w v ≡ q → same v w ≡ false → false ≡ (p && q)
      apart v w true true p q e = sym e ∙ (rw (told v w p q) (same_self w))
      apart v w true false p q e = refl
      apart v w false q' p q e = refl

      go : (v w : List ℕ) (k : Bool) → same v w ≡ k → same v w ≡ (le v w && le w v)
      go v w true e = e ∙ sym (both v w (same_equal v w e))
      go v w false e = e ∙ apart v w _ _ refl refl e

pub bytes_levelled : Levelled same bytes_not_after
bytes_levelled = level_texts bytes_not_after bytes_ordered bytes_antisymmetric

-- ---- by the first text, then by the bytes of the second

module _ {A : Type 0} (first : List ℕ → List ℕ → Bool) (level : Levelled same first) (f g : A → List ℕ) where
  by_first : Levelled (λ (a b : A). same (f a) (f b)) (λ (a b : A). first (f a) (f b))
  by_first = levelled_of level f

  pub by_two_ordered : IsOrder (by_two first f g)
  unfolding by_two
  by_two_ordered = record {
    total = λ a b e. then_total by_first a b _ _ (bytes_total (g a) (g b)) e;
    transitive = λ a b c e h. then_transitive by_first a b c _ _ _ (bytes_transitive (g a) (g b) (g c)) e h;
  }

  pub by_two_both : (a b : A) → by_two first f g a b ≡ true → by_two first f g b a ≡ true → (f a ≡ f b) × (g a ≡ g b)
  unfolding by_two
  by_two_both a b e h =
      let r = then_both by_first a b _ _ e h in
      (same_equal (f a) (f b) r.0, bytes_antisymmetric (g a) (g b) r.1 r.2)

-- ---- what is made by sorting

abbrev pub Every : {A : Type 0} → (A → Type 0) → List A → Type 0
Every P [] = Unit {0}
Every P (x ∷ xs) = P x × Every P xs

pub every_middle : {A : Type 0} (P : A → Type 0) (us vs : List A) (x : A) → Every P (us ++ (x ∷ vs)) → P x
every_middle P [] vs x h = h.0
every_middle P (u ∷ us) vs x h = every_middle P us vs x h.1

-- each with every later one
abbrev pub Pairwise : {A : Type 0} → (A → A → Type 0) → List A → Type 0
Pairwise R [] = Unit {0}
Pairwise R (x ∷ xs) = Every (R x) xs × Pairwise R xs

abbrev pub Ordered : {A : Type 0} → (A → A → Bool) → List A → Type 0
Ordered le xs = Pairwise (λ x y. le x y ≡ true) xs

-- the same items, each as often, in whatever order
abbrev pub Rearranged : {A : Type 0} → List A → List A → Type 0
Rearranged xs ys = Permᴰ xs ys

pub rearranged_length : {A : Type 0} {xs ys : List A} → Rearranged xs ys → length xs ≡ length ys
rearranged_length Permᴰ.nil = refl
rearranged_length (Permᴰ.cons e d) = ap suc (rearranged_length d)
rearranged_length (Permᴰ.swap e f) = refl
rearranged_length (Permᴰ.trans d d') = rearranged_length d ∙ rearranged_length d'

-- what holds of every item does so in any order
pub rearranged_every : {A : Type 0} (P : A → Type 0) {xs ys : List A} → Rearranged xs ys → Every P xs → Every P ys
rearranged_every P Permᴰ.nil h = h
rearranged_every P (Permᴰ.cons e d) h = (subst P e h.0, rearranged_every P d h.1)
rearranged_every P (Permᴰ.swap e f) h = (subst P f h.1.0, (subst P e h.0, h.1.1))
rearranged_every P (Permᴰ.trans d d') h = rearranged_every P d' (rearranged_every P d h)

pub rearranged_member : {A : Type 0} {a : A} {xs ys : List A} → Rearranged xs ys → Memᴰ a xs → Memᴰ a ys
rearranged_member Permᴰ.nil m = m
rearranged_member (Permᴰ.cons e d) m =
    ⊎_elim (λ q. Memᴰ.head (q ∙ e)) (λ k. Memᴰ.tail (rearranged_member d k)) (Memᴰ.cases_cons m)
rearranged_member (Permᴰ.swap e f) m =
    ⊎_elim (λ q. Memᴰ.tail (Memᴰ.head (q ∙ e)))
    (λ k. ⊎_elim (λ q. Memᴰ.head (q ∙ f)) (λ r. Memᴰ.tail (Memᴰ.tail r)) (Memᴰ.cases_cons k)) (Memᴰ.cases_cons m)
rearranged_member (Permᴰ.trans d d') m = rearranged_member d' (rearranged_member d m)

module _ {A : Type 0} (le : A → A → Bool) where
  pub placed_rearranged : (a : A) (xs : List A) → Rearranged (a ∷ xs) (place_in le a xs)
  unfolding place_in pick
  placed_rearranged a [] = Permᴰ.refl (a ∷ [])
  placed_rearranged a (x ∷ xs) = go (le x a) (placed_rearranged a xs)
    where
      go : (b : Bool) → Rearranged (a ∷ xs) (place_in le a xs) → Rearranged (a ∷ x ∷ xs) (pick b (x ∷ place_in le a xs) (a ∷ x ∷ xs))
      go true d = Permᴰ.trans (Permᴰ.swap refl refl) (Permᴰ.cons refl d)
      go false d = Permᴰ.refl (a ∷ x ∷ xs)

  sorted_onto_rearranged : (acc xs : List A) → Rearranged (acc ++ xs) (sorted_onto le acc xs)
  unfolding sorted_onto
  sorted_onto_rearranged acc [] = Permᴰ.append-nil acc
  sorted_onto_rearranged acc (x ∷ xs) =
      Permᴰ.trans (Permᴰ.middle x acc xs) (Permᴰ.trans (Permᴰ.append_right xs (placed_rearranged x acc)) (sorted_onto_rearranged (place_in le x acc) xs))

  -- sorting keeps the items
  pub sorted_rearranged : (xs : List A) → Rearranged xs (sorted le xs)
  sorted_rearranged xs = sorted_onto_rearranged [] xs

  -- and their number
  pub sorted_length : (xs : List A) → length (sorted le xs) ≡ length xs
  sorted_length xs = sym (rearranged_length (sorted_rearranged xs))

-- where an order looks at what is made of the items, sorting them sorts what is made of them
module _ {A B : Type 0} (key : A → B) (le : A → A → Bool) (le' : B → B → Bool) (agree : (a b : A) → le a b ≡ le' (key a) (key b)) where
  placed_map : (a : A) (xs : List A) → map key (place_in le a xs) ≡ place_in le' (key a) (map key xs)
  unfolding place_in pick
  placed_map a [] = refl
  placed_map a (x ∷ xs) = rw (← agree x a) (go (le x a) (placed_map a xs))
    where
      go : (b : Bool) → map key (place_in le a xs) ≡ place_in le' (key a) (map key xs)
          → map key (pick b (x ∷ place_in le a xs) (a ∷ x ∷ xs))
          ≡ pick b (key x ∷ place_in le' (key a) (map key xs)) (key a ∷ key x ∷ map key xs)
      go true i = ap (key x ∷◌) i
      go false i = refl

  pub sorted_map : (acc xs : List A) → map key (sorted_onto le acc xs) ≡ sorted_onto le' (map key acc) (map key xs)
  unfolding sorted_onto
  sorted_map acc [] = refl
  sorted_map acc (x ∷ xs) = sorted_map (place_in le x acc) xs ∙ ap (λ ys. sorted_onto le' ys (map key xs)) (placed_map x acc)

module _ {A : Type 0} {le : A → A → Bool} (order : IsOrder le) where
  every_after : (a x : A) → le a x ≡ true → (xs : List A) → Every (λ y. le x y ≡ true) xs → Every (λ y. le a y ≡ true) xs
  every_after a x e [] h = tt
  every_after a x e (y ∷ ys) h = (order.transitive a x y e h.0, every_after a x e ys h.1)

  placed_ordered : (a : A) (xs : List A) → Ordered le xs → Ordered le (place_in le a xs)
  unfolding place_in pick
  placed_ordered a [] h = (tt, tt)
  placed_ordered a (x ∷ xs) h = go (le x a) refl (placed_ordered a xs h.1)
    where
      go : (b : Bool) → le x a ≡ b → Ordered le (place_in le a xs) → Ordered le (pick b (x ∷ place_in le a xs) (a ∷ x ∷ xs))
      go true e i = (rearranged_every (λ y. le x y ≡ true) (placed_rearranged le a xs) (e, h.0), i)
      go false e i = let f = order.total x a e in ((f, every_after a x f xs h.0), h)

  sorted_onto_ordered : (acc xs : List A) → Ordered le acc → Ordered le (sorted_onto le acc xs)
  unfolding sorted_onto
  sorted_onto_ordered acc [] h = h
  sorted_onto_ordered acc (x ∷ xs) h = sorted_onto_ordered (place_in le x acc) xs (placed_ordered x acc h)

  -- sorting gives an ordered list
  pub sorted_ordered : (xs : List A) → Ordered le (sorted le xs)
  sorted_ordered xs = sorted_onto_ordered [] xs tt

-- ---- one ordered list for the items, whatever order they come in

-- no two different items tie: those in order both ways round are equal
abbrev pub NoTie : {A : Type 0} → (A → A → Bool) → List A → Type 0
NoTie {A} le xs = (a b : A) → Memᴰ a xs → Memᴰ b xs → le a b ≡ true → le b a ≡ true → a ≡ b

module _ {A : Type 0} {le : A → A → Bool} (order : IsOrder le) where
  -- two that come before all others, in one order whichever is placed first
  in_front : (a b : A) → (le a b ≡ true → le b a ≡ true → a ≡ b) → (xs : List A)
      → pick (le a b) (a ∷ b ∷ xs) (b ∷ a ∷ xs) ≡ pick (le b a) (b ∷ a ∷ xs) (a ∷ b ∷ xs)
  unfolding pick
  in_front a b no_tie xs = go (le a b) (le b a) refl refl
    where
      go : (p q : Bool) → le a b ≡ p → le b a ≡ q → pick p (a ∷ b ∷ xs) (b ∷ a ∷ xs) ≡ pick q (b ∷ a ∷ xs) (a ∷ b ∷ xs)
      go true true p q = rw (no_tie p q)
      go true false p q = refl
      go false true p q = refl
      go false false p q = absurd (false≢true (sym q ∙ order.total a b p))

  placed_commute : (a b : A) → (le a b ≡ true → le b a ≡ true → a ≡ b) → (xs : List A)
      → place_in le b (place_in le a xs) ≡ place_in le a (place_in le b xs)
  unfolding place_in pick
  placed_commute a b no_tie [] = in_front a b no_tie []
  placed_commute a b no_tie (x ∷ xs) = go (le x a) (le x b) refl refl (placed_commute a b no_tie xs)
    where
      go : (p q : Bool) → le x a ≡ p → le x b ≡ q → place_in le b (place_in le a xs) ≡ place_in le a (place_in le b xs)
          → place_in le b (pick p (x ∷ place_in le a xs) (a ∷ x ∷ xs)) ≡ place_in le a (pick q (x ∷ place_in le b xs) (b ∷ x ∷ xs))
      go true true p q i = rw (p, q) (ap (x ∷◌) i)
      go true false p q i = rw (q, order.transitive b x a (order.total x b q) p, p)
      go false true p q i = rw (p, order.transitive a x b (order.total x a p) q, q)
      go false false p q i = rw (p, q) (in_front a b no_tie (x ∷ xs))

  sorted_onto_one : {xs ys : List A} → Rearranged xs ys → (acc : List A) → NoTie le xs → sorted_onto le acc xs ≡ sorted_onto le acc ys
  unfolding sorted_onto
  sorted_onto_one Permᴰ.nil acc no_tie = refl
  sorted_onto_one (Permᴰ.cons {a = a} {l₂ = ys} e d) acc no_tie =
      sorted_onto_one d (place_in le a acc) (λ u v m k. no_tie u v (Memᴰ.tail m) (Memᴰ.tail k))
      ∙ ap (λ (x : A). sorted_onto le (place_in le x acc) ys) e
  sorted_onto_one (Permᴰ.swap {a = a} {b = b} {l = l} e f) acc no_tie =
      rw (← e, ← f)
      (ap (λ (ws : List A). sorted_onto le ws l)
      (placed_commute a b (no_tie a b (Memᴰ.head refl) (Memᴰ.tail (Memᴰ.head refl))) acc))
  sorted_onto_one (Permᴰ.trans d d') acc no_tie =
      sorted_onto_one d acc no_tie
      ∙ sorted_onto_one d' acc (λ u v m k. no_tie u v (rearranged_member (Permᴰ.symm d) m) (rearranged_member (Permᴰ.symm d) k))

  -- lists with the same items, of which none tie, have one sorted list
  pub sorted_one : {xs ys : List A} → Rearranged xs ys → NoTie le xs → sorted le xs ≡ sorted le ys
  sorted_one d no_tie = sorted_onto_one d [] no_tie

-- ---- the first that is at odds with a later one

pub pairwise_rearranged : {A : Type 0} (R : A → A → Type 0) → ((a b : A) → R a b → R b a) → {xs ys : List A}
    → Rearranged xs ys → Pairwise R xs → Pairwise R ys
pairwise_rearranged R symmetric Permᴰ.nil h = h
pairwise_rearranged {A} R symmetric (Permᴰ.cons {l₂ = ys} e d) h =
    (subst (λ (x : A). Every (R x) ys) e (rearranged_every (R _) d h.0), pairwise_rearranged R symmetric d h.1)
pairwise_rearranged {A} R symmetric (Permᴰ.swap {a = a} {b = b} {b' = b'} {l = l} e f) h =
    subst (λ (x : A). Pairwise R (x ∷ b' ∷ l)) f
    (subst (λ (x : A). Pairwise R (b ∷ x ∷ l)) e ((symmetric a b h.0.0, h.1.0), (h.0.1, h.1.1)))
pairwise_rearranged R symmetric (Permᴰ.trans d d') h = pairwise_rearranged R symmetric d' (pairwise_rearranged R symmetric d h)

pub any_none : {A : Type 0} (p : A → Bool) (xs : List A) → any p xs ≡ false → Every (λ x. p x ≡ false) xs
unfolding any pick
any_none p [] e = tt
any_none p (x ∷ xs) e = go (p x) refl e (any_none p xs)
  where
    go : (b : Bool) → p x ≡ b → pick b true (any p xs) ≡ false → (any p xs ≡ false → Every (λ y. p y ≡ false) xs)
        → Every (λ y. p y ≡ false) (x ∷ xs)
    go true q e i = absurd (true≢false e)
    go false q e i = (q, i e)

module _ {A : Type 0} (called : A → Name) (wrong : A → A → Bool) where
  abbrev by_called : A → A → Bool
  by_called a b = not_after (called a) (called b)

  pub none_at_odds : (xs : List A) → at_odds called wrong xs ≡ none → Pairwise (λ x y. wrong x y ≡ false) xs
  unfolding at_odds pick
  none_at_odds [] e = tt
  none_at_odds (x ∷ xs) e = go (any (wrong x) xs) refl e (none_at_odds xs)
    where
      go : (b : Bool) → any (wrong x) xs ≡ b → pick b (some (called x)) (at_odds called wrong xs) ≡ none
          → (at_odds called wrong xs ≡ none → Pairwise (λ x y. wrong x y ≡ false) xs) → Pairwise (λ x y. wrong x y ≡ false) (x ∷ xs)
      go true q e i = let z : ◌≡◌ {A = ℕ} 0 1 = cc in absurd (omega arith)
      go false q e i = (any_none (wrong x) xs q, i e)

  -- where none is found, no two are at odds
  pub none_least_at_odds : ((a b : A) → wrong a b ≡ wrong b a) → (xs : List A) → least_at_odds called wrong xs ≡ none
      → Pairwise (λ x y. wrong x y ≡ false) xs
  unfolding least_at_odds
  none_least_at_odds symmetric xs e =
      pairwise_rearranged (λ x y. wrong x y ≡ false) (λ a b h. symmetric b a ∙ h) (Permᴰ.symm (sorted_rearranged by_called xs))
      (none_at_odds (by_name called xs) e)

  -- in an ordered list the one that is found is the least of those that are at odds with a later one
  pub least_found : (us vs : List A) (x : A) (w : Name) → Ordered by_called (us ++ (x ∷ vs)) → any (wrong x) vs ≡ true
      → at_odds called wrong (us ++ (x ∷ vs)) ≡ some w → not_after w (called x) ≡ true
  unfolding at_odds pick
  least_found [] vs x w h q e =
      let k : some (called x) ≡ some w = rw q at e in
      let found : called x ≡ w = cc in
      rw (← found) (not_after_self (called x))
  least_found (u ∷ us) vs x w h q e = go (any (wrong u) (us ++ (x ∷ vs))) e (least_found us vs x w h.1 q)
    where
      go : (b : Bool) → pick b (some (called u)) (at_odds called wrong (us ++ (x ∷ vs))) ≡ some w
          → (at_odds called wrong (us ++ (x ∷ vs)) ≡ some w → not_after w (called x) ≡ true) → not_after w (called x) ≡ true
      go true k i = let found : called u ≡ w = cc in rw (← found) (every_middle (λ y. by_called u y ≡ true) us vs x h.0)
      go false k i = i k
