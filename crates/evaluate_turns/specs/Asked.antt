-- The asked module among those that it reaches: it is the latest of them.
use Rattle.std.specs.Prelude.{◌≡◌, true, false, List, [], ◌∷◌, leb, length}
use Rattle.std.proofs.Math.Path.{refl, ap}
use Rattle.std.proofs.Common.{◌∙◌, arith}
use Rattle.std.proofs.Math.Bool.{Bool}
use Prim.Native.Nat.{ℕ, zero, suc, ◌+◌, ◌≤◌, ◌<◌}
use borrow.Author.Tests.{eq-eqb, ne_eqb, lt-ltb, leb-true, leb-false}
use Rattle.meaning.specs.Lists.{pick}
use Rattle.meaning.specs.Names.{Name}
use Rattle.meaning.specs.Syntax.{Module}
use Rattle.module_set.specs.ModuleSet.{holds, nothing, added, either}
use Rattle.modules.specs.Modules.{declared, named_in, named_set, turned, gathered, reached_set, Heads}
use Rattle.modules.specs.ReachedLaws.{named_below, chosen}

-- module k is in the set, and none behind it
pub record Asked (h : Heads) (set k : ℕ) : Type 0 where
  pub there : k < h.count
  pub in_it : holds set k ≡ true
  pub latest : (j : ℕ) → k < j → holds set j ≡ false

pub asked_within : (h : Heads) (set k : ℕ) → Asked h set k → k < h.count
asked_within h set k a = a.there

pub before_asked : (h : Heads) (set asked k : ℕ) → Asked h set asked → k < asked → k < h.count
before_asked h set asked k a l = omega (arith, a.there)

-- none is chosen where none from number k on is in the set
pub chosen_none : (set : ℕ → Bool) (k : ℕ) (earlier : List Name) (ms : List Module) → ((j : ℕ) → k ≤ j → j < k + length ms → set j ≡ false)
    → chosen set k earlier ms ≡ []
unfolding chosen pick
chosen_none set k earlier [] none = refl
chosen_none set k earlier (m ∷ ms) none =
    rw (none k (omega arith) (omega arith)) (chosen_none set (k + 1) (m.name ∷ earlier) ms (λ j l u. none j (omega arith) (omega arith)))

-- ---- what is gathered

module _ (named : ℕ → ℕ → Bool) (below : (i j : ℕ) → i ≤ j → named i j ≡ false) (set : ℕ → Bool) where
  -- what is in stays
  gathered_in : (j c i : ℕ) → set j ≡ true → gathered named set i c j ≡ true
  unfolding gathered turned either pick
  gathered_in j zero i h = h
  gathered_in j (suc c) i h = go (gathered named set (suc i) c i) (gathered_in j c (suc i) h)
    where
      later : ℕ → Bool
      later = gathered named set (suc i) c

      go : (b : Bool) → later j ≡ true → pick b (either later (named i)) later j ≡ true
      go true e = rw e
      go false e = e

  -- a number stays out where it is out and none of those from it on that are turned is in
  gathered_out : (c i j : ℕ) → set j ≡ false → ((l : ℕ) → j ≤ l → l < i + c → set l ≡ false) → gathered named set i c j ≡ false
  unfolding gathered turned either pick
  gathered_out zero i j h none = h
  gathered_out (suc c) i j h none =
      go (leb i j) refl (gathered_out c (suc i) j h (λ l u v. none l u (omega arith)))
      (λ u. gathered_out c (suc i) i (none i (omega arith) (omega arith)) (λ l v w. none l (omega arith) (omega arith)))
    where
      later : ℕ → Bool
      later = gathered named set (suc i) c

      turn : (b : Bool) → named i j ≡ false → later j ≡ false → pick b (either later (named i)) later j ≡ false
      turn true n e = rw (e, n)
      turn false n e = e

      go : (b : Bool) → leb i j ≡ b → later j ≡ false → (j < i → later i ≡ false) → pick (later i) (either later (named i)) later j ≡ false
      go true t e f = turn (later i) (below i j (leb-true i j t)) e
      go false t e f = rw (f (leb-false i j t)) e

module _ (text tape : List ℕ) (h : Heads) (k set : ℕ) (e : holds set ≡ reached_set text tape h k) where
  below_it : (i j : ℕ) → i ≤ j → named_set text tape h i j ≡ false
  unfolding named_set nothing
  below_it i j l = named_below (declared text tape h) i nothing (named_in text tape h i) j l

  only : (l : ℕ) → (l ≡ k → ⊥) → added k nothing l ≡ false
  unfolding added nothing pick
  only l u = rw (ne_eqb l k u)

  self : k < 64 → added k nothing k ≡ true
  unfolding added nothing pick
  self u = rw (eq-eqb k k refl, lt-ltb k 64 u)

  there_so : (j : ℕ) (b : Bool) → gathered (named_set text tape h) (added k nothing) 0 h.count j ≡ b → holds set j ≡ b
  unfolding reached_set
  there_so j b g = ap (λ (p : ℕ → Bool). p j) e ∙ g

  pub asked_so : h.count ≤ 64 → k < h.count → Asked h set k
  asked_so few l = record {
    there = l;
    in_it = there_so k true (gathered_in (named_set text tape h) below_it (added k nothing) k h.count 0 (self (omega arith)));
    latest = λ j u.
        there_so j false
        (gathered_out (named_set text tape h) below_it (added k nothing) h.count 0 j (only j (λ q. omega arith)) (λ i v w. only i (λ q. omega arith)));
  }

  -- a module that is not there reaches none
  pub asked_none : h.count ≤ k → (j : ℕ) → j < h.count → holds set j ≡ false
  asked_none l j u =
      there_so j false
      (gathered_out (named_set text tape h) below_it (added k nothing) h.count 0 j (only j (λ q. omega arith)) (λ i v w. only i (λ q. omega arith)))
