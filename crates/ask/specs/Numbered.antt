-- The walk by numbers is the decision's over the modules that the numbers stand for.
use Rattle.std.specs.Prelude.{◌≡◌, Bool, true, false, eqb, length, drop}
use Rattle.std.proofs.Math.Path.{refl, ap}
use Rattle.std.proofs.Common.{sym, ◌∙◌, arith, add-one, drop-drop, lt-ltb}
use Prim.Native.Nat.{ℕ, zero, suc, ◌+◌, ◌<◌, ◌≤◌}
use Rattle.std.proofs.Math.Option.{Option, some}
use mathlib.Core.List.{List, [], ◌∷◌}
use Rattle.meaning.specs.Lists.{pick, or_else}
use Rattle.meaning.specs.Names.{Name}
use Rattle.meaning.specs.OrderLaws.{Every}
use Rattle.meaning.specs.Syntax.{Module}
use Rattle.meaning.specs.Reached.{Placed, module_names}
use Rattle.ask_decision.specs.Reasons.{reached_otherwise}
use Rattle.ask_decision.specs.Same.{same_module}
use Rattle.ask_decision.specs.Decide.{Why, why, in_pairs, changed, numbers}
use Rattle.module_set.specs.ModuleSet.{nothing, added}
use Rattle.modules.specs.ReachedLaws.{chosen, or_false, drop_some, name_by_number, names_number}
use Rattle.modules.specs.Meant.{Earlier, one_earlier}
use Rattle.ask_objections.specs.Spelled.{PlacedIn}
use Rattle.ask_walk.specs.Walk.{members, with_all, pairs_at, changed_pairs}
use Rattle.ask.specs.Decided.{listed}

-- ---- modules by number

-- the numbers of those that a set has
pub chosen_members : (set : ℕ → Bool) (ms : List Module) (k : ℕ) (earlier : List Name) → numbers (chosen set k earlier ms) ≡ members set k (length ms)
unfolding numbers chosen members pick
chosen_members set [] k earlier = refl
chosen_members set (m ∷ ms) k earlier = go (set k) (chosen_members set ms (k + 1) (m.name ∷ earlier) ∙ ap (λ (i : ℕ). members set i (length ms)) (add-one k))
  where
    later : List Placed
    later = chosen set (k + 1) (m.name ∷ earlier) ms

    go : (b : Bool) → numbers later ≡ members set (suc k) (length ms)
        → numbers (pick b (record { self = m; number = k; earlier = earlier } ∷ later) later)
        ≡ pick b (k ∷ members set (suc k) (length ms)) (members set (suc k) (length ms))
    go true e = ap (λ (l : List ℕ). k ∷ l) e
    go false e = e

-- each stands at its number
pub chosen_placed : (set : ℕ → Bool) (ms ys : List Module) (i : ℕ) (earlier : List Name) → drop i ms ≡ ys → Earlier (module_names ms) i earlier
    → Every (PlacedIn ms) (chosen set i earlier ys)
unfolding chosen pick
chosen_placed set ms [] i earlier e f = tt
chosen_placed set ms (y ∷ ys) i earlier e f =
    let next : drop (i + 1) ms ≡ ys = sym (drop-drop 1 i ms) ∙ ap (drop 1) e in
    let there : i < length (module_names ms) = omega (arith, drop_some i ms ys y e, names_number ms) in
    go (set i) (chosen_placed set ms ys (i + 1) (y.name ∷ earlier) next
    (one_earlier (module_names ms) i y.name earlier there (name_by_number i ms ys y e) f))
  where
    later : List Placed
    later = chosen set (i + 1) (y.name ∷ earlier) ys

    go : (b : Bool) → Every (PlacedIn ms) later → Every (PlacedIn ms) (pick b (record { self = y; number = i; earlier = earlier } ∷ later) later)
    go true h = (record { later = ys; here = e; before = f }, h)
    go false h = h

-- ---- pairs of them, where what is told by numbers is told of the modules

module _ (ms ms' : List Module) where
  pub pairs_meant : (f : ℕ → ℕ → Option Why) (n n' : ℕ → Name) (g : Placed → Placed → Option Why)
      → ((x x' : Placed) → PlacedIn ms x → PlacedIn ms' x' → f x.number x'.number ≡ g x x')
      → ((x : Placed) → PlacedIn ms x → n x.number ≡ x.self.name) → ((x' : Placed) → PlacedIn ms' x' → n' x'.number ≡ x'.self.name)
      → (xs xs' : List Placed) → Every (PlacedIn ms) xs → Every (PlacedIn ms') xs' → pairs_at f n n' (numbers xs) (numbers xs') ≡ in_pairs g xs xs'
  unfolding pairs_at in_pairs numbers
  pairs_meant f n n' g e c c' [] [] p p' = refl
  pairs_meant f n n' g e c c' [] (x' ∷ xs') p p' = ap (λ (v : Name). some (why reached_otherwise [] v)) (c' x' p'.0)
  pairs_meant f n n' g e c c' (x ∷ xs) [] p p' = ap (λ (v : Name). some (why reached_otherwise v [])) (c x p.0)
  pairs_meant f n n' g e c c' (x ∷ xs) (x' ∷ xs') p p' =
      rw (e x x' p.0 p'.0) (ap (or_else (g x x')) (pairs_meant f n n' g e c c' xs xs' p.1 p'.1))

  pub changed_meant : (so : ℕ → ℕ → Bool) → ((x x' : Placed) → PlacedIn ms x → PlacedIn ms' x' → so x.number x'.number ≡ same_module x.self x'.self)
      → (xs xs' : List Placed) → Every (PlacedIn ms) xs → Every (PlacedIn ms') xs'
      → changed_pairs so (numbers xs) (numbers xs') ≡ numbers (changed xs xs')
  unfolding changed_pairs changed numbers pick
  changed_meant so e [] xs' p p' = refl
  changed_meant so e (x ∷ xs) [] p p' = refl
  changed_meant so e (x ∷ xs) (x' ∷ xs') p p' =
      rw (e x x' p.0 p'.0) (go (same_module x.self x'.self) (changed_meant so e xs xs' p.1 p'.1))
    where
      later : List ℕ
      later = changed_pairs so (numbers xs) (numbers xs')

      go : (b : Bool) → later ≡ numbers (changed xs xs')
          → pick b later (x'.number ∷ later) ≡ numbers (pick b (changed xs xs') (x' ∷ changed xs xs'))
      go true h = h
      go false h = ap (λ (l : List ℕ). x'.number ∷ l) h

-- ---- a set that has exactly what is listed

members_below : (set : ℕ → Bool) (end i c : ℕ) → i + c ≤ end → Every (λ (j : ℕ). j < end) (members set i c)
unfolding members pick
members_below set end i zero h = tt
members_below set end i (suc c) h = go (set i) (members_below set end (suc i) c (omega arith))
  where
    later : List ℕ
    later = members set (suc i) c

    go : (b : Bool) → Every (λ (j : ℕ). j < end) later → Every (λ (j : ℕ). j < end) (pick b (i ∷ later) later)
    go true p = (omega arith, p)
    go false p = p

changed_below : (end : ℕ) (so : ℕ → ℕ → Bool) (is js : List ℕ) → Every (λ (j : ℕ). j < end) js → Every (λ (j : ℕ). j < end) (changed_pairs so is js)
unfolding changed_pairs pick
changed_below end so [] js p = tt
changed_below end so (i ∷ is) [] p = tt
changed_below end so (i ∷ is) (j ∷ js) p = go (so i j) (changed_below end so is js p.1)
  where
    later : List ℕ
    later = changed_pairs so is js

    go : (b : Bool) → Every (λ (j : ℕ). j < end) later → Every (λ (j : ℕ). j < end) (pick b later (j ∷ later))
    go true q = q
    go false q = (p.0, q)

or_moved : (a b c : Bool) → pick (pick (pick a true false) true b) true c ≡ pick b true (pick a true c)
unfolding pick
or_moved true true c = refl
or_moved true false c = refl
or_moved false true c = refl
or_moved false false c = refl

all_listed : (set : ℕ → Bool) (ns : List ℕ) → Every (λ (j : ℕ). j < 64) ns → (k : ℕ) → with_all set ns k ≡ pick (set k) true (listed ns k)
unfolding with_all listed added
all_listed set [] p k = sym (or_false (set k))
all_listed set (n ∷ ns) p k = all_listed (added n set) ns p.1 k ∙ rw (lt-ltb n 64 p.0) (or_moved (eqb k n) (set k) (listed ns k))

-- the set of the counterparts of which it is not so
pub changed_listed : (so : ℕ → ℕ → Bool) (is : List ℕ) (set : ℕ → Bool) (c : ℕ) → c ≤ 64
    → with_all nothing (changed_pairs so is (members set 0 c)) ≡ listed (changed_pairs so is (members set 0 c))
unfolding nothing pick
changed_listed so is set c few =
    let below = changed_below 64 so is (members set 0 c) (members_below set 64 0 c (omega arith)) in
    λ i k. all_listed nothing (changed_pairs so is (members set 0 c)) below k i
