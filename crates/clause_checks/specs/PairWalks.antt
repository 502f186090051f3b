-- Laws of walks over the pairs of a clause: those before pair k have been asked.
use Rattle.std.specs.Prelude.{◌≡◌, refl, ℕ, zero, suc, ◌+◌, ◌-◌, ◌*◌, ◌≤◌, ◌<◌, Bool, true, false, List, [], ◌∷◌, eqb}
use Rattle.std.proofs.Common.{ap, ◌∙◌, arith, eq-eqb, eqb-true}
use Rattle.meaning.specs.Lists.{pick}
use Rattle.meaning.specs.Syntax.{Pair}
use Rattle.tape.specs.Tape.{old_role}
use Rattle.form_rows.specs.Entries.{role_at}
use Rattle.clause_pairs.specs.Pairs.{pairs_from, pairs_at}
use Rattle.clause_checks.specs.Pairs.{pair_count, pair_at}

-- ---- how many there are

-- at a place with the role of an old name one more is counted
counted : (tape : List ℕ) (i c : ℕ) → role_at tape i ≡ old_role → pair_count tape i (suc c) ≡ suc (pair_count tape (i + 2) c)
unfolding pair_count pick
counted tape i c h = rw (eq-eqb (role_at tape i) old_role h)

pub from_start : (tape : List ℕ) (pairs : ℕ) → pair_count tape pairs 32 ≡ pair_count tape (pairs + 0 * 2) (32 - 0)
from_start tape pairs = let e : pairs ≡ pairs + 0 * 2 = omega arith in ap (λ (i : ℕ). pair_count tape i 32) e

module _ (tape : List ℕ) (pairs : ℕ) where
  next_place : (k : ℕ) → pairs + k * 2 + 2 ≡ pairs + (k + 1) * 2
  next_place k = omega arith

  pub one_more : (k : ℕ) → k < 32 → 32 - k ≡ suc (32 - (k + 1))
  one_more k h = omega arith

  pub counted_next : (k : ℕ) → k < 32 → role_at tape (pairs + k * 2) ≡ old_role
      → pair_count tape (pairs + k * 2) (32 - k) ≡ suc (pair_count tape (pairs + (k + 1) * 2) (32 - (k + 1)))
  counted_next k h e =
      ap (pair_count tape (pairs + k * 2)) (one_more k h) ∙ counted tape (pairs + k * 2) (32 - (k + 1)) e
      ∙ ap (λ (i : ℕ). suc (pair_count tape i (32 - (k + 1)))) (next_place k)

-- ---- a walk over n pairs: what is asked of all is what is left to ask of those from k on

pub record Walking {A : Type 0} (ask : ℕ → List Pair → A) (text tape : List ℕ) (pairs n k : ℕ) : Type 0 where
  pub inside : k ≤ n
  pub counted_on : n ≡ k + pair_count tape (pairs + k * 2) (32 - k)
  pub few : k ≤ 32
  pub rest : ask 0 (pairs_at text tape pairs) ≡ ask k (pairs_from text tape (pairs + k * 2) (32 - k))

no_pairs : (text tape : List ℕ) (i c : ℕ) → pair_count tape i c ≡ 0 → pairs_from text tape i c ≡ []
unfolding pair_count pairs_from pick
no_pairs text tape i zero e = refl
no_pairs text tape i (suc c) e = go (eqb (role_at tape i) old_role) refl
  where
    go : (b : Bool) → eqb (role_at tape i) old_role ≡ b → pairs_from text tape i (suc c) ≡ []
    go true q = absurd (omega (arith, e, counted tape i c (eqb-true (role_at tape i) 14 q)))
    go false q = rw q

some_pair : (tape : List ℕ) (i c : ℕ) → 0 < pair_count tape i c → (0 < c) × (role_at tape i ≡ old_role)
unfolding pair_count pick
some_pair tape i zero e = absurd (omega arith)
some_pair tape i (suc c) e = go (eqb (role_at tape i) old_role) refl
  where
    go : (b : Bool) → eqb (role_at tape i) old_role ≡ b → (0 < suc c) × (role_at tape i ≡ old_role)
    go true q = (omega arith, eqb-true (role_at tape i) 14 q)
    go false q = let none : pair_count tape i (suc c) ≡ 0 = rw q in absurd (omega (arith, e, none))

first_pair : (text tape : List ℕ) (pairs k c : ℕ) → role_at tape (pairs + k * 2) ≡ old_role
    → pairs_from text tape (pairs + k * 2) (suc c) ≡ pair_at text tape pairs k ∷ pairs_from text tape (pairs + k * 2 + 2) c
unfolding pairs_from pair_at pick
first_pair text tape pairs k c h = rw (eq-eqb (role_at tape (pairs + k * 2)) old_role h)

module _ {A : Type 0} (ask : ℕ → List Pair → A) (text tape : List ℕ) (pairs n : ℕ) where
  pub walk_start : n ≡ pair_count tape pairs 32 → Walking ask text tape pairs n 0
  walk_start h =
      let e : pairs ≡ pairs + 0 * 2 = omega arith in
      let q = from_start tape pairs in
      record { inside = omega arith; counted_on = omega arith; few = omega arith; rest = ap (λ (i : ℕ). ask 0 (pairs_from text tape i 32)) e }

  pub walk_end : (k : ℕ) → n ≤ k → Walking ask text tape pairs n k → ask 0 (pairs_at text tape pairs) ≡ ask k []
  walk_end k h inv =
      let none : pair_count tape (pairs + k * 2) (32 - k) ≡ 0 = omega (arith, inv.counted_on) in
      inv.rest ∙ ap (ask k) (no_pairs text tape (pairs + k * 2) (32 - k) none)

  module _ (k : ℕ) (h : k < n) (inv : Walking ask text tape pairs n k) where
    there : (0 < 32 - k) × (role_at tape (pairs + k * 2) ≡ old_role)
    there = some_pair tape (pairs + k * 2) (32 - k) (omega (arith, inv.counted_on))

    below : k < 32
    below = let l = there.0 in omega arith

    abbrev later : List Pair
    later = pairs_from text tape (pairs + (k + 1) * 2) (32 - (k + 1))

    pairs_here : pairs_from text tape (pairs + k * 2) (32 - k) ≡ pair_at text tape pairs k ∷ later
    pairs_here =
        ap (pairs_from text tape (pairs + k * 2)) (one_more tape pairs k below) ∙ first_pair text tape pairs k (32 - (k + 1)) there.1
        ∙ ap (λ (i : ℕ). pair_at text tape pairs k ∷ pairs_from text tape i (32 - (k + 1))) (next_place tape pairs k)

    pub walk_here : ask 0 (pairs_at text tape pairs) ≡ ask k (pair_at text tape pairs k ∷ later)
    walk_here = inv.rest ∙ ap (ask k) pairs_here

    pub walk_again : ask k (pair_at text tape pairs k ∷ later) ≡ ask (k + 1) later → Walking ask text tape pairs n (k + 1)
    walk_again e =
        let more = counted_next tape pairs k below there.1 in
        let few = below in
        record { inside = omega arith; counted_on = omega (arith, inv.counted_on, more); few = omega arith; rest = walk_here ∙ e }
