-- Laws of the pairs of a clause, in the code's terms.
use Rattle.std.specs.Prelude.{Some, None}
use mathlib.Core.Path.{◌≡◌, refl, sym, ap, ◌∙◌}
use Prim.Native.Nat.{ℕ, suc, ◌+◌, ◌-◌, ◌*◌, ◌≤◌, ◌<◌}
use mathlib.Core.Bool.{Bool, true, false}
use mathlib.Core.Option.{Option}
use mathlib.Core.List.{List}
use native.Mathlib.Omega.{arith}
use borrow.Author.Rules.{rules}
use borrow.Author.Tests.{ne_eqb}
use Rattle.meaning.specs.Lists.{pick}
use Rattle.meaning.specs.Names.{Name, same, member}
use Rattle.meaning.specs.Syntax.{Pair}
use Rattle.meaning.specs.Clauses.{paired}
use Rattle.text_names.specs.Word.{name_of}
use Rattle.tape.specs.Tape.{old_role}
use Rattle.form_rows.specs.Entries.{role_at, word_at}
use Rattle.clause_pairs.specs.Pairs.{pairs_at}
use Rattle.clause_checks.specs.Pairs.{found, pair_count, given, pair_at, rightly}
use Rattle.clause_checks.specs.PairWalks.{from_start, one_more, counted_next, Walking, walk_start, walk_end, walk_here, walk_again}

-- ---- words of a pair

module _ (tape : List ℕ) (pairs k p r : ℕ) (e : p ≡ pairs + k * 2) where
  pub old_told : r ≡ word_at tape p → r ≡ word_at tape (pairs + k * 2)
  old_told f = rw (← e) f

  pub new_told : r ≡ word_at tape (p + 1) → r ≡ word_at tape (pairs + k * 2 + 1)
  new_told f = rw (← e) f

-- ---- how many there are

pub record Counting (tape : List ℕ) (pairs k : ℕ) : Type 0 where
  pub inside : k ≤ 32
  pub total : pair_count tape pairs 32 ≡ k + pair_count tape (pairs + k * 2) (32 - k)

module _ (tape : List ℕ) (pairs : ℕ) where
  pub count_start : Counting tape pairs 0
  count_start = let q = from_start tape pairs in record { inside = omega arith; total = omega arith }

  pub count_end : (k : ℕ) → 32 ≤ k → Counting tape pairs k → 32 ≡ pair_count tape pairs 32
  unfolding pair_count
  count_end k h inv =
      let z : 32 - k ≡ 0 = omega arith in
      let none : pair_count tape (pairs + k * 2) (32 - k) ≡ 0 = rw z in
      omega (arith, inv.total, inv.inside)

  module _ (k p r : ℕ) (h : k < 32) (inv : Counting tape pairs k) (e : p ≡ pairs + k * 2) (f : r ≡ role_at tape p) where
    pub count_again : r ≡ old_role → Counting tape pairs (k + 1)
    count_again q =
        let here : role_at tape (pairs + k * 2) ≡ old_role = rw (← e, ← f) q in
        record { inside = omega arith; total = omega (arith, inv.total, counted_next tape pairs k h here) }

    pub count_stop : (r ≡ old_role → ⊥) → k ≡ pair_count tape pairs 32
    unfolding pair_count pick
    count_stop q =
        let other : role_at tape (pairs + k * 2) ≡ old_role → ⊥ = λ u. q (f ∙ ap (role_at tape) e ∙ u) in
        let none : pair_count tape (pairs + k * 2) (32 - k) ≡ 0 = rw (one_more tape pairs k h, ne_eqb (role_at tape (pairs + k * 2)) old_role other) in
        omega (arith, inv.total, none)

-- ---- names given by the first pairs

pub record Looking (text tape : List ℕ) (pairs k a left : ℕ) : Type 0 where
  pub inside : left ≤ k
  pub rest : member (name_of text a) (given text tape pairs k) ≡ member (name_of text a) (given text tape pairs left)

module _ (text tape : List ℕ) (pairs k a : ℕ) where
  pub look_start : Looking text tape pairs k a k
  look_start = record { inside = omega arith; rest = refl }

  pub look_end : (left : ℕ) → left ≤ 0 → Looking text tape pairs k a left → false ≡ member (name_of text a) (given text tape pairs k)
  unfolding member given
  look_end left h inv = let z : left ≡ 0 = omega arith in sym (inv.rest ∙ rw z)

  module _ (left x : ℕ) (r : Bool) (h : 0 < left) (inv : Looking text tape pairs k a left) (e : x ≡ word_at tape (pairs + (left - 1) * 2))
      (f : r ≡ same (name_of text a) (name_of text x)) where
    given_here : member (name_of text a) (given text tape pairs left) ≡ pick r true (member (name_of text a) (given text tape pairs (left - 1)))
    unfolding member given
    given_here =
        let s : left ≡ suc (left - 1) = omega arith in
        ap (λ (c : ℕ). member (name_of text a) (given text tape pairs c)) s ∙ rw (← e, ← f)

    pub look_again : r ≡ false → Looking text tape pairs k a (left - 1)
    unfolding pick
    look_again q = let inside = inv.inside in record { inside = omega arith; rest = inv.rest ∙ given_here ∙ rw q }

    pub look_found : r ≡ true → true ≡ member (name_of text a) (given text tape pairs k)
    unfolding pick
    look_found q = sym (inv.rest ∙ given_here ∙ rw q)

-- ---- what the first pair of a name gives

abbrev pub Pairing : List ℕ → List ℕ → ℕ → ℕ → ℕ → ℕ → Type 0
Pairing text tape pairs a n k = Walking (λ (j : ℕ) (ps : List Pair). paired ps (name_of text a)) text tape pairs n k

module _ (text tape : List ℕ) (pairs a n : ℕ) where
  abbrev asked : ℕ → List Pair → Option Name
  asked j ps = paired ps (name_of text a)

  pub paired_start : n ≡ pair_count tape pairs 32 → Pairing text tape pairs a n 0
  paired_start h = walk_start asked text tape pairs n h

  pub paired_end : (k : ℕ) → n ≤ k → Pairing text tape pairs a n k → found text None ≡ paired (pairs_at text tape pairs) (name_of text a)
  unfolding found paired
  paired_end k h inv = sym (walk_end asked text tape pairs n k h inv)

  module _ (k x : ℕ) (r : Bool) (h : k < n) (inv : Pairing text tape pairs a n k) (e : x ≡ word_at tape (pairs + k * 2))
      (f : r ≡ same (name_of text x) (name_of text a)) where
    pub paired_again : r ≡ false → Pairing text tape pairs a n (k + 1)
    unfolding paired pair_at pick
    paired_again q = walk_again asked text tape pairs n k h inv (rw (← e, ← f, q))

    pub paired_here : (y : ℕ) → r ≡ true → y ≡ word_at tape (pairs + k * 2 + 1) → found text (Some y) ≡ paired (pairs_at text tape pairs) (name_of text a)
    unfolding found paired pair_at pick
    paired_here y q g = sym (walk_here asked text tape pairs n k h inv ∙ rw (← e, ← f, q, ← g))

-- ---- a pair, and those before it

module _ (right : Pair → Bool) (text tape : List ℕ) (pairs k : ℕ) (b : Bool) (e : b ≡ right (pair_at text tape pairs k)) where
  pub rightly_wrong : b ≡ false → false ≡ rightly right text tape pairs k
  unfolding rightly
  rightly_wrong h = rw (← e, h)

  module _ (h : b ≡ true) (x : ℕ) (f : x ≡ word_at tape (pairs + k * 2)) (c : Bool) (g : c ≡ member (name_of text x) (given text tape pairs k)) where
    pub rightly_twice : c ≡ true → false ≡ rightly right text tape pairs k
    unfolding rightly
    rightly_twice q = rw (← e, h, ← f, ← g, q)

    pub rightly_once : c ≡ false → true ≡ rightly right text tape pairs k
    unfolding rightly
    rightly_once q = rw (← e, h, ← f, ← g, q)

pub ruleset words = (old_told, new_told, rules)

pub ruleset counts = (count_start, count_end, count_again, count_stop, rules)

pub ruleset looks = (look_start, look_end, look_again, look_found, rules)

pub ruleset pairings = (paired_start, paired_end, paired_again, paired_here, rules)

pub ruleset singles = (rightly_wrong, rightly_twice, rightly_once, rules)
