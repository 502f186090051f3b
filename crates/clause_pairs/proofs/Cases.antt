-- Laws of a name under the pairs of a clause, in the code's terms: k pairs have other old names, and the next stands at place i.
use mathlib.Core.Path.{◌≡◌, sym, ◌∙◌}
use mathlib.Core.Bool.{Bool, true, false}
use mathlib.Core.List.{List}
use Prim.Native.Nat.{ℕ, suc, ◌+◌, ◌-◌, ◌*◌, ◌<◌, ◌≤◌}
use native.Mathlib.Omega.{arith}
use borrow.Author.Tests.{eq-eqb, ne_eqb}
use Rattle.meaning.specs.Lists.{pick}
use Rattle.meaning.specs.Names.{same}
use Rattle.meaning.specs.Clauses.{paired, otherwise, renaming}
use Rattle.text_names.specs.Word.{name_of}
use Rattle.tape.specs.Tape.{old_role}
use Rattle.form_rows.specs.Entries.{role_at, word_at}
use Rattle.clause_pairs.specs.Pairs.{pairs_from, pairs_at, SmallWord, Renamed}

pub record Pairing (text tape : List ℕ) (pairs w k : ℕ) : Type 0 where
  pub rest : renaming (pairs_at text tape pairs) (name_of text w) ≡ renaming (pairs_from text tape (pairs + 2 * k) (32 - k)) (name_of text w)

module _ (text tape : List ℕ) (pairs w : ℕ) where
  pub pairs_start : Pairing text tape pairs w 0
  pairs_start = let z : pairs + 2 * 0 ≡ pairs = omega arith in record { rest = rw z }

  stays : (k : ℕ) → Pairing text tape pairs w k → renaming (pairs_from text tape (pairs + 2 * k) (32 - k)) (name_of text w) ≡ name_of text w → Renamed text tape pairs w w
  stays k inv e = record { name = sym (inv.rest ∙ e); small = λ h. h }

  pub pairs_end : (k : ℕ) → Pairing text tape pairs w k → 32 ≤ k → Renamed text tape pairs w w
  unfolding renaming paired otherwise pairs_from
  pairs_end k inv h = let z : 32 - k ≡ 0 = omega arith in stays k inv (rw z)

  module _ (k i r : ℕ) (inv : Pairing text tape pairs w k) (l : k < 32) (p : i ≡ pairs + 2 * k) (e : r ≡ role_at tape i) where
    one_left : 32 - k ≡ suc (32 - (k + 1))
    one_left = omega arith

    pub pairs_stop : (r ≡ old_role → ⊥) → Renamed text tape pairs w w
    unfolding renaming paired otherwise pairs_from pick
    pairs_stop q = stays k inv (rw (one_left, ← p, ne_eqb (role_at tape i) old_role (λ u. q (e ∙ u))))

    module _ (q : r ≡ old_role) (a : ℕ) (f : a ≡ word_at tape i) (b : Bool) (g : b ≡ same (name_of text a) (name_of text w)) where
      other : (c : ℕ) → b ≡ false → renaming (pairs_from text tape i (suc c)) (name_of text w) ≡ renaming (pairs_from text tape (i + 2) c) (name_of text w)
      unfolding renaming paired pairs_from pick
      other c h = rw (eq-eqb (role_at tape i) old_role (sym e ∙ q), ← f, ← g, h)

      pub pairs_again : b ≡ false → Pairing text tape pairs w (k + 1)
      pairs_again h =
          let n : i + 2 ≡ pairs + 2 * (k + 1) = omega arith in
          record { rest = inv.rest ∙ rw (one_left, ← p, ← n) (other (32 - (k + 1)) h) }

      pub pairs_found : (n : ℕ) → b ≡ true → SmallWord tape (i + 1) n → Renamed text tape pairs w n
      unfolding renaming paired otherwise pairs_from pick
      pairs_found n h s = record {
        name = sym (inv.rest ∙ rw (one_left, ← p, eq-eqb (role_at tape i) old_role (sym e ∙ q), ← f, ← g, h, ← s.word));
        small = λ u. s.small;
      }
