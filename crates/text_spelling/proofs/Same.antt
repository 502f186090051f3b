-- Laws of `same`, in the code's terms.
use mathlib.Core.Path.{◌≡◌, refl, sym, ap}
use mathlib.Core.Bool.{Bool, true, false}
use mathlib.Core.List.{List, [], ◌∷◌}
use Prim.Native.Nat.{ℕ, suc, ◌+◌, ◌<◌, ◌≤◌}
use native.Mathlib.Omega.{arith}
use native.Mathlib.Numerals.{add-one}
use lib.Dec.{eqb}
use lib.ListN.{length, get_or, drop, drop_of_length-le}
use lib.Seq.{drop-cons}
use borrow.Author.Tests.{eq-eqb, ne_eqb}
use Rattle.meaning.specs.Lists.{pick}
use Rattle.meaning.specs.Names.{same}

same_length : (a b : List ℕ) → (length a ≡ length b → ⊥) → same a b ≡ false
unfolding same pick
same_length [] [] h = absurd (h refl)
same_length [] (y ∷ ys) h = refl
same_length (x ∷ xs) [] h = refl
same_length (x ∷ xs) (y ∷ ys) h = rw (same_length xs ys (λ e. h (ap suc e))) (both (eqb x y))
  where
    both : (t : Bool) → pick t false false ≡ false
    both true = refl
    both false = refl

pub same_lengths : (a b : List ℕ) → (length a ≡ length b → ⊥) → false ≡ same a b
same_lengths a b h = sym (same_length a b h)

pub same_on : (a b : List ℕ) (i : ℕ) → i < length a → length a ≡ length b → get_or a i 0 ≡ get_or b i 0 → same (drop i a) (drop i b) ≡ same (drop (i + 1) a) (drop (i + 1) b)
unfolding same pick
same_on a b i h l e =
    let g : i < length b = omega arith in
    rw (drop-cons a i 0, drop-cons b i 0, eq-eqb (get_or a i 0) (get_or b i 0) e, add-one)

pub same_off : (a b : List ℕ) (i : ℕ) → i < length a → length a ≡ length b → (get_or a i 0 ≡ get_or b i 0 → ⊥) → same (drop i a) (drop i b) ≡ false
unfolding same pick
same_off a b i h l e =
    let g : i < length b = omega arith in
    rw (drop-cons a i 0, drop-cons b i 0, ne_eqb (get_or a i 0) (get_or b i 0) e)

pub same_end : (a b : List ℕ) (i : ℕ) → length a ≤ i → length a ≡ length b → same (drop i a) (drop i b) ≡ true
unfolding same pick
same_end a b i h l =
    let g : length b ≤ i = omega arith in
    rw (drop_of_length-le a h, drop_of_length-le b g)
