-- Laws of the table of keywords, in the code's terms: e is the end of the word at i.
use mathlib.Core.Path.{◌≡◌, refl}
use mathlib.Core.Bool.{Bool, true, false}
use mathlib.Core.List.{List, [], ◌∷◌}
use Prim.Native.Nat.{ℕ, ◌+◌, ◌-◌, ◌<◌, ◌≤◌}
use native.Mathlib.Omega.{arith}
use native.Mathlib.Numerals.{add-one}
use lib.ListN.{length, take, drop, drop_of_length-le}
use Rattle.meaning.specs.Lists.{pick}
use Rattle.text_names.proofs.Runs.{run_from}
use lib.Dec.{eqb}
use lib.Seq.{drop-cons, drop-drop}
use borrow.Author.Tests.{ne_eqb}
use borrow.Author.Rules.{rules}
use mir.Syntax.{w8}
use mir.Val.{Fits}
use Rattle.meaning.specs.Names.{same, words}
use Rattle.meaning.specs.Tokens.{run, run_end, number_in, keywords, word_kind}
use Rattle.text_tokens.specs.Table.{in_word}

-- the first word of s, and the others
others : List ℕ → List (List ℕ)
others [] = []
others (b ∷ s) = words s

first_word : (s : List ℕ) → words s ≡ take (run in_word s) s ∷ others (drop (run in_word s) s)
unfolding words run others pick
first_word [] = refl
first_word (b ∷ s) = go (eqb b 32) refl (first_word s)
  where
    go : (t : Bool) → eqb b 32 ≡ t → words s ≡ take (run in_word s) s ∷ others (drop (run in_word s) s)
        → words (b ∷ s) ≡ take (run in_word (b ∷ s)) (b ∷ s) ∷ others (drop (run in_word (b ∷ s)) (b ∷ s))
    go true e h = rw e
    go false e h = rw (e, h)

-- how long a run is, and where it is
run_size : (p : List ℕ → Bool) (t : List ℕ) (i e : ℕ) → e ≡ run_end p t i → e - i ≡ run p (drop i t)
unfolding run_end
run_size p t i e h = omega arith

pub run_less : (p : List ℕ → Bool) (t : List ℕ) (i e : ℕ) → e ≡ run_end p t i → e < length t → length t - (e + 1) < length t - i
run_less p t i e h l = omega (arith, run_from p t i e h)

pub run_count : (p : List ℕ → Bool) (t : List ℕ) (i e n : ℕ) → e ≡ run_end p t i → n ≤ i + 1 → n + 1 ≤ e + 1 + 1
run_count p t i e n h l = omega (arith, run_from p t i e h)

-- a table from the word at i on, where e is the end of that word
from_word : (t : List ℕ) (i e : ℕ) → e ≡ run_end in_word t i → words (drop i t) ≡ take (e - i) (drop i t) ∷ others (drop e t)
unfolding run_end
from_word t i e h = rw (run_size in_word t i e h, h, ← drop-drop (run in_word (drop i t)) i t) (first_word (drop i t))

pub table_hit : (t w : List ℕ) (i e n : ℕ) → e ≡ run_end in_word t i → same w (take (e - i) (drop i t)) ≡ true → number_in (words (drop i t)) n w ≡ n
unfolding number_in pick
table_hit t w i e n h s = rw (from_word t i e h, s)

pub table_miss : (t w : List ℕ) (i e n : ℕ) → e ≡ run_end in_word t i → same w (take (e - i) (drop i t)) ≡ false → e < length t → number_in (words (drop i t)) n w ≡ number_in (words (drop (e + 1) t)) (n + 1) w
unfolding number_in others pick
table_miss t w i e n h s l = rw (from_word t i e h, s, drop-cons t e 0, add-one e)

pub table_last : (t w : List ℕ) (i e n : ℕ) → e ≡ run_end in_word t i → same w (take (e - i) (drop i t)) ≡ false → length t ≤ e → number_in (words (drop i t)) n w ≡ 0
unfolding number_in others pick
table_last t w i e n h s l = rw (from_word t i e h, s, drop_of_length-le t l)

-- ---- kinds of words

use_cases : {A : Type 0} (P : A → Type 0) (b : Bool) (x y : A) → P x → P y → P (pick b x y)
unfolding pick
use_cases P true x y f g = f
use_cases P false x y f g = g

number_most : (ks : List (List ℕ)) (n : ℕ) (w : List ℕ) → number_in ks n w ≤ n + length ks
unfolding number_in
number_most [] n w = omega arith
number_most (k ∷ ks) n w =
    use_cases (λ r. r ≤ n + length (k ∷ ks)) (same w k) n (number_in ks (n + 1) w) (omega arith) (omega (arith, number_most ks (n + 1) w))

module _ (w : List ℕ) (k : ℕ) (e : k ≡ number_in (words keywords) 1 w) where
  kind_small : k ≤ 16
  unfolding words pick
  kind_small = rw e (number_most (words keywords) 1 w)

  pub kind_none : k ≡ 0 → 1 ≡ word_kind w
  unfolding word_kind pick
  kind_none z = rw (← e, z)

  pub kind_some : (k ≡ 0 → ⊥) → 128 + k ≡ word_kind w
  unfolding word_kind pick
  kind_some z = rw (← e, ne_eqb k 0 z)

  pub kind_fits : Fits w8 k
  kind_fits = needs_fit k (omega (arith, kind_small))
    where
      needs_fit : (n : ℕ) → n < 256 → Fits w8 n
      needs_fit n h = search rules

  pub kind_fits_more : Fits w8 (128 + k)
  kind_fits_more = needs_fit (128 + k) (omega (arith, kind_small))
    where
      needs_fit : (n : ℕ) → n < 256 → Fits w8 n
      needs_fit n h = search rules
