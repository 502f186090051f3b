-- Laws of names of two texts byte by byte, in the code's terms: t is the text, l the library behind it, w a word, k how many bytes its token may have.
use mathlib.Core.Path.{◌≡◌, sym, ◌∙◌}
use mathlib.Core.Bool.{true, false}
use mathlib.Core.List.{List}
use Prim.Native.Nat.{ℕ, ◌+◌, ◌-◌, ◌/◌, ◌%◌, ◌<◌, ◌≤◌, min}
use native.Mathlib.Omega.{arith}
use lib.ListN.{length, get_or, drop}
use borrow.Author.Rules.{rules}
use Rattle.meaning.specs.Names.{same}
use Rattle.text_spelling.specs.Word.{token_of, token_length}
use Rattle.text_spelling.specs.Joint.{joint, joint_length}
use Rattle.text_spelling.proofs.Same.{same_lengths, same_on, same_off, same_end}

pub joined_size : (l t : List ℕ) (w k s r : ℕ) → k ≡ min (w % 64) 40 → s ≡ min (w / 256) (length t + length l) → r ≡ min k (length t + length l - s)
    → r ≡ length (token_of (joint l t) w)
joined_size l t w k s r e f g = omega (arith, token_length (joint l t) w, joint_length l t)

-- a name of n bytes and the bytes b
module _ (a b : List ℕ) (n : ℕ) (e : n ≡ length a) where
  pub called_not : (n ≡ length b → ⊥) → false ≡ same a b
  called_not h = same_lengths a b (λ q. h (e ∙ q))

  module _ (i : ℕ) (f : n ≡ length b) where
    pub called_off : (p : ℕ) → i < n → p ≡ get_or a i 0 → (p ≡ get_or b i 0 → ⊥) → same (drop i a) (drop i b) ≡ false
    called_off p h x z = same_off a b i (omega arith) (omega arith) (λ q. z (x ∙ q))

    pub called_on : (p : ℕ) → i < n → p ≡ get_or a i 0 → p ≡ get_or b i 0 → same (drop i a) (drop i b) ≡ same (drop (i + 1) a) (drop (i + 1) b)
    called_on p h x z = same_on a b i (omega arith) (omega arith) (sym x ∙ z)

    pub called_end : n ≤ i → same (drop i a) (drop i b) ≡ true
    called_end h = same_end a b i (omega arith) (omega arith)

-- two names, of n bytes the first: p and q are their bytes at i
module _ (a b : List ℕ) (n m : ℕ) (e : n ≡ length a) (f : m ≡ length b) where
  pub across_not : (n ≡ m → ⊥) → false ≡ same a b
  across_not h = same_lengths a b (λ q. h (e ∙ q ∙ sym f))

  module _ (i p q : ℕ) (z : n ≡ m) (h : i < n) (x : p ≡ get_or a i 0) (y : q ≡ get_or b i 0) where
    pub across_off : (p ≡ q → ⊥) → same (drop i a) (drop i b) ≡ false
    across_off w = same_off a b i (omega arith) (omega arith) (λ k. w (x ∙ k ∙ sym y))

    pub across_on : p ≡ q → same (drop i a) (drop i b) ≡ same (drop (i + 1) a) (drop (i + 1) b)
    across_on w = same_on a b i (omega arith) (omega arith) (sym x ∙ w ∙ y)

  pub across_end : (i : ℕ) → n ≡ m → n ≤ i → same (drop i a) (drop i b) ≡ true
  across_end i z h = same_end a b i (omega arith) (omega arith)

-- what the answers for these functions hand to `search`
pub ruleset cases = (joined_size, called_not, called_off, called_on, called_end, across_not, across_off, across_on, across_end, rules)
