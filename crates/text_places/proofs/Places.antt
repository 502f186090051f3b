-- Where the token of a plain name lies in the text: from its start up to e.
use mathlib.Core.Path.{◌≡◌, refl, sym, ap, ◌∙◌}
use mathlib.Core.Bool.{Bool, true, false, false≢true}
use mathlib.Core.List.{List, append-nil}
use Prim.Native.Nat.{ℕ, ◌+◌, ◌-◌, ◌/◌, ◌%◌, ◌<◌, ◌≤◌, min}
use native.Mathlib.Omega.{arith}
use lib.Dec.{leb, ltb}
use lib.ListN.{length, take, drop, drop_of_length-le, length-take}
use lib.Seq.{take_all, take-length}
use borrow.Author.Rules.{rules}
use borrow.Author.Tests.{leb-true, leb-false, lt-ltb, le-ltb}
use Rattle.meaning.specs.Lists.{pick}
use Rattle.meaning.specs.Names.{same}
use Rattle.meaning.specs.OrderLaws.{same_self}
use Rattle.text_spelling.specs.Word.{token_of, name_of, plain_name, token_length}
use Rattle.text_spelling.specs.Joint.{joint}
use Rattle.text_places.specs.Plain.{are_plain}

-- ---- two tests that hold

pub first_true : (p q : Bool) → pick p q false ≡ true → p ≡ true
unfolding pick
first_true true q h = refl
first_true false q h = h

pub second_true : (p q : Bool) → pick p q false ≡ true → q ≡ true
unfolding pick
second_true true q h = h
second_true false q h = absurd (false≢true h)

module _ (a b : ℕ) where
  pub plain_both : (r : Bool) → a % 256 < 64 → r ≡ ltb (b % 256) 64 → r ≡ are_plain a b
  unfolding are_plain pick
  plain_both r h e = rw (lt-ltb (a % 256) 64 h) e

  pub plain_not : 64 ≤ a % 256 → false ≡ are_plain a b
  unfolding are_plain pick
  plain_not h = rw (le-ltb (a % 256) 64 h)

-- ---- the token

-- as many as there are
take_most : (k : ℕ) (xs : List ℕ) → take (length (take k xs)) xs ≡ take k xs
take_most k xs = go (leb k (length xs)) refl
  where
    go : (b : Bool) → leb k (length xs) ≡ b → take (length (take k xs)) xs ≡ take k xs
    go true e =
        let h = leb-true k (length xs) e in
        let l : length (take k xs) ≡ k = omega (arith, length-take k xs) in
        ap (λ (n : ℕ). take n xs) l
    go false e =
        let h = leb-false k (length xs) e in
        let l : length (take k xs) ≡ length xs = omega (arith, length-take k xs) in
        ap (λ (n : ℕ). take n xs) l ∙ take-length xs ∙ sym (take_all k xs (omega arith))

drop_most : (k : ℕ) (xs : List ℕ) → drop (min k (length xs)) xs ≡ drop k xs
drop_most k xs = go (leb k (length xs)) refl
  where
    go : (b : Bool) → leb k (length xs) ≡ b → drop (min k (length xs)) xs ≡ drop k xs
    go true e =
        let h = leb-true k (length xs) e in
        let l : min k (length xs) ≡ k = omega arith in
        ap (λ (n : ℕ). drop n xs) l
    go false e =
        let h = leb-false k (length xs) e in
        rw (drop_of_length-le xs {i = min k (length xs)} (omega arith), drop_of_length-le xs {i = k} (omega arith))

module _ (text : List ℕ) (w : ℕ) where
  pub token_ends : (start k n : ℕ) → start ≡ min (w / 256) (length text) → k ≡ min (w % 64) 40 → n ≡ min k (length text - start)
      → start + n ≡ min (w / 256) (length text) + length (token_of text w)
  token_ends start k n s e f = omega (arith, token_length text w)

  module _ (e : ℕ) (f : e ≡ min (w / 256) (length text) + length (token_of text w)) where
    pub token_within : e ≤ length text
    token_within = omega (arith, token_length text w)

    token_part : (start : ℕ) → start ≡ min (w / 256) (length text) → take (e - start) (drop start text) ≡ token_of text w
    unfolding token_of
    token_part start s =
        let size : e - start ≡ length (token_of text w) = omega arith in
        rw (size, s, drop_most) (take_most (min (w % 64) 40) (drop (w / 256) text))

    plain_part : (start : ℕ) → start ≡ min (w / 256) (length text) → ltb (w % 256) 64 ≡ true → take (e - start) (drop start text) ≡ name_of text w
    plain_part start s h = token_part start s ∙ sym (plain_name text w h)

-- two plain names where they stand in the text: a from x up to n, and b from y up to m
module _ (text : List ℕ) (a b x y n m : ℕ) (q : Bool) (p : q ≡ are_plain a b) (h : q ≡ true)
    (s : x ≡ min (a / 256) (length text)) (t : y ≡ min (b / 256) (length text))
    (e : n ≡ min (a / 256) (length text) + length (token_of text a)) (f : m ≡ min (b / 256) (length text) + length (token_of text b)) where
  pub first : take (n - x) (drop x text) ≡ name_of text a
  unfolding are_plain
  first = plain_part text a n e x s (first_true _ _ (sym p ∙ h))

  pub second : take (m - y) (drop y text) ≡ name_of text b
  unfolding are_plain
  second = plain_part text b m f y t (second_true _ _ (sym p ∙ h))

  pub same_parts : (r : Bool) → r ≡ same (take (n - x) (drop x text)) (take (m - y) (drop y text)) → r ≡ same (name_of text a) (name_of text b)
  same_parts r g = rw (first, second) at g

-- ---- a text with none behind it

pub alone : (s t : List ℕ) → joint (take (0 - 0) (drop 0 s)) t ≡ t
unfolding joint
alone s t = append-nil t

pub alone_same : (s t u v : List ℕ) (a b : ℕ) (r : Bool)
    → r ≡ same (name_of (joint (take (0 - 0) (drop 0 s)) t) a) (name_of (joint (take (0 - 0) (drop 0 u)) v) b) → r ≡ same (name_of t a) (name_of v b)
alone_same s t u v a b r h = rw (alone s t, alone u v) at h

-- one word is one name
pub same_words : (text : List ℕ) (a b : ℕ) → a ≡ b → true ≡ same (name_of text a) (name_of text b)
same_words text a b h = rw h (sym (same_self (name_of text b)))

pub ruleset cases = (plain_both, plain_not, token_ends, token_within, same_parts, same_words, rules)
