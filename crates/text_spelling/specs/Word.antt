-- Names as words: the name whose token starts at s and has n bytes is the word s * 256 + f * 64 + n, where f is its form.
use Rattle.std.specs.Prelude.{◌≡◌, ℕ, ◌+◌, ◌-◌, ◌*◌, ◌/◌, ◌%◌, ◌<◌, ◌≤◌, min, Bool, List, [], ◌++◌, ltb, length, drop}
use Rattle.std.proofs.Math.Path.{refl, sym}
use Rattle.std.proofs.Common.{ap, ◌∙◌, append-nil, arith, length-append, length-take, length-drop}
use Rattle.std.proofs.Math.Bool.{true, false}
use Rattle.std.proofs.Math.Arith.{mod-mul}
use Rattle.std.proofs.Math.Dec.{eqb}
use Rattle.std.proofs.Math.ListN.{take}
use borrow.Author.Tests.{ltb-true, eqb-true}
use Rattle.meaning.specs.Lists.{pick}
use Rattle.meaning.specs.Names.{Name, bytes, slice, prefix_name, infix_name}
use Rattle.meaning.specs.Numbers.{name_size}

-- the forms: a plain name is its token; an operator's has an underline behind it and, if it is an infix one, another in front. 3 is left for names
-- that stand in no text
abbrev pub plain_form : ℕ
plain_form = 0

abbrev pub prefix_form : ℕ
prefix_form = 1

abbrev pub infix_form : ℕ
infix_form = 2

unfoldable pub in_form : ℕ → Name → Name
in_form f n = pick (eqb f prefix_form) (prefix_name n) (pick (eqb f infix_form) (infix_name n) n)

-- the token of the name that a word stands for: no longer than a token may be, and no longer than the text
unfoldable pub token_of : List ℕ → ℕ → Name
token_of text w = take (min (w % 64) name_size) (drop (w / 256) text)

unfoldable pub name_of : List ℕ → ℕ → Name
name_of text w = in_form (w / 64 % 4) (token_of text w)

-- the underlines before its token, and behind it
unfoldable pub leading : ℕ → ℕ
leading w = pick (eqb (w / 64 % 4) infix_form) 1 0

unfoldable pub trailing : ℕ → ℕ
trailing w = pick (eqb (w / 64 % 4) prefix_form) 1 (leading w)

-- a name of the text as a word
pub name_slice : (text : List ℕ) (start form end : ℕ) → form < 4 → end - start ≤ name_size
    → name_of text (start * 256 + form * 64 + (end - start)) ≡ in_form form (slice text start end)
unfolding name_of token_of
name_slice text start form end f h =
    let w = start * 256 + form * 64 + (end - start) in
    let size : min (w % 64) name_size ≡ end - start = omega arith in
    let place : w / 256 ≡ start = omega arith in
    let told : w / 64 % 4 ≡ form = omega arith in
    rw (size, place, told)

-- ---- a name in parts

-- a word's low 8 bits are its form and its token's size
pub word_parts : (w : ℕ) → w % 256 ≡ w / 64 % 4 * 64 + w % 64
word_parts w = mod-mul w {m = 4} {c = 64} (omega arith) (omega arith)

at_most_one : (t : Bool) (k : ℕ) → k ≤ 1 → pick t 1 k ≤ 1
unfolding pick
at_most_one true k h = omega arith
at_most_one false k h = h

pub leading_few : (w : ℕ) → leading w ≤ 1
unfolding leading
leading_few w = at_most_one (eqb (w / 64 % 4) infix_form) 0 (omega arith)

pub trailing_few : (w : ℕ) → trailing w ≤ 1
unfolding trailing
trailing_few w = at_most_one (eqb (w / 64 % 4) prefix_form) (leading w) (leading_few w)

pub underlines : (k : ℕ) → k ≤ 1 → length (take k (bytes "_")) ≡ k
underlines k h =
    let one : length (bytes "_") ≡ 1 = refl in
    omega (arith, length-take k (bytes "_"), one)

module _ (text : List ℕ) where
  pub no_name : name_of text 0 ≡ []
  unfolding name_of in_form token_of pick
  no_name = refl

  module _ (w : ℕ) where
    pub plain_name : ltb (w % 256) 64 ≡ true → name_of text w ≡ token_of text w
    unfolding name_of in_form pick
    plain_name h =
        let plain : w / 64 % 4 ≡ 0 = omega (arith, word_parts w, ltb-true (w % 256) 64 h) in
        rw plain

    -- the underlines before its token, the token, and those behind it
    pub name_parts : name_of text w ≡ take (leading w) (bytes "_") ++ (token_of text w ++ take (trailing w) (bytes "_"))
    unfolding name_of in_form prefix_name infix_name leading trailing pick
    name_parts = go (eqb (w / 64 % 4) prefix_form) (eqb (w / 64 % 4) infix_form) refl refl
      where
        go : (p q : Bool) → eqb (w / 64 % 4) prefix_form ≡ p → eqb (w / 64 % 4) infix_form ≡ q
            → pick p (token_of text w ++ bytes "_") (pick q (bytes "_" ++ (token_of text w ++ bytes "_")) (token_of text w))
            ≡ take (pick q 1 0) (bytes "_") ++ (token_of text w ++ take (pick p 1 (pick q 1 0)) (bytes "_"))
        go true true e f = absurd (omega (arith, eqb-true (w / 64 % 4) prefix_form e, eqb-true (w / 64 % 4) infix_form f))
        go true false e f = refl
        go false true e f = refl
        go false false e f = sym (append-nil (token_of text w))

    pub token_length : length (token_of text w) ≡ min (min (w % 64) 40) (length text - w / 256)
    unfolding token_of
    token_length = rw (length-take, length-drop)

    pub name_length : length (name_of text w) ≡ leading w + length (token_of text w) + trailing w
    name_length =
        let n = token_of text w in
        let before = take (leading w) (bytes "_") in
        let behind = take (trailing w) (bytes "_") in
        let all = length-append before (n ++ behind) in
        ap length name_parts
        ∙ omega (arith, all, length-append n behind, underlines (leading w) (leading_few w), underlines (trailing w) (trailing_few w))

    -- a token of 40 bytes, and two underlines
    pub name_short : length (name_of text w) ≤ 42
    name_short = omega (arith, name_length, token_length, leading_few w, trailing_few w)
