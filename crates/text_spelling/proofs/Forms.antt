-- A name's underlines and its token, in the code's terms: t is the text, w a word, lead and trail how many underlines stand before and behind.
use mathlib.Core.Path.{◌≡◌, sym, ap, ◌∙◌}
use mathlib.Core.Bool.{true, false}
use mathlib.Core.List.{List, ◌++◌}
use Prim.Native.Nat.{ℕ, ◌+◌, ◌-◌, ◌/◌, ◌%◌, ◌<◌, ◌≤◌, min}
use native.Mathlib.Omega.{arith}
use native.Mathlib.Numerals.{add-one}
use lib.Dec.{eqb}
use lib.ListN.{length, get_or, take, drop, drop_of_length-le, get_or-append, get_or-eq_default}
use lib.Seq.{drop-cons, get_or-take, get_or-drop}
use borrow.Author.Rules.{rules}
use borrow.Author.Tests.{eq-eqb, ne_eqb}
use mir.Syntax.{w32, w64}
use mir.Val.{Fits}
use Rattle.meaning.specs.Lists.{pick, any}
use Rattle.meaning.specs.Names.{bytes, is_operator, is_infix}
use Rattle.text_bytes.proofs.Bytes.{past_seam}
use Rattle.text_spelling.specs.Word.{leading, trailing, token_of, name_of, leading_few, trailing_few, underlines, name_parts, token_length, name_length}

module _ (w : ℕ) where
  pub one_leading : w / 64 % 4 ≡ 2 → 1 ≡ leading w
  unfolding leading pick
  one_leading h = rw (eq-eqb (w / 64 % 4) 2 h)

  pub none_leading : (w / 64 % 4 ≡ 2 → ⊥) → 0 ≡ leading w
  unfolding leading pick
  none_leading h = rw (ne_eqb (w / 64 % 4) 2 h)

  pub one_trailing : w / 64 % 4 ≡ 1 → 1 ≡ trailing w
  unfolding trailing pick
  one_trailing h = rw (eq-eqb (w / 64 % 4) 1 h)

  pub else_trailing : (r : ℕ) → (w / 64 % 4 ≡ 1 → ⊥) → r ≡ leading w → r ≡ trailing w
  unfolding trailing pick
  else_trailing r h e = rw (ne_eqb (w / 64 % 4) 1 h) e

-- ---- one underline at the most

underline : (k i : ℕ) → k ≤ 1 → i < k → get_or (take k (bytes "_")) i 0 ≡ 95
underline k i h g =
    let one : k ≡ 1 = omega arith in
    let first : i ≡ 0 = omega arith in
    rw (one, first)

-- ---- the bytes of a name

module _ (t : List ℕ) (w : ℕ) where
  token_at : (i : ℕ) → i < length (token_of t w) → get_or (token_of t w) i 0 ≡ get_or t (w / 256 + i) 0
  unfolding token_of
  token_at i h =
      let short : i < min (w % 64) 40 = omega (arith, token_length t w) in
      get_or-take (min (w % 64) 40) (drop (w / 256) t) i 0 short ∙ get_or-drop (w / 256) t i 0

  behind_front : (i : ℕ) → leading w ≤ i → get_or (name_of t w) i 0 ≡ get_or (token_of t w ++ take (trailing w) (bytes "_")) (i - leading w) 0
  behind_front i h =
      let size = underlines (leading w) (leading_few w) in
      let rest = token_of t w ++ take (trailing w) (bytes "_") in
      ap (λ (xs : List ℕ). get_or xs i 0) (name_parts t w)
      ∙ past_seam (take (leading w) (bytes "_")) rest i (omega (arith, size))
      ∙ ap (λ (k : ℕ). get_or rest (i - k) 0) size

  module _ (lead : ℕ) (e : lead ≡ leading w) where
    pub byte_before : (i : ℕ) → i < lead → 95 ≡ get_or (name_of t w) i 0
    byte_before i h =
        let size = underlines (leading w) (leading_few w) in
        sym (ap (λ (xs : List ℕ). get_or xs i 0) (name_parts t w)
        ∙ get_or-append (take (leading w) (bytes "_")) (token_of t w ++ take (trailing w) (bytes "_")) 0 i (omega (arith, size))
        ∙ underline (leading w) i (leading_few w) (omega arith))

    module _ (size : ℕ) (f : size ≡ length (token_of t w)) where
      pub front_fits : Fits w64 (lead + size)
      front_fits = omega (arith, leading_few w, token_length t w)

      module _ (i : ℕ) (h : lead ≤ i) (g : i < lead + size) where
        pub token_place : Fits w32 w → Fits w64 (w / 256 + (i - lead))
        token_place k = omega (arith, token_length t w)

        pub byte_within : (r : ℕ) → r ≡ get_or t (w / 256 + (i - lead)) 0 → r ≡ get_or (name_of t w) i 0
        byte_within r k =
            let here : i - leading w < length (token_of t w) = omega arith in
            k ∙ ap (λ (j : ℕ). get_or t (w / 256 + (i - j)) 0) e
            ∙ sym (behind_front i (omega arith)
            ∙ get_or-append (token_of t w) (take (trailing w) (bytes "_")) 0 (i - leading w) here
            ∙ token_at (i - leading w) here)

      module _ (trail : ℕ) (g : trail ≡ trailing w) where
        pub name_fits : Fits w64 (lead + size + trail)
        name_fits = omega (arith, leading_few w, trailing_few w, token_length t w)

        pub name_told : lead + size + trail ≡ length (name_of t w)
        name_told = omega (arith, name_length t w)

        pub byte_behind : (i : ℕ) → lead + size ≤ i → i < lead + size + trail → 95 ≡ get_or (name_of t w) i 0
        byte_behind i h k =
            sym (behind_front i (omega arith)
            ∙ past_seam (token_of t w) (take (trailing w) (bytes "_")) (i - leading w) (omega arith)
            ∙ underline (trailing w) (i - leading w - length (token_of t w)) (trailing_few w) (omega arith))

        pub byte_past : (i : ℕ) → lead + size + trail ≤ i → 0 ≡ get_or (name_of t w) i 0
        byte_past i h = sym (get_or-eq_default (name_of t w) 0 (omega (arith, name_length t w)))

-- ---- is there an underline? a is the name, x its byte at i

pub infix_told : (a : List ℕ) (x : ℕ) → x ≡ get_or a 0 0 → eqb x 95 ≡ is_infix a
unfolding is_infix
infix_told a x h = rw h

module _ (a : List ℕ) (n i : ℕ) (l : n ≡ length a) where
  module _ (x : ℕ) (h : i < n) (e : x ≡ get_or a i 0) where
    pub operator_found : x ≡ 95 → is_operator (drop i a) ≡ true
    unfolding is_operator any pick
    operator_found f = rw (drop-cons a i 0 (omega arith), eq-eqb (get_or a i 0) 95 (sym e ∙ f))

    pub operator_on : (x ≡ 95 → ⊥) → is_operator (drop i a) ≡ is_operator (drop (i + 1) a)
    unfolding is_operator any pick
    operator_on f = rw (drop-cons a i 0 (omega arith), ne_eqb (get_or a i 0) 95 (λ q. f (e ∙ q)), add-one)

  pub operator_over : n ≤ i → is_operator (drop i a) ≡ false
  unfolding is_operator any
  operator_over h = rw (drop_of_length-le a {i = i} (omega arith))

pub ruleset cases = (one_leading, none_leading, one_trailing, else_trailing, byte_before, front_fits, token_place, byte_within, name_fits, name_told, byte_behind, byte_past, infix_told, operator_found, operator_on, operator_over, rules)
