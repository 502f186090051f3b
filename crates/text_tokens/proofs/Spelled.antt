-- What identifiers and operators are spelled with: bytes of words, symbols and dots, and so never with an underline.
use mathlib.Core.Path.{◌≡◌, refl, sym, ap, ◌∙◌}
use mathlib.Core.Bool.{Bool, true, false, ◌&&◌, ◌||◌, false≢true}
use mathlib.Core.List.{List, [], ◌∷◌}
use Prim.Native.Nat.{ℕ, zero, suc, ◌+◌, ◌-◌, ◌<◌}
use native.Mathlib.Numerals.{add-one}
use native.Mathlib.Omega.{arith}
use lib.Dec.{eqb}
use lib.ListN.{length, get_or, take, drop}
use lib.Seq.{drop-cons, get_or-drop}
use borrow.Author.Tests.{eq-eqb, eqb-true, ltb-true}
use Rattle.types.specs.declared.Token.{Token}
use Rattle.meaning.specs.Laws.{by_cases}
use Rattle.meaning.specs.Lists.{pick, any}
use Rattle.meaning.specs.Names.{slice, is_operator}
use Rattle.meaning.specs.OrderLaws.{Every}
use Rattle.meaning.specs.Tokens.{is_in, is_mark, is_symbol, is_word, run, run_end, at_hyphen, at_symbol, at_word, skip, ident, operator}
use Rattle.meaning.specs.Tokens.{equals_at, word_at, symbols_at, dotted_at, start_at, token_at}
use Rattle.text_tokens.proofs.Bounds.{and_second}
use Rattle.text_tokens.proofs.Cases.{differs}

-- a token that a name is read from
unfoldable pub is_spelled : ℕ → Bool
is_spelled kind = eqb kind ident || eqb kind operator

no_mark : (b : ℕ) → is_mark b ≡ true → is_spelled b ≡ true → ⊥
unfolding is_in is_spelled
no_mark b m e = false≢true (rw (differs is_mark b ident m refl, differs is_mark b operator m refl) at e)

-- ---- what holds of each byte that they may be spelled with

module _ (P : ℕ → Type 0) (word : (b : ℕ) → is_word b ≡ true → P b) (symbol : (b : ℕ) → is_symbol b ≡ true → P b) (dot : P 46) where
  -- a word goes on at one of its bytes, or at a hyphen
  at_word_byte : (b : ℕ) (s : List ℕ) → at_word (b ∷ s) ≡ true → P b
  unfolding run pick is_in
  at_word_byte b s e = go (eqb b 45) refl e
    where
      go : (h : Bool) → eqb b 45 ≡ h → is_word (get_or (b ∷ s) (pick h (suc (run at_hyphen s)) 0) 0) ≡ true → P b
      go true q e = symbol b (rw (eqb-true b 45 q) refl)
      go false q e = word b e

  run_bytes : (p : List ℕ → Bool) → ((b : ℕ) (s : List ℕ) → p (b ∷ s) ≡ true → P b) → (s : List ℕ) → Every P (take (run p s) s)
  unfolding run pick
  run_bytes p f [] = tt
  run_bytes p f (b ∷ s) = go (p (b ∷ s)) refl (run_bytes p f s)
    where
      go : (t : Bool) → p (b ∷ s) ≡ t → Every P (take (run p s) s) → Every P (take (pick t (suc (run p s)) 0) (b ∷ s))
      go true e h = (f b s e, h)
      go false e h = tt

  one_more : (n : ℕ) (s : List ℕ) → Every P (take n s) → P (get_or s n 0) → Every P (take (suc n) s)
  one_more zero [] h e = tt
  one_more zero (b ∷ s) h e = (e, tt)
  one_more (suc n) [] h e = tt
  one_more (suc n) (b ∷ s) h e = (h.0, one_more n s h.1 e)

  module _ (s : List ℕ) where
    abbrev Spelled : Token → Type 0
    Spelled t = is_spelled t.kind ≡ true → Every P (slice s t.start t.end)

    run_slice : (p : List ℕ → Bool) → ((b : ℕ) (s : List ℕ) → p (b ∷ s) ≡ true → P b) → (i : ℕ) → Every P (slice s i (run_end p s i))
    unfolding run_end
    run_slice p f i =
        let size : i + run p (drop i s) - i ≡ run p (drop i s) = omega arith in
        rw size (run_bytes p f (drop i s))

    -- a word, with the dots around it
    dotted_slice : (i : ℕ) → i < length s → eqb (get_or s i 0) 46 ≡ true → eqb (get_or s (run_end at_word s (i + 1)) 0) 46 ≡ true
        → Every P (slice s i (run_end at_word s (i + 1) + 1))
    unfolding run_end
    dotted_slice i h e d =
        let r = run at_word (drop (i + 1) s) in
        let size : i + 1 + r + 1 - i ≡ suc (suc r) = omega arith in
        let a : P (get_or s i 0) = rw (eqb-true (get_or s i 0) 46 e) dot in
        let z : P (get_or (drop (i + 1) s) r 0) = rw (get_or-drop (i + 1) s r 0, eqb-true (get_or s (i + 1 + r) 0) 46 d) dot in
        let front : drop i s ≡ get_or s i 0 ∷ drop (i + 1) s = drop-cons s i 0 h ∙ ap (λ j. get_or s i 0 ∷ drop j s) (sym (add-one i)) in
        rw (size, front) (a, one_more r (drop (i + 1) s) (run_bytes at_word at_word_byte (drop (i + 1) s)) z)

    start_spelled : (i : ℕ) → Spelled (start_at s i)
    unfolding start_at word_at equals_at symbols_at dotted_at is_spelled
    start_spelled i =
        by_cases Spelled _ _ _
        (λ here. let h = ltb-true i (length s) here in
        by_cases Spelled _ _ _ (λ m e. absurd (no_mark _ m e))
        (λ m. by_cases Spelled _ _ _ (λ w e. run_slice at_word at_word_byte i)
        (λ w. by_cases Spelled _ _ _ (λ q. by_cases Spelled _ _ _ (λ r e. absurd (false≢true e)) (λ r e. absurd (false≢true e)))
        (λ q. by_cases Spelled _ _ _ (λ a e. absurd (false≢true e))
        (λ a. by_cases Spelled _ _ _ (λ o e. run_slice at_symbol (λ b s. symbol b) i)
        (λ o. by_cases Spelled _ _ _
        (λ d. by_cases Spelled _ _ _ (λ k e. dotted_slice i h d (and_second (is_word (get_or s (i + 1) 0) && eqb (word_at s (i + 1)).kind ident) _ k))
        (λ k e. absurd (false≢true e)))
        (λ d e. absurd (false≢true e))))))))
        (λ past e. absurd (false≢true e))

    pub token_spelled : (i : ℕ) (t : Token) → t ≡ token_at s i → is_spelled t.kind ≡ true → Every P (slice s t.start t.end)
    unfolding token_at
    token_spelled i t e = rw e (start_spelled (skip s (length s) i))

-- ---- no underline is among them

all_plain : (w : List ℕ) → Every (λ b. eqb b 95 ≡ false) w → is_operator w ≡ false
unfolding is_operator any pick
all_plain [] h = refl
all_plain (b ∷ w) h = rw h.0 (all_plain w h.1)

module _ (s : List ℕ) (i : ℕ) (t : Token) (e : t ≡ token_at s i) where
  plain : is_spelled t.kind ≡ true → is_operator (slice s t.start t.end) ≡ false
  unfolding is_in is_word pick
  plain k = all_plain _ (token_spelled (λ b. eqb b 95 ≡ false) (λ b h. differs is_word b 95 h refl) (λ b h. differs is_symbol b 95 h refl) refl s i t e k)

  pub ident_plain : t.kind ≡ ident → is_operator (slice s t.start t.end) ≡ false
  unfolding is_spelled
  ident_plain k = plain (rw (eq-eqb t.kind ident k))
