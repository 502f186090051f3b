-- A token that begins straight after a hyphen begins after a comment's closing `--`: no token that is followed by two hyphens ends in one. So
-- `comment_sign` asks of the byte before alone what document 02 asks of the comment before.
use Rattle.std.specs.Prelude.{◌≡◌, ℕ, zero, suc, ◌+◌, ◌-◌, ◌<◌, Bool, true, false, ◌&&◌, List, [], ◌∷◌, ltb, length, drop}
use Rattle.std.proofs.Math.Path.{refl, ap}
use Rattle.std.proofs.Common.{sym, subst, ◌∙◌, true≢false, drop-cons, drop-drop, get_or-drop}
use native.Mathlib.Omega.{arith}
use Rattle.std.proofs.lemmas.Bool.{false≢true}
use Rattle.std.proofs.Math.Dec.{eqb}
use Rattle.std.proofs.Math.ListN.{get_or}
use borrow.Author.Tests.{ltb-true, eqb-true}
use Rattle.types.specs.declared.Token.{Token}
use Rattle.meaning.specs.Laws.{by_cases}
use Rattle.meaning.specs.Lists.{pick}
use Rattle.meaning.specs.Names.{bytes, byte}
use Rattle.promises.specs.ListingLaws.{passes_apart}
use Rattle.meaning.specs.Tokens.{is_in, is_mark, is_symbol, is_word, run, run_end, at_word, at_hyphen, at_symbol, at_equals, at_dashes, skip, token, end_of_text, no_token, ident, equals_at, word_at, symbols_at, dotted_at, start_at, token_at}
use Rattle.laws.specs.Decides.{both_true}

-- the last byte of a run, where there is one
last_of : List ℕ → ℕ → ℕ
last_of s zero = 0
last_of s (suc n) = get_or s n 0

-- a word goes on after a hyphen in it, so it does not end in one
word_last : (s : List ℕ) → eqb (last_of s (run at_word s)) (byte "-") ≡ false
unfolding run last_of pick is_word
word_last [] = refl
word_last (b ∷ s) = go (at_word (b ∷ s)) refl (run at_word s) refl (word_last s)
  where
    go : (w : Bool) → at_word (b ∷ s) ≡ w → (n : ℕ) → run at_word s ≡ n → eqb (last_of s n) (byte "-") ≡ false
        → eqb (last_of (b ∷ s) (pick w (suc n) 0)) (byte "-") ≡ false
    go false e n q h = refl
    go true e (suc n) q h = h
    go true e zero q h = first (eqb b (byte "-")) refl e
      where
        first : (c : Bool) → eqb b (byte "-") ≡ c → is_word (get_or (b ∷ s) (pick c (suc (run at_hyphen s)) 0) 0) ≡ true → c ≡ false
        first false r k = refl
        first true r k = absurd (goes_on s k q)
          where
            goes_on : (s : List ℕ) → is_word (get_or s (run at_hyphen s) 0) ≡ true → run at_word s ≡ 0 → ⊥
            goes_on [] k q = false≢true k
            goes_on (c ∷ s) k q = let z : suc (run at_word s) ≡ 0 = rw k at q in absurd (omega (arith, z))

-- what stands after a run of symbols is no symbol
symbols_stop : (s : List ℕ) → at_dashes (drop (run at_symbol s) s) ≡ false
unfolding run pick at_dashes is_in
symbols_stop [] = refl
symbols_stop (b ∷ s) = go (is_symbol b) refl (symbols_stop s)
  where
    go : (w : Bool) → is_symbol b ≡ w → at_dashes (drop (run at_symbol s) s) ≡ false → at_dashes (drop (pick w (suc (run at_symbol s)) 0) (b ∷ s)) ≡ false
    go true e h = h
    go false e h = first (eqb b (byte "-")) refl
      where
        first : (c : Bool) → eqb b (byte "-") ≡ c → (c && eqb (get_or (b ∷ s) 1 0) (byte "-")) ≡ false
        first false r = refl
        first true r = absurd (false≢true (sym (subst (λ (x : ℕ). is_symbol x ≡ false) (eqb-true b (byte "-") r) e)))

word_starts : (b : ℕ) (s : List ℕ) → is_word b ≡ true → run at_word (b ∷ s) ≡ 0 → ⊥
unfolding run pick is_word
word_starts b s e q = go (eqb b (byte "-")) refl
  where
    go : (h : Bool) → eqb b (byte "-") ≡ h → ⊥
    go true r = absurd (false≢true (subst (λ (x : ℕ). is_word x ≡ true) (eqb-true b (byte "-") r) e))
    go false r = let z : suc (run at_word s) ≡ 0 = rw (r, e) at q in absurd (omega (arith, z))

module _ (text : List ℕ) where
  -- a token, if it is one, that two hyphens follow does not end in a hyphen
  abbrev Apart : Token → Type 0
  Apart t = at_dashes (drop t.end text) ≡ true → eqb t.kind no_token ≡ false → eqb t.kind end_of_text ≡ false
      → eqb (get_or text (t.end - 1) 0) (byte "-") ≡ false

  one_byte : (k i : ℕ) → eqb (get_or text i 0) (byte "-") ≡ false → Apart (token k i (i + 1))
  one_byte k i h d n e = let z : i + 1 - 1 ≡ i = omega arith in rw z h

  word_apart : (k i : ℕ) → i < length text → is_word (get_or text i 0) ≡ true → Apart (token k i (run_end at_word text i))
  unfolding run_end last_of
  word_apart k i h w d n e = go (run at_word (drop i text)) refl (word_last (drop i text))
    where
      starts : run at_word (drop i text) ≡ 0 → ⊥
      starts q = word_starts (get_or text i 0) (drop (suc i) text) w (rw (drop-cons text i 0 h) at q)

      go : (r : ℕ) → run at_word (drop i text) ≡ r → eqb (last_of (drop i text) r) (byte "-") ≡ false → eqb (get_or text (i + r - 1) 0) (byte "-") ≡ false
      go zero q l = absurd (starts q)
      go (suc m) q l =
          let z : i + suc m - 1 ≡ i + m = omega arith in
          rw (z, ← get_or-drop i text m 0) l

  symbols_apart : (i : ℕ) → at_dashes (drop (run_end at_symbol text i) text) ≡ false
  unfolding run_end
  symbols_apart i = ap at_dashes (sym (drop-drop (run at_symbol (drop i text)) i text)) ∙ symbols_stop (drop i text)

  start_apart : (i : ℕ) → Apart (start_at text i)
  unfolding is_in start_at word_at equals_at symbols_at dotted_at
  start_apart i =
      let g = get_or text i 0 in
      let j = run_end at_equals text i in
      let w' = word_at text (i + 1) in
      by_cases Apart _ _ _
      (λ here. let h = ltb-true i (length text) here in
      by_cases Apart _ _ _ (λ m. one_byte g i (passes_apart is_mark g (byte "-") m refl))
      (λ m. by_cases Apart _ _ _ (λ w. word_apart (word_at text i).kind i h w)
      (λ w. by_cases Apart _ _ _
      (λ q. by_cases Apart _ _ _
      (λ r d n e. let z : j + 1 - 1 ≡ j = omega arith in
      rw z (passes_apart (is_in (bytes ">\n")) (get_or text j 0) (byte "-") (both_true (ltb (i + 1) j) _ r).1 refl))
      (λ r. one_byte (byte "=") i (passes_apart (λ x. eqb x (byte "=")) g (byte "-") q refl)))
      (λ q. by_cases Apart _ _ _
      (λ a d n e. let z : i + 2 - 1 ≡ i + 1 = omega arith in
      rw z (passes_apart (λ x. eqb x (byte ">")) (get_or text (i + 1) 0) (byte "-") (both_true (eqb g (byte "-")) _ a).1 refl))
      (λ a. by_cases Apart _ _ _
      (λ o d n e. absurd (true≢false (sym d ∙ symbols_apart i)))
      (λ o. by_cases Apart _ _ _
      (λ d. by_cases Apart _ _ _
      (λ k x n e. let z : w'.end + 1 - 1 ≡ w'.end = omega arith in
      let dot = (both_true (is_word (get_or text (i + 1) 0) && eqb w'.kind ident) _ k).1 in
      rw z (passes_apart (λ x. eqb x (byte ".")) (get_or text w'.end 0) (byte "-") dot refl))
      (λ k x n e. absurd (true≢false n)))
      (λ d x n e. absurd (true≢false n))))))))
      (λ past x n e. absurd (true≢false e))

  -- of every token that is read
  pub token_apart : (at : ℕ) → Apart (token_at text at)
  unfolding token_at
  token_apart at = start_apart (skip text (length text) at)
