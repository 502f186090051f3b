-- How names and operators are spelled: of every token that is read, if it is one of these, the bytes are a name's.
use Rattle.std.specs.Prelude.{◌≡◌, Bool, ◌&&◌, ◌||◌, List, [], ◌∷◌, ◌++◌, length, take}
use Rattle.std.proofs.Math.Path.{refl, ap}
use Rattle.std.proofs.Common.{sym, subst, ◌∙◌, get_or-drop}
use Prim.Native.Nat.{ℕ, suc, ◌+◌, ◌-◌, ◌<◌}
use native.Mathlib.Omega.{arith}
use Rattle.std.proofs.Math.Bool.{true, false, false≢true}
use Rattle.std.proofs.Math.Dec.{eqb}
use Rattle.std.proofs.Math.ListN.{drop, get_or}
use Rattle.std.proofs.Math.Seq.{drop-cons}
use borrow.Author.Tests.{ltb-true, eqb-true}
use Rattle.types.specs.declared.Token.{Token}
use Rattle.meaning.specs.Laws.{by_cases}
use Rattle.meaning.specs.Lists.{pick}
use Rattle.meaning.specs.Names.{bytes, byte, slice, Name, prefix_name, infix_name}
use Rattle.meaning.specs.Tokens.{is_in, is_mark, is_symbol, is_word, run, run_end, at_word, at_hyphen, at_symbol, skip, ident, operator, equals_at, word_at, symbols_at, dotted_at, start_at, token_at}
use Rattle.laws.specs.Decides.{both_true}
use Rattle.laws.specs.EveryLaws.{every_append}
use Rattle.laws.specs.Reading.{is_spelled}
use Rattle.promises.specs.ListingLaws.{Within, in_name, NonEmpty, Plain}

-- ---- bytes

or_true : (x : Bool) → (x || true) ≡ true
or_true true = refl
or_true false = refl

-- a byte at which a word goes on is one of a name's, and so is a dot
word_letter : (b : ℕ) (s : List ℕ) → at_word (b ∷ s) ≡ true → in_name b ≡ true
unfolding run in_name pick is_word is_in
word_letter b s e = go (eqb b (byte "-")) refl e
  where
    go : (h : Bool) → eqb b (byte "-") ≡ h → is_word (get_or (b ∷ s) (pick h (suc (run at_hyphen s)) 0) 0) ≡ true → in_name b ≡ true
    go true q e = subst (λ (x : ℕ). in_name x ≡ true) (sym (eqb-true b (byte "-") q)) refl
    go false q e = rw e

dot_letter : (b : ℕ) → eqb b (byte ".") ≡ true → in_name b ≡ true
unfolding in_name is_word is_in pick
dot_letter b e = subst (λ (x : ℕ). in_name x ≡ true) (sym (eqb-true b (byte ".") e)) refl

-- ---- runs

-- a run that goes on at bytes of names
name_run : (at : List ℕ → Bool) → ((b : ℕ) (s : List ℕ) → at (b ∷ s) ≡ true → in_name b ≡ true) → (s : List ℕ) → Within in_name (take (run at s) s)
unfolding run pick
name_run at letter [] = tt
name_run at letter (b ∷ s) = go (at (b ∷ s)) refl (name_run at letter s)
  where
    go : (w : Bool) → at (b ∷ s) ≡ w → Within in_name (take (run at s) s) → Within in_name (take (pick w (suc (run at s)) 0) (b ∷ s))
    go true e i = (letter b s e, i)
    go false e i = tt

-- a word has a first byte, which is no hyphen
word_begins : (b : ℕ) (s : List ℕ) → is_word b ≡ true → NonEmpty (take (run at_word (b ∷ s)) (b ∷ s))
unfolding run pick is_word
word_begins b s e = go (eqb b (byte "-")) refl
  where
    go : (h : Bool) → eqb b (byte "-") ≡ h → NonEmpty (take (run at_word (b ∷ s)) (b ∷ s))
    go true q = absurd (false≢true (rw (eqb-true b (byte "-") q) at e))
    go false q = rw (q, e) tt

-- a word and the dot after it
dot_run : (s : List ℕ) → eqb (get_or s (run at_word s) 0) (byte ".") ≡ true → Within in_name (take (suc (run at_word s)) s)
unfolding run pick
dot_run [] e = tt
dot_run (b ∷ s) e = go (at_word (b ∷ s)) refl e (dot_run s)
  where
    go : (w : Bool) → at_word (b ∷ s) ≡ w → eqb (get_or (b ∷ s) (pick w (suc (run at_word s)) 0) 0) (byte ".") ≡ true
        → (eqb (get_or s (run at_word s) 0) (byte ".") ≡ true → Within in_name (take (suc (run at_word s)) s))
        → Within in_name (take (suc (pick w (suc (run at_word s)) 0)) (b ∷ s))
    go true q e i = (word_letter b s q, i e)
    go false q e i = (dot_letter b e, tt)

-- ---- tokens

module _ (text : List ℕ) where
  -- if it is one, its bytes are a name's
  abbrev pub Named : Token → Type 0
  Named t = is_spelled t.kind ≡ true → Plain (slice text t.start t.end)

  module _ (i : ℕ) (h : i < length text) where
    run_plain : (at : List ℕ → Bool) → ((b : ℕ) (s : List ℕ) → at (b ∷ s) ≡ true → in_name b ≡ true)
        → ((s : List ℕ) → NonEmpty (take (run at (get_or text i 0 ∷ s)) (get_or text i 0 ∷ s))) → Plain (slice text i (run_end at text i))
    unfolding run_end
    run_plain at letter begins =
        let size : i + run at (drop i text) - i ≡ run at (drop i text) = omega arith in
        rw (size, drop-cons text i 0 h) (record { letters = name_run at letter (get_or text i 0 ∷ drop (suc i) text); some_letter = begins (drop (suc i) text) })

    symbols_plain : is_symbol (get_or text i 0) ≡ true → Plain (slice text i (run_end at_symbol text i))
    unfolding run pick in_name
    symbols_plain e = run_plain at_symbol (λ b s q. rw q (or_true (is_word b))) (λ s. rw e tt)

    dotted_plain : eqb (get_or text i 0) (byte ".") ≡ true → eqb (get_or text (run_end at_word text (i + 1)) 0) (byte ".") ≡ true
        → Plain (slice text i (run_end at_word text (i + 1) + 1))
    unfolding run_end
    dotted_plain e d =
        let r = run at_word (drop (i + 1) text) in
        let size : i + 1 + r + 1 - i ≡ suc (suc r) = omega arith in
        let next : suc i ≡ i + 1 = omega arith in
        let front : drop i text ≡ get_or text i 0 ∷ drop (i + 1) text =
        drop-cons text i 0 h ∙ ap (λ (j : ℕ). get_or text i 0 ∷ drop j text) next in
        let at : eqb (get_or (drop (i + 1) text) r 0) (byte ".") ≡ true = rw (get_or-drop (i + 1) text r 0) d in
        rw (size, front) (record { letters = (dot_letter (get_or text i 0) e, dot_run (drop (i + 1) text) at); some_letter = tt })

  no_mark : (b : ℕ) → is_mark b ≡ true → is_spelled b ≡ true → ⊥
  unfolding is_in is_spelled
  no_mark b m e = go (eqb b ident) refl e
    where
      go : (h : Bool) → eqb b ident ≡ h → (h || eqb b operator) ≡ true → ⊥
      go true q k = false≢true (rw (eqb-true b ident q) at m)
      go false q k = false≢true (rw (eqb-true b operator k) at m)

  start_named : (i : ℕ) → Named (start_at text i)
  unfolding start_at word_at equals_at symbols_at dotted_at is_spelled
  start_named i =
      by_cases Named _ _ _
      (λ here. let h = ltb-true i (length text) here in
      by_cases Named _ _ _ (λ m e. absurd (no_mark _ m e))
      (λ m. by_cases Named _ _ _ (λ w e. run_plain i h at_word word_letter (λ s. word_begins (get_or text i 0) s w))
      (λ w. by_cases Named _ _ _ (λ q. by_cases Named _ _ _ (λ r e. absurd (false≢true e)) (λ r e. absurd (false≢true e)))
      (λ q. by_cases Named _ _ _ (λ a e. absurd (false≢true e))
      (λ a. by_cases Named _ _ _ (λ o e. symbols_plain i h (both_true _ _ o).0)
      (λ o. by_cases Named _ _ _
      (λ d. by_cases Named _ _ _
      (λ k e. dotted_plain i h d (both_true (is_word (get_or text (i + 1) 0) && eqb (word_at text (i + 1)).kind ident) _ k).1)
      (λ k e. absurd (false≢true e)))
      (λ d e. absurd (false≢true e))))))))
      (λ past e. absurd (false≢true e))

  pub token_named : (i : ℕ) → Named (token_at text i)
  unfolding token_at
  token_named i = start_named (skip text (length text) i)

-- ---- an operator's name, with its underlines

pub prefix_plain : (o : Name) → Plain o → Plain (prefix_name o)
unfolding prefix_name in_name is_word is_in pick
prefix_plain o h = record { letters = every_append _ o (bytes "_") h.letters (refl, tt); some_letter = go o h.some_letter }
  where
    go : (o : Name) → NonEmpty o → NonEmpty (o ++ bytes "_")
    go [] k = absurd k
    go (b ∷ o) k = tt

pub infix_plain : (o : Name) → Plain o → Plain (infix_name o)
unfolding infix_name in_name is_word is_in pick
infix_plain o h = record { letters = (refl, every_append _ o (bytes "_") h.letters (refl, tt)); some_letter = tt }
