-- The cases of the definitions, one for each way through the code, in the code's terms: b is a byte that was read, t and k are callees' answers.
use mathlib.Core.Path.{◌≡◌, refl, sym, ap, ◌∙◌}
use mathlib.Core.Bool.{Bool, true, false, false≢true}
use mathlib.Core.List.{List}
use Prim.Native.Nat.{ℕ, ◌+◌, ◌*◌, ◌^◌, ◌<◌, ◌≤◌}
use native.Mathlib.Omega.{arith}
use lib.Dec.{eqb}
use lib.ListN.{length, get_or, get_or-eq_default}
use borrow.Author.Tests.{eq-eqb, ne_eqb, eqb-true, lt-ltb, le-ltb}
use Rattle.types.specs.declared.Token.{Token}
use Rattle.meaning.specs.Lists.{pick}
use Rattle.meaning.specs.Names.{bytes, slice}
use Rattle.meaning.specs.Tokens.{is_in, is_mark, is_symbol, is_word}
use Rattle.meaning.specs.Tokens.{run_end, at_equals, at_symbol, at_word}
use Rattle.meaning.specs.Tokens.{skip, comment_sign, token, end_of_text, arrow, implies, no_token, operator}
use Rattle.meaning.specs.Tokens.{equals_at, word_kind, word_at, symbols_at, dotted_at, start_at, token_at}
use mir.Syntax.{w64}
use mir.Val.{Fits}
use Rattle.text_names.proofs.Runs.{run_to}
use Rattle.text_marks.specs.Hyphens.{hyphen_before}
use Rattle.text_tokens.specs.Signs.{sign_at}

-- a byte that passes a test is not one that fails it
pub differs : (p : ℕ → Bool) (b n : ℕ) → p b ≡ true → p n ≡ false → eqb b n ≡ false
differs p b n h z = go (eqb b n) refl
  where
    go : (t : Bool) → eqb b n ≡ t → t ≡ false
    go false e = refl
    go true e = absurd (false≢true (sym z ∙ ap p (sym (eqb-true b n e)) ∙ h))

-- = and implications
pub equals_implies : (s : List ℕ) (i j : ℕ) → j ≡ run_end at_equals s i → i + 1 < j → is_in (bytes ">\n") (get_or s j 0) ≡ true → token implies i (j + 1) ≡ equals_at s i
unfolding equals_at pick
equals_implies s i j e h m = rw (← e, lt-ltb (i + 1) j h, m)

pub equals_more : (s : List ℕ) (i j : ℕ) → j ≡ run_end at_equals s i → i + 1 < j → is_in (bytes ">\n") (get_or s j 0) ≡ false → token 61 i (i + 1) ≡ equals_at s i
unfolding equals_at pick
equals_more s i j e h m = rw (← e, lt-ltb (i + 1) j h, m)

pub equals_end : (s : List ℕ) (i j : ℕ) → j ≡ run_end at_equals s i → i + 1 < j → length s ≤ j → token 61 i (i + 1) ≡ equals_at s i
unfolding equals_at pick is_in
equals_end s i j e h l = rw (← e, lt-ltb (i + 1) j h, get_or-eq_default s 0 l)

pub equals_one : (s : List ℕ) (i j : ℕ) → j ≡ run_end at_equals s i → j ≤ i + 1 → token 61 i (i + 1) ≡ equals_at s i
unfolding equals_at pick
equals_one s i j e h = rw (← e, le-ltb (i + 1) j h)

-- identifiers and keywords
pub word_law : (s : List ℕ) (i e k : ℕ) → e ≡ run_end at_word s i → k ≡ word_kind (slice s i e) → token k i e ≡ word_at s i
unfolding word_at
word_law s i e k h q = rw (← h, ← q)

-- an identifier between dots: b is the byte behind the first dot, w the word there, d the byte behind it
module _ (s : List ℕ) (i b : ℕ) (e : b ≡ get_or s (i + 1) 0) where
  pub dotted_none : is_word b ≡ false → token no_token i i ≡ dotted_at s i
  unfolding dotted_at pick
  dotted_none h = rw (← e, h)

  module _ (w : Token) (h : is_word b ≡ true) (q : w ≡ word_at s (i + 1)) where
    pub dotted_key : (w.kind ≡ 1 → ⊥) → token no_token i i ≡ dotted_at s i
    unfolding dotted_at pick
    dotted_key k = rw (← e, h, ← q, ne_eqb w.kind 1 k)

    pub dotted_open : (d : ℕ) → w.kind ≡ 1 → d ≡ get_or s w.end 0 → (d ≡ 46 → ⊥) → token no_token i i ≡ dotted_at s i
    unfolding dotted_at pick
    dotted_open d k f n = rw (← e, h, ← q, eq-eqb w.kind 1 k, ← f, ne_eqb d 46 n)

    pub dotted_both : (d : ℕ) → w.kind ≡ 1 → d ≡ get_or s w.end 0 → d ≡ 46 → token operator i (w.end + 1) ≡ dotted_at s i
    unfolding dotted_at pick
    dotted_both d k f n = rw (← e, h, ← q, eq-eqb w.kind 1 k, ← f, eq-eqb d 46 n)

pub dotted_fits : (s : List ℕ) (i : ℕ) (w : Token) → i < length s → w ≡ word_at s (i + 1) → length s * 1 < 2 ^ 63 → Fits w64 (w.end + 1)
unfolding word_at
dotted_fits s i w h q l = rw q (omega (arith, run_to at_word s (i + 1) (run_end at_word s (i + 1)) refl (omega arith)))

-- the token that begins with a symbol or a dot
module _ (s : List ℕ) (i : ℕ) where
  pub sign_arrow : hyphen_before s i 62 ≡ true → token arrow i (i + 2) ≡ sign_at s i
  unfolding sign_at pick
  sign_arrow a = rw a

  module _ (a : hyphen_before s i 62 ≡ false) where
    module _ (m : is_symbol (get_or s i 0) ≡ true) where
      pub sign_comment : comment_sign s i ≡ true → token no_token i i ≡ sign_at s i
      unfolding sign_at is_in pick
      sign_comment c = rw (a, m, c, differs is_symbol (get_or s i 0) 46 m refl)

      pub sign_operator : (e : ℕ) → comment_sign s i ≡ false → e ≡ run_end at_symbol s i → token operator i e ≡ sign_at s i
      unfolding sign_at symbols_at pick
      sign_operator e c q = rw (a, m, c, ← q)

    module _ (m : is_symbol (get_or s i 0) ≡ false) where
      pub sign_dot : (t : Token) → get_or s i 0 ≡ 46 → t ≡ dotted_at s i → t ≡ sign_at s i
      unfolding sign_at pick
      sign_dot t e q = rw (a, m, eq-eqb (get_or s i 0) 46 e) q

      pub sign_bad : (get_or s i 0 ≡ 46 → ⊥) → token no_token i i ≡ sign_at s i
      unfolding sign_at pick
      sign_bad e = rw (a, m, ne_eqb (get_or s i 0) 46 e)

-- the token that starts at i
pub start_end : (s : List ℕ) (i : ℕ) → length s ≤ i → token end_of_text i i ≡ start_at s i
unfolding start_at pick
start_end s i h = rw (le-ltb i (length s) h)

no_mark : (b : ℕ) → is_word b ≡ true → is_mark b ≡ false
unfolding is_in is_word pick
no_mark b w =
    rw (
      differs is_word b 58 w refl,
      differs is_word b 44 w refl,
      differs is_word b 35 w refl,
      differs is_word b 40 w refl,
      differs is_word b 41 w refl,
      differs is_word b 91 w refl,
      differs is_word b 93 w refl,
      differs is_word b 123 w refl,
      differs is_word b 125 w refl,
      differs is_word b 95 w refl,
    )

module _ (s : List ℕ) (i : ℕ) (h : i < length s) where
  pub start_word : (t : Token) → is_word (get_or s i 0) ≡ true → t ≡ word_at s i → t ≡ start_at s i
  unfolding start_at pick
  start_word t w q = rw (lt-ltb i (length s) h, no_mark (get_or s i 0) w, w) q

  pub start_mark : is_mark (get_or s i 0) ≡ true → token (get_or s i 0) i (i + 1) ≡ start_at s i
  unfolding start_at pick
  start_mark m = rw (lt-ltb i (length s) h, m)

  module _ (t : Token) (m : is_mark (get_or s i 0) ≡ false) where
    module _ (w : is_word (get_or s i 0) ≡ false) where
      pub start_equals : get_or s i 0 ≡ 61 → t ≡ equals_at s i → t ≡ start_at s i
      unfolding start_at pick
      start_equals e q = rw (lt-ltb i (length s) h, m, w, eq-eqb (get_or s i 0) 61 e) q

      pub start_sign : (get_or s i 0 ≡ 61 → ⊥) → t ≡ sign_at s i → t ≡ start_at s i
      unfolding start_at sign_at hyphen_before pick
      start_sign e q = rw (lt-ltb i (length s) h, m, w, ne_eqb (get_or s i 0) 61 e) q

-- the token at or after a place
pub token_law : (s : List ℕ) (a j : ℕ) (t : Token) → j ≡ skip s (length s) a → t ≡ start_at s j → t ≡ token_at s a
unfolding token_at
token_law s a j t h e = e ∙ ap (start_at s) h
