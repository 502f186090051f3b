-- Laws of runs of bytes and of single bytes of a text, in the code's terms: the byte at i, and i + 1.
use mathlib.Core.Path.{◌≡◌, refl, sym, ap, ◌∙◌}
use mathlib.Core.Bool.{Bool, true, false, false≢true, ◌||◌}
use mathlib.Core.List.{List, [], ◌∷◌}
use Prim.Native.Nat.{ℕ, suc, ◌+◌, ◌-◌, ◌*◌, ◌^◌, ◌<◌, ◌≤◌, zero-le, suc-le-suc}
use native.Mathlib.Numerals.{add-one}
use native.Mathlib.Nat.{add-zero, not-suc-le-zero}
use native.Mathlib.Omega.{arith}
use lib.Dec.{eqb, leb}
use borrow.Author.Tests.{leb-true, le-leb, lt-leb, ne_eqb}
use Rattle.std.specs.Char.{is_ascii_alphanumeric}
use lib.ListN.{length, get_or, drop, drop_of_length-le, length-drop}
use lib.Seq.{drop-cons, drop-drop, get_or-drop}
use mir.Syntax.{w64}
use mir.Val.{Fits}
use Rattle.meaning.specs.Lists.{pick}
use Rattle.meaning.specs.Tokens.{is_word, run, run_end, at_hyphen, at_word}

-- a run goes on over a place that passes, and ends at one that does not, or at the end of the text
pub run_on : (p : List ℕ → Bool) (s : List ℕ) (i : ℕ) → i < length s → p (drop i s) ≡ true → run_end p s i ≡ run_end p s (i + 1)
unfolding run_end run pick
run_on p s i h e =
    rw (drop-cons s i 0, rw (drop-cons s i 0) at e)
    (omega (arith, ap (λ (k : ℕ). run p (drop k s)) (add-one i)))

pub run_stop : (p : List ℕ → Bool) (s : List ℕ) (i : ℕ) → i < length s → p (drop i s) ≡ false → run_end p s i ≡ i
unfolding run_end run pick
run_stop p s i h e = rw (drop-cons s i 0, rw (drop-cons s i 0) at e) (omega arith)

pub run_ends : (p : List ℕ → Bool) (s : List ℕ) (i : ℕ) → length s ≤ i → run_end p s i ≡ i
unfolding run_end run pick
run_ends p s i h = rw drop_of_length-le (omega arith)

-- a run starts where it starts, and ends within the text
pub run_from : (p : List ℕ → Bool) (t : List ℕ) (i e : ℕ) → e ≡ run_end p t i → i ≤ e
unfolding run_end
run_from p t i e h = omega arith

run_short : (p : List ℕ → Bool) (s : List ℕ) → run p s ≤ length s
unfolding run pick
run_short p [] = zero-le
run_short p (b ∷ s) = go (p (b ∷ s)) (run_short p s)
  where
    go : (t : Bool) → run p s ≤ length s → pick t (suc (run p s)) 0 ≤ suc (length s)
    go true h = suc-le-suc h
    go false h = zero-le

pub run_to : (p : List ℕ → Bool) (t : List ℕ) (i e : ℕ) → e ≡ run_end p t i → i ≤ length t → e ≤ length t
unfolding run_end
run_to p t i e h l = omega (arith, run_short p (drop i t), length-drop i t)

pub run_within : (p : List ℕ → Bool) (t : List ℕ) (i e : ℕ) → e ≡ run_end p t i → i < length t → e ≤ length t
run_within p t i e h l = run_to p t i e h (omega arith)

-- where a run ends within the text, the test fails
run_fails_there : (p : List ℕ → Bool) (s : List ℕ) → run p s < length s → p (drop (run p s) s) ≡ false
unfolding run pick
run_fails_there p [] h = absurd (not-suc-le-zero h)
run_fails_there p (b ∷ s) h = go (p (b ∷ s)) refl (run_fails_there p s)
  where
    go : (t : Bool) → p (b ∷ s) ≡ t → (run p s < length s → p (drop (run p s) s) ≡ false) → p (drop (run p (b ∷ s)) (b ∷ s)) ≡ false
    go true e rest = rw e (rest (omega (arith, rw e at h)))
    go false e rest = rw e e

pub run_fails : (p : List ℕ → Bool) (s : List ℕ) (i e : ℕ) → e ≡ run_end p s i → e < length s → p (drop e s) ≡ false
unfolding run_end
run_fails p s i e h l =
    rw (h, ← drop-drop (run p (drop i s)) i s) (run_fails_there p (drop i s) (omega (arith, length-drop i s)))

-- the bytes of what is left of the text are the text's own
pub front : (s : List ℕ) (i : ℕ) → get_or (drop i s) 0 0 ≡ get_or s i 0
front s i = get_or-drop i s 0 0 ∙ ap (λ (k : ℕ). get_or s k 0) (add-zero i)

pub second : (s : List ℕ) (i : ℕ) → get_or (drop i s) 1 0 ≡ get_or s (i + 1) 0
second s i = get_or-drop i s 1 0

-- ---- identifiers: i is a place within one, j the place past the hyphens there, b the byte at j

past_hyphens : (s : List ℕ) (i j b : ℕ) → j ≡ run_end at_hyphen s i → b ≡ get_or s j 0 → is_word b ≡ at_word (drop i s)
unfolding run_end
past_hyphens s i j b h e = ap is_word (e ∙ rw h (sym (get_or-drop i s (run at_hyphen (drop i s)) 0)))

pub word_stop : (s : List ℕ) (i j b : ℕ) → i < length s → j ≡ run_end at_hyphen s i → b ≡ get_or s j 0 → is_word b ≡ false → run_end at_word s i ≡ i
word_stop s i j b l h e w = run_stop at_word s i l (sym (past_hyphens s i j b h e) ∙ w)

-- an identifier that goes on at hyphens goes on over all of them and the byte behind
over_hyphens : (s : List ℕ) → at_word s ≡ true → run at_word s ≡ suc (run at_hyphen s) + run at_word (drop (suc (run at_hyphen s)) s)
unfolding run is_word pick
over_hyphens [] w = absurd (false≢true w)
over_hyphens (b ∷ s) w = go (eqb b 45) refl (over_hyphens s)
  where
    go : (t : Bool) → eqb b 45 ≡ t → (at_word s ≡ true → run at_word s ≡ suc (run at_hyphen s) + run at_word (drop (suc (run at_hyphen s)) s))
        → run at_word (b ∷ s) ≡ suc (run at_hyphen (b ∷ s)) + run at_word (drop (suc (run at_hyphen (b ∷ s))) (b ∷ s))
    go true e rest = rw (w, e) (omega (arith, rest (rw e at w)))
    go false e rest = rw (w, e) (omega arith)

pub word_on : (s : List ℕ) (i j b : ℕ) → j ≡ run_end at_hyphen s i → b ≡ get_or s j 0 → is_word b ≡ true → run_end at_word s i ≡ run_end at_word s (j + 1)
unfolding run_end
word_on s i j b h e w =
    let q = suc (run at_hyphen (drop i s)) in
    let k : i + q ≡ j + 1 = omega arith in
    omega (arith, over_hyphens (drop i s) (sym (past_hyphens s i j b h e) ∙ w), ap (run at_word) (drop-drop q i s ∙ ap (λ (m : ℕ). drop m s) k))

pub word_less : (s : List ℕ) (i j : ℕ) → i < length s → j ≡ run_end at_hyphen s i → length s - (j + 1) < length s - i
word_less s i j l h = omega (arith, run_from at_hyphen s i j h)

pub word_fits : (s : List ℕ) (i j : ℕ) → i < length s → j ≡ run_end at_hyphen s i → length s * 1 < 2 ^ 63 → Fits w64 (j + 1)
word_fits s i j l h m = omega (arith, run_within at_hyphen s i j h l)

-- ---- a word's byte: a letter, a digit or the single quote

word_told : (b : ℕ) → pick (is_ascii_alphanumeric b) true (eqb b 39) ≡ is_word b
unfolding is_word pick
word_told b = go (leb 97 b) (leb 65 b) (leb 48 b) refl refl refl
  where
    left : (t : Bool) → pick (t || false) true false ≡ t
    left true = refl
    left false = refl

    go : (p q r : Bool) → leb 97 b ≡ p → leb 65 b ≡ q → leb 48 b ≡ r → pick (is_ascii_alphanumeric b) true (eqb b 39) ≡ is_word b
    go true q r e f g =
        let h = leb-true 97 b e in
        rw (e, le-leb 65 b (omega arith), le-leb 48 b (omega arith), lt-leb b 57 (omega arith), lt-leb b 90 (omega arith), ne_eqb b 39 (λ z. omega arith))
        (both (leb b 122))
      where
        both : (t : Bool) → pick t true false ≡ t
        both true = refl
        both false = refl
    go false true r e f g =
        let h = leb-true 65 b f in
        rw (e, f, le-leb 48 b (omega arith), lt-leb b 57 (omega arith), ne_eqb b 39 (λ z. omega arith)) (left (leb b 90))
    go false false true e f g =
        let h = leb-true 48 b g in
        rw (e, f, g, ne_eqb b 39 (λ z. omega arith)) (twice (leb b 57))
      where
        twice : (t : Bool) → pick ((t || false) || false) true false ≡ t
        twice true = refl
        twice false = refl
    go false false false e f g = rw (e, f, g)

pub word_by_class : (b : ℕ) (s : Bool) → s ≡ is_ascii_alphanumeric b → s ≡ true → s ≡ is_word b
unfolding pick
word_by_class b s e h = h ∙ rw (sym e ∙ h) at (word_told b)

pub word_by_quote : (b : ℕ) (s : Bool) → s ≡ is_ascii_alphanumeric b → s ≡ false → eqb b 39 ≡ is_word b
unfolding pick
word_by_quote b s e h = rw (sym e ∙ h) at (word_told b)
