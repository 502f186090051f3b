-- Where a token lies: not before the place that it is looked for, in order, within the text; and it has bytes unless there is none.
use mathlib.Core.Path.{◌≡◌, refl, sym, ap, ◌∙◌}
use mathlib.Core.Bool.{Bool, true, false, not, ◌&&◌, ◌||◌, false≢true}
use mathlib.Core.List.{List}
use Prim.Native.Nat.{ℕ, zero, suc, ◌+◌, ◌<◌, ◌≤◌}
use native.Mathlib.Omega.{arith}
use lib.Dec.{eqb, ltb}
use lib.ListN.{length, get_or, drop, get_or-eq_default}
use borrow.Author.Tests.{ltb-true, ltb-false}
use Rattle.types.specs.declared.Token.{Token}
use Rattle.meaning.specs.Lists.{pick}
use Rattle.meaning.specs.Names.{bytes, slice}
use Rattle.meaning.specs.Laws.{by_cases}
use Rattle.meaning.specs.Tokens.{is_in, is_newline, is_mark, is_symbol, is_word, run_end, at_layout, at_hyphen, at_equals, at_symbol, at_word}
use Rattle.meaning.specs.Tokens.{at_dashes, in_comment, opens, comment_end, skip, token, no_token}
use Rattle.meaning.specs.Tokens.{equals_at, word_kind, word_at, symbols_at, dotted_at, start_at, token_at}
use Rattle.text_tokens.proofs.Cases.{differs}
use Rattle.text_names.proofs.Runs.{run_on, run_stop, run_from, run_to, run_fails, front, second, word_on}

-- what is left of two tests
and_first : (a b : Bool) → (a && b) ≡ true → a ≡ true
and_first true b e = refl
and_first false b e = e

pub and_second : (a b : Bool) → (a && b) ≡ true → b ≡ true
and_second true b e = e
and_second false b e = absurd (false≢true e)

neither_first : (a b : Bool) → not (a || b) ≡ false → a ≡ false → b ≡ true
neither_first true b e f = absurd (false≢true (sym f))
neither_first false true e f = refl
neither_first false false e f = absurd (false≢true (sym e))

-- a place whose byte passes a test that 0 fails is within the text
here : (p : ℕ → Bool) (s : List ℕ) (i : ℕ) → p 0 ≡ false → p (get_or s i 0) ≡ true → i < length s
here p s i z h = go (ltb i (length s)) refl
  where
    go : (b : Bool) → ltb i (length s) ≡ b → i < length s
    go true e = ltb-true i (length s) e
    go false e = absurd (false≢true (sym z ∙ sym (ap p (get_or-eq_default s 0 (ltb-false i (length s) e))) ∙ h))

-- ---- layout and comments

comment_from : (s : List ℕ) (i : ℕ) → i ≤ comment_end s i
unfolding comment_end
comment_from s i =
    let k = run_end in_comment s (i + 2) in
    let f = run_from in_comment s (i + 2) k refl in
    by_cases (λ e. i ≤ e) (opens s i) _ _
    (λ o. by_cases (λ e. i ≤ e) (ltb k (length s)) _ _
    (λ l. by_cases (λ e. i ≤ e) (is_newline (get_or s k 0)) _ _ (λ n. omega (arith, f)) (λ n. omega (arith, f)))
    (λ l. omega arith))
    (λ o. omega arith)

-- two hyphens end a comment
closes : (s : List ℕ) (i k : ℕ) → k ≡ run_end in_comment s i → k < length s → is_newline (get_or s k 0) ≡ false → k + 1 < length s
unfolding at_dashes
closes s i k e l n =
    let d = neither_first (is_newline (get_or (drop k s) 0 0)) (at_dashes (drop k s)) (run_fails in_comment s i k e l) (ap is_newline (front s k) ∙ n) in
    let two = and_second (eqb (get_or (drop k s) 0 0) 45) (eqb (get_or (drop k s) 1 0) 45) d in
    here (λ b. eqb b 45) s (k + 1) refl (ap (λ b. eqb b 45) (sym (second s k)) ∙ two)

comment_to : (s : List ℕ) (i : ℕ) → i ≤ length s → comment_end s i ≤ length s
unfolding comment_end
comment_to s i h =
    let k = run_end in_comment s (i + 2) in
    by_cases (λ e. e ≤ length s) (opens s i) _ _
    (λ o. by_cases (λ e. e ≤ length s) (ltb k (length s)) _ _
    (λ l. let m = ltb-true k (length s) l in
    by_cases (λ e. e ≤ length s) (is_newline (get_or s k 0)) _ _ (λ n. omega (arith, m)) (λ n. omega (arith, closes s (i + 2) k refl m n)))
    (λ l. h))
    (λ o. h)

skip_from : (s : List ℕ) (n i : ℕ) → i ≤ skip s n i
unfolding skip
skip_from s zero i = omega arith
skip_from s (suc n) i =
    let j = run_end at_layout s i in
    let k = comment_end s j in
    let f = run_from at_layout s i j refl in
    by_cases (λ e. i ≤ e) (eqb k j) _ _ (λ q. f) (λ q. omega (arith, f, comment_from s j, skip_from s n k))

skip_to : (s : List ℕ) (n i : ℕ) → i ≤ length s → skip s n i ≤ length s
unfolding skip
skip_to s zero i h = h
skip_to s (suc n) i h =
    let j = run_end at_layout s i in
    let k = comment_end s j in
    let l = run_to at_layout s i j refl h in
    by_cases (λ e. e ≤ length s) (eqb k j) _ _ (λ q. l) (λ q. skip_to s n k (comment_to s j l))

-- ---- the token that starts at i

record Lies (s : List ℕ) (i : ℕ) (t : Token) : Type 0 where
  starts : t.start ≡ i
  forward : t.start ≤ t.end
  within : i ≤ length s → t.end ≤ length s
  filled : (t.kind ≡ 0 → ⊥) → (t.kind ≡ 4 → ⊥) → t.start < t.end

none_lies : (s : List ℕ) (i : ℕ) → Lies s i (token no_token i i)
none_lies s i = record { starts = refl; forward = omega arith; within = λ h. h; filled = λ a b. absurd (b refl) }

equals_lies : (s : List ℕ) (i : ℕ) → i < length s → Lies s i (equals_at s i)
unfolding equals_at is_in
equals_lies s i l =
    let j = run_end at_equals s i in
    let f = run_from at_equals s i j refl in
    by_cases (Lies s i) _ _ _
    (λ e. let m = here (is_in (bytes ">\n")) s j refl (and_second (ltb (i + 1) j) _ e) in
    record { starts = refl; forward = omega (arith, f); within = λ h. omega (arith, m); filled = λ a b. omega (arith, f) })
    (λ e. record { starts = refl; forward = omega arith; within = λ h. omega arith; filled = λ a b. omega arith })

word_filled : (s : List ℕ) (i : ℕ) → i < length s → is_word (get_or s i 0) ≡ true → i < run_end at_word s i
unfolding is_word pick
word_filled s i l w =
    let none : run_end at_hyphen s i ≡ i = run_stop at_hyphen s i l (rw front (differs is_word (get_or s i 0) 45 w refl)) in
    omega (arith, word_on s i i (get_or s i 0) (sym none) refl w, run_from at_word s (i + 1) (run_end at_word s (i + 1)) refl)

word_lies : (s : List ℕ) (i : ℕ) → i < length s → is_word (get_or s i 0) ≡ true → Lies s i (word_at s i)
unfolding word_at
word_lies s i l w =
    let e = run_end at_word s i in
    record { starts = refl; forward = run_from at_word s i e refl; within = run_to at_word s i e refl; filled = λ a b. word_filled s i l w }

-- a run of symbols has its first
symbols_lies : (s : List ℕ) (i : ℕ) → i < length s → is_symbol (get_or s i 0) ≡ true → Lies s i (symbols_at s i)
unfolding symbols_at
symbols_lies s i l m =
    let e = run_end at_symbol s i in
    let f = run_from at_symbol s (i + 1) (run_end at_symbol s (i + 1)) refl in
    let more : i < e = omega (arith, run_on at_symbol s i l (rw front m), f) in
    record { starts = refl; forward = run_from at_symbol s i e refl; within = run_to at_symbol s i e refl; filled = λ a b. more }

-- the second dot is within the text
dotted_lies : (s : List ℕ) (i : ℕ) → Lies s i (dotted_at s i)
unfolding dotted_at word_at
dotted_lies s i =
    let e = run_end at_word s (i + 1) in
    let f = run_from at_word s (i + 1) e refl in
    by_cases (Lies s i) _ _ _
    (λ d. let m = here (λ b. eqb b 46) s e refl (and_second (is_word (get_or s (i + 1) 0) && eqb (word_kind (slice s (i + 1) e)) 1) _ d) in
    record { starts = refl; forward = omega (arith, f); within = λ h. omega (arith, m); filled = λ a b. omega (arith, f) })
    (λ d. none_lies s i)

start_lies : (s : List ℕ) (i : ℕ) → Lies s i (start_at s i)
unfolding start_at
start_lies s i =
    by_cases (Lies s i) (ltb i (length s)) _ _
    (λ h. let l = ltb-true i (length s) h in
    by_cases (Lies s i) (is_mark (get_or s i 0)) _ _ (λ m. record { starts = refl; forward = omega arith; within = λ h. omega (arith, l); filled = λ a b. omega arith })
    (λ m. by_cases (Lies s i) (is_word (get_or s i 0)) _ _ (λ w. word_lies s i l w)
    (λ w. by_cases (Lies s i) (eqb (get_or s i 0) 61) _ _ (λ q. equals_lies s i l)
    (λ q. by_cases (Lies s i) _ _ _
    (λ a. let m = here (λ b. eqb b 62) s (i + 1) refl (and_second (eqb (get_or s i 0) 45) _ a) in
    record { starts = refl; forward = omega arith; within = λ h. omega (arith, m); filled = λ a b. omega arith })
    (λ a. by_cases (Lies s i) _ _ _ (λ o. symbols_lies s i l (and_first (is_symbol (get_or s i 0)) _ o))
    (λ o. by_cases (Lies s i) (eqb (get_or s i 0) 46) _ _ (λ d. dotted_lies s i) (λ d. none_lies s i)))))))
    (λ h. record { starts = refl; forward = omega arith; within = λ h. h; filled = λ a b. absurd (a refl) })

-- ---- the token at or after a place

module _ (s : List ℕ) (i : ℕ) (t : Token) (e : t ≡ token_at s i) where
  lies : Lies s (skip s (length s) i) t
  unfolding token_at
  lies = rw e (start_lies s (skip s (length s) i))

  pub token_after : i ≤ t.start
  token_after = omega (arith, lies.starts, skip_from s (length s) i)

  pub token_forward : t.start ≤ t.end
  token_forward = lies.forward

  pub token_within : i ≤ length s → t.end ≤ length s
  token_within h = lies.within (skip_to s (length s) i h)

  pub token_filled : (t.kind ≡ 0 → ⊥) → (t.kind ≡ 4 → ⊥) → t.start < t.end
  token_filled a b = lies.filled a b
