-- The cases of the definitions, one for each way through the code, in the code's terms: b is a byte that was read, r and k are callees' answers.
use mathlib.Core.Path.{◌≡◌, refl, sym, ◌∙◌}
use mathlib.Core.Bool.{Bool, true, false, ◌&&◌, false≢true}
use mathlib.Core.List.{List}
use Prim.Native.Nat.{ℕ, zero, suc, ◌+◌, ◌-◌, ◌*◌, ◌^◌, ◌<◌, ◌≤◌}
use native.Mathlib.Omega.{arith}
use lib.Dec.{eqb, ltb}
use lib.ListN.{length, get_or, drop, drop_of_length-le, get_or-eq_default}
use native.Mathlib.Nat.{not-suc-le-zero}
use native.Mathlib.Numerals.{add-one, sub-one}
use lib.Seq.{drop-cons}
use borrow.Author.Tests.{eq-eqb, ne_eqb, lt-ltb, le-ltb, ltb-true, ltb-false}
use Rattle.meaning.specs.Lists.{pick}
use Rattle.meaning.specs.Tokens.{is_in, is_layout, is_newline}
use Rattle.meaning.specs.Tokens.{run_end, at_layout, at_dashes, in_comment}
use Rattle.meaning.specs.Tokens.{opens, comment_end, skip, comment_sign}
use mir.Syntax.{w64}
use mir.Val.{Fits}
use Rattle.text_names.proofs.Runs.{front, second}
use Rattle.text_marks.specs.Hyphens.{hyphen_before}

-- a byte among others
pub in_hit : (s : List ℕ) (i b : ℕ) → i < length s → b ≡ get_or s i 0 → is_in (drop i s) b ≡ true
unfolding is_in
in_hit s i b h e = rw (drop-cons s i 0, eq-eqb b (get_or s i 0) e)

pub in_miss : (s : List ℕ) (i b : ℕ) → i < length s → (b ≡ get_or s i 0 → ⊥) → is_in (drop i s) b ≡ is_in (drop (i + 1) s) b
unfolding is_in
in_miss s i b h e = rw (drop-cons s i 0, ne_eqb b (get_or s i 0) e, add-one)

pub in_end : (s : List ℕ) (i b : ℕ) → length s ≤ i → is_in (drop i s) b ≡ false
unfolding is_in
in_end s i b h = rw drop_of_length-le

-- a hyphen before another byte b; n is the byte that follows
module _ (s : List ℕ) (i b : ℕ) where
  pub hyphen_there : (n : ℕ) → get_or s i 0 ≡ 45 → n ≡ get_or s (i + 1) 0 → eqb n b ≡ hyphen_before s i b
  unfolding hyphen_before
  hyphen_there n h e = rw (h, e)

  pub hyphen_not : (get_or s i 0 ≡ 45 → ⊥) → false ≡ hyphen_before s i b
  unfolding hyphen_before
  hyphen_not h = rw (ne_eqb (get_or s i 0) 45 h)

  pub hyphen_end : length s ≤ i → false ≡ hyphen_before s i b
  unfolding hyphen_before
  hyphen_end h = rw (get_or-eq_default s 0 h)

pub dashes_law : (s : List ℕ) (i : ℕ) (r : Bool) → r ≡ hyphen_before s i 45 → r ≡ at_dashes (drop i s)
unfolding hyphen_before at_dashes
dashes_law s i r e = rw (front, second) e

-- the inside of a comment
pub inside_line : (s : List ℕ) (i b : ℕ) → b ≡ get_or s i 0 → is_newline b ≡ true → false ≡ in_comment (drop i s)
inside_line s i b e n = rw (front, ← e, n)

pub inside_pair : (s : List ℕ) (i b : ℕ) → b ≡ get_or s i 0 → is_newline b ≡ false → at_dashes (drop i s) ≡ true → false ≡ in_comment (drop i s)
inside_pair s i b e n d = rw (front, ← e, n, d)

pub inside_on : (s : List ℕ) (i b : ℕ) → b ≡ get_or s i 0 → is_newline b ≡ false → at_dashes (drop i s) ≡ false → true ≡ in_comment (drop i s)
inside_on s i b e n d = rw (front, ← e, n, d)

-- the opening of a comment
pub before_first : (s : List ℕ) (i : ℕ) → i ≤ 0 → 0 ≡ pick (ltb 0 i) (get_or s (i - 1) 0) 0
unfolding pick
before_first s i h = rw (le-ltb 0 i h)

pub before_other : (s : List ℕ) (i b : ℕ) → 0 < i → b ≡ get_or s (i - 1) 0 → b ≡ pick (ltb 0 i) (get_or s (i - 1) 0) 0
unfolding pick
before_other s i b h e = rw (lt-ltb 0 i h) e

opens_by : (s : List ℕ) (i b : ℕ) → b ≡ pick (ltb 0 i) (get_or s (i - 1) 0) 0 → opens s i ≡ (is_layout b && at_dashes (drop i s))
unfolding opens is_in pick
opens_by s i b e = rw e (go (ltb 0 i))
  where
    go : (t : Bool) → (t && is_layout (get_or s (i - 1) 0) && at_dashes (drop i s)) ≡ (is_layout (pick t (get_or s (i - 1) 0) 0) && at_dashes (drop i s))
    go true = refl
    go false = refl

pub opens_after : (s : List ℕ) (i b : ℕ) (r : Bool) → b ≡ pick (ltb 0 i) (get_or s (i - 1) 0) 0 → is_layout b ≡ true → r ≡ at_dashes (drop i s) → r ≡ opens s i
opens_after s i b r e l q = rw (opens_by s i b e, l) q

pub opens_not : (s : List ℕ) (i b : ℕ) → b ≡ pick (ltb 0 i) (get_or s (i - 1) 0) 0 → is_layout b ≡ false → false ≡ opens s i
opens_not s i b e l = rw (opens_by s i b e, l)

-- a comment
pub comment_line : (s : List ℕ) (i k : ℕ) → opens s i ≡ true → k ≡ run_end in_comment s (i + 2) → k < length s → is_newline (get_or s k 0) ≡ true → k ≡ comment_end s i
unfolding comment_end pick
comment_line s i k o e l n = rw (o, ← e, lt-ltb k (length s) l, n)

pub comment_pair : (s : List ℕ) (i k : ℕ) → opens s i ≡ true → k ≡ run_end in_comment s (i + 2) → k < length s → is_newline (get_or s k 0) ≡ false → k + 2 ≡ comment_end s i
unfolding comment_end pick
comment_pair s i k o e l n = rw (o, ← e, lt-ltb k (length s) l, n)

pub comment_open : (s : List ℕ) (i k : ℕ) → opens s i ≡ true → k ≡ run_end in_comment s (i + 2) → length s ≤ k → i ≡ comment_end s i
unfolding comment_end pick
comment_open s i k o e l = rw (o, ← e, le-ltb k (length s) l)

pub comment_none : (s : List ℕ) (i : ℕ) → opens s i ≡ false → i ≡ comment_end s i
unfolding comment_end pick
comment_none s i o = rw o

-- a comment opens within the text
and_false : (b : Bool) → (b && false) ≡ false
and_false true = refl
and_false false = refl

beyond : (s : List ℕ) (i : ℕ) → length s ≤ i → opens s i ≡ false
unfolding opens
beyond s i g = rw (← dashes_law s i false (hyphen_end s i 45 g), and_false)

opens_within : (s : List ℕ) (i : ℕ) → opens s i ≡ true → i < length s
opens_within s i o = go (ltb i (length s)) refl
  where
    go : (b : Bool) → ltb i (length s) ≡ b → i < length s
    go true e = ltb-true i (length s) e
    go false e = absurd (false≢true (sym (beyond s i (ltb-false i (length s) e)) ∙ o))

pub opens_fits : (r : Bool) (s : List ℕ) (i : ℕ) → r ≡ opens s i → r ≡ true → length s * 1 < 2 ^ 63 → Fits w64 (i + 2)
opens_fits r s i e t l = omega (arith, opens_within s i (sym e ∙ t))

-- layout and comments: n is positive where a turn begins
pub skip_stop : (s : List ℕ) (n i j k : ℕ) → j ≡ run_end at_layout s i → k ≡ comment_end s j → 0 < n → k ≡ j → skip s n i ≡ j
unfolding skip pick
skip_stop s zero i j k a b p e = absurd (not-suc-le-zero p)
skip_stop s (suc n) i j k a b p e = rw (← a, ← b, eq-eqb k j e)

pub skip_on : (s : List ℕ) (n i j k : ℕ) → j ≡ run_end at_layout s i → k ≡ comment_end s j → 0 < n → (k ≡ j → ⊥) → skip s n i ≡ skip s (n - 1) k
unfolding skip pick
skip_on s zero i j k a b p e = absurd (not-suc-le-zero p)
skip_on s (suc n) i j k a b p e = rw (← a, ← b, ne_eqb k j e, sub-one)

pub skip_out : (s : List ℕ) (n i : ℕ) → n ≤ 0 → skip s n i ≡ i
unfolding skip pick
skip_out s zero i p = refl
skip_out s (suc n) i p = absurd (not-suc-le-zero p)

-- a comment's sign: before is the byte before i
module _ (s : List ℕ) (i : ℕ) where
  pub sign_none : at_dashes (drop i s) ≡ false → false ≡ comment_sign s i
  unfolding comment_sign
  sign_none d = rw d

  module _ (d : at_dashes (drop i s) ≡ true) where
    pub sign_first : i ≡ 0 → true ≡ comment_sign s i
    unfolding comment_sign
    sign_first z = rw (d, eq-eqb i 0 z)

    module _ (before : ℕ) (z : i ≡ 0 → ⊥) (e : before ≡ get_or s (i - 1) 0) where
      pub sign_layout : is_layout before ≡ true → true ≡ comment_sign s i
      unfolding comment_sign
      sign_layout l = rw (d, ne_eqb i 0 z, ← e, l)

      pub sign_hyphen : is_layout before ≡ false → eqb before 45 ≡ comment_sign s i
      unfolding comment_sign
      sign_hyphen l = rw (d, ne_eqb i 0 z, ← e, l)
