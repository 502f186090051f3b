-- One law for each way through the code, in the code's terms.
use mathlib.Core.Path.{◌≡◌, refl, sym, ap, ap₂, ◌∙◌}
use mathlib.Core.Bool.{Bool, true, false}
use Prim.Native.Nat.{ℕ, zero, suc, ◌+◌, ◌-◌, ◌*◌, ◌/◌, ◌%◌, ◌^◌, ◌<◌, ◌≤◌, max}
use native.Mathlib.Omega.{arith}
use native.Mathlib.Nat.{pow-suc, mul-mod_left, div-eq_of_lt, one-mul, zero-div, mod-lt, mod-eq_of_lt, mod-one}
use native.Mathlib.Numerals.{one-add}
use borrow.Author.Rules.{rules}
use borrow.Author.Tests.{lt-ltb, le-ltb, eq-eqb, ne_eqb, ltb-true, ltb-false, eqb-true}
use lib.Dec.{eqb, ltb}
use lib.Pow.{pow-add, pow-lt, pow_pos, shl-shr, shl_exact, mod-pow-add}
use lib.Count.{ones, ones_cat}
use lib.Bits.{bit_or, bit_and, or_step, or_shr, and_mask}
use Rattle.meaning.specs.Lists.{pick}
use Rattle.module_set.specs.ModuleSet.{holds, nothing, added, either, counted}

-- either a is below b, or not
by_order : {A : Type 0} (a b : ℕ) → (a < b → A) → (b ≤ a → A) → A
by_order {A} a b f g = go (ltb a b) refl
  where
    go : (t : Bool) → ltb a b ≡ t → A
    go true e = f (ltb-true a b e)
    go false e = g (ltb-false a b e)

-- two binary digits
either_digit : (x y : ℕ) → x < 2 → y < 2 → eqb (max x y) 1 ≡ pick (eqb x 1) true (eqb y 1)
unfolding pick
either_digit zero zero h l = refl
either_digit zero (suc zero) h l = refl
either_digit (suc zero) zero h l = refl
either_digit (suc zero) (suc zero) h l = refl
either_digit zero (suc (suc y)) h l = absurd (omega arith)
either_digit (suc zero) (suc (suc y)) h l = absurd (omega arith)
either_digit (suc (suc x)) y h l = absurd (omega arith)

or_digit : (a b j : ℕ) → bit_or a b / 2 ^ j % 2 ≡ max (a / 2 ^ j % 2) (b / 2 ^ j % 2)
or_digit a b j =
    let x = a / 2 ^ j in
    let y = b / 2 ^ j in
    ap (λ (n : ℕ). n % 2) (or_shr a b j) ∙ omega (arith, or_step x y)

-- the one digit of a power
power_digit : (k j : ℕ) → eqb (2 ^ k / 2 ^ j % 2) 1 ≡ eqb j k
power_digit k j = by_order j k below (λ l. by_order k j above (same l))
  where
    below : j < k → eqb (2 ^ k / 2 ^ j % 2) 1 ≡ eqb j k
    below l =
        let d = k - j - 1 in
        let e : k ≡ suc d + j = omega arith in
        let q : 2 ^ k / 2 ^ j ≡ 2 ^ d * 2 = ap (λ (n : ℕ). 2 ^ n / 2 ^ j) e ∙ ap (λ (n : ℕ). n / 2 ^ j) (pow-add 2 (suc d) j) ∙ shl-shr (2 ^ suc d) j ∙ pow-suc 2 d in
        rw (q, mul-mod_left (2 ^ d) 2, ne_eqb j k (λ f. omega arith))

    above : k < j → eqb (2 ^ k / 2 ^ j % 2) 1 ≡ eqb j k
    above l = rw (div-eq_of_lt (pow-lt l), ne_eqb j k (λ f. omega arith))

    same : k ≤ j → j ≤ k → eqb (2 ^ k / 2 ^ j % 2) 1 ≡ eqb j k
    same l m =
        let e : j ≡ k = omega arith in
        let q : 2 ^ k / 2 ^ k ≡ 1 = ap (λ (n : ℕ). n / 2 ^ k) (sym (one-mul (2 ^ k))) ∙ shl-shr 1 k in
        rw (eq-eqb j k e, e, q)

pub empty_none : holds 0 ≡ nothing
unfolding holds nothing pick
empty_none = λ i j. none (ltb j 64) j i
  where
    none : (t : Bool) (j : ℕ) → pick t (eqb (0 / 2 ^ j % 2) 1) false ≡ false
    none true j = rw (zero-div (2 ^ j))
    none false j = refl

pub has_in : (set k : ℕ) → k < 64 → eqb (bit_and (set / 2 ^ k) 1) 1 ≡ holds set k
unfolding holds pick
has_in set k h = rw (lt-ltb k 64 h, and_mask (set / 2 ^ k) 1)

pub has_out : (set k : ℕ) → 64 ≤ k → false ≡ holds set k
unfolding holds pick
has_out set k h = rw (le-ltb k 64 h)

pub joined_both : (a b : ℕ) → holds (bit_or a b) ≡ either (holds a) (holds b)
unfolding holds either pick
joined_both a b = λ i j. go (ltb j 64) j i
  where
    go : (t : Bool) (j : ℕ) → pick t (eqb (bit_or a b / 2 ^ j % 2) 1) false ≡ pick (pick t (eqb (a / 2 ^ j % 2) 1) false) true (pick t (eqb (b / 2 ^ j % 2) 1) false)
    go true j = rw (or_digit a b j) (either_digit (a / 2 ^ j % 2) (b / 2 ^ j % 2) (omega arith) (omega arith))
    go false j = refl

module _ (set k : ℕ) where
  pub with_out : 64 ≤ k → holds set ≡ added k (holds set)
  unfolding added pick
  with_out h = λ i j. go (eqb j k) j i
    where
      go : (t : Bool) (j : ℕ) → holds set j ≡ pick (pick t (ltb k 64) false) true (holds set j)
      go true j = rw (le-ltb k 64 h)
      go false j = refl

  -- the mask that has module k alone
  alone : k < 64 → either (holds set) (holds (2 ^ k)) ≡ added k (holds set)
  unfolding either added holds pick
  alone h = λ i j. each j i
    where
      go : (t : Bool) (j : ℕ) → eqb j k ≡ t → (b : Bool) → pick b true (pick (ltb j 64) t false) ≡ pick (pick t (ltb k 64) false) true b
      go true j e true = rw (lt-ltb k 64 h)
      go true j e false = rw (eqb-true j k e, lt-ltb k 64 h)
      go false j e true = refl
      go false j e false = neither (ltb j 64)
        where
          neither : (t : Bool) → pick t false false ≡ false
          neither true = refl
          neither false = refl

      each : (j : ℕ) → either (holds set) (holds (2 ^ k)) j ≡ added k (holds set) j
      each j = rw (power_digit k j) (go (eqb j k) j refl (holds set j))

  pub with_in : k < 64 → holds (bit_or set ((1 * 2 ^ k) % 2 ^ 64)) ≡ added k (holds set)
  with_in h =
      let one : (1 * 2 ^ k) % 2 ^ 64 ≡ 2 ^ k = shl_exact 1 k 64 (omega arith) (omega arith) ∙ one-mul (2 ^ k) in
      ap (λ (m : ℕ). holds (bit_or set m)) one ∙ joined_both set (2 ^ k) ∙ alone h

-- ---- counting: the digits below place n that are 1

digit_counted : (d : ℕ) → d < 2 → ones d ≡ pick (eqb d 1) 1 0
unfolding ones pick
digit_counted zero h = refl
digit_counted (suc zero) h = refl
digit_counted (suc (suc d)) h = absurd (omega arith)

low_counted : (set n : ℕ) → n ≤ 64 → ones (set % 2 ^ n) ≡ counted (holds set) n
unfolding counted holds pick
low_counted set zero h = rw (mod-one set) (digit_counted 0 (omega arith))
low_counted set (suc n) h =
    let d = set / 2 ^ n % 2 in
    let r = set % 2 ^ n in
    let split : set % 2 ^ suc n ≡ d * 2 ^ n + r = ap (λ (i : ℕ). set % 2 ^ i) (sym (one-add n)) ∙ mod-pow-add set 1 n in
    let here : ones d ≡ pick (pick (ltb n 64) (eqb d 1) false) 1 0 = rw (lt-ltb n 64 (omega arith)) (digit_counted d (omega arith)) in
    ap ones split ∙ ones_cat n d r (mod-lt set (pow_pos n)) ∙ ap₂ (λ (i j : ℕ). i + j) here (low_counted set n (omega arith))

pub all_counted : (set : ℕ) → set < 2 ^ 64 → ones set ≡ counted (holds set) 64
all_counted set h = ap ones (sym (mod-eq_of_lt h)) ∙ low_counted set 64 (omega arith)

pub ruleset cases = (empty_none, has_in, has_out, with_in, with_out, joined_both, all_counted, rules)
