-- Laws of digits, one for each way through the code that finds the first of them and writes them.
use mathlib.Core.Path.{◌≡◌, refl, sym, ap, ◌∙◌}
use mathlib.Core.Bool.{Bool, true, false}
use mathlib.Core.List.{List, [], ◌∷◌, ◌++◌}
use Prim.Native.Nat.{ℕ, zero, suc, ◌+◌, ◌-◌, ◌*◌, ◌/◌, ◌%◌, ◌^◌, ◌<◌, ◌≤◌}
use native.Mathlib.Nat.{pow-succ', one-le-pow, div-one, mul-one, mul_assoc, mul-div_cancel_left, div-div-eq-div-mul, div-lt_iff_lt-mul, le-div_iff_mul-le}
use native.Mathlib.Numerals.{sub-one}
use native.Mathlib.Omega.{arith}
use borrow.Author.Tests.{lt-ltb, le-ltb, ltb-true}
use lib.Dec.{ltb}
use lib.ListN.{length}
use Rattle.meaning.specs.Lists.{pick}
use Rattle.meaning.specs.Written.{digits}
use Rattle.list_pen.specs.Pen.{Pen, pen, written, first_power}

-- ---- the power of the first digit

-- a loop that multiplies p by ten, so many times already
pub record Raising (n behind p done : ℕ) : Type 0 where
  pub some : 0 < p
  pub comes : first_power behind n ≡ p * first_power (behind - done) (n / p)

module _ (n behind p done : ℕ) (v : Raising n behind p done) where
  pub raise_again : done < behind → p ≤ n / 10 → Raising n behind (p * 10) (done + 1)
  unfolding first_power pick
  raise_again z h =
      let left : behind - done ≡ suc (behind - (done + 1)) = omega arith in
      record { some = let s = v.some in omega arith; comes = v.comes ∙ rw left (go (behind - (done + 1))) }
    where
      go : (left : ℕ) → p * first_power (suc left) (n / p) ≡ p * 10 * first_power left (n / (p * 10))
      go left =
          rw (le-ltb (n / p) 10 ((le-div_iff_mul-le v.some).1 (omega arith)), ← div-div-eq-div-mul n p 10)
          (sym (mul_assoc p 10 (first_power left (n / p / 10))))

  pub raise_stop : n / 10 < p → p ≡ first_power behind n
  unfolding first_power pick
  raise_stop h = sym (v.comes ∙ go (behind - done))
    where
      go : (left : ℕ) → p * first_power left (n / p) ≡ p
      go zero = mul-one p
      go (suc left) = rw (lt-ltb (n / p) 10 ((div-lt_iff_lt-mul v.some).1 (omega arith))) (mul-one p)

  pub raise_end : behind ≤ done → p ≡ first_power behind n
  unfolding first_power
  raise_end h =
      let none : behind - done ≡ 0 = omega arith in
      sym (v.comes ∙ rw none (mul-one p))

-- ---- the digits from there on

-- the digits of the k lowest places, the highest first
pub places : ℕ → ℕ → List ℕ
places zero n = []
places (suc k) n = (48 + n / 10 ^ k % 10) ∷ places k n

-- the power of the first of them
pub tens : ℕ → ℕ
tens zero = 0
tens (suc k) = 10 ^ k

tens_tenth : (k : ℕ) → tens (suc k) / 10 ≡ tens k
unfolding tens
tens_tenth zero = refl
tens_tenth (suc k) = ap (λ (m : ℕ). m / 10) (pow-succ' 10 k) ∙ mul-div_cancel_left (10 ^ k) (omega arith)

-- the last digit of n stands behind those of n / 10
places_last : (k n : ℕ) → places k (n / 10) ++ ((48 + n % 10) ∷ []) ≡ places (suc k) n
unfolding places
places_last zero n = ap (λ (m : ℕ). (48 + m % 10) ∷ []) (sym (div-one n))
places_last (suc k) n = rw (places_last k n, div-div-eq-div-mul n 10 (10 ^ k), ← pow-succ' 10 k)

-- those that are written, at least one: how many stand behind the first
record Found (behind n : ℕ) : Type 0 where
  count : ℕ
  power : first_power behind n ≡ 10 ^ count
  all : digits (suc behind) n ≡ places (suc count) n

only : (n : ℕ) → n < 10 → (48 + n) ∷ [] ≡ places 1 n
unfolding places
only n h = ap (λ (m : ℕ). (48 + m) ∷ []) (omega arith ∙ ap (λ (m : ℕ). m % 10) (sym (div-one n)))

found : (behind n : ℕ) → Found behind n
unfolding first_power digits pick places
found zero n = go (ltb n 10) refl
  where
    go : (t : Bool) → ltb n 10 ≡ t → Found zero n
    go true e = record { count = 0; power = refl; all = rw e (only n (ltb-true n 10 e)) }
    go false e = record { count = 0; power = refl; all = rw e (places_last zero n) }
found (suc behind) n = go (ltb n 10) refl (found behind (n / 10))
  where
    go : (t : Bool) → ltb n 10 ≡ t → Found behind (n / 10) → Found (suc behind) n
    go true e f = record { count = 0; power = rw e; all = rw e (only n (ltb-true n 10 e)) }
    go false e f =
        record {
          count = suc f.count;
          power = rw (e, f.power) (sym (pow-succ' 10 f.count));
          all = rw e (ap (λ (xs : List ℕ). xs ++ ((48 + n % 10) ∷ [])) f.all ∙ places_last (suc f.count) n);
        }

-- a loop that writes the digits of n: it is at the power p, the next place is t, the list is o
pub record Placing (l n size at : ℕ) (o₀ : List ℕ) (p t : ℕ) (o : List ℕ) : Type 0 where
  pub sized : length o ≡ length o₀
  pub count : ℕ
  pub power : p ≡ tens count
  pub comes : written l (digits size n) (pen at o₀) ≡ written l (places count n) (pen t o)

pub place_none : (l n size : ℕ) (p : Pen) → size ≡ 0 → p ≡ written l (digits size n) p
unfolding written digits
place_none l n size p z = rw z

pub place_start : (l n size at : ℕ) (o : List ℕ) (p : ℕ) → (size ≡ 0 → ⊥) → p ≡ first_power (size - 1) n → Placing l n size at o p at o
unfolding tens
place_start l n zero at o p z e = absurd (z refl)
place_start l n (suc size) at o p z e =
    let f = found size n in
    record { sized = refl; count = suc f.count; power = rw sub-one at e ∙ f.power; comes = ap (λ (xs : List ℕ). written l xs (pen at o)) f.all }

module _ (l n size at : ℕ) (o₀ : List ℕ) (p t : ℕ) (o : List ℕ) (v : Placing l n size at o₀ p t o) where
  abbrev Left : ℕ → Type 0
  Left c = written l (digits size n) (pen at o₀) ≡ written l (places c n) (pen t o)

  pub place_again : (r : ℕ) (o' : List ℕ) → 0 < p → length o' ≡ length o → pen r o' ≡ written l ((48 + n / p % 10) ∷ []) (pen t o)
      → Placing l n size at o₀ (p / 10) r o'
  unfolding written places tens
  place_again r o' z k e = go v.count v.power v.comes
    where
      go : (c : ℕ) → p ≡ tens c → Left c → Placing l n size at o₀ (p / 10) r o'
      go zero f g = absurd (omega arith)
      go (suc c) f g =
          record { sized = k ∙ v.sized; count = c; power = ap (λ (m : ℕ). m / 10) f ∙ tens_tenth c; comes = g ∙ rw (← f, e) }

  pub place_end : p ≤ 0 → pen t o ≡ written l (digits size n) (pen at o₀)
  unfolding written places tens
  place_end h = go v.count v.power v.comes
    where
      go : (c : ℕ) → p ≡ tens c → Left c → pen t o ≡ written l (digits size n) (pen at o₀)
      go zero f g = sym g
      go (suc c) f g = let some : 1 ≤ 10 ^ c = one-le-pow c 10 (omega arith) in absurd (omega arith)
