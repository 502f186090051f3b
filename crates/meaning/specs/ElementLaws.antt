-- A name is told from its elements, and these from what is compared of them: only the same bytes are level in the order of names.
use Rattle.std.specs.Prelude.{◌≡◌, refl, Bool, true, false, ◌&&◌, List, [], ◌∷◌, ℕ, ◌+◌, ◌-◌, ◌*◌, ◌^◌, ◌<◌, ◌≤◌, leb, ltb}
use Rattle.std.proofs.Common.{sym, ap, ap₂, subst, ◌∙◌, arith, mul-le-mul_right, mul_comm, add-mul, one-mul, pow-suc, add-one, leb-true, ltb-true, ltb-false}
use Rattle.std.proofs.lemmas.Bool.{false≢true}
use Rattle.meaning.specs.Lists.{pick}
use Rattle.meaning.specs.Names.{Name, Element, run, other, is_digit, led_by, elements, weights}

-- what is compared tells the elements
pub weights_told : (es fs : List Element) → weights es ≡ weights fs → es ≡ fs
unfolding weights
weights_told [] [] e = refl
weights_told [] (run m j ∷ fs) e = let z : ◌≡◌ {A = ℕ} 0 1 = cc in absurd (omega arith)
weights_told [] (other c ∷ fs) e = let z : ◌≡◌ {A = ℕ} 0 1 = cc in absurd (omega arith)
weights_told (run n k ∷ es) [] e = let z : ◌≡◌ {A = ℕ} 0 1 = cc in absurd (omega arith)
weights_told (other b ∷ es) [] e = let z : ◌≡◌ {A = ℕ} 0 1 = cc in absurd (omega arith)
weights_told (run n k ∷ es) (other c ∷ fs) e = let z : ◌≡◌ {A = ℕ} 0 1 = cc in absurd (omega arith)
weights_told (other b ∷ es) (run m j ∷ fs) e = let z : ◌≡◌ {A = ℕ} 1 0 = cc in absurd (omega arith)
weights_told (run n k ∷ es) (run m j ∷ fs) e =
    let number : n ≡ m = cc in
    let size : k ≡ j = cc in
    let rest : weights es ≡ weights fs = cc in
    rw (number, size) (ap (run m j ∷◌) (weights_told es fs rest))
weights_told (other b ∷ es) (other c ∷ fs) e =
    let byte : b ≡ c = cc in
    let rest : weights es ≡ weights fs = cc in
    rw byte (ap (other c ∷◌) (weights_told es fs rest))

-- ---- digits

pub digit_low : (b : ℕ) → is_digit b ≡ true → 48 ≤ b
unfolding is_digit
digit_low b e = go (leb 48 b) refl e
  where
    go : (p : Bool) → leb 48 b ≡ p → (p && leb b 57) ≡ true → 48 ≤ b
    go true f e = leb-true 48 b f
    go false f e = absurd (false≢true e)

pub digit_high : (b : ℕ) → is_digit b ≡ true → b - 48 < 10
unfolding is_digit
digit_high b e = go (leb 48 b) refl e
  where
    go : (p : Bool) → leb 48 b ≡ p → (p && leb b 57) ≡ true → b - 48 < 10
    go true f e = omega (arith, leb-true b 57 e)
    go false f e = absurd (false≢true e)

-- a number below a power of ten, led by a digit
module _ (p d e n m : ℕ) (hn : n < p) (hm : m < p) (eq : d * p + n ≡ e * p + m) where
  no_less : d < e → ⊥
  no_less h = omega (arith, hn, eq, mul-le-mul_right {m = d + 1} {n = e} p (omega (arith, h)), add-mul d 1 p, one-mul p)

  no_more : e < d → ⊥
  no_more h = omega (arith, hm, eq, mul-le-mul_right {m = e + 1} {n = d} p (omega (arith, h)), add-mul e 1 p, one-mul p)

  leads_told : d ≡ e
  leads_told = go (ltb d e) (ltb e d) refl refl
    where
      go : (x y : Bool) → ltb d e ≡ x → ltb e d ≡ y → d ≡ e
      go true y f g = absurd (no_less (ltb-true d e f))
      go false true f g = absurd (no_more (ltb-true e d g))
      go false false f g = omega (arith, ltb-false d e f, ltb-false e d g)

  rests_told : n ≡ m
  rests_told = omega (arith, eq, ap (λ (x : ℕ). x * p) leads_told)

-- ---- runs are below the power of ten of their size, and have a digit

abbrev pub Whole : List Element → Type 0
Whole [] = Unit {0}
Whole (run n k ∷ es) = (n < 10 ^ k) × (1 ≤ k)
Whole (other b ∷ es) = Unit {0}

led_whole : (d : ℕ) → d < 10 → (es : List Element) → Whole es → Whole (led_by d es)
unfolding led_by
led_whole d h [] g = (omega (arith, h), omega arith)
led_whole d h (run n k ∷ es) g =
    let power : 10 ^ (k + 1) ≡ 10 ^ k * 10 = ap (λ (j : ℕ). 10 ^ j) (add-one k) ∙ pow-suc 10 k in
    let most = mul-le-mul_right {m = d + 1} {n = 10} (10 ^ k) (omega (arith, h)) in
    (omega (arith, g.0, power, most, add-mul d 1 (10 ^ k), one-mul (10 ^ k), mul_comm 10 (10 ^ k)), omega arith)
led_whole d h (other b ∷ es) g = (omega (arith, h), omega arith)

pub elements_whole : (w : Name) → Whole (elements w)
unfolding elements pick
elements_whole [] = tt
elements_whole (b ∷ bs) = go (is_digit b) refl (elements_whole bs)
  where
    go : (t : Bool) → is_digit b ≡ t → Whole (elements bs) → Whole (pick t (led_by (b - 48) (elements bs)) (other b ∷ elements bs))
    go true e h = led_whole (b - 48) (digit_high b e) (elements bs) h
    go false e h = tt

-- a digit in front tells itself and what it leads
led_told : (d e : ℕ) (es fs : List Element) → Whole es → Whole fs → led_by d es ≡ led_by e fs → (d ≡ e) × (es ≡ fs)
unfolding led_by
led_told d e [] [] g h q = (cc, refl)
led_told d e [] (run m j ∷ fs) g h q = let size : 1 ≡ j + 1 = cc in absurd (omega (arith, size, h.1))
led_told d e [] (other c ∷ fs) g h q = let z : ◌≡◌ {A = ℕ} 0 1 = cc in absurd (omega arith)
led_told d e (run n k ∷ es) [] g h q = let size : k + 1 ≡ 1 = cc in absurd (omega (arith, size, g.1))
led_told d e (run n k ∷ es) (run m j ∷ fs) g h q =
    let size : k + 1 ≡ j + 1 = cc in
    let same : k ≡ j = omega (arith, size) in
    let number : d * 10 ^ k + n ≡ e * 10 ^ j + m = cc in
    let rest : es ≡ fs = cc in
    let back : 10 ^ j ≡ 10 ^ k = ap (λ (i : ℕ). 10 ^ i) (sym same) in
    let level : d * 10 ^ k + n ≡ e * 10 ^ k + m = number ∙ ap (λ (i : ℕ). e * i + m) back in
    let below : m < 10 ^ k = subst (λ (i : ℕ). m < i) back h.0 in
    (leads_told (10 ^ k) d e n m g.0 below level, rw (rests_told (10 ^ k) d e n m g.0 below level, same, rest))
led_told d e (run n k ∷ es) (other c ∷ fs) g h q = let size : k + 1 ≡ 1 = cc in absurd (omega (arith, size, g.1))
led_told d e (other b ∷ es) [] g h q = let z : ◌≡◌ {A = ℕ} 0 1 = cc in absurd (omega arith)
led_told d e (other b ∷ es) (run m j ∷ fs) g h q = let size : 1 ≡ j + 1 = cc in absurd (omega (arith, size, h.1))
led_told d e (other b ∷ es) (other c ∷ fs) g h q = (cc, cc)

led_run : (d c : ℕ) (es fs : List Element) → led_by d es ≡ other c ∷ fs → ⊥
unfolding led_by
led_run d c [] fs q = let z : ◌≡◌ {A = ℕ} 0 1 = cc in omega arith
led_run d c (run n k ∷ es) fs q = let z : ◌≡◌ {A = ℕ} 0 1 = cc in omega arith
led_run d c (other b ∷ es) fs q = let z : ◌≡◌ {A = ℕ} 0 1 = cc in omega arith

led_some : (d : ℕ) (es : List Element) → led_by d es ≡ [] → ⊥
unfolding led_by
led_some d [] q = let z : ◌≡◌ {A = ℕ} 0 1 = cc in omega arith
led_some d (run n k ∷ es) q = let z : ◌≡◌ {A = ℕ} 0 1 = cc in omega arith
led_some d (other b ∷ es) q = let z : ◌≡◌ {A = ℕ} 0 1 = cc in omega arith

-- the elements tell the name
pub name_told : (v w : Name) → elements v ≡ elements w → v ≡ w
unfolding elements pick
name_told [] [] q = refl
name_told [] (c ∷ w) q = absurd (go (is_digit c) (sym q))
  where
    go : (t : Bool) → pick t (led_by (c - 48) (elements w)) (other c ∷ elements w) ≡ [] → ⊥
    go true h = led_some (c - 48) (elements w) h
    go false h = let z : ◌≡◌ {A = ℕ} 0 1 = cc in omega arith
name_told (b ∷ v) [] q = absurd (go (is_digit b) q)
  where
    go : (t : Bool) → pick t (led_by (b - 48) (elements v)) (other b ∷ elements v) ≡ [] → ⊥
    go true h = led_some (b - 48) (elements v) h
    go false h = let z : ◌≡◌ {A = ℕ} 0 1 = cc in omega arith
name_told (b ∷ v) (c ∷ w) q = go (is_digit b) (is_digit c) refl refl q (name_told v w)
  where
    go : (t u : Bool) → is_digit b ≡ t → is_digit c ≡ u
        → pick t (led_by (b - 48) (elements v)) (other b ∷ elements v) ≡ pick u (led_by (c - 48) (elements w)) (other c ∷ elements w)
        → (elements v ≡ elements w → v ≡ w) → b ∷ v ≡ c ∷ w
    go true true e f h rest =
        let r = led_told (b - 48) (c - 48) (elements v) (elements w) (elements_whole v) (elements_whole w) h in
        ap₂ ◌∷◌ (omega (arith, r.0, digit_low b e, digit_low c f)) (rest r.1)
    go true false e f h rest = absurd (led_run (b - 48) c (elements v) (elements w) h)
    go false true e f h rest = absurd (led_run (c - 48) b (elements w) (elements v) (sym h))
    go false false e f h rest =
        let byte : b ≡ c = cc in
        let more : elements v ≡ elements w = cc in
        ap₂ ◌∷◌ byte (rest more)
