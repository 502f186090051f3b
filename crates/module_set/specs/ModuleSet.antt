-- Sets of modules, and the set that a mask stands for: module k is in it where binary digit k of the mask is 1.
use Rattle.std.specs.Prelude.{◌≡◌, refl, Bool, true, false, ℕ, zero, suc, ◌+◌, ◌/◌, ◌%◌, ◌^◌, ◌<◌, eqb, ltb}
use Rattle.std.proofs.Common.{sym, ap, arith, pow-suc, div-one, one-add, lt-ltb, shr-shr}
use Rattle.std.proofs.lemmas.Bool.{false≢true}
use Rattle.meaning.specs.Lists.{pick}
use Rattle.meaning.specs.Numbers.{module_limit}

-- a mask has 64 digits, as a text has at most 64 modules: no other module is in a set
unfoldable pub holds : ℕ → ℕ → Bool
holds mask k = pick (ltb k module_limit) (eqb (mask / 2 ^ k % 2) 1) false

-- no module
unfoldable pub nothing : ℕ → Bool
nothing j = false

-- the modules of a set, and module k
unfoldable pub added : ℕ → (ℕ → Bool) → ℕ → Bool
added k set j = pick (pick (eqb j k) (ltb k module_limit) false) true (set j)

-- the modules of both sets
unfoldable pub either : (ℕ → Bool) → (ℕ → Bool) → ℕ → Bool
either a b j = pick (a j) true (b j)

-- how many of the first n modules are in a set
unfoldable pub counted : (ℕ → Bool) → ℕ → ℕ
counted set zero = 0
counted set (suc n) = pick (set n) 1 0 + counted set n

-- ---- a mask is fixed by the modules that it holds

digits_fix : (n a b : ℕ) → a < 2 ^ n → b < 2 ^ n → ((j : ℕ) → j < n → a / 2 ^ j % 2 ≡ b / 2 ^ j % 2) → a ≡ b
digits_fix zero a b h l e = omega arith
digits_fix (suc n) a b h l e =
    let lowest : a % 2 ≡ b % 2 = rw (div-one a, div-one b) at (e 0 (omega arith)) in
    let more : (x : ℕ) → x < 2 ^ suc n → x / 2 < 2 ^ n = λ x k. omega (arith, rw (pow-suc 2 n) at k) in
    let next : (j : ℕ) → j < n → a / 2 / 2 ^ j % 2 ≡ b / 2 / 2 ^ j % 2 = λ j k. rw (shr-shr a 1 j, shr-shr b 1 j, one-add j) (e (suc j) (omega arith)) in
    let others : a / 2 ≡ b / 2 = digits_fix n (a / 2) (b / 2) (more a h) (more b l) next in
    omega arith

-- a digit is fixed by whether it is 1
digit_fix : (x y : ℕ) → x < 2 → y < 2 → eqb x 1 ≡ eqb y 1 → x ≡ y
digit_fix zero zero h l e = refl
digit_fix zero (suc zero) h l e = absurd (false≢true e)
digit_fix (suc zero) zero h l e = absurd (false≢true (sym e))
digit_fix (suc zero) (suc zero) h l e = refl
digit_fix zero (suc (suc y)) h l e = absurd (omega arith)
digit_fix (suc zero) (suc (suc y)) h l e = absurd (omega arith)
digit_fix (suc (suc x)) y h l e = absurd (omega arith)

pub mask_fixed : (a b : ℕ) → a < 2 ^ 64 → b < 2 ^ 64 → holds a ≡ holds b → a ≡ b
unfolding holds pick
mask_fixed a b h l e =
    digits_fix 64 a b h l
    (λ j k. digit_fix (a / 2 ^ j % 2) (b / 2 ^ j % 2) (omega arith) (omega arith) (rw (lt-ltb j 64 k) at (ap (λ (s : ℕ → Bool). s j) e)))
