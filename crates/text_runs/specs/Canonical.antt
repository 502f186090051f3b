-- Runs without a zero in front of another digit: they go by how many digits they have and then byte by byte.
use Rattle.std.specs.Prelude.{◌≡◌, refl, Bool, true, false, List, [], ◌∷◌, ℕ, suc, ◌<◌, eqb, ltb, take}
use Rattle.std.proofs.Common.{sym, arith, ltb-false, eqb-true}
use Rattle.std.proofs.Math.Nat.{sub-zero}
use Rattle.std.proofs.lemmas.Bool.{eqb-false}
use Rattle.meaning.specs.Lists.{pick}
use Rattle.meaning.specs.Names.{same, is_digit}
use Rattle.meaning.specs.ElementLaws.{digit_low}
use Rattle.text_runs.specs.Orders.{bytes_compared}
use Rattle.text_runs.specs.Runs.{leading, digits_of, zeros_of, size_of_run, rest_of_run, by_size, runs_compared, plainly_compared, has_zeros}
use Rattle.text_runs.specs.RunLaws.{in_cases, size_less, size_more, size_level, zeros_digits, bytes_step, whole_rest}

-- ---- the two kinds

-- a run whose first digit is no zero
record Led (a : List ℕ) : Type 0 where
  zeros : zeros_of a ≡ 0
  size : size_of_run a ≡ digits_of a
  rest : rest_of_run a ≡ take (digits_of a) a
  some : 0 < digits_of a
  first : ℕ
  others : List ℕ
  text : take (digits_of a) a ≡ first ∷ others
  more : 48 < first

-- a zero alone
record Alone (a : List ℕ) : Type 0 where
  zeros : zeros_of a ≡ 1
  size : size_of_run a ≡ 0
  rest : rest_of_run a ≡ []
  digits : digits_of a ≡ 1
  text : take (digits_of a) a ≡ 48 ∷ []

first_led : (x : ℕ) (a : List ℕ) → is_digit x ≡ true → eqb x 48 ≡ false → Led (x ∷ a)
unfolding size_of_run leading pick
first_led x a e f =
    record {
      zeros = rw f;
      size = rw (f, sub-zero);
      rest = whole_rest x a f;
      some = rw e (omega arith);
      first = x;
      others = take (digits_of a) a;
      text = rw e;
      more = let low = digit_low x e in let ne = eqb-false x 48 f in omega arith;
    }

zero_alone : (a : List ℕ) → digits_of a ≡ 0 → Alone (48 ∷ a)
unfolding rest_of_run size_of_run leading is_digit pick
zero_alone a h =
    let none : zeros_of a ≡ 0 = omega (arith, zeros_digits a) in
    record { zeros = rw none; size = rw (h, none); rest = rw (h, none); digits = rw h; text = rw h }

-- there is no other
canonical_cases : {C : Type 0} (a : List ℕ) → 0 < digits_of a → has_zeros a ≡ false → (Led a → C) → (Alone a → C) → C
unfolding has_zeros leading pick
canonical_cases [] h z led alone = absurd (omega arith)
canonical_cases {C} (x ∷ a) h z led alone = go (is_digit x) (eqb x 48) refl refl h z
  where
    go : (p q : Bool) → is_digit x ≡ p → eqb x 48 ≡ q → 0 < pick p (suc (digits_of a)) 0 → pick q (ltb 0 (digits_of a)) false ≡ false → C
    go false q e f h z = absurd (omega arith)
    go true false e f h z = led (first_led x a e f)
    go true true e f h z = alone (rw (eqb-true x 48 f) (zero_alone a (omega (arith, ltb-false 0 (digits_of a) z))))

-- ---- two runs

no_zeros : (c : ℕ) → pick (eqb c 1) (by_size 0 0 1) c ≡ c
unfolding pick by_size
no_zeros c = go (eqb c 1) refl
  where
    go : (p : Bool) → eqb c 1 ≡ p → pick p 1 c ≡ c
    go true e = sym (eqb-true c 1 e)
    go false e = refl

led_led : (a b : List ℕ) → Led a → Led b → runs_compared a b ≡ plainly_compared a b
unfolding runs_compared plainly_compared
led_led a b g h = rw (g.zeros, h.zeros, g.size, h.size, g.rest, h.rest, no_zeros)

alone_alone : (a b : List ℕ) → Alone a → Alone b → runs_compared a b ≡ plainly_compared a b
unfolding runs_compared plainly_compared bytes_compared same by_size pick
alone_alone a b g h = rw (g.zeros, h.zeros, g.size, h.size, g.rest, h.rest, g.text, h.text, g.digits, h.digits)

alone_led : (a b : List ℕ) → Alone a → Led b → runs_compared a b ≡ plainly_compared a b
unfolding runs_compared plainly_compared
alone_led a b g h =
    let less : size_of_run a < size_of_run b = omega (arith, g.size, h.size, h.some) in
    rw (size_less less)
    (in_cases (digits_of a) (digits_of b)
    (λ l. sym (size_less l (bytes_compared (take (digits_of a) a) (take (digits_of b) b))))
    (λ l. absurd (omega (arith, g.digits, h.some)))
    (λ l. rw (size_level l, g.text, h.text, bytes_step, size_less h.more)))

led_alone : (a b : List ℕ) → Led a → Alone b → runs_compared a b ≡ plainly_compared a b
unfolding runs_compared plainly_compared
led_alone a b g h =
    let more : size_of_run b < size_of_run a = omega (arith, g.size, h.size, g.some) in
    rw (size_more more)
    (in_cases (digits_of a) (digits_of b)
    (λ l. absurd (omega (arith, h.digits, g.some)))
    (λ l. sym (size_more l (bytes_compared (take (digits_of a) a) (take (digits_of b) b))))
    (λ l. rw (size_level l, g.text, h.text, bytes_step, size_more g.more)))

pub canonical_runs : (xs ys : List ℕ) → 0 < digits_of xs → 0 < digits_of ys → has_zeros xs ≡ false → has_zeros ys ≡ false
    → runs_compared xs ys ≡ plainly_compared xs ys
canonical_runs xs ys g h p q =
    canonical_cases xs g p
    (λ u. canonical_cases ys h q (λ v. led_led xs ys u v) (λ v. led_alone xs ys u v))
    (λ u. canonical_cases ys h q (λ v. alone_led xs ys u v) (λ v. alone_alone xs ys u v))
