-- Names compared element by element, runs of digits where they stand: what each step of a loop over two names finds is what `compared` says. The
-- numbers that runs stand for occur here alone: `runs_compared` orders two runs as their numbers and then their sizes do.
use Rattle.std.specs.Prelude.{◌≡◌, refl, Bool, true, false, List, [], ◌∷◌, ℕ, suc, ◌+◌, ◌-◌, ◌*◌, ◌^◌, ◌<◌, ◌≤◌, eqb, ltb, length, take, drop}
use Rattle.std.proofs.Common.{sym, ap, ap₂, ◌∙◌, arith, mul-le-mul_right, mul_comm, add-mul, one-mul, zero-mul, pow-suc, add-one, length-take, length-drop, ltb-true, ltb-false, eqb-true, lt-ltb, le-ltb, le-leb, eq-eqb, ne_eqb}
use Rattle.std.proofs.lemmas.Bool.{false≢true, eqb-false, lt-leb}
use Rattle.std.proofs.Math.Nat.{pow-le-pow_right, sub-zero, suc-sub-suc}
use Rattle.meaning.specs.Lists.{pick}
use Rattle.meaning.specs.Names.{run, other, same, is_digit, led_by, elements, weights, bytes_not_after, not_after}
use Rattle.meaning.specs.ElementLaws.{weights_told, name_told, digit_low, digit_high}
use Rattle.meaning.specs.OrderLaws.{same_self, same_equal}
use Rattle.text_runs.specs.Orders.{compared, bytes_compared}
use Rattle.text_runs.specs.Runs.{leading, digits_of, zeros_of, size_of_run, rest_of_run, by_size, runs_compared}

-- ---- less, more or level

pub in_cases : {C : Type 0} (n m : ℕ) → (n < m → C) → (m < n → C) → (n ≡ m → C) → C
in_cases {C} n m less more level = go (ltb n m) (ltb m n) refl refl
  where
    go : (p q : Bool) → ltb n m ≡ p → ltb m n ≡ q → C
    go true q e f = less (ltb-true n m e)
    go false true e f = more (ltb-true m n f)
    go false false e f = level (omega (arith, ltb-false n m e, ltb-false m n f))

pub size_less : {n m : ℕ} → n < m → (r : ℕ) → by_size n m r ≡ 0
unfolding by_size pick
size_less {n} {m} h r = rw (lt-ltb n m h)

pub size_more : {n m : ℕ} → m < n → (r : ℕ) → by_size n m r ≡ 2
unfolding by_size pick
size_more {n} {m} h r = rw (le-ltb n m (omega arith), lt-ltb m n h)

pub size_level : {n m : ℕ} → n ≡ m → (r : ℕ) → by_size n m r ≡ r
unfolding by_size pick
size_level {n} {m} h r = rw (le-ltb n m (omega arith), le-ltb m n (omega arith))

-- only what is level may come out level
pub level_size : (n m r : ℕ) → by_size n m r ≡ 1 → n ≡ m
level_size n m r e =
    in_cases n m (λ h. absurd (omega (arith, size_less h r))) (λ h. absurd (omega (arith, size_more h r))) (λ h. h)

-- and where the outcome is not level, it does not hang on what follows
size_decides : (n m r s : ℕ) → (by_size n m s ≡ 1 → ⊥) → ((s ≡ 1 → ⊥) → r ≡ s) → by_size n m r ≡ by_size n m s
size_decides n m r s apart then =
    in_cases n m (λ h. size_less h r ∙ sym (size_less h s)) (λ h. size_more h r ∙ sym (size_more h s))
    (λ h. size_level h r ∙ then (λ e. apart (size_level h s ∙ e)) ∙ sym (size_level h s))

-- numbers that stand in the same order come out the same
pub size_alike : (n m i j r : ℕ) → (n < m → i < j) → (m < n → j < i) → (n ≡ m → i ≡ j) → by_size n m r ≡ by_size i j r
size_alike n m i j r less more level =
    in_cases n m (λ h. size_less h r ∙ sym (size_less (less h) r)) (λ h. size_more h r ∙ sym (size_more (more h) r))
    (λ h. size_level h r ∙ sym (size_level (level h) r))

-- ---- the order of bytes, byte by byte

pub bytes_step : (x y : ℕ) (xs ys : List ℕ) → bytes_compared (x ∷ xs) (y ∷ ys) ≡ by_size x y (bytes_compared xs ys)
unfolding bytes_compared same bytes_not_after pick
bytes_step x y xs ys =
    in_cases x y
    (λ h. rw (ne_eqb x y (λ e. omega arith), le-leb x y (omega arith), size_less h))
    (λ h. rw (ne_eqb x y (λ e. omega arith), lt-leb x y h, size_more h))
    (λ h. rw (eq-eqb x y h, size_level h))

-- ---- names by their weights

same_weights : (a b : List ℕ) → same a b ≡ same (weights (elements a)) (weights (elements b))
same_weights a b = go (same a b) (same (weights (elements a)) (weights (elements b))) refl refl
  where
    go : (p q : Bool) → same a b ≡ p → same (weights (elements a)) (weights (elements b)) ≡ q → p ≡ q
    go true q e f = sym (same_self (weights (elements b))) ∙ (rw (same_equal a b e) at f)
    go false true e f =
        let one = name_told a b (weights_told (elements a) (elements b) (same_equal (weights (elements a)) (weights (elements b)) f)) in
        absurd (false≢true (sym (rw one at e) ∙ same_self b))
    go false false e f = refl

pub compared_weights : (a b : List ℕ) → compared a b ≡ bytes_compared (weights (elements a)) (weights (elements b))
unfolding compared bytes_compared not_after
compared_weights a b = rw (same_weights a b)

pub other_weights : (x : ℕ) (a : List ℕ) → is_digit x ≡ false → weights (elements (x ∷ a)) ≡ 1 ∷ x ∷ weights (elements a)
unfolding elements weights pick
other_weights x a h = rw h

-- ---- a run and its number

-- the number that digits stand for
unfoldable number : List ℕ → ℕ
number [] = 0
number (d ∷ ds) = (d - 48) * 10 ^ length ds + number ds

-- the number of the run that a text begins with
abbrev run_number : List ℕ → ℕ
run_number a = number (take (digits_of a) a)

pub zeros_digits : (a : List ℕ) → zeros_of a ≤ digits_of a
unfolding leading is_digit pick
zeros_digits [] = omega arith
zeros_digits (x ∷ a) = go (eqb x 48) refl (zeros_digits a)
  where
    go : (p : Bool) → eqb x 48 ≡ p → zeros_of a ≤ digits_of a → pick p (suc (zeros_of a)) 0 ≤ pick (is_digit x) (suc (digits_of a)) 0
    go true e h = rw (eqb-true x 48 e) (omega arith)
    go false e h = omega arith

pub digits_length : (a : List ℕ) → digits_of a ≤ length a
unfolding leading pick
digits_length [] = omega arith
digits_length (x ∷ a) = go (is_digit x) (digits_length a)
  where
    go : (p : Bool) → digits_of a ≤ length a → pick p (suc (digits_of a)) 0 ≤ suc (length a)
    go true h = omega arith
    go false h = omega arith

run_length : (a : List ℕ) → length (take (digits_of a) a) ≡ digits_of a
run_length a = length-take (digits_of a) a ∙ omega (arith, digits_length a)

-- a digit in front of a text leads the run that the text begins with, which may have no digits
led_elements : (d : ℕ) (a : List ℕ)
    → led_by d (elements a) ≡ run (d * 10 ^ digits_of a + run_number a) (suc (digits_of a)) ∷ elements (drop (digits_of a) a)
unfolding led_by elements leading number pick
led_elements d [] = ap (λ (n : ℕ). run n 1 ∷ []) (omega arith)
led_elements d (x ∷ a) = go (is_digit x) refl (led_elements (x - 48) a)
  where
    go : (p : Bool) → is_digit x ≡ p
        → led_by (x - 48) (elements a) ≡ run ((x - 48) * 10 ^ digits_of a + run_number a) (suc (digits_of a)) ∷ elements (drop (digits_of a) a)
        → led_by d (elements (x ∷ a))
        ≡ run (d * 10 ^ digits_of (x ∷ a) + run_number (x ∷ a)) (suc (digits_of (x ∷ a))) ∷ elements (drop (digits_of (x ∷ a)) (x ∷ a))
    go true e h = rw (e, h, add-one, run_length a)
    go false e h = rw (e, e) (ap (λ (n : ℕ). run n 1 ∷ other x ∷ elements a) (omega arith))

-- what is compared of a run and of what follows it
run_weights : (a : List ℕ) → 0 < digits_of a
    → weights (elements a) ≡ 0 ∷ run_number a ∷ digits_of a ∷ weights (elements (drop (digits_of a) a))
unfolding elements weights leading number pick
run_weights [] h = absurd (omega arith)
run_weights (x ∷ a) h = go (is_digit x) refl h
  where
    go : (p : Bool) → is_digit x ≡ p → 0 < pick p (suc (digits_of a)) 0
        → weights (elements (x ∷ a))
        ≡ 0 ∷ run_number (x ∷ a) ∷ digits_of (x ∷ a) ∷ weights (elements (drop (digits_of (x ∷ a)) (x ∷ a)))
    go true e h = rw (e, led_elements (x - 48) a, run_length a)
    go false e h = absurd (omega arith)

pub digit_begins : (x : ℕ) (a : List ℕ) → is_digit x ≡ true → 0 < digits_of (x ∷ a)
unfolding leading pick
digit_begins x a h = rw h (omega arith)

-- ---- without its leading zeros

-- all are digits
abbrev Digits : List ℕ → Type 0
Digits [] = Unit {0}
Digits (d ∷ ds) = (48 ≤ d) × (d - 48 < 10) × Digits ds

-- the first is no zero
abbrev Leads : List ℕ → Type 0
Leads [] = Unit {0}
Leads (d ∷ ds) = 48 < d

run_digits : (a : List ℕ) → Digits (take (digits_of a) a)
unfolding leading pick
run_digits [] = tt
run_digits (x ∷ a) = go (is_digit x) refl (run_digits a)
  where
    go : (p : Bool) → is_digit x ≡ p → Digits (take (digits_of a) a) → Digits (take (pick p (suc (digits_of a)) 0) (x ∷ a))
    go true e h = (digit_low x e, digit_high x e, h)
    go false e h = tt

-- the digits of n, with no zeros in front
record Plain (n : ℕ) (ds : List ℕ) : Type 0 where
  stand_for : number ds ≡ n
  digits : Digits ds
  leads : Leads ds

-- a zero in front changes neither the number nor the rest
zero_number : (a : List ℕ) → run_number (48 ∷ a) ≡ run_number a
unfolding leading number is_digit pick
zero_number a = omega (arith, zero-mul (10 ^ length (take (digits_of a) a)))

zero_rest : (a : List ℕ) → rest_of_run (48 ∷ a) ≡ rest_of_run a
unfolding rest_of_run size_of_run leading is_digit pick
zero_rest a = rw suc-sub-suc

pub whole_rest : (x : ℕ) (a : List ℕ) → eqb x 48 ≡ false → rest_of_run (x ∷ a) ≡ take (digits_of (x ∷ a)) (x ∷ a)
unfolding rest_of_run size_of_run leading pick
whole_rest x a e = rw (e, sub-zero)

run_leads : (x : ℕ) (a : List ℕ) → eqb x 48 ≡ false → Leads (take (digits_of (x ∷ a)) (x ∷ a))
unfolding leading pick
run_leads x a e = go (is_digit x) refl
  where
    go : (p : Bool) → is_digit x ≡ p → Leads (take (pick p (suc (digits_of a)) 0) (x ∷ a))
    go true f = let low = digit_low x f in let ne = eqb-false x 48 e in omega arith
    go false f = tt

rest_plain : (a : List ℕ) → Plain (run_number a) (rest_of_run a)
unfolding rest_of_run size_of_run leading
rest_plain [] = record { stand_for = refl; digits = tt; leads = tt }
rest_plain (x ∷ a) = go (eqb x 48) refl (rest_plain a)
  where
    go : (p : Bool) → eqb x 48 ≡ p → Plain (run_number a) (rest_of_run a) → Plain (run_number (x ∷ a)) (rest_of_run (x ∷ a))
    go true e h = rw (eqb-true x 48 e) (rw (zero_number a, zero_rest a) h)
    go false e h = rw (whole_rest x a e) (record { stand_for = refl; digits = run_digits (x ∷ a); leads = run_leads x a e })

rest_length : (a : List ℕ) → length (rest_of_run a) ≡ size_of_run a
unfolding rest_of_run size_of_run
rest_length a = simp (length-take, length-drop) (omega (arith, digits_length a))

run_split : (a : List ℕ) → digits_of a ≡ zeros_of a + size_of_run a
unfolding size_of_run
run_split a = omega (arith, zeros_digits a)

-- ---- digits by their numbers

-- below a power of ten, the digit in front decides
led_less : (p d e n m : ℕ) → n < p → d < e → d * p + n < e * p + m
led_less p d e n m hn h = omega (arith, mul-le-mul_right {m = d + 1} {n = e} p (omega arith), add-mul d 1 p, one-mul p)

number_below : (ds : List ℕ) → Digits ds → number ds < 10 ^ length ds
unfolding number
number_below [] h = omega arith
number_below (d ∷ ds) h =
    let p = 10 ^ length ds in
    omega (arith, led_less p (d - 48) 10 (number ds) 0 (number_below ds h.2) h.1, pow-suc 10 (length ds), mul_comm 10 p)

-- of plain digits, fewer are less
fewer_less : (n m : ℕ) (ds es : List ℕ) → Plain n ds → Plain m es → length ds < length es → n < m
unfolding number
fewer_less n m ds [] g h less = absurd (omega arith)
fewer_less n m ds (e ∷ es) g h less =
    let most = pow-le-pow_right {n = 10} (omega arith) {i = length ds} {j = length es} (omega arith) in
    let least = mul-le-mul_right {m = 1} {n = e - 48} (10 ^ length es) (omega arith) in
    omega (arith, number_below ds g.digits, one-mul (10 ^ length es))

-- digits that are as many go byte by byte: here the first of them, with n and m for the others
led_compared : (p d e n m : ℕ) → n < p → m < p → 48 ≤ d → 48 ≤ e
    → by_size d e (by_size n m 1) ≡ by_size ((d - 48) * p + n) ((e - 48) * p + m) 1
led_compared p d e n m hn hm hd he =
    in_cases d e
    (λ h. size_less h (by_size n m 1) ∙ sym (size_less (led_less p (d - 48) (e - 48) n m hn (omega arith)) 1))
    (λ h. size_more h (by_size n m 1) ∙ sym (size_more (led_less p (e - 48) (d - 48) m n hm (omega arith)) 1))
    (λ h.
    let one : (d - 48) * p ≡ (e - 48) * p = ap (λ (x : ℕ). (x - 48) * p) h in
    size_level h (by_size n m 1)
    ∙ size_alike n m ((d - 48) * p + n) ((e - 48) * p + m) 1 (λ l. omega arith) (λ l. omega arith) (λ l. omega arith))

digits_compared : (ds es : List ℕ) → Digits ds → Digits es → length ds ≡ length es → bytes_compared ds es ≡ by_size (number ds) (number es) 1
unfolding number bytes_compared same by_size pick
digits_compared [] [] g h q = refl
digits_compared [] (e ∷ es) g h q = absurd (omega arith)
digits_compared (d ∷ ds) [] g h q = absurd (omega arith)
digits_compared (d ∷ ds) (e ∷ es) g h q =
    let size : length ds ≡ length es = omega arith in
    let p : 10 ^ length ds ≡ 10 ^ length es = ap (λ (n : ℕ). 10 ^ n) size in
    bytes_step d e ds es
    ∙ ap (by_size d e) (digits_compared ds es g.2 h.2 size)
    ∙ led_compared (10 ^ length ds) d e (number ds) (number es) (number_below ds g.2) (rw p (number_below es h.2)) g.0 h.0
    ∙ rw p

-- ---- two runs

-- the choice that `runs_compared` makes, with n and m for the numbers
digits_then : (n m r : ℕ) → pick (eqb (by_size n m 1) 1) r (by_size n m 1) ≡ by_size n m r
unfolding pick
digits_then n m r =
    in_cases n m (λ h. rw (size_less h 1, size_less h r)) (λ h. rw (size_more h 1, size_more h r)) (λ h. rw (size_level h 1, size_level h r))

-- they go by their numbers and then by how many digits they have
runs_numbers : (a b : List ℕ) → runs_compared a b ≡ by_size (run_number a) (run_number b) (by_size (digits_of a) (digits_of b) 1)
unfolding runs_compared
runs_numbers a b =
    in_cases (size_of_run a) (size_of_run b)
    (λ h. rw (size_less h, size_less (less a b h)))
    (λ h. rw (size_more h, size_more (less b a h)))
    (λ h.
    rw (
      size_level h,
      digits_compared (rest_of_run a) (rest_of_run b) (rest_plain a).digits (rest_plain b).digits
          (rest_length a ∙ h ∙ sym (rest_length b)),
      (rest_plain a).stand_for,
      (rest_plain b).stand_for,
      digits_then,
      by_zeros h,
    ))
  where
    less : (c d : List ℕ) → size_of_run c < size_of_run d → run_number c < run_number d
    less c d h =
        fewer_less (run_number c) (run_number d) (rest_of_run c) (rest_of_run d) (rest_plain c) (rest_plain d)
        (omega (arith, rest_length c, rest_length d))

    by_zeros : size_of_run a ≡ size_of_run b → by_size (zeros_of a) (zeros_of b) 1 ≡ by_size (digits_of a) (digits_of b) 1
    by_zeros h =
        let split_a = run_split a in
        let split_b = run_split b in
        size_alike (zeros_of a) (zeros_of b) (digits_of a) (digits_of b) 1 (λ l. omega arith) (λ l. omega arith) (λ l. omega arith)

-- so do the names that begin with them, and go on after runs that are level
names_numbers : (a b : List ℕ) → 0 < digits_of a → 0 < digits_of b
    → compared a b
    ≡ by_size (run_number a) (run_number b)
    (by_size (digits_of a) (digits_of b) (compared (drop (digits_of a) a) (drop (digits_of b) b)))
unfolding by_size pick
names_numbers a b g h =
    rw (compared_weights a b, run_weights a g, run_weights b h, bytes_step, bytes_step, bytes_step, ← compared_weights)

-- ---- the steps of a loop over two names

-- an end

pub names_end : compared [] [] ≡ 1
unfolding compared same pick
names_end = refl

pub name_shorter : (y : ℕ) (b : List ℕ) → compared [] (y ∷ b) ≡ 0
unfolding compared same not_after bytes_not_after elements weights pick
name_shorter y b = refl

pub name_longer : (x : ℕ) (a : List ℕ) → compared (x ∷ a) [] ≡ 2
unfolding bytes_compared same bytes_not_after elements weights pick
name_longer x a = compared_weights (x ∷ a) [] ∙ go (is_digit x) refl
  where
    go : (p : Bool) → is_digit x ≡ p → bytes_compared (weights (elements (x ∷ a))) [] ≡ 2
    go true e = ap (λ (w : List ℕ). bytes_compared w []) (run_weights (x ∷ a) (digit_begins x a e))
    go false e = ap (λ (w : List ℕ). bytes_compared w []) (other_weights x a e)

-- two bytes that are no digits

other_step : (x y : ℕ) (a b : List ℕ) → is_digit x ≡ false → is_digit y ≡ false → compared (x ∷ a) (y ∷ b) ≡ by_size x y (compared a b)
unfolding by_size pick
other_step x y a b g h = rw (compared_weights, other_weights x a g, other_weights y b h, bytes_step, bytes_step, ← compared_weights)

pub other_on : (x : ℕ) (a b : List ℕ) → is_digit x ≡ false → compared (x ∷ a) (x ∷ b) ≡ compared a b
other_on x a b h = other_step x x a b h h ∙ size_level refl (compared a b)

pub other_less : (x y : ℕ) (a b : List ℕ) → is_digit x ≡ false → is_digit y ≡ false → x < y → compared (x ∷ a) (y ∷ b) ≡ 0
other_less x y a b g h l = other_step x y a b g h ∙ size_less l (compared a b)

pub other_more : (x y : ℕ) (a b : List ℕ) → is_digit x ≡ false → is_digit y ≡ false → y < x → compared (x ∷ a) (y ∷ b) ≡ 2
other_more x y a b g h l = other_step x y a b g h ∙ size_more l (compared a b)

-- a digit and a byte that is none

pub run_first : (x y : ℕ) (a b : List ℕ) → is_digit x ≡ true → is_digit y ≡ false → compared (x ∷ a) (y ∷ b) ≡ 0
unfolding bytes_compared same bytes_not_after pick
run_first x y a b g h =
    compared_weights (x ∷ a) (y ∷ b) ∙ ap₂ bytes_compared (run_weights (x ∷ a) (digit_begins x a g)) (other_weights y b h)

pub run_second : (x y : ℕ) (a b : List ℕ) → is_digit x ≡ false → is_digit y ≡ true → compared (x ∷ a) (y ∷ b) ≡ 2
unfolding bytes_compared same bytes_not_after pick
run_second x y a b g h =
    compared_weights (x ∷ a) (y ∷ b) ∙ ap₂ bytes_compared (other_weights x a g) (run_weights (y ∷ b) (digit_begins y b h))

-- two runs

pub runs_decide : (a b : List ℕ) → 0 < digits_of a → 0 < digits_of b → (runs_compared a b ≡ 1 → ⊥) → compared a b ≡ runs_compared a b
runs_decide a b g h apart =
    let after = compared (drop (digits_of a) a) (drop (digits_of b) b) in
    names_numbers a b g h
    ∙ size_decides (run_number a) (run_number b) (by_size (digits_of a) (digits_of b) after) (by_size (digits_of a) (digits_of b) 1)
    (λ e. apart (runs_numbers a b ∙ e)) (λ f. size_decides (digits_of a) (digits_of b) after 1 f (λ f. absurd (f refl)))
    ∙ sym (runs_numbers a b)

module _ (a b : List ℕ) (e : runs_compared a b ≡ 1) where
  level_numbers : run_number a ≡ run_number b
  level_numbers = level_size (run_number a) (run_number b) (by_size (digits_of a) (digits_of b) 1) (sym (runs_numbers a b) ∙ e)

  pub runs_level : digits_of a ≡ digits_of b
  runs_level =
      level_size (digits_of a) (digits_of b) 1
      (sym (size_level level_numbers (by_size (digits_of a) (digits_of b) 1)) ∙ sym (runs_numbers a b) ∙ e)

pub runs_pass : (a b : List ℕ) → 0 < digits_of a → 0 < digits_of b → runs_compared a b ≡ 1
    → compared a b ≡ compared (drop (digits_of a) a) (drop (digits_of b) b)
runs_pass a b g h e = names_numbers a b g h ∙ rw (size_level (level_numbers a b e), size_level (runs_level a b e))
