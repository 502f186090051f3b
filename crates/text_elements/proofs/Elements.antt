-- Laws of names compared element by element, in the code's terms.
use mathlib.Core.Path.{◌≡◌, refl, sym, ap, ap₂, ◌∙◌}
use mathlib.Core.Bool.{Bool, true, false}
use mathlib.Core.List.{List, ◌∷◌}
use Prim.Native.Nat.{ℕ, suc, ◌+◌, ◌-◌, ◌<◌, ◌≤◌}
use native.Mathlib.Omega.{arith}
use lib.Dec.{eqb}
use lib.ListN.{length, get_or, take, drop, length-take, length-drop}
use lib.Seq.{drop-cons, drop-drop, get_or-take, get_or-drop}
use borrow.Author.Rules.{rules}
use borrow.Author.Tests.{eqb-false, eq-eqb, ne_eqb, lt-ltb, le-ltb}
use Rattle.std.specs.declared.cmp.Ordering.{Ordering}
use Rattle.std.specs.declared.cmp.Ordering.TheVariants.{Less, Equal, Greater}
use Rattle.std.specs.Ordering.{ordering_index, ordering_then, nat_cmp, is_ne}
use Rattle.meaning.specs.Lists.{pick}
use Rattle.meaning.specs.Names.{is_digit}
use mir.Syntax.{w64}
use mir.Val.{Fits}
use Rattle.text_spelling.specs.Word.{name_of, name_short}
use Rattle.text_runs.specs.Orders.{compared, bytes_compared}
use Rattle.text_runs.specs.Runs.{leading, digits_of, zeros_of, size_of_run, rest_of_run, by_size, runs_compared, elements_compared, element_size}
use Rattle.text_runs.specs.RunLaws.{in_cases, size_less, size_more, size_level, level_size, size_alike, digit_begins, other_on, other_less, other_more, run_first, run_second, runs_decide, runs_pass, runs_level, zeros_digits, digits_length}
use Rattle.text_runs.specs.Codes.{index_apart, index_level, size_told}
use Rattle.text_runs.specs.Turns.{compared_less, compared_more, compared_on, compared_end, leads_on, leads_stop, leads_end, left_longer, left_shorter, left_none}

-- ---- digits of two names, byte by byte: as many of a from i on as of b from j on

module _ (a b : List ℕ) (i j left : ℕ) (la : i + left ≤ length a) (lb : j + left ≤ length b) where
  abbrev x : List ℕ
  x = take left (drop i a)

  abbrev y : List ℕ
  y = take left (drop j b)

  x_size : length x ≡ left
  x_size = omega (arith, length-take left (drop i a), length-drop i a)

  y_size : length y ≡ left
  y_size = omega (arith, length-take left (drop j b), length-drop j b)

  module _ (k p q : ℕ) (h : k < left) (ep : p ≡ get_or a (i + k) 0) (eq : q ≡ get_or b (j + k) 0) where
    x_byte : get_or x k 0 ≡ p
    x_byte = get_or-take left (drop i a) k 0 h ∙ get_or-drop i a k 0 ∙ sym ep

    y_byte : get_or y k 0 ≡ q
    y_byte = get_or-take left (drop j b) k 0 h ∙ get_or-drop j b k 0 ∙ sym eq

    pub digits_apart : (o : Ordering) → (p ≡ q → ⊥) → o ≡ nat_cmp p q
        → bytes_compared (drop k (take left (drop i a))) (drop k (take left (drop j b))) ≡ ordering_index o
    digits_apart o z e =
        in_cases p q
        (λ l. compared_less x y k (omega (arith, x_size)) (omega (arith, y_size)) (omega (arith, x_byte, y_byte)) ∙ sym (size_less l 1))
        (λ l. compared_more x y k (omega (arith, x_size)) (omega (arith, y_size)) (omega (arith, x_byte, y_byte)) ∙ sym (size_more l 1))
        (λ l. absurd (z l))
        ∙ sym (size_told p q) ∙ ap ordering_index (sym e)

    pub digits_on : p ≡ q → bytes_compared (drop k (take left (drop i a))) (drop k (take left (drop j b)))
        ≡ bytes_compared (drop (k + 1) (take left (drop i a))) (drop (k + 1) (take left (drop j b)))
    digits_on z = compared_on x y k (omega (arith, x_size)) (omega (arith, y_size)) (omega (arith, x_byte, y_byte)) (omega (arith, x_byte, y_byte))

  pub digits_over : (k : ℕ) → left ≤ k → bytes_compared (drop k (take left (drop i a))) (drop k (take left (drop j b))) ≡ 1
  digits_over k h = compared_end x y k (omega (arith, x_size)) (omega (arith, y_size))

-- a place in a name is small
pub digit_place : (text : List ℕ) (w i left k : ℕ) → i + left ≤ length (name_of text w) → k < left → Fits w64 (i + k)
digit_place text w i left k h g = omega (arith, name_short text w)

-- ---- by size

pub zeros_within : (a : List ℕ) (i x e : ℕ) → x ≡ i + zeros_of (drop i a) → e ≡ i + digits_of (drop i a) → x ≤ e
zeros_within a i x e ex ee = omega (arith, zeros_digits (drop i a))

pub run_within : (a : List ℕ) (n i x e j : ℕ) → n ≡ length a → i ≤ n → x ≡ i + zeros_of (drop i a) → e ≡ i + digits_of (drop i a) → j ≤ e - x
    → x + j ≤ length a
run_within a n i x e j l h ex ee g = omega (arith, digits_length (drop i a), length-drop i a, zeros_digits (drop i a))

-- ---- runs from i on: x and y are past their zeros, e and f past their digits

module _ (a b : List ℕ) (i x y e f : ℕ) (ex : x ≡ i + zeros_of (drop i a)) (ey : y ≡ i + zeros_of (drop i b))
    (ee : e ≡ i + digits_of (drop i a)) (ef : f ≡ i + digits_of (drop i b)) where
  first_size : e - x ≡ size_of_run (drop i a)
  unfolding size_of_run
  first_size = omega arith

  second_size : f - y ≡ size_of_run (drop i b)
  unfolding size_of_run
  second_size = omega arith

  module _ (j k : ℕ) (ej : j ≡ e - x) (ek : k ≡ f - y) where
    runs_shorter : j < k → 0 ≡ runs_compared (drop i a) (drop i b)
    unfolding runs_compared by_size pick
    runs_shorter h = rw (lt-ltb (size_of_run (drop i a)) (size_of_run (drop i b)) (omega (arith, first_size, second_size)))

    runs_longer : k < j → 2 ≡ runs_compared (drop i a) (drop i b)
    unfolding runs_compared by_size pick
    runs_longer h =
        rw (
          le-ltb (size_of_run (drop i a)) (size_of_run (drop i b)) (omega (arith, first_size, second_size)),
          lt-ltb (size_of_run (drop i b)) (size_of_run (drop i a)) (omega (arith, first_size, second_size)),
        )

    module _ (c : ℕ) (h : j ≤ k) (g : k ≤ j) (ec : c ≡ bytes_compared (take j (drop x a)) (take j (drop y b))) where
      rests : c ≡ bytes_compared (rest_of_run (drop i a)) (rest_of_run (drop i b))
      unfolding rest_of_run
      rests =
          let sx : j ≡ size_of_run (drop i a) = omega (arith, first_size) in
          let sy : j ≡ size_of_run (drop i b) = omega (arith, second_size) in
          ec ∙ ap₂ bytes_compared
          (ap₂ (λ (u v : ℕ). take u (drop v a)) sx ex ∙ ap (take (size_of_run (drop i a))) (sym (drop-drop (zeros_of (drop i a)) i a)))
          (ap₂ (λ (u v : ℕ). take u (drop v b)) sy ey ∙ ap (take (size_of_run (drop i b))) (sym (drop-drop (zeros_of (drop i b)) i b)))

      level : runs_compared (drop i a) (drop i b) ≡ pick (eqb c 1) (by_size (zeros_of (drop i a)) (zeros_of (drop i b)) 1) c
      unfolding runs_compared by_size pick
      level =
          rw (
            le-ltb (size_of_run (drop i a)) (size_of_run (drop i b)) (omega (arith, first_size, second_size)),
            le-ltb (size_of_run (drop i b)) (size_of_run (drop i a)) (omega (arith, first_size, second_size)),
            ← rests,
          )

      runs_by_digits : (c ≡ 1 → ⊥) → c ≡ runs_compared (drop i a) (drop i b)
      unfolding pick
      runs_by_digits z = sym (level ∙ rw (ne_eqb c 1 z))

      runs_by_zeros : (r : ℕ) → c ≡ 1 → r ≡ by_size x y 1 → r ≡ runs_compared (drop i a) (drop i b)
      unfolding pick
      runs_by_zeros r z q =
          let zx = zeros_of (drop i a) in
          let zy = zeros_of (drop i b) in
          let moved = size_alike (i + zx) (i + zy) zx zy 1 (λ l. omega (arith, l)) (λ l. omega (arith, l)) (λ l. omega (arith, l)) in
          q ∙ ap₂ (λ (u v : ℕ). by_size u v 1) ex ey ∙ moved ∙ sym (level ∙ rw (eq-eqb c 1 z))

    pub runs_apart : (o : Ordering) → (j ≡ k → ⊥) → o ≡ nat_cmp j k → ordering_index o ≡ runs_compared (drop i a) (drop i b)
    runs_apart o z q =
        ap ordering_index q ∙ size_told j k
        ∙ in_cases j k (λ l. size_less l 1 ∙ runs_shorter l) (λ l. size_more l 1 ∙ runs_longer l) (λ l. absurd (z l))

    -- r says what their digits say, c, and else what their zeros do, d
    pub runs_told : j ≡ k → (c d r : Ordering) → ordering_index c ≡ bytes_compared (take j (drop x a)) (take j (drop y b)) → d ≡ nat_cmp x y
        → r ≡ ordering_then c d → ordering_index r ≡ runs_compared (drop i a) (drop i b)
    runs_told h Less d r ec ed er = ap ordering_index er ∙ runs_by_digits 0 (omega arith) (omega arith) ec (λ q. omega (arith, q))
    runs_told h Equal d r ec ed er =
        ap ordering_index er ∙ runs_by_zeros 1 (omega arith) (omega arith) ec (ordering_index d) refl (ap ordering_index ed ∙ size_told x y)
    runs_told h Greater d r ec ed er = ap ordering_index er ∙ runs_by_digits 2 (omega arith) (omega arith) ec (λ q. omega (arith, q))

-- ---- elements at i: p and q are the bytes there

module _ (a b : List ℕ) (n m i p q : ℕ) (ln : n ≡ length a) (lm : m ≡ length b) (h : i < n) (g : i < m) (ep : p ≡ get_or a i 0) (eq : q ≡ get_or b i 0)
    (s t : Bool) (es : s ≡ is_digit p) (et : t ≡ is_digit q) where
  first_digit : is_digit (get_or a i 0) ≡ s
  first_digit = ap is_digit (sym ep) ∙ sym es

  second_digit : is_digit (get_or b i 0) ≡ t
  second_digit = ap is_digit (sym eq) ∙ sym et

  opened : elements_compared (drop i a) (drop i b)
      ≡ pick s (pick t (runs_compared (drop i a) (drop i b)) 0) (pick t 2 (by_size p q 1))
  unfolding elements_compared pick
  opened = rw (drop-cons a i 0 (omega arith), drop-cons b i 0 (omega arith), first_digit, second_digit, ep, eq)

  pub both_runs : (r : ℕ) → s ≡ true → t ≡ true → r ≡ runs_compared (drop i a) (drop i b) → r ≡ elements_compared (drop i a) (drop i b)
  unfolding pick
  both_runs r u v e = e ∙ sym (opened ∙ rw (u, v))

  pub run_before : s ≡ true → t ≡ false → 0 ≡ elements_compared (drop i a) (drop i b)
  unfolding pick
  run_before u v = sym (opened ∙ rw (u, v))

  pub run_after : s ≡ false → t ≡ true → 2 ≡ elements_compared (drop i a) (drop i b)
  unfolding pick
  run_after u v = sym (opened ∙ rw (u, v))

  pub both_others : (o : Ordering) → s ≡ false → t ≡ false → o ≡ nat_cmp p q → ordering_index o ≡ elements_compared (drop i a) (drop i b)
  unfolding pick
  both_others o u v e = ap ordering_index e ∙ size_told p q ∙ sym (opened ∙ rw (u, v))

module _ (a : List ℕ) (i e : ℕ) (ee : e ≡ i + digits_of (drop i a)) where
  pub one_byte : e ≡ i → i + 1 ≡ i + element_size (drop i a)
  unfolding element_size pick
  one_byte z = rw (eq-eqb (digits_of (drop i a)) 0 (omega arith))

  pub whole_run : (e ≡ i → ⊥) → e ≡ i + element_size (drop i a)
  unfolding element_size pick
  whole_run z = rw (ne_eqb (digits_of (drop i a)) 0 (λ q. z (omega arith))) ee

-- the elements that two names begin with decide, or are passed over
module _ (x y : ℕ) (a b : List ℕ) where
  run_size : (c : List ℕ) → 0 < digits_of c → element_size c ≡ digits_of c
  unfolding element_size pick
  run_size c h = rw (ne_eqb (digits_of c) 0 (λ q. omega (arith, h, q)))

  byte_size : (z : ℕ) (c : List ℕ) → is_digit z ≡ false → element_size (z ∷ c) ≡ 1
  unfolding element_size leading pick
  byte_size z c e = rw e

  elements_decide : (elements_compared (x ∷ a) (y ∷ b) ≡ 1 → ⊥) → compared (x ∷ a) (y ∷ b) ≡ elements_compared (x ∷ a) (y ∷ b)
  unfolding elements_compared pick
  elements_decide h = go (is_digit x) (is_digit y) refl refl h
    where
      go : (s t : Bool) → is_digit x ≡ s → is_digit y ≡ t
          → (pick s (pick t (runs_compared (x ∷ a) (y ∷ b)) 0) (pick t 2 (by_size x y 1)) ≡ 1 → ⊥)
          → compared (x ∷ a) (y ∷ b) ≡ pick s (pick t (runs_compared (x ∷ a) (y ∷ b)) 0) (pick t 2 (by_size x y 1))
      go true true s t z = runs_decide (x ∷ a) (y ∷ b) (digit_begins x a s) (digit_begins y b t) z
      go true false s t z = run_first x y a b s t
      go false true s t z = run_second x y a b s t
      go false false s t z =
          in_cases x y (λ l. other_less x y a b s t l ∙ sym (size_less l 1)) (λ l. other_more x y a b s t l ∙ sym (size_more l 1))
          (λ l. absurd (z (size_level l 1)))

  elements_pass : elements_compared (x ∷ a) (y ∷ b) ≡ 1
      → compared (x ∷ a) (y ∷ b) ≡ compared (drop (element_size (x ∷ a)) (x ∷ a)) (drop (element_size (x ∷ a)) (y ∷ b))
  unfolding elements_compared pick
  elements_pass h = go (is_digit x) (is_digit y) refl refl h
    where
      go : (s t : Bool) → is_digit x ≡ s → is_digit y ≡ t
          → pick s (pick t (runs_compared (x ∷ a) (y ∷ b)) 0) (pick t 2 (by_size x y 1)) ≡ 1
          → compared (x ∷ a) (y ∷ b) ≡ compared (drop (element_size (x ∷ a)) (x ∷ a)) (drop (element_size (x ∷ a)) (y ∷ b))
      go true true s t z =
          let size = run_size (x ∷ a) (digit_begins x a s) in
          let other_size = size ∙ runs_level (x ∷ a) (y ∷ b) z in
          runs_pass (x ∷ a) (y ∷ b) (digit_begins x a s) (digit_begins y b t) z
          ∙ ap₂ compared (ap (λ (k : ℕ). drop k (x ∷ a)) (sym size)) (ap (λ (k : ℕ). drop k (y ∷ b)) (sym other_size))
      go true false s t z = absurd (omega (arith, z))
      go false true s t z = absurd (omega (arith, z))
      go false false s t z =
          let size = byte_size x a s in
          let one = level_size x y 1 z in
          ap (λ (k : ℕ). compared (x ∷ a) (k ∷ b)) (sym one) ∙ other_on x a b s
          ∙ ap₂ compared (ap (λ (k : ℕ). drop k (x ∷ a)) (sym size)) (ap (λ (k : ℕ). drop k (y ∷ b)) (sym size))

pub element_some : (a : List ℕ) → 0 < element_size a
unfolding element_size pick
element_some a = go (eqb (digits_of a) 0) refl
  where
    go : (t : Bool) → eqb (digits_of a) 0 ≡ t → 0 < pick t 1 (digits_of a)
    go true e = omega arith
    go false e = some (digits_of a) (eqb-false (digits_of a) 0 e)
      where
        some : (k : ℕ) → (k ≡ 0 → ⊥) → 0 < k
        some k h = omega arith

-- ---- what is left of two names, of n and m bytes, from i on

module _ (a b : List ℕ) (n m i : ℕ) (ln : n ≡ length a) (lm : m ≡ length b) where
  module _ (c : ℕ) (h : i < n) (g : i < m) (ec : c ≡ elements_compared (drop i a) (drop i b)) where
    abbrev p : ℕ
    p = get_or a i 0

    abbrev r : ℕ
    r = get_or b i 0

    first : drop i a ≡ p ∷ drop (suc i) a
    first = drop-cons a i 0 (omega arith)

    second : drop i b ≡ r ∷ drop (suc i) b
    second = drop-cons b i 0 (omega arith)

    left_decided : (c ≡ 1 → ⊥) → compared (drop i a) (drop i b) ≡ c
    left_decided z =
        let so = ec ∙ ap₂ elements_compared first second in
        ap₂ compared first second ∙ elements_decide p r (drop (suc i) a) (drop (suc i) b) (λ q. z (so ∙ q)) ∙ sym so

    left_on : (e : ℕ) → c ≡ 1 → e ≡ i + element_size (drop i a) → compared (drop i a) (drop i b) ≡ compared (drop e a) (drop e b)
    left_on e z q =
        let so = sym (ap₂ elements_compared first second) ∙ sym ec ∙ z in
        let k = element_size (drop i a) in
        ap₂ compared first second ∙ elements_pass p r (drop (suc i) a) (drop (suc i) b) so
        ∙ ap₂ compared (rw (← first) (drop-drop k i a ∙ ap (λ (j : ℕ). drop j a) (sym q))) (rw (← first, ← second) (drop-drop k i b ∙ ap (λ (j : ℕ). drop j b) (sym q)))

  module _ (o : Ordering) (h : i < n) (g : i < m) (eo : ordering_index o ≡ elements_compared (drop i a) (drop i b)) (t : Bool) (et : t ≡ is_ne o) where
    pub left_first : t ≡ true → compared (drop i a) (drop i b) ≡ ordering_index o
    left_first z = left_decided (ordering_index o) h g eo (index_apart o (sym et ∙ z))

    pub left_next : (e : ℕ) → t ≡ false → e ≡ i + element_size (drop i a) → compared (drop i a) (drop i b) ≡ compared (drop e a) (drop e b)
    left_next e z q = left_on (ordering_index o) h g eo e (index_level o (sym et ∙ z)) q

pub left_less : (a : List ℕ) (n i : ℕ) → i < n → (e : ℕ) → e ≡ i + element_size (drop i a) → n - e < n - i
left_less a n i h e q = omega (arith, element_some (drop i a))

pub ruleset cases = (leads_on, leads_stop, leads_end, digits_apart, digits_on, digits_over, digit_place, zeros_within, run_within, runs_apart, both_runs, run_before, run_after, both_others, one_byte, whole_run, left_longer, left_shorter, left_none, left_first, left_next, left_less, rules)
