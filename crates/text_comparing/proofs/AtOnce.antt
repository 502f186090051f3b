-- Laws of names compared on slices as far as that is seen at once, in the code's terms.
use mathlib.Core.Path.{◌≡◌, refl, sym, ap, ap₂, ◌∙◌}
use mathlib.Core.Bool.{Bool, true, false}
use mathlib.Core.List.{List, [], ◌∷◌}
use Prim.Native.Nat.{ℕ, suc, ◌+◌, ◌-◌, ◌*◌, ◌^◌, ◌<◌, ◌≤◌}
use native.Mathlib.Omega.{arith}
use native.Mathlib.Numerals.{add-one}
use lib.Dec.{ltb}
use lib.ListN.{length, get_or, take, drop, length-drop, drop_of_length-le}
use lib.Seq.{drop-cons, drop-drop}
use borrow.Author.Tests.{lt-ltb, ltb-true, ltb-false, ne_eqb}
use mir.Syntax.{w64}
use mir.Val.{Fits}
use Rattle.std.proofs.Common.{Option, Some, None}
use Rattle.std.proofs.lemmas.Bool.{false≢true}
use Rattle.std.specs.declared.cmp.Ordering.{Ordering}
use Rattle.std.specs.declared.cmp.Ordering.TheVariants.{Less, Equal, Greater}
use Rattle.std.specs.Ordering.{ordering_index, nat_cmp, is_ne}
use Rattle.meaning.specs.Lists.{pick}
use Rattle.meaning.specs.Tokens.{run, run_end}
use Rattle.text_words.specs.Tests.{in_front}
use Rattle.meaning.specs.Names.{same, bytes_not_after, is_digit}
use Rattle.text_runs.specs.Orders.{compared, bytes_compared}
use Rattle.text_runs.specs.Runs.{leading, digits_of, by_size, runs_compared, plainly_compared, plain_size, has_zeros, Seen, Decides}
use Rattle.text_runs.specs.RunLaws.{in_cases, size_alike, bytes_step, digits_length, size_less, size_more, size_level, digit_begins, other_less, other_more, run_first, run_second, runs_decide, runs_pass, runs_level}
use Rattle.text_runs.specs.Codes.{seen_index, decided_index, index_same, index_level, size_told}
use Rattle.text_runs.specs.Canonical.{canonical_runs}
use Rattle.text_runs.specs.Turns.{left_longer, left_shorter, left_none}
use Rattle.text_comparing.proofs.Plain.{plain_on_from}

bytes_few : (x y : List ℕ) → bytes_compared x y < 3
unfolding bytes_compared pick
bytes_few x y = go (same x y) (bytes_not_after x y)
  where
    go : (s t : Bool) → pick s 1 (pick t 0 2) < 3
    go true t = omega arith
    go false true = omega arith
    go false false = omega arith

plainly_few : (x y : List ℕ) → plainly_compared x y < 3
unfolding plainly_compared
plainly_few x y =
    let n = digits_of x in
    let m = digits_of y in
    in_cases n m (λ h. rw (size_less h) (omega arith)) (λ h. rw (size_more h) (omega arith)) (λ h. rw (size_level h) (bytes_few (take n x) (take m y)))

-- the run of bytes from i on that pass a test of the byte in front
pub run_leading : (test : ℕ → Bool) (s : List ℕ) (i : ℕ) → run_end (in_front test) s i ≡ i + leading test (drop i s)
unfolding run_end run leading
run_leading test s i = ap (λ (n : ℕ). i + n) (of_rest (drop i s))
  where
    of_rest : (t : List ℕ) → run (in_front test) t ≡ leading test t
    of_rest [] = refl
    of_rest (b ∷ t) = ap (λ (n : ℕ). pick (test b) (suc n) 0) (of_rest t)

-- ---- a digit at i, or none: s tells

module _ (a : List ℕ) (i : ℕ) where
  pub digit_there : (s : Bool) → i < length a → s ≡ is_digit (get_or a i 0) → s ≡ ltb 0 (digits_of (drop i a))
  unfolding leading pick
  digit_there s h e = e ∙ rw (drop-cons a i 0) (go (is_digit (get_or a i 0)))
    where
      go : (d : Bool) → d ≡ ltb 0 (pick d (suc (digits_of (drop (suc i) a))) 0)
      go true = sym (lt-ltb 0 (suc (digits_of (drop (suc i) a))) (omega arith))
      go false = refl

  pub digit_past : length a ≤ i → false ≡ ltb 0 (digits_of (drop i a))
  unfolding leading
  digit_past l = rw (drop_of_length-le a l)

  module _ (s : Bool) (e : s ≡ ltb 0 (digits_of (drop i a))) where
    run_none : s ≡ false → digits_of (drop i a) ≡ 0
    run_none f = omega (arith, ltb-false 0 (digits_of (drop i a)) (sym e ∙ f))

    module _ (t : s ≡ true) where
      run_some : 0 < digits_of (drop i a)
      run_some = ltb-true 0 (digits_of (drop i a)) (sym e ∙ t)

      digit_within : i < length a
      digit_within = omega (arith, run_some, digits_length (drop i a), length-drop i a)

      pub digit_less : length a - (i + 1) < length a - i
      digit_less = omega (arith, digit_within)

      pub digit_fits : length a * 1 < 2 ^ 63 → Fits w64 (i + 1)
      digit_fits l = omega (arith, digit_within)

      run_goes : digits_of (drop i a) ≡ suc (digits_of (drop (i + 1) a))
      unfolding leading pick
      run_goes = rw (drop-cons a i 0 digit_within, add-one) (go (is_digit (get_or a i 0)) (rw (drop-cons a i 0 digit_within) at run_some))
        where
          go : (d : Bool) → 0 < pick d (suc (digits_of (drop (suc i) a))) 0
              → pick d (suc (digits_of (drop (suc i) a))) 0 ≡ suc (digits_of (drop (suc i) a))
          go true h = refl
          go false h = absurd (omega arith)

      run_text : take (digits_of (drop i a)) (drop i a) ≡ get_or a i 0 ∷ take (digits_of (drop (i + 1) a)) (drop (i + 1) a)
      run_text = rw run_goes (rw (drop-cons a i 0 digit_within, add-one))

-- ---- zeros in front: s tells of a digit behind the byte at i

module _ (a : List ℕ) (i : ℕ) (h : i < length a) where
  pub zeros_there : (s : Bool) → get_or a i 0 ≡ 48 → s ≡ ltb 0 (digits_of (drop (i + 1) a)) → s ≡ has_zeros (drop i a)
  unfolding has_zeros pick
  zeros_there s z e = e ∙ rw (drop-cons a i 0, z, add-one)

  pub zeros_not : (get_or a i 0 ≡ 48 → ⊥) → false ≡ has_zeros (drop i a)
  unfolding has_zeros pick
  zeros_not z = rw (drop-cons a i 0, ne_eqb (get_or a i 0) 48 z)

-- ---- a loop over the digits of both is at i: s and t tell of a digit there

module _ (a b : List ℕ) (i : ℕ) (s t : Bool) (es : s ≡ ltb 0 (digits_of (drop i a))) (et : t ≡ ltb 0 (digits_of (drop i b))) where
  -- one goes on alone, or none does
  module _ (level : ℕ) where
    pub sizes_first : s ≡ true → t ≡ false → by_size (digits_of (drop i a)) (digits_of (drop i b)) level ≡ 2
    sizes_first u v = rw (run_none b i t et v) (size_more (run_some a i s es u) level)

    pub sizes_second : s ≡ false → t ≡ true → by_size (digits_of (drop i a)) (digits_of (drop i b)) level ≡ 0
    sizes_second u v = rw (run_none a i s es u) (size_less (run_some b i t et v) level)

    pub sizes_level : s ≡ false → t ≡ false → by_size (digits_of (drop i a)) (digits_of (drop i b)) level ≡ level
    sizes_level u v = size_level (run_none a i s es u ∙ sym (run_none b i t et v)) level

  pub digits_first : s ≡ true → t ≡ false → plainly_compared (drop i a) (drop i b) ≡ 2
  unfolding plainly_compared
  digits_first u v = sizes_first _ u v

  pub digits_second : s ≡ false → t ≡ true → plainly_compared (drop i a) (drop i b) ≡ 0
  unfolding plainly_compared
  digits_second u v = sizes_second _ u v

  pub digits_level : s ≡ false → t ≡ false → plainly_compared (drop i a) (drop i b) ≡ 1
  unfolding plainly_compared bytes_compared same pick
  digits_level u v = sizes_level _ u v ∙ rw (run_none a i s es u, run_none b i t et v)

  -- both go on
  module _ (u : s ≡ true) (v : t ≡ true) where
    pub sizes_on : (level : ℕ) → by_size (digits_of (drop i a)) (digits_of (drop i b)) level
        ≡ by_size (digits_of (drop (i + 1) a)) (digits_of (drop (i + 1) b)) level
    sizes_on level =
        let n = digits_of (drop (i + 1) a) in
        let m = digits_of (drop (i + 1) b) in
        rw (run_goes a i s es u, run_goes b i t et v)
        (size_alike (suc n) (suc m) n m level (λ l. omega arith) (λ l. omega arith) (λ l. omega arith))

    led : plainly_compared (drop i a) (drop i b)
        ≡ by_size (digits_of (drop (i + 1) a)) (digits_of (drop (i + 1) b)) (by_size (get_or a i 0) (get_or b i 0)
        (bytes_compared (take (digits_of (drop (i + 1) a)) (drop (i + 1) a)) (take (digits_of (drop (i + 1) b)) (drop (i + 1) b))))
    unfolding plainly_compared
    led = sizes_on _ ∙ rw (run_text a i s es u, run_text b i t et v, bytes_step)

    -- p and q are the bytes there
    module _ (p q : ℕ) (ep : p ≡ get_or a i 0) (eq : q ≡ get_or b i 0) where
      pub digits_other : (o : Ordering) (r : ℕ) → (p ≡ q → ⊥) → o ≡ nat_cmp p q
          → r ≡ by_size (digits_of (drop (i + 1) a)) (digits_of (drop (i + 1) b)) (ordering_index o)
          → plainly_compared (drop i a) (drop i b) ≡ r
      digits_other o r h eo e = led ∙ rw (← ep, ← eq) (ap (by_size (digits_of (drop (i + 1) a)) (digits_of (drop (i + 1) b))) (differ _)) ∙ sym e
        where
          differ : (level : ℕ) → by_size p q level ≡ ordering_index o
          differ level =
              in_cases p q
              (λ l. size_less l level ∙ sym (size_less l 1))
              (λ l. size_more l level ∙ sym (size_more l 1))
              (λ l. absurd (h l))
              ∙ sym (size_told p q) ∙ sym (ap ordering_index eo)

      pub digits_on : p ≡ q → plainly_compared (drop i a) (drop i b) ≡ plainly_compared (drop (i + 1) a) (drop (i + 1) b)
      unfolding plainly_compared
      digits_on l = led ∙ rw (← ep, ← eq, size_level {n = p} {m = q} l)

-- ---- runs from i on, on slices: s and t tell of zeros in front

module _ (a b : List ℕ) (i : ℕ) (h : i < length a) (g : i < length b) where
  first_at : drop i a ≡ get_or a i 0 ∷ drop (suc i) a
  first_at = drop-cons a i 0 h

  second_at : drop i b ≡ get_or b i 0 ∷ drop (suc i) b
  second_at = drop-cons b i 0 g

  decided_at : (r : ℕ) → r < 3 → compared (drop i a) (drop i b) ≡ r → Decides (drop i a) (drop i b) r
  decided_at r l e = record {
    few = omega (arith, l);
    told = λ k. e;
    some = λ q. absurd (omega (arith, l, q));
    passed = λ q. absurd (omega (arith, l, q));
  }

  pub not_seen : Decides (drop i a) (drop i b) (decided_index None)
  unfolding decided_index
  not_seen = record { few = omega arith; told = λ k. absurd (omega (arith, k)); some = λ q. absurd (omega (arith, q)); passed = λ q. absurd (omega (arith, q)) }

  module _ (da : is_digit (get_or a i 0) ≡ true) (db : is_digit (get_or b i 0) ≡ true) where
    digits_a : 0 < digits_of (drop i a)
    digits_a = rw first_at (digit_begins (get_or a i 0) (drop (suc i) a) da)

    digits_b : 0 < digits_of (drop i b)
    digits_b = rw second_at (digit_begins (get_or b i 0) (drop (suc i) b) db)

    module _ (s t : Bool) (es : s ≡ has_zeros (drop i a)) (et : t ≡ has_zeros (drop i b)) (ns : s ≡ false) (nt : t ≡ false)
        (c : ℕ) (ec : c ≡ plainly_compared (drop i a) (drop i b)) where
      level : runs_compared (drop i a) (drop i b) ≡ c
      level = canonical_runs (drop i a) (drop i b) digits_a digits_b (sym es ∙ ns) (sym et ∙ nt) ∙ sym ec

      number_digits : (c ≡ 1 → ⊥) → Decides (drop i a) (drop i b) c
      number_digits z =
          decided_at c (rw ec (plainly_few (drop i a) (drop i b))) (runs_decide (drop i a) (drop i b) digits_a digits_b (λ q. z (sym level ∙ q)) ∙ level)

      number_same : c ≡ 1 → Decides (drop i a) (drop i b) 4
      number_same z =
          let one = level ∙ z in
          let sizes = runs_level (drop i a) (drop i b) one in
          record {
            few = omega arith;
            told = λ k. absurd (omega (arith, k));
            some = λ q. digits_a;
            passed = λ q. runs_pass (drop i a) (drop i b) digits_a digits_b one
                ∙ ap (λ (k : ℕ). compared (drop (digits_of (drop i a)) (drop i a)) (drop k (drop i b))) (sym sizes);
          }

    module _ (s t : Bool) (es : s ≡ has_zeros (drop i a)) (et : t ≡ has_zeros (drop i b)) (ns : s ≡ false) (nt : t ≡ false) where
      pub number_told : (o : Ordering) → ordering_index o ≡ plainly_compared (drop i a) (drop i b) → Decides (drop i a) (drop i b) (decided_index (Some o))
      unfolding decided_index
      number_told Less e = number_digits s t es et ns nt 0 e (λ q. omega (arith, q))
      number_told Equal e = number_same s t es et ns nt 1 e refl
      number_told Greater e = number_digits s t es et ns nt 2 e (λ q. omega (arith, q))

  -- the elements at i: p and q are the bytes there
  module _ (s t : Bool) (es : s ≡ is_digit (get_or a i 0)) (et : t ≡ is_digit (get_or b i 0)) where
    pub run_in_front : s ≡ true → t ≡ false → Decides (drop i a) (drop i b) (decided_index (Some Less))
    unfolding decided_index
    run_in_front u v = decided_at 0 (omega arith) (ap₂ compared first_at second_at ∙ run_first _ _ _ _ (sym es ∙ u) (sym et ∙ v))

    pub run_behind : s ≡ false → t ≡ true → Decides (drop i a) (drop i b) (decided_index (Some Greater))
    unfolding decided_index
    run_behind u v = decided_at 2 (omega arith) (ap₂ compared first_at second_at ∙ run_second _ _ _ _ (sym es ∙ u) (sym et ∙ v))

    pub byte_less : s ≡ false → t ≡ false → get_or a i 0 < get_or b i 0 → Decides (drop i a) (drop i b) (decided_index (Some Less))
    unfolding decided_index
    byte_less u v l = decided_at 0 (omega arith) (ap₂ compared first_at second_at ∙ other_less _ _ _ _ (sym es ∙ u) (sym et ∙ v) l)

    pub byte_more : s ≡ false → t ≡ false → get_or b i 0 < get_or a i 0 → Decides (drop i a) (drop i b) (decided_index (Some Greater))
    unfolding decided_index
    byte_more u v l = decided_at 2 (omega arith) (ap₂ compared first_at second_at ∙ other_more _ _ _ _ (sym es ∙ u) (sym et ∙ v) l)

-- ---- a loop over elements is at i, past what is plain at j

pub digit_so : (b : ℕ) (s : Bool) → s ≡ is_digit b → s ≡ true → is_digit b ≡ true
digit_so b s e h = sym e ∙ h

module _ (a b : List ℕ) (i j : ℕ) (v : compared a b ≡ compared (drop i a) (drop i b)) (e : j ≡ i + plain_size (drop i a) (drop i b)) where
  here : compared a b ≡ compared (drop j a) (drop j b)
  here = v ∙ plain_on_from a b i j e

  pub seen_longer : length b ≤ j → j < length a → Seen a b (seen_index (Some Greater))
  unfolding seen_index
  seen_longer h g = record { told = λ k. here ∙ left_longer a b (length a) (length b) j refl refl g h }

  pub seen_same : length b ≤ j → length a ≤ j → Seen a b (seen_index (Some Equal))
  unfolding seen_index
  seen_same h g = record { told = λ k. here ∙ left_none a b (length a) (length b) j refl refl g h }

  pub seen_shorter : j < length b → length a ≤ j → Seen a b (seen_index (Some Less))
  unfolding seen_index
  seen_shorter h g = record { told = λ k. here ∙ left_shorter a b (length a) (length b) j refl refl g h }

  module _ (r : Option Ordering) (d : Decides (drop j a) (drop j b) (decided_index r)) (o : Ordering) (w : r ≡ Some o) where
    decided : Decides (drop j a) (drop j b) (decided_index (Some o))
    decided = rw w at d

    pub seen_first : is_ne o ≡ true → Seen a b (seen_index (Some o))
    unfolding seen_index decided_index
    seen_first l = go o decided l
      where
        go : (p : Ordering) → Decides (drop j a) (drop j b) (decided_index (Some p)) → is_ne p ≡ true → Seen a b (ordering_index p)
        go Less k m = record { told = λ q. here ∙ k.told q }
        go Equal k m = absurd (false≢true m)
        go Greater k m = record { told = λ q. here ∙ k.told q }

    module _ (f : ℕ) (l : is_ne o ≡ false) (ef : f ≡ j + digits_of (drop j a)) where
      four : decided_index (Some o) ≡ 4
      unfolding decided_index
      four = rw (index_same o Equal (index_level o l))

      pub seen_on : compared a b ≡ compared (drop f a) (drop f b)
      seen_on =
          let k = digits_of (drop j a) in
          here ∙ decided.passed four
          ∙ ap₂ compared (drop-drop k j a ∙ ap (λ (m : ℕ). drop m a) (sym ef)) (drop-drop k j b ∙ ap (λ (m : ℕ). drop m b) (sym ef))

      pub seen_less : i < length a → length a - f < length a - i
      seen_less h = omega (arith, e, decided.some four, ef)

module _ (a b : List ℕ) (i : ℕ) (v : compared a b ≡ compared (drop i a) (drop i b)) (l : length a ≤ i) where
  pub seen_over_shorter : i < length b → Seen a b (seen_index (Some Less))
  unfolding seen_index
  seen_over_shorter h = record { told = λ k. v ∙ left_shorter a b (length a) (length b) i refl refl l h }

  pub seen_over_same : length b ≤ i → Seen a b (seen_index (Some Equal))
  unfolding seen_index
  seen_over_same h = record { told = λ k. v ∙ left_none a b (length a) (length b) i refl refl l h }
