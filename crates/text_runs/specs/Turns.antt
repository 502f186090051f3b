-- What a turn of a loop over two texts or two names finds, in the code's terms: both from i on.
use Rattle.std.specs.Prelude.{◌≡◌, Bool, List, ℕ, suc, ◌+◌, ◌<◌, ◌≤◌, length, drop}
use Rattle.std.proofs.Common.{sym, ◌∙◌, arith, add-zero, add-one}
use Rattle.std.proofs.Math.Path.{ap}
use Rattle.std.proofs.Math.Bool.{true, false}
use Rattle.std.proofs.Math.ListN.{get_or, drop_of_length-le}
use Rattle.std.proofs.Math.Seq.{drop-cons}
use borrow.Author.Tests.{eq-eqb, ne_eqb, le-leb, lt-leb}
use Rattle.meaning.specs.Lists.{pick}
use Rattle.meaning.specs.Names.{same, bytes_not_after}
use Rattle.text_runs.specs.Orders.{compared, bytes_compared}
use Rattle.text_runs.specs.Runs.{leading}
use Rattle.text_runs.specs.RunLaws.{name_shorter, name_longer, names_end}

-- ---- which of two texts comes first by its bytes: x and y are their bytes at i

module _ (a b : List ℕ) (i : ℕ) where
  pub compared_long : i < length a → length b ≤ i → bytes_compared (drop i a) (drop i b) ≡ 2
  unfolding bytes_compared same bytes_not_after pick
  compared_long h l = rw (drop-cons a i 0, drop_of_length-le b l)

  pub compared_short : length a ≤ i → i < length b → bytes_compared (drop i a) (drop i b) ≡ 0
  unfolding bytes_compared same bytes_not_after pick
  compared_short l h = rw (drop_of_length-le a l, drop-cons b i 0)

  pub compared_end : length a ≤ i → length b ≤ i → bytes_compared (drop i a) (drop i b) ≡ 1
  unfolding bytes_compared same pick
  compared_end l m = rw (drop_of_length-le a l, drop_of_length-le b m)

  module _ (h : i < length a) (g : i < length b) where
    pub compared_less : get_or a i 0 < get_or b i 0 → bytes_compared (drop i a) (drop i b) ≡ 0
    unfolding bytes_compared same bytes_not_after pick
    compared_less l =
        let x = get_or a i 0 in
        let y = get_or b i 0 in
        rw (drop-cons a i 0, drop-cons b i 0, ne_eqb x y (λ e. omega arith), le-leb x y (omega arith))

    pub compared_more : get_or b i 0 < get_or a i 0 → bytes_compared (drop i a) (drop i b) ≡ 2
    unfolding bytes_compared same bytes_not_after pick
    compared_more l =
        let x = get_or a i 0 in
        let y = get_or b i 0 in
        rw (drop-cons a i 0, drop-cons b i 0, ne_eqb x y (λ e. omega arith), lt-leb x y l)

    pub compared_on : get_or b i 0 ≤ get_or a i 0 → get_or a i 0 ≤ get_or b i 0 → bytes_compared (drop i a) (drop i b) ≡ bytes_compared (drop (i + 1) a) (drop (i + 1) b)
    unfolding bytes_compared same bytes_not_after pick
    compared_on l m = rw (drop-cons a i 0, drop-cons b i 0, eq-eqb (get_or a i 0) (get_or b i 0) (omega arith), add-one)

-- ---- a loop over bytes that pass a test is at e: x is the byte there

module _ (p : ℕ → Bool) (a : List ℕ) (size e x : ℕ) (l : size ≡ length a) where
  pub leads_on : e < size → x ≡ get_or a e 0 → p x ≡ true → e + leading p (drop e a) ≡ e + 1 + leading p (drop (e + 1) a)
  unfolding leading pick
  leads_on h f t =
      let here : p (get_or a e 0) ≡ true = ap p (sym f) ∙ t in
      rw (drop-cons a e 0 (omega arith), here) (omega (arith, ap (λ (j : ℕ). leading p (drop j a)) (add-one e)))

  pub leads_stop : e < size → x ≡ get_or a e 0 → p x ≡ false → e + leading p (drop e a) ≡ e
  unfolding leading pick
  leads_stop h f t =
      let here : p (get_or a e 0) ≡ false = ap p (sym f) ∙ t in
      rw (drop-cons a e 0 (omega arith), here) (add-zero e)

  pub leads_end : size ≤ e → e + leading p (drop e a) ≡ e
  unfolding leading
  leads_end h = rw (drop_of_length-le a {i = e} (omega arith)) (add-zero e)

-- ---- what is left of two names, of n and m bytes, from i on

module _ (a b : List ℕ) (n m i : ℕ) (ln : n ≡ length a) (lm : m ≡ length b) where
  pub left_longer : i < n → m ≤ i → compared (drop i a) (drop i b) ≡ 2
  left_longer h l = rw (drop-cons a i 0 (omega arith), drop_of_length-le b {i = i} (omega arith)) (name_longer (get_or a i 0) (drop (suc i) a))

  pub left_shorter : n ≤ i → i < m → compared (drop i a) (drop i b) ≡ 0
  left_shorter l h = rw (drop_of_length-le a {i = i} (omega arith), drop-cons b i 0 (omega arith)) (name_shorter (get_or b i 0) (drop (suc i) b))

  pub left_none : n ≤ i → m ≤ i → compared (drop i a) (drop i b) ≡ 1
  left_none l k = rw (drop_of_length-le a {i = i} (omega arith), drop_of_length-le b {i = i} (omega arith)) names_end
