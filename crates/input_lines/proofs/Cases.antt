-- One law for each way through the code, in the code's terms.
use mathlib.Core.Path.{◌≡◌, refl, sym, ap, ◌∙◌}
use mathlib.Core.Bool.{Bool, true, false, ◌&&◌, false≢true}
use mathlib.Core.List.{List, [], ◌∷◌}
use Prim.Native.Nat.{ℕ, zero, suc, ◌+◌, ◌-◌, ◌*◌, ◌/◌, ◌%◌, ◌<◌, ◌≤◌}
use native.Mathlib.Numerals.{add-one}
use native.Mathlib.Omega.{arith}
use borrow.Author.Rules.{rules}
use borrow.Author.Tests.{eq-eqb, ne_eqb, lt-ltb, le-ltb, le-leb, lt-leb, ltb-true, leb-true}
use mir.Syntax.{w64}
use mir.Val.{Fits}
use lib.Dec.{leb, ltb}
use lib.ListN.{length, get_or, take, drop, length-append, length-take, drop_of_length-le}
use lib.Seq.{take_at, drop-cons}
use Rattle.meaning.specs.Laws.{by_cases}
use Rattle.meaning.specs.Lists.{pick}
use Rattle.meaning.specs.Names.{same}
use Rattle.meaning.specs.Numbers.{text_size}
use Rattle.meaning.specs.Tokens.{run_end}
use Rattle.meaning.specs.Written.{digits, decimal}
use Rattle.meaning.specs.Answer.{in_line, request, request_end, has_request, library_request, library_request_end, said_by, has_library_line, library_too_long, texts_in}
use Rattle.text_names.proofs.Runs.{run_on, run_stop, run_from, front}
use Rattle.list_pen.specs.Pen.{Pen, pen, written}
use Rattle.list_pen.proofs.Laws.{written_kept, laid, reached}
use Rattle.input_lines.specs.Framed.{AloneFramed, BothFramed}

-- ---- a line that goes on at s: a loop at i, from where its end is sought

module _ (input : List ℕ) (s i : ℕ) where
  abbrev pub Seeking : Type 0
  Seeking = run_end in_line input s ≡ run_end in_line input i

  pub line_on : i < length input → (get_or input i 0 ≡ 10 → ⊥) → Seeking → run_end in_line input s ≡ run_end in_line input (i + 1)
  unfolding pick
  line_on h n v = v ∙ run_on in_line input i h (rw (front input i, ne_eqb (get_or input i 0) 10 n))

  pub line_stop : i < length input → get_or input i 0 ≡ 10 → Seeking → i ≡ run_end in_line input s
  unfolding pick
  line_stop h n v = sym (v ∙ run_stop in_line input i h (rw (front input i, eq-eqb (get_or input i 0) 10 n)))

-- the name starts behind `normalise=`
pub request_start : (input : List ℕ) (e : ℕ) → e ≡ request_end input → 10 ≤ e
request_start input e h = run_from in_line input 10 e h

pub request_room : (input : List ℕ) (e : ℕ) → e ≡ request_end input → e < length input → 10 ≤ length input
request_room input e h l = omega (arith, request_start input e h)

-- the three tests of a line: where one of the last two fails, and where both pass
no_end : (s x : Bool) → false ≡ (s && false && x)
no_end true x = refl
no_end false x = refl

too_long : (s : Bool) → false ≡ (s && true && false)
too_long true = refl
too_long false = refl

alone : (s : Bool) → s ≡ (s && true && true)
alone true = refl
alone false = refl

module _ (input : List ℕ) (e : ℕ) (at_end : e ≡ request_end input) where
  pub request_unended : length input ≤ e → false ≡ has_request input
  unfolding has_request pick
  request_unended h = rw (← at_end, le-ltb e (length input) h) (no_end (same (take 10 input) request) _)

  pub request_long : e < length input → 50 < e → false ≡ has_request input
  unfolding has_request pick
  request_long h k = rw (← at_end, lt-ltb e (length input) h, lt-leb e 50 k) (too_long (same (take 10 input) request))

  pub request_told : (r : Bool) → e < length input → e ≤ 50 → r ≡ same (take 10 input) request → r ≡ has_request input
  unfolding has_request pick
  request_told r h k s = rw (← at_end, lt-ltb e (length input) h, le-leb e 50 k) (s ∙ alone (same (take 10 input) request))

-- both tests of a first line that ends passed
record Ends (x y : Bool) : Type 0 where
  pub ended : x ≡ true
  pub short : y ≡ true

both : (s x y : Bool) → (s && x && y) ≡ true → Ends x y
both true true true h = record { ended = refl; short = refl }
both true true false h = absurd (false≢true h)
both true false y h = absurd (false≢true h)
both false x y h = absurd (false≢true h)

-- and so did they of a library's line
line_both : (s x y exact : Bool) → pick (s && x && y) exact false ≡ true → Ends x y
unfolding pick
line_both s x y exact q = both s x y (go (s && x && y) q)
  where
    go : (b : Bool) → pick b exact false ≡ true → b ≡ true
    go true e = refl
    go false e = absurd (false≢true e)

module _ (input : List ℕ) (e : ℕ) (at_end : e ≡ request_end input) (r : Bool) (told : r ≡ has_request input) (asked : r ≡ true) where
  ends : Ends (ltb e (length input)) (leb e 50)
  unfolding has_request
  ends = rw at_end (both (same (take 10 input) request) _ _ (sym told ∙ asked))

  pub request_ends : e < length input
  request_ends = ltb-true e (length input) ends.ended

  pub request_ends_within : e ≤ length input
  request_ends_within = omega (arith, request_ends)

  pub request_short : e ≤ 50
  request_short = leb-true e 50 ends.short

  pub request_fits : Fits w64 (e + 1)
  request_fits = omega (arith, request_short)

  pub behind_request : e + 1 ≤ length input
  behind_request = omega (arith, request_ends)

-- ---- the library's line, which ends at e

pub digits_size : (n k : ℕ) → length (digits n k) ≤ n
unfolding digits
digits_size zero k = omega arith
digits_size (suc n) k =
    by_cases (λ (ds : List ℕ). length ds ≤ suc n) (ltb k 10) _ _ (λ e. omega arith)
    (λ e. omega (arith, digits_size n (k / 10), length-append (digits n (k / 10)) ((48 + k % 10) ∷ [])))

-- the most that so many bytes can say
unfoldable pub most : ℕ → ℕ
most zero = 0
most (suc i) = most i * 10 + 255

most_grows : (i k : ℕ) → most i ≤ most (i + k)
unfolding most
most_grows i zero = let e : i + 0 ≡ i = omega arith in omega (arith, ap most e)
most_grows i (suc k) = let e : i + suc k ≡ suc (i + k) = omega arith in omega (arith, ap most e, most_grows i k)

most_nine : (i : ℕ) → i ≤ 9 → most i ≤ 28333333305
unfolding most
most_nine i h = let nine : i + (9 - i) ≡ 9 = omega arith in omega (arith, most_grows i (9 - i), ap most nine)

-- a loop at i, where what is behind it says n
pub record Saying (bs : List ℕ) (i n : ℕ) : Type 0 where
  pub few : length bs ≤ 9
  pub within : i ≤ length bs
  pub so_far : said_by 0 bs ≡ said_by n (drop i bs)
  pub low : n ≤ most i

pub saying_none : (bs : List ℕ) → length bs ≤ 9 → Saying bs 0 0
saying_none bs h = record { few = h; within = omega arith; so_far = refl; low = omega arith }

module _ (bs : List ℕ) (i n : ℕ) (v : Saying bs i n) where
  saying_low : n ≤ 28333333305
  saying_low = omega (arith, v.low, most_nine i (omega (arith, v.few, v.within)))

  pub saying_ten : Fits w64 (n * 10)
  saying_ten = omega (arith, saying_low)

  pub saying_more : (d : ℕ) → d ≤ 207 → Fits w64 (n * 10 + d)
  saying_more d h = omega (arith, saying_low)

  pub saying_again : (d : ℕ) → i < length bs → d ≤ 207 → d ≡ get_or bs i 0 - 48 → Saying bs (i + 1) (n * 10 + d)
  unfolding said_by most
  saying_again d h b e = record {
    few = v.few;
    within = omega arith;
    so_far = v.so_far ∙ rw (drop-cons bs i 0 h, e, add-one i);
    low = rw (add-one i) (omega (arith, v.low, b, e));
  }

  pub saying_end : length bs ≤ i → n ≡ said_by 0 bs
  unfolding said_by
  saying_end h = sym (v.so_far ∙ rw (drop_of_length-le bs h))

-- ten digits stand whole on a page of ten bytes
module _ (k n : ℕ) (page page' : List ℕ) (ten : length page ≡ 10) (e : pen k page' ≡ written 11 (digits 10 n) (pen 0 page)) where
  ten_reached : k ≡ length (digits 10 n)
  ten_reached = omega (arith, reached 11 0 k (digits 10 n) page page' (omega (arith, digits_size 10 n)) e)

  pub ten_within : k ≤ length page'
  ten_within = omega (arith, ten_reached, digits_size 10 n, ten, ap (λ (p : Pen). length p.out) e, written_kept 11 (digits 10 n) (pen 0 page))

  ten_front : take (k - 0) (drop 0 page') ≡ decimal n
  unfolding decimal
  ten_front =
      let size : k - 0 ≡ k = omega arith in
      let stands = laid 11 0 k (digits 10 n) page page' (omega (arith, ten)) (omega (arith, digits_size 10 n)) (omega (arith, digits_size 10 n, ten)) e in
      rw (size, stands) (take_at (digits 10 n) (drop (0 + length (digits 10 n)) page) k (sym ten_reached))

  pub decimal_told : (bs : List ℕ) (r : Bool) → r ≡ same bs (take (k - 0) (drop 0 page')) → r ≡ same bs (decimal n)
  decimal_told bs r h = rw ten_front at h

module _ (rest : List ℕ) (e : ℕ) (at_end : e ≡ library_request_end rest) where
  pub library_start : 8 ≤ e
  library_start = run_from in_line rest 8 e at_end

  pub library_room : e < length rest → 8 ≤ length rest
  library_room h = omega (arith, library_start)

  pub library_digits : e ≤ 17 → length (take (e - 8) (drop 8 rest)) ≤ 9
  library_digits h = omega (arith, length-take (e - 8) (drop 8 rest))

  pub library_unended : length rest ≤ e → false ≡ has_library_line rest
  unfolding has_library_line pick
  library_unended h = rw (← at_end, le-ltb e (length rest) h, ← no_end (same (take 8 rest) library_request) (leb e 17))

  pub library_long : e < length rest → 17 < e → false ≡ has_library_line rest
  unfolding has_library_line pick
  library_long h k = rw (← at_end, lt-ltb e (length rest) h, lt-leb e 17 k, ← too_long (same (take 8 rest) library_request))

  module _ (h : e < length rest) (k : e ≤ 17) (b : Bool) (s : b ≡ same (take 8 rest) library_request) where
    pub library_other : b ≡ false → false ≡ has_library_line rest
    unfolding has_library_line pick
    library_other y = rw (← s, y)

    pub library_told : (n : ℕ) (r : Bool) → b ≡ true → n ≡ said_by 0 (take (e - 8) (drop 8 rest)) → r ≡ same (take (e - 8) (drop 8 rest)) (decimal n)
        → r ≡ has_library_line rest
    unfolding has_library_line pick
    library_told n r y f g = rw (← s, y, ← at_end, lt-ltb e (length rest) h, le-leb e 17 k, ← f) g

  module _ (b : Bool) (told : b ≡ has_library_line rest) where
    pub framed_none : b ≡ false → AloneFramed rest
    unfolding library_too_long texts_in pick
    framed_none y = record { short = rw (← told, y); texts = rw (← told, y) }

    module _ (y : b ≡ true) where
      line_ends : Ends (ltb e (length rest)) (leb e 17)
      unfolding has_library_line
      line_ends = rw at_end (line_both (same (take 8 rest) library_request) _ _ _ (sym told ∙ y))

      pub line_ends_within : e < length rest
      line_ends_within = ltb-true e (length rest) line_ends.ended

      pub line_reaches : e ≤ length rest
      line_reaches = omega (arith, line_ends_within)

      pub line_short : length (take (e - 8) (drop 8 rest)) ≤ 9
      line_short = library_digits (leb-true e 17 line_ends.short)

      pub line_fits : Fits w64 (e + 1)
      line_fits = omega (arith, leb-true e 17 line_ends.short)

      pub library_fits : (n : ℕ) → n ≤ 32768 → Fits w64 (e + 1 + n)
      library_fits n h = omega (arith, leb-true e 17 line_ends.short)

      module _ (n : ℕ) (f : n ≡ said_by 0 (take (e - 8) (drop 8 rest))) where
        pub framed_long : 32768 < n → library_too_long rest ≡ true
        unfolding library_too_long text_size pick
        framed_long h = rw (← told, y, ← at_end, ← f, lt-ltb 32768 n h)

        pub framed_both : n ≤ 32768 → e + 1 + n ≤ length rest → BothFramed rest (e + 1) (e + 1 + n)
        unfolding library_too_long texts_in text_size pick
        framed_both h l = record {
          short = rw (← told, y, ← at_end, ← f, le-ltb 32768 n h);
          texts = rw (← told, y, ← at_end, ← f, le-leb (e + 1 + n) (length rest) l);
          forward = omega arith;
          within = l;
        }

        pub framed_few : n ≤ 32768 → length rest < e + 1 + n → AloneFramed rest
        unfolding library_too_long texts_in text_size pick
        framed_few h l = record {
          short = rw (← told, y, ← at_end, ← f, le-ltb 32768 n h);
          texts = rw (← told, y, ← at_end, ← f, lt-leb (e + 1 + n) (length rest) l);
        }

-- what the answers of this crate hand to `search`
pub ruleset cases = (line_on, line_stop, request_start, request_room, request_unended, request_long, request_told, request_ends, request_ends_within, request_fits, behind_request, saying_none, saying_ten, saying_more, saying_again, saying_end, ten_within, decimal_told, library_start, library_room, library_digits, library_unended, library_long, library_other, library_told, framed_none, line_ends_within, line_reaches, line_short, line_fits, library_fits, framed_long, framed_both, framed_few, rules)
