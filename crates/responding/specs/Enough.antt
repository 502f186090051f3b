-- The front of an input is enough: what follows the longest two lines, the longest library and a text that is one byte too long does not
-- change what is printed.
use Rattle.std.specs.Prelude.{◌≡◌, ℕ, zero, suc, ◌+◌, ◌-◌, ◌<◌, ◌≤◌, min, Bool, ◌&&◌, eqb, leb, ltb, take, drop}
use Rattle.std.proofs.Math.Path.{refl, sym, ap}
use Rattle.std.proofs.Common.{◌∙◌, arith, length-take, length-drop, take_all}
use Rattle.std.proofs.Math.Numerals.{unary_clauses}
use Rattle.std.proofs.Math.Bool.{true, false}
use mathlib.Core.List.{List, [], ◌∷◌}
use Rattle.std.proofs.Math.ListN.{length}
use Rattle.std.proofs.Math.Seq.{take-nil, take-take}
use borrow.Author.Tests.{lt-ltb, le-leb, lt-leb, leb-true, leb-false}
use Rattle.meaning.specs.Lists.{pick}
use Rattle.meaning.specs.Names.{Name, slice, same}
use Rattle.meaning.specs.Numbers.{text_size, name_size, over_size, memory_size, program_output, module_limit}
use Rattle.meaning.specs.Tokens.{run, run_end}
use Rattle.meaning.specs.Syntax.{Module}
use Rattle.meaning.specs.Grammar.{Result, done, refused, read}
use Rattle.meaning.specs.Texts.{two_texts, behind, read_behind, library_first, read_texts}
use Rattle.meaning.specs.Answer.{answer, in_line, request, request_end, has_request, library_request, library_request_end, library_digits, library_written, library_length, has_library_line, library_too_long, texts_in, answer_to, printed, asfnorm}
use Rattle.responding.specs.Program.{answer_behind, asfnorm_with, as_lent}

-- where the longest first line ends, and the longest line of a library
abbrev request_most : ℕ
request_most = length request + name_size

abbrev library_most : ℕ
library_most = length library_request + library_digits

-- both lines, the longest library, and a text that is one byte too long
abbrev pub input_size : ℕ
input_size = request_most + 1 + (library_most + 1) + text_size + text_size + 1

drop_take : (i n : ℕ) (s : List ℕ) → drop i (take n s) ≡ take (n - i) (drop i s)
drop_take zero n s = simp unary_clauses
drop_take (suc i) zero s = let none : 0 - suc i ≡ 0 = omega arith in rw none
drop_take (suc i) (suc n) [] = sym (take-nil (suc n - suc i))
drop_take (suc i) (suc n) (x ∷ s) = simp unary_clauses (drop_take i n s)

slice_taken : (s : List ℕ) (n a e : ℕ) → e ≤ n → slice (take n s) a e ≡ slice s a e
slice_taken s n a e h = ap (take (e - a)) (drop_take a n s) ∙ take-take (e - a) (n - a) (drop a s) (omega arith)

-- a line of what is taken ends where it ended, or where taking did
run_taken : (s : List ℕ) (n : ℕ) → run in_line (take n s) ≡ min n (run in_line s)
unfolding run pick
run_taken s zero = omega arith
run_taken [] (suc n) = omega arith
run_taken (x ∷ s) (suc n) = go (in_line (x ∷ s)) (run_taken s n)
  where
    go : (b : Bool) → run in_line (take n s) ≡ min n (run in_line s)
        → pick b (suc (run in_line (take n s))) 0 ≡ min (suc n) (pick b (suc (run in_line s)) 0)
    go true e = omega (arith, e)
    go false e = omega arith

line_taken : (s : List ℕ) (n i : ℕ) → i ≤ n → run_end in_line (take n s) i ≡ min n (run_end in_line s i)
unfolding run_end
line_taken s n i h =
    ap (λ (t : List ℕ). i + run in_line t) (drop_take i n s) ∙ omega (arith, h, run_taken (drop i s) (n - i))

-- ---- a customer's text that is too long is refused whatever stands in it, once the library is read

module _ (c c' : List ℕ) (h : text_size < length c) (h' : text_size < length c') where
  long_refused : (t : List ℕ) → text_size < length t → (n : ℕ) (taken : List Name) → read t n taken ≡ refused over_size text_size
  unfolding read pick
  long_refused t l n taken = rw (lt-leb (length t) text_size l)

  behind_same : (ls : List Module) → read_behind ls c ≡ read_behind ls c'
  unfolding read_behind
  behind_same ls = ap (behind ls) (long_refused c h _ _ ∙ sym (long_refused c' h' _ _))

  first_same : (r : Result (List Module)) → library_first r c ≡ library_first r c'
  unfolding library_first
  first_same (done ls s) = behind_same ls
  first_same (refused k p) = refl

  read_same : (l : List ℕ) → read_texts (two_texts l c) ≡ read_texts (two_texts l c')
  unfolding read_texts two_texts
  read_same l = λ i. pick (eqb (length l) 0) (behind_same [] i) (first_same (read l module_limit []) i)

  long_same : (memory_lent output_lent : ℕ) (asked : Name) (l : List ℕ)
      → answer memory_lent output_lent asked (two_texts l c) ≡ answer memory_lent output_lent asked (two_texts l c')
  unfolding answer
  long_same memory_lent output_lent asked l = rw (read_same l)

-- ---- what follows the first line

neither : (a b : Bool) → (a && b && false) ≡ false
neither true true = refl
neither true false = refl
neither false b = refl

module _ (rest : List ℕ) (k : ℕ) (many : library_most + 1 + text_size + text_size + 1 ≤ k) (more : k < length rest) where
  abbrev cut : List ℕ
  cut = take k rest

  cut_size : length cut ≡ k
  cut_size = omega (arith, more, length-take k rest)

  line_ends : library_request_end cut ≡ min k (library_request_end rest)
  line_ends = line_taken rest k (length library_request) (omega (arith, many))

  module _ (memory_lent output_lent : ℕ) (asked : Name) where
    alone_same : answer memory_lent output_lent asked (two_texts [] cut) ≡ answer memory_lent output_lent asked (two_texts [] rest)
    alone_same = long_same cut rest (omega (arith, cut_size, many)) (omega (arith, more, many)) memory_lent output_lent asked []

    -- a line that is too long is none
    module _ (long : library_most < library_request_end rest) where
      no_line : (s : List ℕ) → library_most < library_request_end s → has_library_line s ≡ false
      unfolding has_library_line pick
      no_line s l =
          let e = library_request_end s in
          rw (lt-leb e library_most l, neither (same (take (length library_request) s) library_request) (ltb e (length s)))

      unlined_same : answer_behind memory_lent output_lent asked cut ≡ answer_behind memory_lent output_lent asked rest
      unfolding answer_behind library_too_long texts_in pick
      unlined_same = rw (no_line cut (omega (arith, line_ends, long, many)), no_line rest long) alone_same

    module _ (short : library_request_end rest ≤ library_most) where
      same_line_end : library_request_end cut ≡ library_request_end rest
      same_line_end = omega (arith, line_ends, short, many)

      same_written : library_written cut ≡ library_written rest
      same_written = rw same_line_end (slice_taken rest k (length library_request) (library_request_end rest) (omega (arith, short, many)))

      same_line : has_library_line cut ≡ has_library_line rest
      unfolding has_library_line
      same_line =
          let here : library_request_end rest < k = omega (arith, short, many) in
          let there : library_request_end rest < length rest = omega (arith, short, many, more) in
          rw (
            same_written,
            same_line_end,
            take-take (length library_request) k rest (omega (arith, many)),
            cut_size,
            lt-ltb (library_request_end rest) k here,
            lt-ltb (library_request_end rest) (length rest) there,
          )

      -- the library's length is told, and is not too long
      module _ (fits : library_length rest ≤ text_size) where
        abbrev from : ℕ
        from = library_request_end rest + 1

        abbrev to : ℕ
        to = from + library_length rest

        both_same : answer memory_lent output_lent asked (two_texts (slice cut from to) (drop to cut))
            ≡ answer memory_lent output_lent asked (two_texts (slice rest from to) (drop to rest))
        both_same =
            ap (λ (l : List ℕ). answer memory_lent output_lent asked (two_texts l (drop to cut)))
            (slice_taken rest k from to (omega (arith, short, fits, many)))
            ∙ long_same (drop to cut) (drop to rest) (omega (arith, short, fits, many, cut_size, length-drop to cut))
            (omega (arith, short, fits, many, more, length-drop to rest)) memory_lent output_lent asked (slice rest from to)

        framed_same : (b : Bool)
            → answer memory_lent output_lent asked (pick (pick b true false) (two_texts (slice cut from to) (drop to cut)) (two_texts [] cut))
            ≡ answer memory_lent output_lent asked (pick (pick b true false) (two_texts (slice rest from to) (drop to rest)) (two_texts [] rest))
        unfolding pick
        framed_same true = both_same
        framed_same false = alone_same

        texts_same : answer memory_lent output_lent asked (texts_in cut) ≡ answer memory_lent output_lent asked (texts_in rest)
        unfolding texts_in
        texts_same =
            rw (
              same_line,
              same_written,
              same_line_end,
              le-leb to (length cut) (omega (arith, short, fits, many, cut_size)),
              le-leb to (length rest) (omega (arith, short, fits, many, more)),
            )
            (framed_same (has_library_line rest))

        fitting_same : answer_behind memory_lent output_lent asked cut ≡ answer_behind memory_lent output_lent asked rest
        unfolding answer_behind library_too_long
        fitting_same = rw (same_line, same_written, texts_same)

      -- it is too long, if it is told
      module _ (over : text_size < library_length rest) where
        over_same : (b : Bool) → has_library_line rest ≡ b → answer_behind memory_lent output_lent asked cut ≡ answer_behind memory_lent output_lent asked rest
        unfolding answer_behind library_too_long texts_in pick
        over_same true e = rw (same_line, same_written, e, lt-ltb text_size (library_length rest) over)
        over_same false e = rw (same_line, e) alone_same

      by_length : (b : Bool) → leb (library_length rest) text_size ≡ b → answer_behind memory_lent output_lent asked cut ≡ answer_behind memory_lent output_lent asked rest
      by_length true e = fitting_same (leb-true (library_length rest) text_size e)
      by_length false e = over_same (leb-false (library_length rest) text_size e) (has_library_line rest) refl

    by_line : (b : Bool) → leb (library_request_end rest) library_most ≡ b
        → answer_behind memory_lent output_lent asked cut ≡ answer_behind memory_lent output_lent asked rest
    by_line true e = by_length (leb-true (library_request_end rest) library_most e) (leb (library_length rest) text_size) refl
    by_line false e = unlined_same (leb-false (library_request_end rest) library_most e)

    rest_same : answer_behind memory_lent output_lent asked cut ≡ answer_behind memory_lent output_lent asked rest
    rest_same = by_line (leb (library_request_end rest) library_most) refl

-- ---- the whole input

-- a first line that is too long is none
not_asked : (input : List ℕ) → request_most < request_end input → has_request input ≡ false
unfolding has_request
not_asked input long =
    rw (lt-leb (request_end input) request_most long) (neither (same (take (length request) input) request) (ltb (request_end input) (length input)))

module _ (input : List ℕ) (n : ℕ) (most : input_size ≤ n) (more : n < length input) where
  abbrev front : List ℕ
  front = take n input

  front_size : length front ≡ n
  front_size = omega (arith, more, length-take n input)

  ends : request_end front ≡ min n (request_end input)
  ends = line_taken input n (length request) (omega (arith, most))

  module _ (memory_lent output_lent : ℕ) where
    module _ (short : request_end input ≤ request_most) where
      same_end : request_end front ≡ request_end input
      same_end = omega (arith, ends, short, most)

      still_asked : has_request front ≡ has_request input
      unfolding has_request
      still_asked =
          let here : request_end input < n = omega (arith, short, most) in
          let there : request_end input < length input = omega (arith, short, most, more) in
          rw (
            take-take (length request) n input (omega (arith, most)),
            same_end,
            front_size,
            lt-ltb (request_end input) n here,
            lt-ltb (request_end input) (length input) there,
          )

      still_called : slice front (length request) (request_end front) ≡ slice input (length request) (request_end input)
      still_called = rw same_end (slice_taken input n (length request) (request_end input) (omega (arith, short, most)))

      abbrev behind_it : List ℕ
      behind_it = drop (request_end input + 1) input

      still_answered : (asked : Name) → answer_behind memory_lent output_lent asked (drop (request_end front + 1) front) ≡ answer_behind memory_lent output_lent asked behind_it
      still_answered asked =
          rw (same_end, drop_take (request_end input + 1) n input)
          (rest_same behind_it (n - (request_end input + 1)) (omega (arith, short, most))
          (omega (arith, short, most, more, length-drop (request_end input + 1) input)) memory_lent output_lent asked)

      short_same : answer_to memory_lent output_lent front ≡ answer_to memory_lent output_lent input
      unfolding answer_to answer_behind
      short_same = rw (still_asked, still_called, still_answered)

    long_line_same : request_most < request_end input → answer_to memory_lent output_lent front ≡ answer_to memory_lent output_lent input
    unfolding answer_to pick
    long_line_same long = rw (not_asked front (omega (arith, ends, long, most)), not_asked input long)

    front_same : (b : Bool) → leb (request_end input) request_most ≡ b → answer_to memory_lent output_lent front ≡ answer_to memory_lent output_lent input
    front_same true e = short_same (leb-true (request_end input) request_most e)
    front_same false e = long_line_same (leb-false (request_end input) request_most e)

pub front_enough : (memory_lent output_lent : ℕ) (input : List ℕ) (n : ℕ) → input_size ≤ n
    → asfnorm_with memory_lent output_lent (take n input) ≡ asfnorm_with memory_lent output_lent input
unfolding asfnorm_with
front_enough memory_lent output_lent input n most = go (leb (length input) n) refl
  where
    go : (b : Bool) → leb (length input) n ≡ b → asfnorm_with memory_lent output_lent (take n input) ≡ asfnorm_with memory_lent output_lent input
    go true e = rw (take_all n input (leb-true (length input) n e))
    go false e = ap printed (front_same input n most (leb-false (length input) n e) memory_lent output_lent (leb (request_end input) request_most) refl)

-- so the program prints what document 02 says of its whole input, though it reads no more
pub read_enough : (input : List ℕ) → asfnorm (take input_size input) ≡ asfnorm input
read_enough input =
    as_lent (take input_size input) ∙ front_enough memory_size program_output input input_size (omega arith) ∙ sym (as_lent input)
