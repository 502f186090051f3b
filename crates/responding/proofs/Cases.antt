-- One law for each way through the code, in the code's terms.
use mathlib.Core.Path.{◌≡◌, refl, sym, ap, subst, ◌∙◌}
use mathlib.Core.Bool.{Bool, true, false}
use mathlib.Core.List.{List, [], ◌++◌}
use Prim.Native.Nat.{ℕ, ◌+◌, ◌-◌, ◌<◌, ◌≤◌}
use native.Mathlib.Omega.{arith}
use borrow.Author.Rules.{rules}
use borrow.Author.Tests.{lt-ltb, le-ltb}
use lib.Dec.{eqb, ltb}
use lib.ListN.{length, take, drop, length-append, length-take, length-drop}
use lib.Seq.{take-length}
use Rattle.meaning.specs.Laws.{by_cases}
use Rattle.meaning.specs.Lists.{pick, each}
use Rattle.meaning.specs.Names.{bytes, slice}
use Rattle.meaning.specs.Numbers.{text_size, memory_size, lent_short}
use Rattle.meaning.specs.Written.{decimal}
use Rattle.meaning.specs.Checks.{lone}
use Rattle.meaning.specs.Reached.{short_or_blank}
use Rattle.meaning.specs.Texts.{Texts, two_texts}
use Rattle.meaning.specs.Answer.{request_end, has_request, library_too_long, texts_in, answer, answer_to, output_after, memory_after, refusal, unread}
use Rattle.meaning.specs.Answer as Meaning
use Rattle.meaning.specs.Listing.{lines_text}
use Rattle.meaning.specs.Contract.{call, same_length}
use Rattle.list_pen.specs.Pen.{pen, written}
use Rattle.list_pen.proofs.Laws.{reached}
use Rattle.answer.specs.declared.Name.{Name}
use Rattle.answer.specs.declared.Answer.{Answer}
use Rattle.answer.specs.Answers as Answers
use Rattle.answer.specs.Answers.{told_size, returned, told_call}
use Rattle.input_lines.specs.declared.Framing.{Framing}
use Rattle.input_lines.specs.declared.Framing.TheVariants.{Alone, TooLong, Both}
use Rattle.input_lines.specs.Framed.{Framed, AloneFramed, BothFramed}
use Rattle.input_lines.proofs.Cases.{request_start, request_ends, request_ends_within, request_short, request_fits, behind_request, digits_size}
use Rattle.answer_lines.specs.Lines.{line_of, spelled, actual_text, marked_place, refusal_text, answer_text}
use Rattle.responding.specs.Program.{asfnorm_with, page_room, with_memory, answer_behind, Behind, Refused, Responded}
use Rattle.responding.specs.Short.{with_short, behind_short}
use Rattle.responding.specs.Printed.{answer_told}

-- ---- how long what is printed is

decimal_size : (k : ℕ) → length (decimal k) ≤ 10
unfolding decimal
decimal_size k = digits_size 10 k

line_size : (key value : List ℕ) (n : ℕ) → length value ≤ n → length (line_of key value) ≤ length key + n + 2
unfolding line_of
line_size key value n h =
    omega (arith, h, length-append key (bytes "=" ++ (value ++ bytes "\n")), length-append (bytes "=") (value ++ bytes "\n"), length-append value (bytes "\n"))

spelled_size : (n : Name) → length n.bytes ≡ told_size → length (spelled n) ≤ told_size
unfolding spelled
spelled_size n h = omega (arith, h, length-take n.length n.bytes)

-- whatever the struct holds
record Sized (r : Answer) : Type 0 where
  pub module_bytes : length r.evaluating.bytes ≡ told_size
  pub culprit_bytes : length r.culprit.bytes ≡ told_size
  pub actual_bytes : length r.actual.bytes ≡ told_size

actual_size : (k : ℕ) (n : Name) → length n.bytes ≡ told_size → length (actual_text k n) ≤ 50
unfolding actual_text
actual_size k n h =
    by_cases (λ (t : List ℕ). length t ≤ 50) _ _ _ (λ e. line_size (bytes "actual") (spelled n) told_size (spelled_size n h)) (λ e. omega arith)

place_size : (b : Bool) (n : ℕ) → length (marked_place b n) ≤ 18
unfolding marked_place pick
place_size true n = omega (arith, decimal_size n)
place_size false n = omega (arith, decimal_size n)

refusal_size : (r : Answer) → Sized r → length (refusal_text r) ≤ 170
unfolding refusal_text
refusal_size r h =
    let module_line = line_of (bytes "module") (spelled r.evaluating) in
    let name_line = line_of (bytes "name") (spelled r.culprit) in
    let actual_line = actual_text r.number r.actual in
    let place_line = line_of (bytes "at") (marked_place r.in_library r.at) in
    omega (
      arith,
      length-append module_line (name_line ++ (actual_line ++ place_line)),
      length-append name_line (actual_line ++ place_line),
      length-append actual_line place_line,
      line_size (bytes "module") (spelled r.evaluating) told_size (spelled_size r.evaluating h.module_bytes),
      line_size (bytes "name") (spelled r.culprit) told_size (spelled_size r.culprit h.culprit_bytes),
      actual_size r.number r.actual h.actual_bytes,
      line_size (bytes "at") (marked_place r.in_library r.at) 18 (place_size r.in_library r.at),
    )

answer_size : (r : Answer) (output : List ℕ) → Sized r → length (answer_text r output) ≤ length output + page_room
unfolding answer_text
answer_size r output h =
    let number_line = line_of (bytes "answer") (decimal r.number) in
    let count_line = line_of (bytes "modules") (decimal r.modules) in
    let rest = pick (eqb r.number 0) (take r.listing output) (refusal_text r) in
    let most : length rest ≤ length output + 170 =
    by_cases (λ (t : List ℕ). length t ≤ length output + 170) (eqb r.number 0) _ _
    (λ e. omega (arith, length-take r.listing output)) (λ e. omega (arith, refusal_size r h)) in
    omega (
      arith,
      most,
      length-append number_line (count_line ++ rest),
      length-append count_line rest,
      line_size (bytes "answer") (decimal r.number) 10 (decimal_size r.number),
      line_size (bytes "modules") (decimal r.modules) 10 (decimal_size r.modules),
    )

-- what is written from the page's front is within it, where the page has that room
page_holds : (size : ℕ) (bs out page page' : List ℕ) → length bs ≤ length out + page_room → pen size page' ≡ written (length page + 1) bs (pen 0 page)
    → length out + page_room ≤ length page → size ≤ length page
page_holds size bs out page page' few e room =
    omega (arith, few, room, reached (length page + 1) 0 size bs page page' (omega (arith, few, room)) e)

-- ---- the answer

-- 19 is told once
with_answer : (memory output : ℕ) (asked : List ℕ) (x : Texts) → with_memory memory asked (answer memory output asked x) ≡ answer memory output asked x
unfolding with_memory answer pick
with_answer memory output asked x = twice (ltb memory memory_size) _ _
  where
    twice : (b : Bool) (x y : Meaning.Answer) → pick b x (pick b x y) ≡ pick b x y
    twice true x y = refl
    twice false x y = refl

told_either : (b : Bool) (x y : Meaning.Answer) → pick b (Answers.told x) (Answers.told y) ≡ Answers.told (pick b x y)
unfolding pick
told_either true x y = refl
told_either false x y = refl

all_behind : (s : List ℕ) (i : ℕ) → take (length s - i) (drop i s) ≡ drop i s
all_behind s i = ap (λ (n : ℕ). take n (drop i s)) (sym (length-drop i s)) ∙ take-length (drop i s)

module _ (asked : List ℕ) (r : Answer) (work work' : List ℕ) (z : work' ≡ memory_after work) (size : ℕ) (e : size ≡ memory_size) where
  pub refused_short : (q : Answer) → length work < size → q ≡ Answers.told (refusal lent_short 0 asked (lone []) 0) → Refused asked r work q work'
  unfolding pick
  refused_short q h f = record { answer = rw (lt-ltb (length work) memory_size (rw e at h)) f; memory = z }

  pub refused_kept : size ≤ length work → Refused asked r work r work'
  unfolding pick
  refused_kept h = record { answer = rw (le-ltb (length work) memory_size (rw e at h)) refl; memory = z }

-- an answer that is refused in any case, and leaves the output
module _ (asked work out : List ℕ) (a : Meaning.Answer) (bare : a.lines ≡ []) where
  pub bare_output : output_after (with_memory (length work) asked a) out ≡ out
  unfolding with_memory output_after refusal lines_text each
  bare_output = by_cases (λ (x : Meaning.Answer). output_after x out ≡ out) _ _ _ (λ e. refl) (λ e. rw bare refl)

  pub bare_told : (n r : Answer) (work' : List ℕ) → n ≡ Answers.told a → Refused asked n work r work' → r ≡ Answers.told (with_memory (length work) asked a)
  unfolding with_memory
  bare_told n r work' e q =
      q.answer ∙ ap (pick (ltb (length work) memory_size) _) e ∙ told_either (ltb (length work) memory_size) (refusal lent_short 0 asked (lone []) 0) a

module _ (rest : List ℕ) (g : Framing) (h : Framed rest g) (from to : ℕ) (e : g ≡ Both from to) where
  both_framed : BothFramed rest from to
  both_framed = subst (Framed rest) e h

  pub both_forward : from ≤ to
  both_forward = both_framed.forward

  pub both_within : to ≤ length rest
  both_within = both_framed.within

module _ (asked rest work out : List ℕ) (r : Answer) (work' out' : List ℕ) where
  abbrev behind_it : Meaning.Answer
  behind_it = with_memory (length work) asked (answer_behind (length work) (length out) asked rest)

  module _ (x : Texts) (s : library_too_long rest ≡ false) (f : texts_in rest ≡ x) where
    is_answer : behind_it ≡ answer (length work) (length out) asked x
    unfolding answer_behind pick
    is_answer = rw (s, f) (with_answer (length work) (length out) asked x)

    by_texts : returned r out' work' ≡ told_call (call work out asked x) → Behind asked rest work out r work' out'
    unfolding returned told_call call
    by_texts c = record {
      answer = ap (λ (x : Answers.Returned). x.answer) c ∙ ap Answers.told (sym is_answer);
      output = ap (λ (x : Answers.Returned). x.output) c ∙ ap (λ (a : Meaning.Answer). output_after a out) (sym is_answer);
      memory = ap (λ (x : Answers.Returned). x.memory) c;
    }

  pub behind_alone : (g : Framing) → Framed rest g → g ≡ Alone → returned r out' work' ≡ told_call (call work out asked (two_texts (take (0 - 0) (drop 0 rest)) rest))
      → Behind asked rest work out r work' out'
  behind_alone g h e c =
      let f : AloneFramed rest = subst (Framed rest) e h in
      by_texts (two_texts [] rest) f.short f.texts c

  pub behind_both : (g : Framing) (from to : ℕ) → Framed rest g → g ≡ Both from to
      → returned r out' work' ≡ told_call (call work out asked (two_texts (take (to - from) (drop from rest)) (take (length rest - to) (drop to rest))))
      → Behind asked rest work out r work' out'
  behind_both g from to h e c =
      let f = both_framed rest g h from to e in
      by_texts (two_texts (slice rest from to) (drop to rest)) f.short f.texts
      (c ∙ ap (λ (s : List ℕ). told_call (call work out asked (two_texts (slice rest from to) s))) (all_behind rest to))

  pub behind_long : (g : Framing) (n : Answer) → Framed rest g → g ≡ TooLong → n ≡ Answers.told (unread true 4 32768) → Refused asked n work r work' → out' ≡ out
      → Behind asked rest work out r work' out'
  unfolding answer_behind unread pick text_size
  behind_long g n h e f q o = record {
    answer = rw too_long (bare_told asked work out (unread true 4 32768) refl n r work' f q);
    output = rw too_long (o ∙ sym (bare_output asked work out (unread true 4 32768) refl));
    memory = q.memory;
  }
    where
      too_long : library_too_long rest ≡ true
      too_long = subst (Framed rest) e h

  -- the output is as long as it was
  behind_kept : length (output_after behind_it out) ≡ length out
  unfolding with_memory answer_behind refusal unread output_after lines_text each call
  behind_kept =
      by_cases (λ (a : Meaning.Answer). length (output_after a out) ≡ length out) _ _ _ (λ e. refl)
      (λ e. by_cases (λ (a : Meaning.Answer). length (output_after a out) ≡ length out) _ _ _ (λ k. refl) (λ k. same_length work out asked (texts_in rest)))

-- without a first line all names are blank
blank_size : length (Answers.held (short_or_blank [])).bytes ≡ told_size
unfolding Answers.held short_or_blank pick
blank_size = refl

bare_sized : (memory : ℕ) → Sized (Answers.told (with_memory memory [] (unread false 2 0)))
unfolding with_memory Answers.told Answers.held refusal unread
bare_sized memory =
    by_cases (λ (a : Meaning.Answer). Sized (Answers.told a)) (ltb memory memory_size) (refusal lent_short 0 [] (lone []) 0) (unread false 2 0)
    (λ e. record { module_bytes = blank_size; culprit_bytes = refl; actual_bytes = refl })
    (λ e. record { module_bytes = blank_size; culprit_bytes = refl; actual_bytes = refl })

-- ---- the two ways of a response

module _ (input work out page : List ℕ) (e : ℕ) (at_end : e ≡ request_end input) (b : Bool) (told : b ≡ has_request input)
    (r : Answer) (size : ℕ) (work' out' page' : List ℕ) where
  module _ (passed : b ≡ true) (m : length r.evaluating.bytes ≡ told_size) (w : length r.culprit.bytes ≡ told_size)
      (v : length r.actual.bytes ≡ told_size) where
    abbrev asked : List ℕ
    asked = take (e - 10) (drop 10 input)

    abbrev rest : List ℕ
    rest = take (length input - (e + 1)) (drop (e + 1) input)

    abbrev given : Meaning.Answer
    given = with_memory (length work) asked (answer_behind (length work) (length out) asked rest)

    is_answered : answer_to (length work) (length out) input ≡ given
    unfolding answer_to with_memory answer_behind pick
    is_answered = rw (sym told ∙ passed, ← at_end, all_behind input (e + 1))

    is_short : length asked ≤ 40
    is_short = omega (arith, length-take (e - 10) (drop 10 input), request_short input e at_end b told passed)

    pub respond_asked : Behind asked rest work out r work' out' → pen size page' ≡ written (length page + 1) (answer_text r out') (pen 0 page)
        → Responded input work out page size work' out' page'
    unfolding asfnorm_with
    respond_asked c p = record {
      printed = p ∙ ap (λ (bs : List ℕ). written (length page + 1) bs (pen 0 page)) text_is;
      fits = page_holds size (answer_text r out') out page page' few p;
      memory = c.memory;
      output = rw is_answered c.output;
    }
      where
        text_is : answer_text r out' ≡ Meaning.printed (answer_to (length work) (length out) input)
        text_is =
            rw (is_answered, c.answer, c.output) (answer_told given (behind_short asked is_short (length work) (length out) rest) out)

        few : length (answer_text r out') ≤ length out + page_room
        few =
            omega (
              arith,
              answer_size r out' (record { module_bytes = m; culprit_bytes = w; actual_bytes = v }),
              ap (λ (x : List ℕ). length x) c.output,
              behind_kept asked rest work out r work' out',
            )

  module _ (failed : b ≡ false) where
    abbrev none : Meaning.Answer
    none = unread false 2 0

    not_answered : answer_to (length work) (length out) input ≡ with_memory (length work) [] none
    unfolding answer_to with_memory pick
    not_answered = rw (sym told ∙ failed)

    pub respond_unasked : (n : Answer) → n ≡ Answers.told none → Refused [] n work r work' → out' ≡ out
        → pen size page' ≡ written (length page + 1) (answer_text r []) (pen 0 page)
        → Responded input work out page size work' out' page'
    unfolding asfnorm_with unread
    respond_unasked n f q o p = record {
      printed = p ∙ ap (λ (bs : List ℕ). written (length page + 1) bs (pen 0 page)) text_is;
      fits = page_holds size (answer_text r []) out page page' (omega (arith, answer_size r [] sized)) p;
      memory = q.memory;
      output = rw not_answered (o ∙ sym (bare_output [] work out none refl));
    }
      where
        sized : Sized r
        sized = subst Sized (sym (bare_told [] work out none refl n r work' f q)) (bare_sized (length work))

        text_is : answer_text r [] ≡ Meaning.printed (answer_to (length work) (length out) input)
        text_is =
            rw (not_answered, bare_told [] work out none refl n r work' f q)
            (ap (answer_text (Answers.told (with_memory (length work) [] none))) (sym (bare_output [] work [] none refl))
            ∙ answer_told (with_memory (length work) [] none) (with_short [] (omega arith) (length work) none (omega arith)) [])

-- what the answers of this crate hand to `search`
pub ruleset cases = (request_start, request_ends, request_ends_within, request_fits, behind_request, refused_short, refused_kept, both_forward, both_within, behind_alone, behind_both, behind_long, rules)
