-- With an empty library, or without the line that asks for one, every answer and every printed byte is what document 01 says of the one text.
use Rattle.std.specs.Prelude.{◌≡◌, refl, ℕ, ◌+◌, Bool, true, false, List, [], ◌∷◌, ◌++◌, eqb, ltb, length, drop}
use Rattle.std.proofs.Math.Path.{ap}
use Rattle.std.proofs.Common.{◌∙◌}
use Rattle.meaning.specs.Lists.{pick}
use Rattle.meaning.specs.Laws.{by_cases}
use Rattle.meaning.specs.Names.{Name, slice}
use Rattle.meaning.specs.Numbers.{module_limit, memory_size, program_output, accepted, not_allowed, lent_short}
use Rattle.meaning.specs.Syntax.{Module}
use Rattle.meaning.specs.Grammar.{Result, done, refused, read}
use Rattle.meaning.specs.Written.{decimal}
use Rattle.meaning.specs.Checks.{lone}
use Rattle.meaning.specs.Reached.{Ended, normalised, refused_at, normalise, module_names}
use Rattle.meaning.specs.Texts.{two_texts, behind, read_behind, read_texts}
use Rattle.meaning.specs.Listing.{line, lines_text}
use Rattle.meaning.specs.Answer.{Answer, refusal, of_ended, unread, of_read, within, answer, place_text, names_told, printed_lines, printed, request, request_end, has_request, has_library_line, library_too_long, texts_in, answer_to, asfnorm}

-- ---- document 01's words

unfoldable pub of_one : Name → Result (List Module) → Answer
of_one asked (done ms s) = of_ended asked (normalise asked ms)
of_one asked (refused number at) = refusal number 0 [] (lone []) at

unfoldable pub answer_of_one : ℕ → ℕ → Name → List ℕ → Answer
answer_of_one memory_lent output_lent asked text =
    let r = within output_lent asked (of_one asked (read text module_limit [])) in
    pick (ltb memory_lent memory_size) (refusal lent_short 0 asked (lone []) 0) r

unfoldable pub plainly_printed : Answer → List ℕ
plainly_printed r =
    let told = line "answer" (decimal r.number) ∷ line "modules" (decimal r.modules) ∷ [] in
    let refused_lines = names_told r ++ (line "at" (decimal r.at) ∷ []) in
    lines_text (told ++ pick (eqb r.number accepted) r.lines refused_lines)

-- ---- are what two texts get, the library empty

one_read : (asked : Name) (r : Result (List Module)) → of_read asked (behind [] r) ≡ of_one asked r
unfolding of_read of_one behind unread refusal
one_read asked (done ms s) = refl
one_read asked (refused number at) = refl

pub answer_base : (memory output : ℕ) (asked : Name) (text : List ℕ)
    → answer memory output asked (two_texts [] text) ≡ answer_of_one memory output asked text
unfolding answer answer_of_one two_texts read_texts read_behind pick module_names
answer_base memory output asked text =
    ap (λ (r : Answer). pick (ltb memory memory_size) (refusal lent_short 0 asked (lone []) 0) (within output asked r))
    (one_read asked (read text module_limit []))

abbrev Unmarked : Answer → Type 0
Unmarked r = r.in_library ≡ false

ended_unmarked : (asked : Name) (e : Ended) → Unmarked (of_ended asked e)
unfolding of_ended refusal
ended_unmarked asked (normalised count n) = refl
ended_unmarked asked (refused_at number count m w) = refl

one_unmarked : (asked : Name) (r : Result (List Module)) → Unmarked (of_one asked r)
unfolding of_one refusal
one_unmarked asked (done ms s) = ended_unmarked asked (normalise asked ms)
one_unmarked asked (refused number at) = refl

pub unmarked : (memory output : ℕ) (asked : Name) (text : List ℕ) → Unmarked (answer_of_one memory output asked text)
unfolding answer_of_one within refusal
unmarked memory output asked text =
    by_cases Unmarked _ _ _ (λ e. refl)
    (λ e. by_cases Unmarked _ _ _ (λ k. one_unmarked asked (read text module_limit [])) (λ k. refl))

printed_base : (r : Answer) → Unmarked r → printed r ≡ plainly_printed r
unfolding printed printed_lines plainly_printed place_text pick
printed_base r e = rw e

-- document 01's words on the program's input
unfoldable pub answer_to_one : ℕ → ℕ → List ℕ → Answer
answer_to_one memory output input =
    let e = request_end input in
    let asked = pick (has_request input) (slice input (length request) e) [] in
    let told = answer_of_one memory output asked (drop (e + 1) input) in
    let r = pick (has_request input) told (refusal not_allowed 0 [] (lone []) 0) in
    pick (ltb memory memory_size) (refusal lent_short 0 asked (lone []) 0) r

either_unmarked : (b : Bool) (x y : Answer) → Unmarked x → Unmarked y → Unmarked (pick b x y)
unfolding pick
either_unmarked true x y h k = h
either_unmarked false x y h k = k

one_to_unmarked : (memory output : ℕ) (input : List ℕ) → Unmarked (answer_to_one memory output input)
unfolding answer_to_one refusal
one_to_unmarked memory output input =
    either_unmarked _ _ _ refl (either_unmarked _ _ _ (unmarked memory output _ (drop (request_end input + 1) input)) refl)

-- without a line for the library, what is printed is what document 01 prints
module _ (input : List ℕ) (e : has_library_line (drop (request_end input + 1) input) ≡ false) where
  same_answer : answer_to memory_size program_output input ≡ answer_to_one memory_size program_output input
  unfolding answer_to answer_to_one texts_in library_too_long pick refusal unread
  same_answer = rw (e, answer_base)

  pub asfnorm_base : asfnorm input ≡ plainly_printed (answer_to_one memory_size program_output input)
  unfolding asfnorm
  asfnorm_base = ap printed same_answer ∙ printed_base _ (one_to_unmarked memory_size program_output input)
