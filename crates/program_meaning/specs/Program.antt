-- What `asfnorm` answers and prints, by the word of its first line: `normalise=` (document 01, "The listing") or `diagram=` (document 02, Thirteen).
use Rattle.std.specs.Prelude.{◌≡◌, ℕ, ◌+◌, true, false, List, [], ltb, length, drop}
use Rattle.std.proofs.Math.Path.{ap}
use Rattle.meaning.specs.Lists.{pick}
use Rattle.meaning.specs.Names.{slice, Name}
use Rattle.meaning.specs.Checks.{lone}
use Rattle.meaning.specs.Numbers.{text_size, memory_size, program_output, not_allowed, over_size, lent_short}
use Rattle.meaning.specs.Answer as Meaning
use Rattle.meaning.specs.Answer.{Answer, refusal, unread, answer, printed, request, library_too_long, texts_in}
use Rattle.diagram_meaning.specs.Answer.{diagram_request, diagram_answer}
use Rattle.program_meaning.specs.FirstLine.{request_end, has_request, answer_behind, asked_by, unasked, first_line_opened, either_first}

-- the answer to an input, where so much working memory and output are lent: if it asks for no normal form, it may ask for a diagram
unfoldable pub diagram_to : ℕ → ℕ → List ℕ → Answer
diagram_to memory_lent output_lent input = asked_by diagram_request diagram_answer memory_lent output_lent input (unasked memory_lent)

unfoldable pub answer_to : ℕ → ℕ → List ℕ → Answer
answer_to memory_lent output_lent input =
    let other = diagram_to memory_lent output_lent input in
    asked_by request answer memory_lent output_lent input other

-- what is printed, where so much is lent
unfoldable pub asfnorm_with : (memory_lent output_lent : ℕ) → List ℕ → List ℕ
asfnorm_with memory_lent output_lent input = printed (answer_to memory_lent output_lent input)

-- the program lends the one size of working memory, and 65,536 bytes of output
unfoldable pub asfnorm : List ℕ → List ℕ
asfnorm input = asfnorm_with memory_size program_output input

-- opens every definition of this file
unfoldable pub program_opened : Unit {0}
unfolding first_line_opened diagram_to answer_to asfnorm_with asfnorm
program_opened = tt

-- ---- an input that asks for no diagram is answered, and its answer printed, as without diagrams

module _ (input : List ℕ) (none : has_request diagram_request input ≡ false) where
  pub answered_before : (memory_lent output_lent : ℕ) → answer_to memory_lent output_lent input ≡ Meaning.answer_to memory_lent output_lent input
  unfolding diagram_to answer_to Meaning.answer_to Meaning.has_request has_request asked_by answer_behind unasked memory_size pick refusal unread
  answered_before memory_lent output_lent =
      let e = request_end request input in
      let rest = drop (e + 1) input in
      let told = λ (asked : Name). pick (library_too_long rest) (unread true over_size text_size) (answer memory_lent output_lent asked (texts_in rest)) in
      rw none
      (either_first (Meaning.has_request input) (ltb memory_lent memory_size) (slice input (length request) e)
      (λ asked. refusal lent_short 0 asked (lone []) 0) told (unread false not_allowed 0))

  pub printed_before : asfnorm input ≡ Meaning.asfnorm input
  unfolding asfnorm asfnorm_with Meaning.asfnorm
  printed_before = ap printed (answered_before memory_size program_output)
