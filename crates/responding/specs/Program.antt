-- What the program prints (meaning/specs/Answer.antt), whatever working memory and output are lent; and the same of an answer as the code has it.
use Rattle.std.specs.Prelude.{◌≡◌, refl, ℕ, ◌+◌, ◌≤◌, true, List, [], ltb, length}
use Rattle.std.proofs.Common.{sym, ◌∙◌}
use Rattle.meaning.specs.Lists.{pick}
use Rattle.meaning.specs.Names as Names
use Rattle.meaning.specs.Names.{bytes}
use Rattle.meaning.specs.Numbers.{text_size, memory_size, program_output, over_size, lent_short}
use Rattle.meaning.specs.Checks.{lone}
use Rattle.meaning.specs.Answer as Meaning
use Rattle.list_pen.specs.Pen.{pen, written}
use Rattle.answer.specs.declared.Answer.{Answer}
use Rattle.answer.specs.Answers.{told}

unfoldable pub asfnorm_with : (memory_lent output_lent : ℕ) → List ℕ → List ℕ
asfnorm_with memory_lent output_lent input = Meaning.printed (Meaning.answer_to memory_lent output_lent input)

-- `asfnorm` lends the one size of working memory, and 65,536 bytes of output
pub as_lent : (input : List ℕ) → Meaning.asfnorm input ≡ asfnorm_with memory_size program_output input
unfolding Meaning.asfnorm asfnorm_with
as_lent input = refl

-- how many bytes more than the output a page must have to hold whatever is printed: the longest refusal, which is longer than the two lines
-- before a listing
abbrev pub page_room : ℕ
page_room = 207

-- what a call leaves behind: at the front of the page what is printed, and its length, which is one more than the page's where that is too
-- short; the working memory zero and the output as a call leaves it, without the first line too
pub record Responded (input work out page : List ℕ) (size : ℕ) (work' out' page' : List ℕ) : Type 0 where
  pub printed : pen size page' ≡ written (length page + 1) (asfnorm_with (length work) (length out) input) (pen 0 page)
  pub fits : length out + page_room ≤ length page → size ≤ length page
  pub memory : work' ≡ Meaning.memory_after work
  pub output : out' ≡ Meaning.output_after (Meaning.answer_to (length work) (length out) input) out

-- two responses that this allows coincide
pub respond_coincide : (input work out page : List ℕ) (m n : ℕ) (w o p w' o' p' : List ℕ) → Responded input work out page m w o p
    → Responded input work out page n w' o' p' → (pen m p ≡ pen n p') × ((w ≡ w') × (o ≡ o'))
respond_coincide input work out page m n w o p w' o' p' h g =
    (h.printed ∙ sym g.printed, (h.memory ∙ sym g.memory, h.output ∙ sym g.output))

-- ---- what follows the first line

-- before all else the working memory may be too short
unfoldable pub with_memory : ℕ → Names.Name → Meaning.Answer → Meaning.Answer
with_memory memory_lent asked r = pick (ltb memory_lent memory_size) (Meaning.refusal lent_short 0 asked (lone []) 0) r

-- the answer for the asked module, where this is behind the first line
unfoldable pub answer_behind : (memory_lent output_lent : ℕ) → Names.Name → List ℕ → Meaning.Answer
answer_behind memory_lent output_lent asked rest =
    let r = Meaning.answer memory_lent output_lent asked (Meaning.texts_in rest) in
    pick (Meaning.library_too_long rest) (Meaning.unread true over_size text_size) r

pub record Behind (asked rest work out : List ℕ) (r : Answer) (work' out' : List ℕ) : Type 0 where
  pub answer : r ≡ told (with_memory (length work) asked (answer_behind (length work) (length out) asked rest))
  pub output : out' ≡ Meaning.output_after (with_memory (length work) asked (answer_behind (length work) (length out) asked rest)) out
  pub memory : work' ≡ Meaning.memory_after work

-- an answer that is refused in any case
pub record Refused (asked : List ℕ) (r : Answer) (work : List ℕ) (q : Answer) (work' : List ℕ) : Type 0 where
  pub answer : q ≡ pick (ltb (length work) memory_size) (told (Meaning.refusal lent_short 0 asked (lone []) 0)) r
  pub memory : work' ≡ Meaning.memory_after work
