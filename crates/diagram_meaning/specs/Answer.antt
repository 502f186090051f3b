-- The answer of a call for a diagram, and what is lent (document 02, Thirteen).
use Rattle.std.specs.Prelude.{ℕ, suc, false, List, [], leb, length}
use Rattle.meaning.specs.Lists.{pick}
use Rattle.meaning.specs.Names.{bytes, Name, member}
use Rattle.meaning.specs.Numbers.{accepted, asked_absent, no_room}
use Rattle.meaning.specs.Checks.{lone}
use Rattle.meaning.specs.Reached.{module_names, short_or_blank}
use Rattle.meaning.specs.Texts.{Texts, Reading, all_read, refused_in, read_texts}
use Rattle.meaning.specs.Listing.{Line}
use Rattle.meaning.specs.Answer.{Answer, refusal, unread, within}
use Rattle.meaning.specs.Contract.{Call}
use Rattle.diagram_meaning.specs.Calls.{Answering, with_memory, call_by}
use Rattle.diagram_meaning.specs.Diagram.{diagram_limit, first_lines}

-- ---- the answer: nothing is evaluated, so that the count is 0

-- these lines; more than 1,024 are 18
unfoldable pub lines_answer : Name → List Line → Answer
lines_answer asked ls =
    let told : Answer =
    record { number = accepted; modules = 0; evaluating = []; culprit = lone []; at = 0; in_library = false; lines = ls } in
    pick (leb (length ls) diagram_limit) told (refusal no_room 0 asked (lone []) 0)

-- 6 where no module is called so; a diagram's lines are counted up to one more than it may have
unfoldable pub of_drawing : Name → Reading → Answer
of_drawing asked (all_read ms) =
    let r = lines_answer asked (first_lines (suc diagram_limit) ms asked) in
    pick (member asked (module_names ms)) r (refusal asked_absent 0 asked (lone (short_or_blank asked)) 0)
of_drawing asked (refused_in in_library number at) = unread in_library number at

-- the answer of a call that lends so much working memory and output
unfoldable pub diagram_answer : Answering
diagram_answer memory_lent output_lent asked t =
    let r = within output_lent asked (of_drawing asked (read_texts t)) in
    with_memory memory_lent asked r

-- the call that is lent this working memory and this output
abbrev pub diagram_call : (memory output : List ℕ) → Name → Texts → Call
diagram_call = call_by diagram_answer

-- a diagram is asked for by `diagram=NAME`
abbrev pub diagram_request : List ℕ
diagram_request = bytes "diagram="

-- opens every definition of this file
unfoldable pub diagram_answer_opened : Unit {0}
unfolding lines_answer of_drawing diagram_answer
diagram_answer_opened = tt
