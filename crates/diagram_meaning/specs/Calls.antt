-- A call, whatever answers: before all else the working memory may be too short, and what is lent comes back as after any call.
use Rattle.std.specs.Prelude.{ℕ, List, [], ltb, length}
use Rattle.meaning.specs.Lists.{pick}
use Rattle.meaning.specs.Names.{Name}
use Rattle.meaning.specs.Numbers.{memory_size, lent_short}
use Rattle.meaning.specs.Checks.{lone}
use Rattle.meaning.specs.Texts.{Texts}
use Rattle.meaning.specs.Answer.{Answer, refusal, output_after, memory_after}
use Rattle.meaning.specs.Contract.{Call}

-- the answer for a name and two texts, where so much working memory and output are lent
abbrev pub Answering : Type 0
Answering = ℕ → ℕ → Name → Texts → Answer

abbrev pub with_memory : ℕ → Name → Answer → Answer
with_memory memory_lent asked r = pick (ltb memory_lent memory_size) (refusal lent_short 0 asked (lone []) 0) r

-- the call that is lent this working memory and this output
unfoldable pub call_by : Answering → (memory output : List ℕ) → Name → Texts → Call
call_by answering memory output asked t =
    let r = answering (length memory) (length output) asked t in
    record { answer = r; output = output_after r output; memory = memory_after memory }
