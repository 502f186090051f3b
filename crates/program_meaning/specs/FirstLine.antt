-- What an input asks for by the word of its first line, and its answer, whatever answers.
use Rattle.std.specs.Prelude.{◌≡◌, refl, ℕ, ◌+◌, Bool, true, false, ◌&&◌, List, [], leb, ltb, length, take, drop}
use Rattle.meaning.specs.Lists.{pick}
use Rattle.meaning.specs.Names.{slice, Name, same}
use Rattle.meaning.specs.Numbers.{text_size, name_size, not_allowed, over_size}
use Rattle.meaning.specs.Tokens.{run_end}
use Rattle.meaning.specs.Answer.{Answer, unread, in_line, library_too_long, texts_in}
use Rattle.diagram_meaning.specs.Calls.{Answering, with_memory}

-- the first line is a word that asks for something, and a NAME that is not too long, ended by LF: where the name ends
abbrev pub request_end : List ℕ → List ℕ → ℕ
request_end word input = run_end in_line input (length word)

unfoldable pub has_request : List ℕ → List ℕ → Bool
has_request word input =
    let e = request_end word input in
    same (take (length word) input) word && ltb e (length input) && leb e (length word + name_size)

-- the answer for the asked module, where this is behind the first line
unfoldable pub answer_behind : Answering → ℕ → ℕ → Name → List ℕ → Answer
answer_behind answering memory_lent output_lent asked rest =
    let told = answering memory_lent output_lent asked (texts_in rest) in
    let r = pick (library_too_long rest) (unread true over_size text_size) told in
    with_memory memory_lent asked r

-- the answer to an input whose first line has this word, and to any other input
unfoldable pub asked_by : List ℕ → Answering → ℕ → ℕ → List ℕ → Answer → Answer
asked_by word answering memory_lent output_lent input other =
    let e = request_end word input in
    let told = answer_behind answering memory_lent output_lent (slice input (length word) e) (drop (e + 1) input) in
    pick (has_request word input) told other

-- without a first line 2, at 0
unfoldable pub unasked : ℕ → Answer
unasked memory_lent = with_memory memory_lent [] (unread false not_allowed 0)

-- opens every definition of this file
unfoldable pub first_line_opened : Unit {0}
unfolding has_request answer_behind asked_by unasked
first_line_opened = tt

-- ---- whether the memory is too short may be asked before or after the first line

pub either_first : (b s : Bool) (asked : Name) (short told : Name → Answer) (none : Answer)
    → pick b (pick s (short asked) (told asked)) (pick s (short []) none)
    ≡ pick s (short (pick b asked [])) (pick b (told (pick b asked [])) none)
unfolding pick
either_first true s asked short told none = refl
either_first false s asked short told none = refl
