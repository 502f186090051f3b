-- The lines of an answer as the code has it (meaning/specs/Answer.antt).
use Rattle.std.specs.Prelude.{ℕ, Bool, List, [], ◌++◌, eqb, take}
use Rattle.meaning.specs.Lists.{pick}
use Rattle.meaning.specs.Names.{bytes}
use Rattle.meaning.specs.Numbers.{accepted}
use Rattle.meaning.specs.Written.{decimal}
use Rattle.meaning.specs.Answer as Meaning
use Rattle.answer.specs.declared.Name.{Name}
use Rattle.answer.specs.declared.Answer.{Answer}

unfoldable pub line_of : List ℕ → List ℕ → List ℕ
line_of key value = key ++ (bytes "=" ++ (value ++ bytes "\n"))

unfoldable pub spelled : Name → List ℕ
spelled n = take n.length n.bytes

-- for 22 to 27 alone
unfoldable pub actual_text : ℕ → Name → List ℕ
actual_text number actual = pick (Meaning.tells_actual number) (line_of (bytes "actual") (spelled actual)) []

unfoldable pub marked_place : Bool → ℕ → List ℕ
marked_place in_library place = pick in_library (bytes "library:") [] ++ decimal place

unfoldable pub refusal_text : Answer → List ℕ
refusal_text r =
    line_of (bytes "module") (spelled r.evaluating)
    ++ (line_of (bytes "name") (spelled r.culprit)
    ++ (actual_text r.number r.actual ++ line_of (bytes "at") (marked_place r.in_library r.at)))

unfoldable pub answer_text : Answer → List ℕ → List ℕ
answer_text r output =
    let rest = pick (eqb r.number accepted) (take r.listing output) (refusal_text r) in
    line_of (bytes "answer") (decimal r.number) ++ (line_of (bytes "modules") (decimal r.modules) ++ rest)
