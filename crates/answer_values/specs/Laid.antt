-- The values and names of an answer, laid over what is lent for them. What has no room is left out.
use Rattle.std.specs.Prelude.{ℕ, ◌+◌, List, [], ◌∷◌, length}
use Rattle.values_c.specs.Values.{bit_of}
use Rattle.list_pen.specs.Pen.{pen, written}
use Rattle.answer.specs.declared.Name.{Name}
use Rattle.answer.specs.declared.Answer.{Answer}

-- the values of an answer; behind them 1 where the place is in the library, and the length of the actual name
unfoldable pub answer_values : Answer → List ℕ
answer_values r =
    r.number
    ∷ r.modules
    ∷ r.at
    ∷ r.evaluating.length
    ∷ r.culprit.length
    ∷ r.listing
    ∷ bit_of r.in_library
    ∷ r.actual.length
    ∷ []

-- the three names, one behind the other, each in 42 bytes
unfoldable pub names_laid : Name → Name → Name → List ℕ → List ℕ
names_laid m w a names =
    let limit = length names + 1 in
    (written limit a.bytes (written limit w.bytes (written limit m.bytes (pen 0 names)))).out
