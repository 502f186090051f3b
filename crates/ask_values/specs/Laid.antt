-- The values and names of a decision, laid over what is lent for them.
use Rattle.std.specs.Prelude.{ℕ, ◌+◌, ◌/◌, ◌%◌, List, [], ◌∷◌, length}
use Rattle.values_c.specs.Values.{bit_of}
use Rattle.list_pen.specs.Pen.{pen, written}
use Rattle.answer.specs.declared.Name.{Name}
use Rattle.ask.specs.declared.Decision.{Decision}

-- the reason; the set, its low 32 digits before its high ones; the refusal's number and place, and 1 where it is in the new specification, 1 where it
-- is in the library; and the lengths of the two names
unfoldable pub decision_values : Decision → List ℕ
decision_values r =
    r.reason
    ∷ r.set % 4294967296
    ∷ r.set / 4294967296
    ∷ r.number
    ∷ r.place
    ∷ bit_of r.in_new
    ∷ bit_of r.in_library
    ∷ r.by.length
    ∷ r.name.length
    ∷ []

-- two names, one behind the other, each in 42 bytes
unfoldable pub names_laid : Name → Name → List ℕ → List ℕ
names_laid m n names = let limit = length names + 1 in (written limit n.bytes (written limit m.bytes (pen 0 names))).out
