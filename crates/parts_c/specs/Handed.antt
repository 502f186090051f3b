-- What a caller in C is handed of a listing's line and of a module's text: their places, laid over what is lent for them. What has no room is
-- left out.
use Rattle.std.specs.Prelude.{ℕ, ◌-◌, List, [], ◌∷◌, eqb}
use Rattle.types.specs.declared.Part.{Part}
use Rattle.meaning.specs.Lists.{pick}
use Rattle.meaning.specs.Numbers.{bad_line}
use Rattle.values_c.specs.Values.{laid, bit_of}
use Rattle.reader.specs.declared.Line.{Line}
use Rattle.reader.specs.declared.Line.TheVariants.{Keyed, End, Bad}
use Rattle.reader.specs.declared.Places.{Places}

-- what a call gives: the number, and the values afterwards
pub record Valued : Type 0 where
  pub number : ℕ
  pub values : List ℕ

unfoldable pub valued : ℕ → List ℕ → Valued
valued number values = record { number = number; values = values }

-- the places of a line
unfoldable pub line_values : Places → List ℕ
line_values p = p.number ∷ p.mark ∷ p.value ∷ p.end ∷ p.next ∷ []

-- a line, the end, or no line: 0, 1 and 21
unfoldable pub handed_line : Line → List ℕ → Valued
handed_line (Keyed p) values = valued 0 (laid 0 (line_values p) values)
handed_line End values = valued 1 values
handed_line (Bad place) values = valued bad_line values

-- 1 where the part is the library's, its place and its length
unfoldable pub part_values : Part → List ℕ
part_values p = bit_of p.marked ∷ p.start ∷ (p.end - p.start) ∷ []

-- a module's text, or none: 0 and 1
unfoldable pub handed_part : Part → List ℕ → Valued
handed_part p values = pick (eqb p.end 0) (valued 1 values) (valued 0 (laid 0 (part_values p) values))
