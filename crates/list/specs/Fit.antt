-- Bytes at the front of a list, if there is room for all of them; else the list as it was.
use Rattle.std.specs.Prelude.{ℕ, Option, Some, None, List, ◌++◌, leb, length, drop}
use Rattle.meaning.specs.Lists.{pick}

-- how it ended, with so many bytes or without room for them, and the list as it is then
pub record Result : Type 0 where
  pub ended : Option ℕ
  pub out : List ℕ

abbrev pub result_of : Option ℕ → List ℕ → Result
result_of r o = record { ended = r; out = o }

unfoldable pub fitted : List ℕ → List ℕ → Result
fitted bs o = pick (leb (length bs) (length o)) (result_of (Some (length bs)) (bs ++ drop (length bs) o)) (result_of None o)
