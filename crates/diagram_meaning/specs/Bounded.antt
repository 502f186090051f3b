-- The diagram of a module that is answered whole.
use Rattle.std.specs.Prelude.{false}
use mathlib.Core.List.{List, []}
use Rattle.meaning.specs.Numbers.{accepted}
use Rattle.meaning.specs.Checks.{lone}
use Rattle.meaning.specs.Listing.{Line}
use Rattle.meaning.specs.Answer.{Answer}

-- ---- the answer, by the whole diagram

-- 0 and these lines
unfoldable pub drawing : List Line → Answer
drawing ls = record { number = accepted; modules = 0; evaluating = []; culprit = lone []; at = 0; in_library = false; lines = ls }
