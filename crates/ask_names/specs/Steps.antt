-- What stands before each step of a decision: a tape that says what was read.
use Rattle.std.specs.Prelude.{◌≡◌, ℕ, ◌≤◌, List, [], length}
use Rattle.meaning.specs.Numbers.{module_limit}
use Rattle.meaning.specs.Syntax.{Module}
use Rattle.laws.specs.Distinct.{Fresh}
use Rattle.meaning.specs.Texts.{Reading, all_read}
use Rattle.tape.specs.Tape.{entries, flat_modules}

-- the tape, whole, says what was read, x; a place is one of both texts
pub record Spoken (x : Reading) (text tape : List ℕ) : Type 0 where
  pub modules : List Module
  pub read_so : x ≡ all_read modules
  pub said : entries text (length tape) tape ≡ flat_modules modules
  pub few : length modules ≤ module_limit
  pub fresh : Fresh [] modules
  pub short : length tape ≤ 65536
