-- Request Two of document 02: in an accepted specification an operator may be replaced by a fresh plain function throughout. This is the
-- statement, over the definitions: of the normal form, and of the whole of a call.
use Rattle.std.specs.Prelude.{◌≡◌, ◌⊎◌, ℕ, ◌≤◌, ◌<◌, true, false, List, map, length}
use Rattle.meaning.specs.Lists.{pick, each}
use Rattle.meaning.specs.Names.{Name, same, is_operator, member}
use Rattle.meaning.specs.Numbers.{memory_size, accepted, lent_short}
use Rattle.meaning.specs.Syntax.{Module}
use Rattle.meaning.specs.Normal.{Normal}
use Rattle.meaning.specs.Written.{in_order}
use Rattle.meaning.specs.Reached.{normalised, normalise}
use Rattle.meaning.specs.Texts.{Texts}
use Rattle.meaning.specs.Listing.{lines_text, listing_lines}
use Rattle.meaning.specs.Answer.{Answer, answer}
use Rattle.promises.specs.Demand.{ReadAs}
use Rattle.promises_replacing.specs.Changing.{re_module, re_normal, names_used}

-- ---- the premises

-- the first name becomes the second
unfoldable pub replace : Name → Name → Name → Name
replace o f w = pick (same w o) f w

-- one of the operator's two names, `-_` or `_-_`, is replaced wherever it stands, in all modules and with all its types, by a plain name that
-- is used nowhere for a sort, a function or a variable. The new texts are read, so their sizes are kept, the depth of terms included
pub record Replaced (operator plain : Name) (texts texts' : Texts) (ms : List Module) : Type 0 where
  pub is_one : is_operator operator ≡ true
  pub is_none : is_operator plain ≡ false
  pub fresh : member plain (each names_used ms) ≡ false
  pub read_as : ReadAs texts ms
  pub read_as' : ReadAs texts' (map (re_module (replace operator plain)) ms)

-- ---- the normal form

-- a normal form with the one name for the other, in the order of its listing: hidden numbers follow that order
abbrev pub renewed : Name → Name → Normal → Normal
renewed operator plain n = in_order (re_normal (replace operator plain) n)

-- what is accepted stays so, after as many modules, with the same normal form apart from that name, the order of its lines, and with it the
-- hidden numbers
abbrev pub Replacement : Type 0
Replacement =
    (operator plain : Name) (texts texts' : Texts) (ms : List Module) → Replaced operator plain texts texts' ms
    → (asked : Name) (count : ℕ) (n : Normal) → normalise asked ms ≡ normalised count n
    → normalise asked (map (re_module (replace operator plain)) ms) ≡ normalised count (renewed operator plain n)

-- ---- the answer of a call

-- 0, after so many modules, with the listing of n
pub record Accepts (asked : Name) (count : ℕ) (n : Normal) (r : Answer) : Type 0 where
  pub number : r.number ≡ accepted
  pub modules : r.modules ≡ count
  pub lines : r.lines ≡ listing_lines asked n

-- 19, and that only where the listing of n is longer than the output that is lent
pub record TooShort (asked : Name) (count : ℕ) (n : Normal) (output : ℕ) (r : Answer) : Type 0 where
  pub number : r.number ≡ lent_short
  pub modules : r.modules ≡ count
  pub longer : output < length (lines_text (listing_lines asked n))

-- the one answer lists n, the other lists what n becomes, unless that is longer than what is lent
pub record SameApart (operator plain asked : Name) (output' : ℕ) (r r' : Answer) : Type 0 where
  pub count : ℕ
  pub normal : Normal
  pub before : Accepts asked count normal r
  pub after : TooShort asked count (renewed operator plain normal) output' r' ⊎ Accepts asked count (renewed operator plain normal) r'

-- in a call that lends memory enough the new specification is answered 0 too, or 19: 18 cannot come
abbrev pub ReplacedAnswer : Type 0
ReplacedAnswer =
    (operator plain : Name) (texts texts' : Texts) (ms : List Module) → Replaced operator plain texts texts' ms
    → (asked : Name) (memory memory' output output' : ℕ) → (answer memory output asked texts).number ≡ accepted → memory_size ≤ memory'
    → SameApart operator plain asked output' (answer memory output asked texts) (answer memory' output' asked texts')
