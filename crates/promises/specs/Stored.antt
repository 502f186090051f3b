-- When a stored visible part may be kept (docs/CACHE.md): demand 3 in the words of the desk. The premises are those of `Enough`.
use Rattle.std.specs.Prelude.{◌≡◌, ◌⊎◌, ℕ, List}
use Rattle.meaning.specs.Names.{Name}
use Rattle.meaning.specs.Numbers.{accepted}
use Rattle.meaning.specs.Syntax.{Module}
use Rattle.meaning.specs.Texts.{Texts}
use Rattle.meaning.specs.Answer.{Answer, listing, answer}
use Rattle.promises.specs.VisiblePart.{visible_part}
use Rattle.promises.specs.Demand.{Acceptance, ShortOfRoom, Enough}

-- the call is accepted, and this is the visible part of its listing
pub record UpToDate (stored : List ℕ) (r : Answer) : Type 0 where
  pub is_accepted : r.number ≡ accepted
  pub shows : visible_part (listing r) ≡ stored

-- what was up to date for the one pair of texts is so for the other, unless the other call is short of room
abbrev pub MayBeKept : Acceptance → Type 0
MayBeKept OthersAccepted =
    (asked : Name) (texts texts' : Texts) (ms ms' : List Module) → Enough OthersAccepted asked texts texts' ms ms'
    → (memory memory' output output' : ℕ) (stored : List ℕ) → UpToDate stored (answer memory output asked texts)
    → ShortOfRoom (answer memory' output' asked texts') ⊎ UpToDate stored (answer memory' output' asked texts')
