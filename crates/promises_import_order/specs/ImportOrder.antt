-- Request Eleven of document 02: import expressions in another order, or one of them twice, change neither whether a specification is accepted nor its
-- listing. The premise is that both are read, so that their sizes hold. Where it is refused the number and the culprit may differ.
use Rattle.std.specs.Prelude.{◌≡◌, ◌⊎◌, ℕ, List}
use Rattle.meaning.specs.Names.{Name}
use Rattle.meaning.specs.Numbers.{accepted}
use Rattle.meaning.specs.Syntax.{Module}
use Rattle.meaning.specs.Texts.{Texts}
use Rattle.meaning.specs.Answer.{Answer, listing, answer}
use Rattle.meaning.specs.Contract.{Call}
use Rattle.promises.specs.Demand.{ReadAs, InTurn}
use Rattle.promises_import_order.specs.Order.{OtherOrder}

-- ---- the statement

-- two specifications that are read, whose modules in turn are the same but for the order of their import expressions, and for how often each of
-- these is written
pub record Reordered (texts texts' : Texts) (ms ms' : List Module) : Type 0 where
  pub read_as : ReadAs texts ms
  pub read_as' : ReadAs texts' ms'
  pub alike : InTurn OtherOrder ms ms'

-- by their numbers, both are accepted, or both are refused
abbrev pub BothOrNeither : ℕ → ℕ → Type 0
BothOrNeither k k' = ((k ≡ accepted) × (k' ≡ accepted)) ⊎ ((k ≡ accepted → ⊥) × (k' ≡ accepted → ⊥))

-- what two answers have in common: whether it is accepted, the listing byte for byte, the count of modules evaluated, and where it is refused the
-- module
pub record SameOutcome (r r' : Answer) : Type 0 where
  pub both : BothOrNeither r.number r'.number
  pub listings : listing r ≡ listing r'
  pub modules : r.modules ≡ r'.modules
  pub evaluating : r.evaluating ≡ r'.evaluating

-- so it is for every asked module, whatever memory and output are lent
abbrev pub ImportOrder : Type 0
ImportOrder =
    (texts texts' : Texts) (ms ms' : List Module) → Reordered texts texts' ms ms' → (asked : Name) (memory output : ℕ)
    → SameOutcome (answer memory output asked texts) (answer memory output asked texts')

-- ---- over calls: besides, the lent output and memory are the same afterwards

pub record SameCall (c c' : Call) : Type 0 where
  pub outcome : SameOutcome c.answer c'.answer
  pub output : c.output ≡ c'.output
  pub memory : c.memory ≡ c'.memory
