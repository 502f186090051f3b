-- Demand 3: what a module shows does not depend on what the modules that it reaches hide. This is the statement, over the definitions and
-- for the whole of a call; Proof.antt proves it for the one reading of "accepted", Alone.antt for the other. At the end its premises from less.
use Rattle.std.specs.Prelude.{◌≡◌, ◌⊎◌, ℕ, ◌+◌, true, List, [], ◌∷◌}
use Rattle.meaning.specs.Names.{Name, member}
use Rattle.meaning.specs.Syntax.{Module}
use Rattle.meaning.specs.Texts.{Texts, all_read, read_texts}
use Rattle.meaning.specs.Reached.{Placed, reached, module_names, Ended, normalise, normalised, refused_at}
use Rattle.meaning.specs.Numbers.{no_room, lent_short}
use Rattle.meaning.specs.Evaluate.{named_by, missing, too_late}
use Rattle.meaning.specs.Answer.{Answer, listing, answer}
use Rattle.meaning.specs.OrderLaws.{Every}
use Rattle.promises.specs.VisiblePart.{visible_part}

-- ---- what the two specifications have in common, each a pair of texts

-- both texts are read without refusal, and these are their modules, the library's first
pub record ReadAs (texts : Texts) (ms : List Module) : Type 0 where
  pub reads : read_texts texts ≡ all_read ms

-- two modules that differ at most in their hidden sorts, hidden functions, variables and equations
pub record SameButHidden (m m' : Module) : Type 0 where
  pub name : m.name ≡ m'.name
  pub parameters : m.parameters ≡ m'.parameters
  pub exports : m.exports ≡ m'.exports
  pub imports : m.imports ≡ m'.imports

-- two lists of equal length whose items correspond in turn
abbrev pub InTurn : {A : Type 0} → (A → A → Type 0) → List A → List A → Type 0
InTurn R [] [] = Unit {0}
InTurn R [] (y ∷ ys) = ⊥
InTurn R (x ∷ xs) [] = ⊥
InTurn R (x ∷ xs) (y ∷ ys) = R x y × InTurn R xs ys

-- a module that is reached in the one specification, ms, and its counterpart in the other, ms'
pub record Counterparts (asked : Name) (ms ms' : List Module) (x x' : Placed) : Type 0 where
  pub alike : SameButHidden x.self x'.self
  -- the asked module is the same
  pub asked_same : x.self.name ≡ asked → x.self ≡ x'.self
  -- each module name that it uses is missing in both or in neither, and too late in both or in neither
  pub both_missing : Every (λ w. missing (module_names ms) w ≡ missing (module_names ms') w) (named_by x.self)
  pub both_late : Every (λ w. too_late (module_names ms) x.earlier w ≡ too_late (module_names ms') x'.earlier w) (named_by x.self)

-- when each module that the asked one reaches is accepted, but perhaps the asked one itself: as a property of the asked name and the modules
abbrev pub Acceptance : Type 1
Acceptance = Name → List Module → Type 0

-- the premises. Of the modules that are not reached nothing is asked
pub record Comparable (OthersAccepted : Acceptance) (asked : Name) (texts texts' : Texts) (ms ms' : List Module) : Type 0 where
  pub read_as : ReadAs texts ms
  pub read_as' : ReadAs texts' ms'
  -- the asked module stands in both
  pub stands : member asked (module_names ms) ≡ true
  pub stands' : member asked (module_names ms') ≡ true
  -- the modules that it reaches are the same in the same order, but for what they hide
  pub same_order : InTurn (Counterparts asked ms ms') (reached asked ms) (reached asked ms')
  -- each but the asked one is accepted in both
  pub accepted : OthersAccepted asked ms
  pub accepted' : OthersAccepted asked ms'

-- ---- the two readings of "accepted"

-- the call is refused at the asked module, if at all
abbrev pub RefusedAtMost : Name → Ended → Type 0
RefusedAtMost asked (normalised count n) = Unit {0}
RefusedAtMost asked (refused_at number count evaluating culprit) = evaluating ≡ asked

-- accepted within the call
abbrev pub InTheCall : Acceptance
InTheCall asked ms = RefusedAtMost asked (normalise asked ms)

abbrev pub IsNormalised : Ended → Type 0
IsNormalised (normalised count n) = Unit {0}
IsNormalised (refused_at number count evaluating culprit) = ⊥

-- accepted when asked by itself
abbrev pub ByItself : Acceptance
ByItself asked ms = Every (λ x. (x.self.name ≡ asked) ⊎ IsNormalised (normalise x.self.name ms)) (reached asked ms)

-- ---- what is demanded of the two answers

-- all is the same, but for the lines that are not visible: the visible part of the one listing is that of the other, byte for byte.
-- A refusal has no line
pub record SameAnswer (r r' : Answer) : Type 0 where
  pub number : r.number ≡ r'.number
  pub modules : r.modules ≡ r'.modules
  pub evaluating : r.evaluating ≡ r'.evaluating
  -- its actual name too
  pub culprit : r.culprit ≡ r'.culprit
  pub at : r.at ≡ r'.at
  pub in_library : r.in_library ≡ r'.in_library
  pub visible_lines : visible_part (listing r) ≡ visible_part (listing r')

-- 18 or 19: what is hidden takes room, and its lines do
abbrev pub ShortOfRoom : Answer → Type 0
ShortOfRoom r = (r.number ≡ no_room) ⊎ (r.number ≡ lent_short)

abbrev pub Agreeing : Answer → Answer → Type 0
Agreeing r r' = ShortOfRoom r ⊎ (ShortOfRoom r' ⊎ SameAnswer r r')

-- the demand, whatever is lent to the two calls
abbrev pub Demand3 : Acceptance → Type 0
Demand3 OthersAccepted =
    (asked : Name) (texts texts' : Texts) (ms ms' : List Module) → Comparable OthersAccepted asked texts texts' ms ms'
    → (memory memory' output output' : ℕ) → Agreeing (answer memory output asked texts) (answer memory' output' asked texts')

-- ---- the premises from less: it is enough that the modules reached in the one text stand in the other, in the same order, and look alike there.
-- Then the other reaches no more, as proofs/Reaches.antt proves

-- all modules of a specification in their places, reached or not
unfoldable pub placed_among : ℕ → List Name → List Module → List Placed
placed_among k earlier [] = []
placed_among k earlier (m ∷ ms) = record { self = m; number = k; earlier = earlier } ∷ placed_among (k + 1) (m.name ∷ earlier) ms

unfoldable pub all_placed : List Module → List Placed
all_placed ms = placed_among 0 [] ms

-- the items of the one list correspond in turn to items of the other, among which there may be more
abbrev pub InOrderIn : {A : Type 0} → (A → A → Type 0) → List A → List A → Type 0
InOrderIn R [] ys = Unit {0}
InOrderIn R (x ∷ xs) [] = ⊥
InOrderIn R (x ∷ xs) (y ∷ ys) = (R x y × InOrderIn R xs ys) ⊎ InOrderIn R (x ∷ xs) ys

pub record Enough (OthersAccepted : Acceptance) (asked : Name) (texts texts' : Texts) (ms ms' : List Module) : Type 0 where
  pub read_as : ReadAs texts ms
  pub read_as' : ReadAs texts' ms'
  -- the asked module stands in the one
  pub stands : member asked (module_names ms) ≡ true
  -- the modules that it reaches there stand in the other, in the same order
  pub same_order : InOrderIn (Counterparts asked ms ms') (reached asked ms) (all_placed ms')
  pub accepted : OthersAccepted asked ms
  pub accepted' : OthersAccepted asked ms'

abbrev pub IsEnough : Acceptance → Type 0
IsEnough OthersAccepted =
    (asked : Name) (texts texts' : Texts) (ms ms' : List Module) → Enough OthersAccepted asked texts texts' ms ms'
    → Comparable OthersAccepted asked texts texts' ms ms'
