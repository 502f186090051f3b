-- How a call ends: in memory, and as the meaning says (meaning/specs/Reached.antt, `in_turn`).
use Rattle.std.specs.Prelude.{◌≡◌, ℕ, ◌≤◌, List, [], length, drop, Result, Ok, Err}
use Rattle.meaning.specs.Lists.{before}
use Rattle.meaning.specs.Names.{Name, same}
use Rattle.meaning.specs.Numbers.{memory_size}
use Rattle.meaning.specs.Syntax.{Module}
use Rattle.meaning.specs.Normal.{Normal, empty}
use Rattle.meaning.specs.Checks as Meaning
use Rattle.meaning.specs.Evaluate.{Evaluated}
use Rattle.meaning.specs.Reached as Reached
use Rattle.meaning.specs.Reached.{in_turn, reached, module_names}
use Rattle.text_names.specs.Word.{name_of}
use Rattle.form.specs.declared.Culprit.{Culprit}
use Rattle.form.specs.declared.Refusal.{Refusal}
use Rattle.form.specs.Memory.{part}
use Rattle.form.specs.Verdicts.{culprit_of}
use Rattle.form_layout.specs.Layout.{tape_end}
use Rattle.module_set.specs.ModuleSet.{holds}
use Rattle.modules.specs.Modules.{Heads}
use Rattle.modules.specs.ReachedLaws.{chosen}
use Rattle.modules.specs.Meant.{Earlier}
use Rattle.form_keeping.specs.Environment.{LastStands}
use Rattle.evaluate_states.specs.declared.State.{State}
use Rattle.evaluate_turns.specs.declared.Normalised.{Normalised}
use Rattle.evaluate_turns.specs.declared.RefusedAt.{RefusedAt}
use Rattle.evaluate_module.specs.Sofar.{Told, Sofar, Prepared}
use Rattle.evaluate_turns.specs.Asked.{Asked}

pub record ListedAs (text : List ℕ) (t : ℕ) (w : List ℕ) (count last : ℕ) (counted : ℕ) (n : Normal) : Type 0 where
  pub count_so : count ≡ counted
  pub last_so : LastStands text t w last n

pub record RefusedAs (text : List ℕ) (number count m : ℕ) (culprit : Culprit) (told counted : ℕ) (evaluating : Name) (meant : Meaning.Culprit) : Type 0 where
  pub number_so : number ≡ told
  pub count_so : count ≡ counted
  pub module_so : name_of text m ≡ evaluating
  pub culprit_so : culprit_of text culprit ≡ meant

abbrev pub Ended : Type 0
Ended = Result Normalised RefusedAt

abbrev pub normalised : ℕ → ℕ → Ended
normalised count last = Ok (record { count = count; last = last })

abbrev pub refused : Refusal → ℕ → ℕ → Ended
refused r count m = Err (record { refusal = r; count = count; name = m })

abbrev pub EndsAs : List ℕ → ℕ → List ℕ → Ended → Reached.Ended → Type 0
EndsAs text t w (Ok e) (Reached.normalised counted n) = ListedAs text t w e.count e.last counted n
EndsAs text t w (Ok e) (Reached.refused_at told counted evaluating meant) = ⊥
EndsAs text t w (Err e) (Reached.normalised counted n) = ⊥
EndsAs text t w (Err e) (Reached.refused_at told counted evaluating meant) =
    RefusedAs text e.refusal.number e.count e.name e.refusal.culprit told counted evaluating meant

-- there are such modules, and names of those before module k
pub record Resumed (text : List ℕ) (t : ℕ) (w : List ℕ) (h : Heads) (k : ℕ) (s : State) : Type 0 where
  pub prepared : Prepared text t w h k s
  pub earlier : List Name
  pub before_it : Earlier (module_names prepared.modules) k earlier

-- modules from number k on, after `count` others: n is the normal form of the latest of these, which one behind it makes of no account
pub record Turned (text : List ℕ) (t : ℕ) (w : List ℕ) (h : Heads) (set k count : ℕ) (s : State) (r : Ended) (w' : List ℕ) : Type 0 where
  pub meant : (ms : List Module) (env : List Evaluated) (earlier : List Name) (n : Normal) → Sofar text t w h s ms env
      → Earlier (module_names ms) k earlier → length env ≡ count
      → EndsAs text t w' r (in_turn (module_names ms) env n (chosen (holds set) k earlier (drop k ms)))

-- module k alone, the latest of whatever set has it so
pub record AskedTurned (text : List ℕ) (t : ℕ) (w : List ℕ) (h : Heads) (k count : ℕ) (s : State) (r : Ended) (w' : List ℕ) : Type 0 where
  pub turned : (set : ℕ) → Asked h set k → Turned text t w h set k count s r w'

-- what is given at first: memory, and a tape that reading can leave
pub record Given (text : List ℕ) (t : ℕ) (w : List ℕ) (h : Heads) : Type 0 where
  pub size : memory_size ≤ length w
  pub tape : t ≤ tape_end
  pub modules : List Module
  pub told : Told text (part w 0 t) t h modules

-- module k, and the modules that it reaches
pub record AllTurned (text : List ℕ) (t : ℕ) (w : List ℕ) (h : Heads) (k : ℕ) (r : Ended) (w' : List ℕ) : Type 0 where
  pub meant : (ms : List Module) (asked : Name) → Told text (part w 0 t) t h ms → k ≡ before (same asked) (module_names ms)
      → EndsAs text t w' r (in_turn (module_names ms) [] empty (reached asked ms))
