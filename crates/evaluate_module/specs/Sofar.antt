-- What holds between one module and the next: what the tape says, where kept forms lie, and which modules are evaluated.
use Rattle.std.specs.Prelude.{ℕ, ◌+◌, ◌-◌, ◌*◌, ◌≤◌, ◌<◌, List, [], length, get_or}
use Rattle.meaning.specs.Numbers.{module_limit, parameter_room}
use Rattle.meaning.specs.OrderLaws.{Every}
use Rattle.meaning.specs.Syntax.{Module}
use Rattle.laws.specs.Distinct.{Fresh}
use Rattle.meaning.specs.Evaluate.{Evaluated}
use Rattle.meaning.specs.Reached.{total_of}
use Rattle.invariants.specs.Limits.{Limited}
use Rattle.tape.specs.Tape.{flat_module}
use Rattle.form_rows.specs.Rows.{row_size}
use Rattle.form.specs.Memory.{part}
use Rattle.form.specs.Forms.{equation_size, slot_size}
use Rattle.form_layout.specs.Layout.{tape_end, kept_start, Laid}
use Rattle.modules.specs.Modules.{declared, Heads}
use Rattle.modules.specs.ModuleLaws.{Spells}
use Rattle.own_completing.specs.Room.{TotalsRight, TotalsMeant}
use Rattle.own_equations.specs.Seen.{SeenAmong}
use Rattle.invariants.specs.HiddenEvaluated.{SoundEnvironment}
use Rattle.form_keeping.specs.Environment.{EnvStands, TableBelow}
use Rattle.evaluate_storing.specs.Places.{scratch_start, scratch_room}
use Rattle.evaluate_states.specs.declared.State.{State}

-- the t entries of the tape spell modules as reading leaves them
pub record Told (text tape : List ℕ) (t : ℕ) (h : Heads) (ms : List Module) : Type 0 where
  pub spells : Spells text tape t ms h
  pub fresh : Fresh [] ms
  pub limited : Every Limited ms
  -- each stands in one text
  pub small : Every (λ (m : Module). length (flat_module m) ≤ 32768) ms

-- where things lie when module k is next: the heads on the tape, the kept forms below the cursor
pub record Ready (t : ℕ) (w : List ℕ) (h : Heads) (k : ℕ) (s : State) : Type 0 where
  pub laid : Laid (length w) t
  pub scratch : scratch_start + scratch_room ≤ length w
  pub tape : t ≤ tape_end
  pub heads : h.count ≤ module_limit
  pub ordered : (j : ℕ) → j < h.count → get_or h.places j 0 ≤ get_or h.places (j + 1) 0
  pub within : (j : ℕ) → j < h.count → get_or h.places (j + 1) 0 ≤ t
  pub few_entries : (j : ℕ) → j < h.count → get_or h.places (j + 1) 0 - get_or h.places j 0 ≤ 32768
  pub below : TableBelow w s.cursor
  pub start : kept_start ≤ s.cursor
  pub space : s.cursor ≤ kept_start + (k * parameter_room * slot_size + s.totals.items * row_size + s.totals.equations * equation_size + s.totals.nodes)
  pub right : TotalsRight s.totals

-- of the modules ms those of env are evaluated, and what is kept stands for their normal forms
pub record Sofar (text : List ℕ) (t : ℕ) (w : List ℕ) (h : Heads) (s : State) (ms : List Module) (env : List Evaluated) : Type 0 where
  pub told : Told text (part w 0 t) t h ms
  pub stands : EnvStands text (part w 0 t) w (declared text (part w 0 t) h) env
  pub seen : SeenAmong env
  pub sound : SoundEnvironment env
  pub totals : TotalsMeant s.totals (total_of env)

-- there are such modules
pub record Prepared (text : List ℕ) (t : ℕ) (w : List ℕ) (h : Heads) (k : ℕ) (s : State) : Type 0 where
  pub ready : Ready t w h k s
  pub modules : List Module
  pub evaluated : List Evaluated
  pub sofar : Sofar text t w h s modules evaluated
