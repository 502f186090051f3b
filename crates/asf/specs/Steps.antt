-- What stands before each step of a call, and what the step gives: what is sought, as the meaning says.
use Rattle.std.specs.Prelude.{◌≡◌, ℕ, ◌≤◌, ◌<◌, List, [], length, Result, Ok, Err}
use Rattle.meaning.specs.Lists.{before}
use Rattle.meaning.specs.Names.{Name, same}
use Rattle.meaning.specs.Numbers.{memory_size, module_limit, asked_absent}
use Rattle.meaning.specs.Syntax.{Module}
use Rattle.meaning.specs.OrderLaws.{Every}
use Rattle.laws.specs.Distinct.{Fresh}
use Rattle.meaning.specs.Texts.{Reading, all_read}
use Rattle.invariants.specs.Limits.{Limited}
use Rattle.meaning.specs.Checks.{lone}
use Rattle.meaning.specs.Reached.{module_names, short_or_blank}
use Rattle.meaning.specs.Answer.{Answer, refusal, unread, of_read}
use Rattle.text_names.specs.Word.{name_of}
use Rattle.tape.specs.Tape.{entries, flat_module, flat_modules}
use Rattle.form.specs.Memory.{part}
use Rattle.form.specs.Verdicts.{culprit_of}
use Rattle.form_layout.specs.Layout.{tape_end}
use Rattle.modules.specs.Modules.{HeadsOf, Heads}
use Rattle.answer_listing.specs.Answered.{Evaluated}
use Rattle.asf.specs.declared.Sought.{Sought}
use Rattle.asf.specs.declared.Unlisted.{Unlisted}
use Rattle.asf.specs.declared.Unlisted.TheVariants.{Short, Unread, Absent, Refused}

-- the t entries in front of the memory say what was read, x; a place is one of both texts
pub record Spoken (x : Reading) (text : List ℕ) (t : ℕ) (w : List ℕ) : Type 0 where
  pub size : memory_size ≤ length w
  pub tape : t ≤ tape_end
  pub modules : List Module
  pub read_so : x ≡ all_read modules
  pub said : entries text t (part w 0 t) ≡ flat_modules modules
  pub few : length modules ≤ module_limit
  pub fresh : Fresh [] modules
  pub limited : Every Limited modules
  pub small : Every (λ (m : Module). length (flat_module m) ≤ 32768) modules

-- the modules have these heads, and number k is the asked one
pub record Found (asked : List ℕ) (x : Reading) (text : List ℕ) (t : ℕ) (w : List ℕ) (h : Heads) (k : ℕ) : Type 0 where
  pub spoken : Spoken x text t w
  pub heads : HeadsOf (part w 0 t) t h
  pub number : k ≡ before (same asked) (module_names spoken.modules)
  pub there : k < length (module_names spoken.modules)

-- there is enough memory, and the answer to what was read, x, is the refusal a
pub record Refusing (asked : Name) (x : Reading) (w : List ℕ) (a : Answer) : Type 0 where
  pub size : memory_size ≤ length w
  pub so : of_read asked x ≡ a

-- there is enough memory, and it holds the asked module's normal form
pub record Holding (asked : Name) (x : Reading) (text w : List ℕ) (t name count last : ℕ) : Type 0 where
  pub size : memory_size ≤ length w
  pub form : Evaluated asked x text t w name count last

-- what was sought came as the meaning says, and memory is w
abbrev pub SoughtAs : Name → Reading → (text w : List ℕ) → Result Sought Unlisted → Type 0
SoughtAs asked x text w (Err Short) = length w < memory_size
SoughtAs asked x text w (Err (Unread e)) = Refusing asked x w (unread e.in_library e.number e.place)
SoughtAs asked x text w (Err Absent) = Refusing asked x w (refusal asked_absent 0 asked (lone (short_or_blank asked)) 0)
SoughtAs asked x text w (Err (Refused e)) =
    Refusing asked x w (refusal e.refusal.number e.count (name_of text e.name) (culprit_of text e.refusal.culprit) 0)
SoughtAs asked x text w (Ok s) = Holding asked x text w s.t s.name s.count s.last

-- the same of module k, whoever asked for it; memory w became w'
pub record ModuleSought (text : List ℕ) (t : ℕ) (w : List ℕ) (h : Heads) (k : ℕ) (w' : List ℕ) (what : Result Sought Unlisted) : Type 0 where
  pub meant : (asked : Name) (x : Reading) → Found asked x text t w h k → SoughtAs asked x text w' what
