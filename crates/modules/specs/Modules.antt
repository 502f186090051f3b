-- The modules of a tape, and those that one names (meaning/specs/Evaluate.antt, step 1; Reached.antt).
use Rattle.std.specs.Prelude.{◌≡◌, ℕ, zero, suc, ◌+◌, ◌-◌, ◌≤◌, Bool, true, List, [], ◌∷◌, eqb, ltb, length, get_or, take}
use Rattle.meaning.specs.Lists.{pick, before}
use Rattle.meaning.specs.Names.{Name, same}
use Rattle.meaning.specs.Numbers.{module_limit}
use Rattle.tape.specs.Tape.{module_role, import_role, actual_role}
use Rattle.form_rows.specs.Entries.{role_at, name_at}
use Rattle.module_set.specs.ModuleSet.{nothing, added, either}

-- where the modules begin, behind them where the last one ends, and how many they are
pub record Heads : Type 0 where
  pub places : List ℕ
  pub count : ℕ

-- of words: the last of them is the count
unfoldable pub heads_in : List ℕ → Heads
heads_in h = record { places = take 65 h; count = get_or h 65 0 }

unfoldable pub is_module : ℕ → Bool
is_module r = eqb r module_role

-- the module of an import expression, or the actual module of a binding
unfoldable pub names_module : ℕ → Bool
names_module r = pick (eqb r import_role) true (eqb r actual_role)

-- ---- the modules of a tape

-- the places of the modules among c entries from i on
unfoldable pub places_from : List ℕ → ℕ → ℕ → List ℕ
places_from tape i zero = []
places_from tape i (suc c) = let more = places_from tape (suc i) c in pick (is_module (role_at tape i)) (i ∷ more) more

-- the heads of the modules among the first n entries
pub record HeadsOf (tape : List ℕ) (n : ℕ) (h : Heads) : Type 0 where
  pub few : h.count ≤ module_limit
  pub size : length h.places ≡ 65
  pub begun : take h.count h.places ≡ take module_limit (places_from tape 0 n)
  pub ended : get_or h.places h.count 0 ≡ n

-- the names of c modules from number k on
unfoldable pub names_of : List ℕ → List ℕ → List ℕ → ℕ → ℕ → List Name
names_of text tape places k zero = []
names_of text tape places k (suc c) = name_at text tape (get_or places k 0) ∷ names_of text tape places (suc k) c

-- the names that are declared
unfoldable pub declared : List ℕ → List ℕ → Heads → List Name
declared text tape h = names_of text tape h.places 0 h.count

-- ---- the modules that one names

-- the names of those of c entries from i on whose role passes
unfoldable pub picked : (ℕ → Bool) → List ℕ → List ℕ → ℕ → ℕ → List Name
picked p text tape i zero = []
picked p text tape i (suc c) =
    let more = picked p text tape (suc i) c in
    let here = name_at text tape i ∷ more in
    pick (p (role_at tape i)) here more

-- the names of modules that module k names
unfoldable pub named_in : List ℕ → List ℕ → Heads → ℕ → List Name
named_in text tape h k =
    let a = get_or h.places k 0 in picked names_module text tape a (get_or h.places (k + 1) 0 - a)

-- a set, and the numbers of those of the names that are declared before number k
unfoldable pub with_named : List Name → ℕ → (ℕ → Bool) → List Name → (ℕ → Bool)
with_named ds k set [] = set
with_named ds k set (w ∷ ws) =
    let p = before (same w) ds in
    let more = with_named ds k (added p set) ws in
    let less = with_named ds k set ws in
    pick (ltb p k) more less

unfoldable pub named_set : List ℕ → List ℕ → Heads → ℕ → (ℕ → Bool)
named_set text tape h k = with_named (declared text tape h) k nothing (named_in text tape h k)

-- ---- the modules reached

-- with number k, those that it names
unfoldable pub turned : (ℕ → ℕ → Bool) → (ℕ → Bool) → ℕ → (ℕ → Bool)
turned named set k = pick (set k) (either set (named k)) set

-- a set of c modules from number k on, and those that they reach: the latest first
unfoldable pub gathered : (ℕ → ℕ → Bool) → (ℕ → Bool) → ℕ → ℕ → (ℕ → Bool)
gathered named set k zero = set
gathered named set k (suc c) = turned named (gathered named set (suc k) c) k

-- module k, and those that it reaches
unfoldable pub reached_set : List ℕ → List ℕ → Heads → ℕ → (ℕ → Bool)
reached_set text tape h k = gathered (named_set text tape h) (added k nothing) 0 h.count
