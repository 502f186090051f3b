-- The asked module and those that it reaches, evaluated in text order (document 01, "Evaluating"); 6.
use Rattle.std.specs.Prelude.{ℕ, ◌+◌, List, [], ◌∷◌, ◌++◌, map, leb, length}
use Rattle.meaning.specs.Lists.{pick}
use Rattle.meaning.specs.Names.{Name, member}
use Rattle.meaning.specs.Numbers.{name_size, asked_absent}
use Rattle.meaning.specs.Syntax.{Module}
use Rattle.meaning.specs.Normal.{Normal, empty}
use Rattle.meaning.specs.Checks.{Culprit, lone, Outcome, fine, stop, Size, size, add_sizes}
use Rattle.meaning.specs.Evaluate.{Evaluated, named_by, evaluate}

-- ---- reached from M: M, and every module named in an import or a binding by a reached module and declared before it

-- the asked name, and all names that reached modules among these use
unfoldable pub wanted : Name → List Module → List Name
wanted asked [] = asked ∷ []
wanted asked (m ∷ ms) =
    let later = wanted asked ms in
    let more = named_by m ++ later in
    pick (member m.name later) more later

-- a module, its number among the modules, and the names of those before it
pub record Placed : Type 0 where
  pub self : Module
  pub number : ℕ
  pub earlier : List Name

-- a module is reached where one that stands later wants it, or it is the asked one
unfoldable pub reached_among : Name → ℕ → List Name → List Module → List Placed
reached_among asked k earlier [] = []
reached_among asked k earlier (m ∷ ms) =
    let later = reached_among asked (k + 1) (m.name ∷ earlier) ms in
    let here : List Placed = record { self = m; number = k; earlier = earlier } ∷ later in
    pick (member m.name (wanted asked ms)) here later

unfoldable pub reached : Name → List Module → List Placed
reached asked ms = reached_among asked 0 [] ms

-- ---- they are evaluated in text order, each once, up to the first refused; that refusal is M's

-- how a call ends: with the normal form of the last module, or with the refusal's number, the module evaluated then, and the culprit.
-- `count` modules have been evaluated, the refused one included
pub data Ended : Type 0 where
  normalised : (count : ℕ) → Normal → Ended
  refused_at : (number count : ℕ) (evaluating : Name) (culprit : Culprit) → Ended

unfoldable pub end_or : ℕ → Name → (Normal → Ended) → Outcome Normal → Ended
end_or count m more (fine n) = more n
end_or count m more (stop k w) = refused_at k count m w

unfoldable pub total_of : List Evaluated → Size
total_of [] = record { items = 0; equations = 0; nodes = 0 }
total_of (e ∷ es) = add_sizes (size e.normal) (total_of es)

-- `env` are the modules evaluated, the latest first; `last` is the latest's normal form
unfoldable pub in_turn : List Name → List Evaluated → Normal → List Placed → Ended
in_turn declared env last [] = normalised (length env) last
in_turn declared env last (x ∷ xs) =
    let m = x.self in
    end_or (length env + 1) m.name
    (λ n. in_turn declared (record { name = m.name; normal = n } ∷ env) n xs)
    (evaluate declared x.earlier x.number (total_of env) env m)

-- ---- the asked module

unfoldable pub module_names : List Module → List Name
module_names ms = map (λ (m : Module). m.name) ms

-- blank if over 40 bytes
unfoldable pub short_or_blank : Name → Name
short_or_blank w = pick (leb (length w) name_size) w []

-- the asked module is reached, so that a normal form stands in the place of `empty` at the end
unfoldable pub normalise : Name → List Module → Ended
normalise asked ms =
    let r = in_turn (module_names ms) [] empty (reached asked ms) in
    pick (member asked (module_names ms)) r (refused_at asked_absent 0 asked (lone (short_or_blank asked)))

-- opens every definition of this file
unfoldable pub reached_opened : Unit {0}
unfolding wanted reached_among reached end_or total_of in_turn module_names short_or_blank normalise
reached_opened = tt
