-- Each path of import expressions from the top module: where it leads, the paths that the walk takes, and what it means that each is drawn exactly once, in
-- the order of positions, a path before those that go on from it.
use Rattle.std.specs.Prelude.{◌≡◌, Bool, true, false, eqb, ltb, length}
use Prim.Native.Nat.{ℕ, zero, suc, ◌+◌}
use Rattle.std.proofs.Math.Option.{Option, none, some}
use mathlib.Core.List.{List, [], ◌∷◌, ◌++◌, map}
use Rattle.meaning.specs.Lists.{pick, keep, each}
use Rattle.meaning.specs.Names.{bytes, Name, same}
use Rattle.meaning.specs.OrderLaws.{Pairwise}
use Rattle.meaning.specs.Syntax.{Module}
use Rattle.meaning.specs.Listing.{Line}
use Rattle.diagram_meaning.specs.Diagram.{Expression, expressions_of, asked_expression, box_line, absent_line, own_lines, latest_first, diagram}

-- ---- paths, without any walk: positions of import expressions, from the top module down

abbrev pub Path : Type 0
Path = List ℕ

-- the module called w among those that stand earlier, the latest first, and the modules that stand before it
pub data Standing : Type 0 where
  nowhere : Standing
  stands : Module → List Module → Standing

unfoldable pub standing : Name → List Module → Standing
standing w [] = nowhere
standing w (m ∷ ms) = let before = standing w ms in pick (same w m.name) (stands m ms) before

-- the item at a position
unfoldable pub at_position : {A : Type 0} → ℕ → List A → Option A
at_position p [] = none
at_position zero (x ∷ xs) = some x
at_position (suc p) (x ∷ xs) = at_position p xs

-- an import expression, and the modules that stand before the one that has it
pub record Place : Type 0 where
  pub earlier : List Module
  pub expression : Expression

unfoldable pub going_on : {A B : Type 0} → (A → Option B) → Option A → Option B
going_on f none = none
going_on f (some a) = f a

unfoldable pub inside : {B : Type 0} → (Module → List Module → Option B) → Standing → Option B
inside f nowhere = none
inside f (stands m ms) = f m ms

-- where a path leads: it goes on through a module that stands earlier, to the expression that it has at that position
unfoldable pub end_of : List Module → Expression → Path → Option Place
end_of es x [] = some (record { earlier = es; expression = x })
end_of es x (p ∷ ps) =
    inside (λ (m : Module) (ms : List Module). going_on (λ (y : Expression). end_of ms y ps) (at_position p (expressions_of m)))
    (standing x.name es)

-- a path is one where it leads somewhere
unfoldable pub there : {A : Type 0} → Option A → Bool
there none = false
there (some a) = true

abbrev pub valid : List Module → Expression → Path → Bool
valid es x p = there (end_of es x p)

-- what is drawn where a path ends: a box, or that no earlier module is called so
unfoldable pub shown : ℕ → Expression → Standing → List Line
shown d x nowhere = absent_line d x.name ∷ []
shown d x (stands m ms) = own_lines d m x.bindings

unfoldable pub shown_at : ℕ → Option Place → List Line
shown_at d none = []
shown_at d (some q) = shown d q.expression (standing q.expression.name q.earlier)

-- ---- the paths that the walk takes, in its order

-- k, k + 1 and so on in front of what f gives for each
unfoldable pub numbered_each : {A : Type 0} → (A → List Path) → ℕ → List A → List Path
numbered_each f k [] = []
numbered_each f k (x ∷ xs) = map (λ (p : Path). k ∷ p) (f x) ++ numbered_each f (suc k) xs

unfoldable pub paths : List Module → Expression → List Path
paths [] x = [] ∷ []
paths (m ∷ ms) x =
    let here = [] ∷ numbered_each (λ (y : Expression). paths ms y) 0 (expressions_of m) in
    let before = paths ms x in
    pick (same x.name m.name) here before

-- how often a path is among paths
unfoldable pub times : Path → List Path → ℕ
times p [] = 0
times p (q ∷ qs) = pick (same p q) 1 0 + times p qs

-- p stands before q: by the first position that differs, a path before those that go on from it
unfoldable pub precedes : Path → Path → Bool
precedes p [] = false
precedes [] (b ∷ q) = true
precedes (a ∷ p) (b ∷ q) = let deeper = precedes p q in pick (eqb a b) deeper (ltb a b)

-- ---- in which order

-- each stands before every later one: no path stands there twice
abbrev pub Ascending : List Path → Type 0
Ascending qs = Pairwise (λ p q. precedes p q ≡ true) qs

-- ---- one line `box` or `absent` for each

unfoldable pub is_head : Line → Bool
is_head l = pick (same l.key (bytes "box")) true (same l.key (bytes "absent"))

-- a box with its module's name, or that no earlier module has the name
unfoldable pub head_line : ℕ → Expression → Standing → Line
head_line d x nowhere = absent_line d x.name
head_line d x (stands m ms) = box_line d m.name

-- the line of a path; every path that is drawn leads somewhere
unfoldable pub head_at : ℕ → Option Place → Line
head_at d none = absent_line d []
head_at d (some q) = head_line d q.expression (standing q.expression.name q.earlier)

-- ---- the whole diagram of a module

abbrev pub top_paths : List Module → Name → List Path
top_paths ms asked = paths (latest_first [] ms) (asked_expression asked)

-- where a path from the top module leads
abbrev pub leads_to : List Module → Name → Path → Option Place
leads_to ms asked p = end_of (latest_first [] ms) (asked_expression asked) p

-- each path of import expressions from the top module appears exactly once
pub record DrawnOnce (ms : List Module) (asked : Name) : Type 0 where
  -- a path that leads somewhere is once among them, any other not at all
  pub once_each : (p : Path) → times p (top_paths ms asked) ≡ pick (there (leads_to ms asked p)) 1 0
  -- they stand in the order of their positions
  pub ascend : Ascending (top_paths ms asked)
  -- the diagram is what is shown for each of them, in that order, a path's length deep
  pub all : diagram ms asked ≡ each (λ (p : Path). shown_at (length p) (leads_to ms asked p)) (top_paths ms asked)
  -- of its lines those with `box` or `absent` are one for each of them
  pub one_line : keep is_head (diagram ms asked) ≡ map (λ (p : Path). head_at (length p) (leads_to ms asked p)) (top_paths ms asked)
