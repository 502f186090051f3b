-- The evaluator's recursion, walked once: what its steps keep, every normal form has that evaluating makes, on the way and at the end. Where
-- a step gives new names, they come from the text, whose names have N.
use Rattle.std.specs.Prelude.{◌≡◌, ℕ, ◌+◌}
use Rattle.std.proofs.Common.{subst}
use Rattle.std.proofs.Math.Option.{Option, none}
use mathlib.Core.List.{List, [], ◌∷◌}
use Rattle.meaning.specs.Laws.{by_cases}
use Rattle.meaning.specs.Names.{Name}
use Rattle.meaning.specs.Syntax.{Pair, Clause, renamed_by, bound_by, Import, Module}
use Rattle.meaning.specs.Origins.{FunctionType, ResolvedEquation}
use Rattle.meaning.specs.Normal.{Normal, empty, formals, unite, move}
use Rattle.meaning.specs.Written.{in_order}
use Rattle.meaning.specs.Checks.{fine, Size, room}
use Rattle.meaning.specs.OutcomeLaws.{unless_fine}
use Rattle.meaning.specs.Clauses.{paired, otherwise, renaming, rename, new_sort, new_function, pairs_right, unpaired, without, bound_to, bind}
use Rattle.meaning.specs.Evaluate.{Evaluated, normal_of, clause, clauses, expressions, united, imported, seen_sorts, joined_visible, own_checks, own_equations, joined_hidden, joined_own, evaluate}
use Rattle.meaning.specs.Reached.{Placed, reached_among, reached, normalised, total_of, in_turn, module_names, normalise}
use Rattle.meaning.specs.OrderLaws.{Every}
use Rattle.laws.specs.EveryLaws.{every_all}
use Rattle.laws.specs.Outcomes.{Gives, gives_bound, gives_after, gives_then, checked_gives, Ends, ends_or}

-- ---- the names that a clause gives

-- new names have N where the old ones have
pub record Carries (N : Name → Type 0) (σ : Name → Name) (φ : Name → FunctionType → Name) : Type 0 where
  pub sorts : (w : Name) → N w → N (σ w)
  pub functions : (f : Name) (t : FunctionType) → N f → N (φ f t)

abbrev pub NewNames : (Name → Type 0) → List Pair → Type 0
NewNames N rs = Every (λ r. N r.new) rs

abbrev pub ClauseNames : (Name → Type 0) → Clause → Type 0
ClauseNames N (renamed_by rs) = NewNames N rs
ClauseNames N (bound_by p rs m) = NewNames N rs

abbrev pub ImportNames : (Name → Type 0) → List Import → Type 0
ImportNames N is = Every (λ i. Every (ClauseNames N) i.clauses) is

-- nothing is asked of names
abbrev pub AnyName : Name → Type 0
AnyName w = Unit {0}

pub any_imports : (is : List Import) → ImportNames AnyName is
any_imports is = every_all _ (λ i. every_all (ClauseNames AnyName) one i.clauses) is
  where
    one : (c : Clause) → ClauseNames AnyName c
    one (renamed_by rs) = every_all _ (λ r. tt) rs
    one (bound_by p rs m) = every_all _ (λ r. tt) rs

module _ (N : Name → Type 0) where
  renaming_has : (rs : List Pair) → NewNames N rs → (w : Name) → N w → N (renaming rs w)
  unfolding renaming paired otherwise
  renaming_has [] h w n = n
  renaming_has (r ∷ rs) h w n = by_cases (λ (o : Option Name). N (otherwise w o)) _ _ _ (λ e. h.0) (λ e. renaming_has rs h.1 w n)

  renaming_carries : (rs : List Pair) → NewNames N rs → Carries N (renaming rs) (λ f t. renaming rs f)
  renaming_carries rs h = record { sorts = renaming_has rs h; functions = λ f t. renaming_has rs h f }

-- ---- a binding

module _ (p : Name) (rs : List Pair) (n actual : Normal) where
  abbrev pub bound_sort : Name → Name
  bound_sort = new_sort (formals p n.visible) rs

  abbrev pub bound_function : Name → FunctionType → Name
  bound_function = new_function (formals p n.visible) rs

  -- what its pairs have when it is accepted
  pub record RightPairs : Type 0 where
    pub right : pairs_right (formals p n.visible) rs n.visible actual.visible [] rs ≡ fine tt
    pub all : unpaired (formals p n.visible) rs ≡ none

  binding_carries : (N : Name → Type 0) → NewNames N rs → Carries N bound_sort bound_function
  unfolding new_sort new_function
  binding_carries N h = record {
    sorts = λ w q. by_cases N _ _ _ (λ e. renaming_has N rs h w q) (λ e. q);
    functions = λ f t q. by_cases N _ _ _ (λ e. renaming_has N rs h f q) (λ e. q);
  }

-- ---- what clauses and unions keep

pub record Keeps (N : Name → Type 0) (P : Normal → Type 0) : Type 0 where
  pub nothing : P empty
  pub moved : (σ : Name → Name) (φ : Name → FunctionType → Name) → Carries N σ φ → (n : Normal) → P n → P (move σ φ n)
  pub bound : (p : Name) (rs : List Pair) (n actual : Normal) → Carries N (bound_sort p rs n actual) (bound_function p rs n actual)
      → RightPairs p rs n actual → P n → P actual → P (unite (move (bound_sort p rs n actual) (bound_function p rs n actual) (without p n)) actual)
  pub united : (a b : Normal) → P a → P b → P (unite a b)

-- where a parameter may be left out, a binding is a translation and a union
pub keeps : {N : Name → Type 0} {P : Normal → Type 0} → P empty
    → ((σ : Name → Name) (φ : Name → FunctionType → Name) → Carries N σ φ → (n : Normal) → P n → P (move σ φ n))
    → ((p : Name) (n : Normal) → P n → P (without p n)) → ((a b : Normal) → P a → P b → P (unite a b)) → Keeps N P
keeps nothing moved left_out united = record {
  nothing = nothing;
  moved = moved;
  bound = λ p rs n actual c right h k. united _ actual (moved _ _ c (without p n) (left_out p n h)) k;
  united = united;
}

abbrev pub EnvironmentOf : (Normal → Type 0) → List Evaluated → Type 0
EnvironmentOf P env = Every (λ e. P e.normal) env

module _ {N : Name → Type 0} {P : Normal → Type 0} (keeps : Keeps N P) where
  rename_gives : (rs : List Pair) (n : Normal) → NewNames N rs → P n → Gives P (rename rs n)
  unfolding rename
  rename_gives rs n h k = gives_then P _ _ (λ e. checked_gives P _ (keeps.moved _ _ (renaming_carries N rs h) n k))

  bind_gives : (p : Name) (rs : List Pair) (n actual : Normal) → NewNames N rs → P n → P actual → Gives P (bind p rs n actual)
  unfolding bind bound_to
  bind_gives p rs n actual h k l =
      by_cases (Gives P) _ _ _
      (λ e. gives_then P _ _ (λ f. gives_then P _ _ (λ g.
      checked_gives P _ (keeps.bound p rs n actual (binding_carries p rs n actual N h) (record { right = f; all = unless_fine _ _ g }) k l))))
      (λ e. tt)

  module _ (env : List Evaluated) (kept : EnvironmentOf P env) where
    pub normal_had : (w : Name) → P (normal_of env w)
    unfolding normal_of
    normal_had w = go env kept
      where
        go : (es : List Evaluated) → EnvironmentOf P es → P (normal_of es w)
        go [] h = keeps.nothing
        go (e ∷ es) h = by_cases P _ _ _ (λ f. h.0) (λ f. go es h.1)

    pub clause_gives : (c : Clause) (n : Normal) → ClauseNames N c → P n → Gives P (clause env c n)
    unfolding clause
    clause_gives (renamed_by rs) n h k = rename_gives rs n h k
    clause_gives (bound_by p rs m) n h k = bind_gives p rs n (normal_of env m) h k (normal_had m)

    pub clauses_give : (cs : List Clause) (n : Normal) → Every (ClauseNames N) cs → P n → Gives P (clauses env cs n)
    unfolding clauses
    clauses_give [] n h k = k
    clauses_give (c ∷ cs) n h k = gives_bound P P _ _ (clause_gives c n h.0 k) (λ u l. clauses_give cs u h.1 l)

    pub expressions_give : (is : List Import) → ImportNames N is → Gives (Every P) (expressions env is)
    unfolding expressions
    expressions_give [] h = tt
    expressions_give (i ∷ is) h =
        gives_bound P (Every P) _ _ (clauses_give i.clauses (normal_of env i.name) h.0 (normal_had i.name))
        (λ n k. gives_bound (Every P) (Every P) _ _ (expressions_give is h.1) (λ ns l. (k, l)))

  united_gives : (n : Normal) (ks : List Normal) → P n → Every P ks → Gives P (united n ks)
  unfolding united
  united_gives n [] h l = h
  united_gives n (k ∷ ks) h l = gives_bound P P _ _ (checked_gives P _ (keeps.united n k h l.0)) (λ u q. united_gives u ks q l.1)

  pub imported_gives : (env : List Evaluated) → EnvironmentOf P env → (is : List Import) → ImportNames N is → Gives P (imported env is)
  unfolding imported
  imported_gives env kept is h =
      gives_bound (Every P) P _ _ (expressions_give env kept is h) (λ ns l. united_gives empty ns keeps.nothing l)

-- ---- M's own declarations

-- M's own joined to what it imports, before it is put in order
abbrev pub with_own : Module → Normal → List ResolvedEquation → Normal
with_own m n es = record { visible = joined_visible m n.visible; hidden = joined_hidden m (seen_sorts m n.visible) n.hidden es }

-- what M's own have when they are accepted, M being module number `home`
pub record RightOwn (home : ℕ) (m : Module) (n : Normal) (es : List ResolvedEquation) : Type 0 where
  pub right : own_checks m (seen_sorts m n.visible) (joined_visible m n.visible) ≡ fine tt
  pub equations : own_equations home m (seen_sorts m n.visible) (joined_visible m n.visible) ≡ fine es
  pub fits : room (with_own m n es) ≡ fine tt

pub joined_gives : (Q : Normal → Type 0) (home : ℕ) (total : Size) (m : Module) (n : Normal)
    → ((es : List ResolvedEquation) → RightOwn home m n es → Q (in_order (with_own m n es))) → Gives Q (joined_own home total m n)
unfolding joined_own
joined_gives Q home total m n own =
    gives_then Q _ _ (λ c. gives_after Q _ _ (λ es e. gives_then Q _ _ (λ r. gives_then Q _ _ (λ t.
    own es (record { right = c; equations = e; fits = r })))))

-- what evaluating M gives, where what it imports has P
pub evaluated_gives : {N : Name → Type 0} {P : Normal → Type 0} → Keeps N P → (Q : Normal → Type 0) (declared earlier : List Name) (home : ℕ)
    (total : Size) (env : List Evaluated) (m : Module) → EnvironmentOf P env → ImportNames N m.imports
    → ((n : Normal) → P n → (es : List ResolvedEquation) → RightOwn home m n es → Q (in_order (with_own m n es)))
    → Gives Q (evaluate declared earlier home total env m)
unfolding evaluate
evaluated_gives {N} {P} keeps Q declared earlier home total env m kept h own =
    gives_then Q _ _ (λ a. gives_then Q _ _ (λ b.
    gives_bound P Q _ _ (imported_gives keeps env kept m.imports h) (λ n k. joined_gives Q home total m n (own n k))))

-- ---- the modules in turn, and a call

-- modules with M evaluate to normal forms with Q, and on the way there all have P
pub record Evaluates (N : Name → Type 0) (M : Module → Type 0) (P Q : Normal → Type 0) : Type 0 where
  pub steps : Keeps N P
  pub imports : (m : Module) → M m → ImportNames N m.imports
  pub own : (home : ℕ) (m : Module) → M m → (n : Normal) → P n → (es : List ResolvedEquation) → RightOwn home m n es → Q (in_order (with_own m n es))
  pub nothing : Q empty
  pub weaker : (n : Normal) → Q n → P n

pub reached_every : (M : Module → Type 0) (asked : Name) (k : ℕ) (earlier : List Name) (ms : List Module) → Every M ms
    → Every (λ x. M x.self) (reached_among asked k earlier ms)
unfolding reached_among
reached_every M asked k earlier [] h = tt
reached_every M asked k earlier (m ∷ ms) h =
    let later = reached_every M asked (k + 1) (m.name ∷ earlier) ms h.1 in
    by_cases (Every (λ x. M x.self)) _ _ _ (λ e. (h.0, later)) (λ e. later)

module _ {N : Name → Type 0} {M : Module → Type 0} {P Q : Normal → Type 0} (evaluates : Evaluates N M P Q) where
  pub module_gives : (declared earlier : List Name) (home : ℕ) (total : Size) (env : List Evaluated) (m : Module) → M m → EnvironmentOf P env
      → Gives Q (evaluate declared earlier home total env m)
  module_gives declared earlier home total env m h kept =
      evaluated_gives evaluates.steps Q declared earlier home total env m kept (evaluates.imports m h) (evaluates.own home m h)

  turns_end : (declared : List Name) (env : List Evaluated) (last : Normal) (xs : List Placed) → EnvironmentOf P env → Q last
      → Every (λ x. M x.self) xs → Ends Q (in_turn declared env last xs)
  unfolding in_turn
  turns_end declared env last [] kept l h = l
  turns_end declared env last (x ∷ xs) kept l h =
      ends_or Q Q _ _ _ (evaluate declared x.earlier x.number (total_of env) env x.self)
      (module_gives declared x.earlier x.number (total_of env) env x.self h.0 kept)
      (λ n q. turns_end declared _ n xs (evaluates.weaker n q, kept) q h.1)

  pub call_ends : (asked : Name) (ms : List Module) → Every M ms → Ends Q (normalise asked ms)
  unfolding normalise reached
  call_ends asked ms h =
      by_cases (Ends Q) _ _ _
      (λ e. turns_end (module_names ms) [] empty (reached_among asked 0 [] ms) tt evaluates.nothing (reached_every M asked 0 [] ms h)) (λ e. tt)

  pub call_gives : (asked : Name) (ms : List Module) (count : ℕ) (n : Normal) → Every M ms → normalise asked ms ≡ normalised count n → Q n
  call_gives asked ms count n h e = subst (Ends Q) e (call_ends asked ms h)
