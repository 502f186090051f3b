-- Two calls side by side. Where the modules of two specifications correspond in turn, so do those that are reached; and where what each of these
-- evaluates to corresponds, so does how the two calls end.
use Rattle.std.specs.Prelude.{◌≡◌, ◌⊎◌, ℕ, ◌+◌, suc, Bool, true, false, length, get_or}
use Rattle.std.proofs.Math.Path.{refl, sym, ap₂}
use Rattle.std.proofs.Common.{ap, ◌∙◌, inl, arith}
use Rattle.std.proofs.Math.Logic.{inr}
use Rattle.std.proofs.Math.Bool.{◌||◌}
use mathlib.Core.List.{List, [], ◌∷◌, map}
use Rattle.meaning.specs.Laws.{by_cases}
use Rattle.meaning.specs.Lists.{pick}
use Rattle.meaning.specs.Names.{Name, member}
use Rattle.meaning.specs.Syntax.{Module}
use Rattle.meaning.specs.Normal.{Normal, empty}
use Rattle.meaning.specs.Checks.{Culprit, Outcome, fine, stop}
use Rattle.meaning.specs.Evaluate.{Evaluated, named_by, evaluate}
use Rattle.meaning.specs.Reached.{wanted, Placed, reached_among, reached, Ended, normalised, refused_at, end_or, total_of, in_turn, module_names, normalise}
use Rattle.meaning.specs.OutcomeLaws.{never}
use Rattle.meaning.specs.OrderLaws.{Every}
use Rattle.promises.specs.Members.{member_append}
use Rattle.promises.specs.Demand.{InTurn}

-- ---- choices, and lists in turn

pub pick_both : {A B : Type 0} (R : A → B → Type 0) (b : Bool) (x : A) (y : B) (x' : A) (y' : B) → R x y → R x' y' → R (pick b x x') (pick b y y')
unfolding pick
pick_both R true x y x' y' h h' = h
pick_both R false x y x' y' h h' = h'

-- two choices, by their tests
pub both_cases : {A B : Type 0} (R : A → B → Type 0) (b c : Bool) (x y : A) (x' y' : B) → (b ≡ true → c ≡ true → R x x') → (b ≡ true → c ≡ false → R x y')
    → (b ≡ false → c ≡ true → R y x') → (b ≡ false → c ≡ false → R y y') → R (pick b x y) (pick c x' y')
unfolding pick
both_cases R true true x y x' y' f g h k = f refl refl
both_cases R true false x y x' y' f g h k = g refl refl
both_cases R false true x y x' y' f g h k = h refl refl
both_cases R false false x y x' y' f g h k = k refl refl

-- a choice is fine, where the other way stops
pub went_on : {A : Type 0} (b : Bool) (k : ℕ) (w : Culprit) (o : Outcome A) (x : A) → pick b (stop k w) o ≡ fine x → (b ≡ false) × (o ≡ fine x)
unfolding pick
went_on true k w o x e = never k w x e
went_on false k w o x e = (refl, e)

pub came_through : {A : Type 0} (b : Bool) (k : ℕ) (w : Culprit) (o : Outcome A) (x : A) → pick b o (stop k w) ≡ fine x → (b ≡ true) × (o ≡ fine x)
unfolding pick
came_through true k w o x e = (refl, e)
came_through false k w o x e = never k w x e

module _ {A : Type 0} (R : A → A → Type 0) where
  -- what holds of no items, and with each pair more, holds of all that correspond
  pub by_turns : (Q : List A → List A → Type 0) → Q [] [] → ((x x' : A) (xs xs' : List A) → R x x' → Q xs xs' → Q (x ∷ xs) (x' ∷ xs'))
      → (xs xs' : List A) → InTurn R xs xs' → Q xs xs'
  by_turns Q none more [] [] k = none
  by_turns Q none more [] (x' ∷ xs') k = absurd k
  by_turns Q none more (x ∷ xs) [] k = absurd k
  by_turns Q none more (x ∷ xs) (x' ∷ xs') k = more x x' xs xs' k.0 (by_turns Q none more xs xs' k.1)

  pub in_turn_so : (S : A → A → Type 0) → ((x x' : A) → R x x' → S x x') → (xs xs' : List A) → InTurn R xs xs' → InTurn S xs xs'
  in_turn_so S h = by_turns (InTurn S) tt (λ x x' xs xs' r q. (h x x' r, q))

  pub both_in_turn : (S : A → A → Type 0) (xs xs' : List A) → InTurn R xs xs' → InTurn S xs xs' → InTurn (λ x x'. R x x' × S x x') xs xs'
  both_in_turn S = by_turns (λ xs xs'. InTurn S xs xs' → InTurn (λ x x'. R x x' × S x x') xs xs') (λ k. tt) (λ x x' xs xs' r q k. ((r, k.0), q k.1))

  -- in turn, and each of the first passes P, each of the second Q
  pub in_turn_each : (P Q : A → Type 0) (xs xs' : List A) → InTurn R xs xs' → Every P xs → Every Q xs' → InTurn (λ x x'. R x x' × (P x × Q x')) xs xs'
  in_turn_each P Q =
      by_turns (λ xs xs'. Every P xs → Every Q xs' → InTurn (λ x x'. R x x' × (P x × Q x')) xs xs') (λ p q. tt)
      (λ x x' xs xs' r more p q. ((r, (p.0, q.0)), more p.1 q.1))

  pub every_first : (P : A → Type 0) → ((x x' : A) → R x x' → P x) → (xs xs' : List A) → InTurn R xs xs' → Every P xs
  every_first P h = by_turns (λ xs xs'. Every P xs) tt (λ x x' xs xs' r q. (h x x' r, q))

  -- what is the same of both, of each in turn
  pub images_same : {B : Type 0} (f : A → B) → ((x x' : A) → R x x' → f x ≡ f x') → (xs xs' : List A) → InTurn R xs xs' → map f xs ≡ map f xs'
  images_same f h = by_turns (λ xs xs'. map f xs ≡ map f xs') refl (λ x x' xs xs' r q. ap₂ ◌∷◌ (h x x' r) q)

  pub equals_same : ((x x' : A) → R x x' → x ≡ x') → (xs xs' : List A) → InTurn R xs xs' → xs ≡ xs'
  equals_same h = by_turns (λ xs xs'. xs ≡ xs') refl (λ x x' xs xs' r q. ap₂ ◌∷◌ (h x x' r) q)

  pub lengths_same : (xs xs' : List A) → InTurn R xs xs' → length xs ≡ length xs'
  lengths_same = by_turns (λ xs xs'. length xs ≡ length xs') refl (λ x x' xs xs' r q. ap suc q)

  pub in_turn_map : (f : A → A) → ((x : A) → R x (f x)) → (xs : List A) → InTurn R xs (map f xs)
  in_turn_map f h [] = tt
  in_turn_map f h (x ∷ xs) = (h x, in_turn_map f h xs)

-- ---- what is reached

pub record PlacedAlike (R : Module → Module → Type 0) (x x' : Placed) : Type 0 where
  pub self : R x.self x'.self
  pub number : x.number ≡ x'.number
  pub earlier : x.earlier ≡ x'.earlier

-- modules that correspond have one name, and name the same modules
module _ (R : Module → Module → Type 0) (called : (m m' : Module) → R m m' → m.name ≡ m'.name)
    (naming : (m m' : Module) → R m m' → (w : Name) → member w (named_by m) ≡ member w (named_by m')) where
  abbrev SameNames : List Name → List Name → Type 0
  SameNames ws ws' = (w : Name) → member w ws ≡ member w ws'

  reached_too : (m m' : Module) → R m m' → (ws ws' : List Name) → SameNames ws ws' → member m.name ws ≡ member m'.name ws'
  reached_too m m' r ws ws' s = s m.name ∙ ap (λ (w : Name). member w ws') (called m m' r)

  wanted_alike : (asked : Name) (ms ms' : List Module) → InTurn R ms ms' → SameNames (wanted asked ms) (wanted asked ms')
  unfolding wanted
  wanted_alike asked =
      by_turns R (λ ms ms'. SameNames (wanted asked ms) (wanted asked ms')) (λ w. refl) (λ m m' ms ms' r later w.
      rw (reached_too m m' r (wanted asked ms) (wanted asked ms') later)
      (pick_both (λ (u v : List Name). member w u ≡ member w v) (member m'.name (wanted asked ms')) _ _ _ _
      (member_append w (named_by m) _ ∙ ap₂ ◌||◌ (naming m m' r w) (later w) ∙ sym (member_append w (named_by m') _)) (later w)))

  placed_alike : (asked : Name) (k : ℕ) (earlier earlier' : List Name) → earlier ≡ earlier' → (ms ms' : List Module) → InTurn R ms ms'
      → InTurn (PlacedAlike R) (reached_among asked k earlier ms) (reached_among asked k earlier' ms')
  unfolding reached_among
  placed_alike asked k earlier earlier' e [] [] a = tt
  placed_alike asked k earlier earlier' e [] (m' ∷ ms') a = absurd a
  placed_alike asked k earlier earlier' e (m ∷ ms) [] a = absurd a
  placed_alike asked k earlier earlier' e (m ∷ ms) (m' ∷ ms') a =
      let more = placed_alike asked (k + 1) (m.name ∷ earlier) (m'.name ∷ earlier') (ap₂ ◌∷◌ (called m m' a.0) e) ms ms' a.1 in
      rw (reached_too m m' a.0 (wanted asked ms) (wanted asked ms') (wanted_alike asked ms ms' a.1))
      (pick_both (InTurn (PlacedAlike R)) (member m'.name (wanted asked ms')) _ _ _ _ (record { self = a.0; number = refl; earlier = e }, more) more)

  pub reached_alike : (asked : Name) (ms ms' : List Module) → InTurn R ms ms' → InTurn (PlacedAlike R) (reached asked ms) (reached asked ms')
  unfolding reached
  reached_alike asked ms ms' a = placed_alike asked 0 [] [] refl ms ms' a

  pub module_names_alike : (ms ms' : List Module) → InTurn R ms ms' → module_names ms ≡ module_names ms'
  unfolding module_names
  module_names_alike ms ms' a = images_same R (λ (m : Module). m.name) called ms ms' a

-- what is told from k on is told one further on of the rest
pub one_on : {A : Type 0} (at of : ℕ → A) (k : ℕ) → ((j : ℕ) → at (k + j) ≡ of j) → (at k ≡ of 0) × ((j : ℕ) → at (k + 1 + j) ≡ of (suc j))
one_on at of k h = ((let z : k ≡ k + 0 = omega arith in ap at z) ∙ h 0, λ j. (let z : k + 1 + j ≡ k + suc j = omega arith in ap at z) ∙ h (suc j))

-- what holds of all modules holds of each that is reached, and its number tells it
pub reached_such : {A : Type 0} (P : Module → Type 0) (of : Module → A) (blank : A) (at : ℕ → A) (asked : Name) (k : ℕ) (e : List Name) (ms : List Module)
    → Every P ms → ((j : ℕ) → at (k + j) ≡ get_or (map of ms) j blank) → Every (λ x. P x.self × (at x.number ≡ of x.self)) (reached_among asked k e ms)
unfolding reached_among
reached_such P of blank at asked k e [] h g = tt
reached_such P of blank at asked k e (m ∷ ms) h g =
    let n = one_on at (λ j. get_or (map of (m ∷ ms)) j blank) k g in
    let later = reached_such P of blank at asked (k + 1) (m.name ∷ e) ms h.1 n.1 in
    by_cases (Every (λ x. P x.self × (at x.number ≡ of x.self))) _ _ _ (λ b. ((h.0, n.0), later)) (λ b. later)

-- ---- evaluated in turn

-- what is made of one module, after those in `env`
abbrev pub evaluated : List Name → List Evaluated → Placed → Outcome Normal
evaluated declared env x = evaluate declared x.earlier x.number (total_of env) env x.self

pub record Beside (N : Normal → Normal → Type 0) (e e' : Evaluated) : Type 0 where
  pub name : e.name ≡ e'.name
  pub normal : N e.normal e'.normal

-- normal forms correspond by N. Where Freed holds, what is refused in the one call may be accepted in the other
module _ (N : Normal → Normal → Type 0) (Freed : Type 0) where
  abbrev pub Goes : Outcome Normal → Outcome Normal → Type 0
  Goes (fine n) (fine n') = N n n'
  Goes (fine n) (stop k' w') = ⊥
  Goes (stop k w) (fine n') = Freed
  Goes (stop k w) (stop k' w') = Unit {0}

  abbrev pub Ends : Ended → Ended → Type 0
  Ends (normalised c n) (normalised c' n') = (c ≡ c') × N n n'
  Ends (normalised c n) (refused_at k' c' m' w') = ⊥
  Ends (refused_at k c m w) (normalised c' n') = Freed
  Ends (refused_at k c m w) (refused_at k' c' m' w') = Freed ⊎ ((c ≡ c') × (m ≡ m'))

  pub freed_here : (k : ℕ) (w : Culprit) (o' : Outcome Normal) → Freed → Goes (stop k w) o'
  freed_here k w (fine n') f = f
  freed_here k w (stop k' w') f = tt

  freed : (k c : ℕ) (m : Name) (w : Culprit) (e' : Ended) → Freed → Ends (refused_at k c m w) e'
  freed k c m w (normalised c' n') f = f
  freed k c m w (refused_at k' c' m' w') f = inl f

  one_turn : (c c' : ℕ) (m m' : Name) (more more' : Normal → Ended) (o o' : Outcome Normal) → c ≡ c' → m ≡ m' → Goes o o'
      → ((n n' : Normal) → N n n' → Ends (more n) (more' n')) → Ends (end_or c m more o) (end_or c' m' more' o')
  unfolding end_or
  one_turn c c' m m' more more' (fine n) (fine n') p q h later = later n n' h
  one_turn c c' m m' more more' (fine n) (stop k' w') p q h later = absurd h
  one_turn c c' m m' more more' (stop k w) (fine n') p q h later = freed k c m w (more' n') h
  one_turn c c' m m' more more' (stop k w) (stop k' w') p q h later = inr (p, q)

  module _ (P : Placed → Placed → Type 0) (called : (x x' : Placed) → P x x' → x.self.name ≡ x'.self.name) (declared : List Name)
      (step : (env env' : List Evaluated) → InTurn (Beside N) env env' → (x x' : Placed) → P x x'
      → Goes (evaluated declared env x) (evaluated declared env' x')) where
    in_turn_two : (xs xs' : List Placed) (env env' : List Evaluated) (last last' : Normal) → InTurn P xs xs' → InTurn (Beside N) env env' → N last last'
        → Ends (in_turn declared env last xs) (in_turn declared env' last' xs')
    unfolding in_turn
    in_turn_two [] [] env env' last last' p h l = (lengths_same (Beside N) env env' h, l)
    in_turn_two [] (x' ∷ xs') env env' last last' p h l = absurd p
    in_turn_two (x ∷ xs) [] env env' last last' p h l = absurd p
    in_turn_two (x ∷ xs) (x' ∷ xs') env env' last last' p h l =
        let name = called x x' p.0 in
        one_turn _ _ _ _ _ _ (evaluated declared env x) (evaluated declared env' x') (ap (λ (k : ℕ). k + 1) (lengths_same (Beside N) env env' h)) name
        (step env env' h x x' p.0) (λ n n' r. in_turn_two xs xs' _ _ n n' p.1 (record { name = name; normal = r }, h) r)

    pub normalise_two : (asked : Name) (ms ms' : List Module) → module_names ms ≡ declared → module_names ms' ≡ declared
        → InTurn P (reached asked ms) (reached asked ms') → N empty empty → Ends (normalise asked ms) (normalise asked ms')
    unfolding normalise
    normalise_two asked ms ms' q q' p l =
        rw (q, q') (pick_both Ends (member asked declared) _ _ _ _
        (in_turn_two (reached asked ms) (reached asked ms') [] [] empty empty p tt l) (inr (refl, refl)))
