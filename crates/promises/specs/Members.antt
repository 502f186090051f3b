-- Laws of names: when two are the same, when one is among others, and when a module is reached: where one that stands later wants its name, or it
-- is the asked one.
use Rattle.std.specs.Prelude.{◌≡◌, ◌⊎◌, ℕ, ◌+◌, Bool, false, ◌||◌}
use Rattle.std.proofs.Math.Path.{refl}
use Rattle.std.proofs.Common.{sym, ap, ◌∙◌, ⊎_elim, arith}
use Rattle.std.proofs.Math.Logic.{inl, inr}
use Rattle.std.proofs.Math.Bool.{true}
use mathlib.Core.List.{List, [], ◌∷◌, ◌++◌}
use Rattle.meaning.specs.Lists.{pick}
use Rattle.meaning.specs.Names.{Name, same, member}
use Rattle.meaning.specs.Syntax.{Module}
use Rattle.meaning.specs.Evaluate.{named_by}
use Rattle.meaning.specs.Reached.{wanted, Placed, reached_among}
use Rattle.meaning.specs.Laws.{by_cases}
use Rattle.laws.specs.Distinct.{Fresh}
use Rattle.meaning.specs.OrderLaws.{same_self, same_equal}

pub clear : {X : Type 0} → ◌≡◌ {A = Bool} true false → X
clear e = let z : ◌≡◌ {A = ℕ} 0 1 = cc in absurd (omega arith)

pub both_true : (b r : Bool) → pick b r false ≡ true → (b ≡ true) × (r ≡ true)
unfolding pick
both_true true r e = (refl, e)
both_true false r e = clear (sym e)

-- a test that cannot pass fails
pub refuted : (b : Bool) → (b ≡ true → ◌≡◌ {A = Bool} true false) → b ≡ false
refuted true h = h refl
refuted false h = refl

-- tests of which each passes where the other does
pub each_way : (b c : Bool) → (b ≡ true → c ≡ true) → (c ≡ true → b ≡ true) → b ≡ c
each_way true c f g = sym (f refl)
each_way false true f g = g refl
each_way false false f g = refl

pub found_again : (b x y : Bool) → (x ≡ true → y ≡ true) → pick b true x ≡ true → pick b true y ≡ true
unfolding pick
found_again true x y h e = refl
found_again false x y h e = h e

pub found_first : (b x : Bool) → b ≡ true → pick b true x ≡ true
unfolding pick
found_first b x e = rw e

pub found_later : (b x : Bool) → x ≡ true → pick b true x ≡ true
unfolding pick
found_later true x e = refl
found_later false x e = e

module _ (w : Name) where
  pub no_name : {X : Type 0} → member w [] ≡ true → X
  unfolding member
  no_name e = clear (sym e)

  pub member_here : (ws : List Name) → member w (w ∷ ws) ≡ true
  unfolding member pick
  member_here ws = rw (same_self w)

  pub member_append : (xs ys : List Name) → member w (xs ++ ys) ≡ (member w xs || member w ys)
  unfolding member pick
  member_append [] ys = refl
  member_append (x ∷ xs) ys =
      by_cases (λ (b : Bool). b ≡ (pick (same w x) true (member w xs) || member w ys)) (same w x) true _ (λ e. rw e refl) (λ e. rw e (member_append xs ys))

  pub member_right : (xs ys : List Name) → member w ys ≡ true → member w (xs ++ ys) ≡ true
  unfolding member
  member_right [] ys e = e
  member_right (x ∷ xs) ys e = found_later (same w x) _ (member_right xs ys e)

  pub member_left : (xs ys : List Name) → member w xs ≡ true → member w (xs ++ ys) ≡ true
  unfolding member
  member_left [] ys e = clear (sym e)
  member_left (x ∷ xs) ys e = found_again (same w x) _ _ (member_left xs ys) e

  pub member_more : (xs ys zs : List Name) → (member w ys ≡ true → member w zs ≡ true) → member w (xs ++ ys) ≡ true → member w (xs ++ zs) ≡ true
  unfolding member
  member_more [] ys zs h e = h e
  member_more (x ∷ xs) ys zs h e = found_again (same w x) _ _ (member_more xs ys zs h) e

  -- the first, or among the rest
  pub member_either : (v : Name) (ws : List Name) → member w (v ∷ ws) ≡ true → (w ≡ v) ⊎ (member w ws ≡ true)
  unfolding member
  member_either v ws =
      by_cases (λ (r : Bool). r ≡ true → (w ≡ v) ⊎ (member w ws ≡ true)) (same w v) true (member w ws) (λ q h. inl (same_equal w v q)) (λ q h. inr h)

  -- in the one list, or in the other
  pub member_split : (xs ys : List Name) → member w (xs ++ ys) ≡ true → (member w xs ≡ true) ⊎ (member w ys ≡ true)
  member_split xs ys e = go (member w xs) (sym (member_append xs ys) ∙ e)
    where
      go : (b : Bool) → (b || member w ys) ≡ true → (b ≡ true) ⊎ (member w ys ≡ true)
      go true h = inl refl
      go false h = inr h

-- a name that is among some, and one that is not, differ
pub differ : (v w : Name) (ws : List Name) → member v ws ≡ false → member w ws ≡ true → same v w ≡ false
differ v w ws e h = refuted (same v w) (λ q. sym (sym e ∙ ap (λ (x : Name). member x ws) (same_equal v w q) ∙ h))

-- every name of the one list is among those of the other
abbrev pub Inside : List Name → List Name → Type 0
Inside vs ws = (w : Name) → member w vs ≡ true → member w ws ≡ true

pub inside_more : (v : Name) (vs ws : List Name) → Inside vs ws → Inside (v ∷ vs) (v ∷ ws)
unfolding member
inside_more v vs ws h w = found_again (same w v) _ _ (h w)

pub inside_later : (v : Name) (vs ws : List Name) → Inside vs ws → Inside vs (v ∷ ws)
unfolding member
inside_later v vs ws h w k = found_later (same w v) _ (h w k)

pub inside_cons : (v : Name) (vs ws : List Name) → member v ws ≡ true → Inside vs ws → Inside (v ∷ vs) ws
inside_cons v vs ws g h w q = ⊎_elim (λ p. ap (λ (x : Name). member x ws) p ∙ g) (h w) (member_either w v vs q)

pub outside : (vs ws : List Name) (v : Name) → Inside vs ws → member v ws ≡ false → member v vs ≡ false
outside vs ws v h f = refuted (member v vs) (λ q. sym (h v q) ∙ f)

-- ---- what is wanted, and reached

module _ (a : Name) (m : Module) (ms : List Module) where
  abbrev pub wants : List Name
  wants = wanted a ms

  pub wanted_most : (w : Name) → member w (wanted a (m ∷ ms)) ≡ true → member w (named_by m ++ wants) ≡ true
  unfolding wanted
  wanted_most w = by_cases (λ (r : List Name). member w r ≡ true → member w (named_by m ++ wants) ≡ true) _ _ _
      (λ b h. h) (λ b h. member_right w (named_by m) wants h)

  pub wanted_still : (w : Name) → member w wants ≡ true → member w (wanted a (m ∷ ms)) ≡ true
  unfolding wanted
  wanted_still w h = by_cases (λ (r : List Name). member w r ≡ true) _ _ _ (λ b. member_right w (named_by m) wants h) (λ b. h)

  pub wanted_here : member m.name wants ≡ true → wanted a (m ∷ ms) ≡ named_by m ++ wants
  unfolding wanted pick
  wanted_here e = rw e

  pub wanted_later : member m.name wants ≡ false → wanted a (m ∷ ms) ≡ wants
  unfolding wanted pick
  wanted_later e = rw e

  abbrev pub here : ℕ → List Name → Placed
  here k e = record { self = m; number = k; earlier = e }

  pub reached_here : (k : ℕ) (e : List Name) → member m.name wants ≡ true
      → reached_among a k e (m ∷ ms) ≡ here k e ∷ reached_among a (k + 1) (m.name ∷ e) ms
  unfolding reached_among pick
  reached_here k e b = rw b

  pub reached_later : (k : ℕ) (e : List Name) → member m.name wants ≡ false → reached_among a k e (m ∷ ms) ≡ reached_among a (k + 1) (m.name ∷ e) ms
  unfolding reached_among pick
  reached_later k e b = rw b

pub wanted_asked : (a : Name) (ms : List Module) → member a (wanted a ms) ≡ true
unfolding wanted
wanted_asked a [] = member_here a []
wanted_asked a (m ∷ ms) = wanted_still a m ms a (wanted_asked a ms)

pub only_itself : (y : Name) (e : List Name) (ms : List Module) → Fresh e ms → member y e ≡ true → wanted y ms ≡ y ∷ []
unfolding wanted member pick
only_itself y e [] f h = refl
only_itself y e (m ∷ ms) f h =
    let q = only_itself y (m.name ∷ e) ms f.1 (found_later (same y m.name) _ h) in
    let p : member m.name (wanted y ms) ≡ false = ap (member m.name) q ∙ ap (λ (b : Bool). pick b true false) (differ m.name y e f.0 h) in
    wanted_later y m ms p ∙ q

-- a reached module is called y
abbrev pub ReachedIn : Name → Name → List Module → Type 0
ReachedIn y asked [] = ⊥
ReachedIn y asked (m ∷ ms) = ((member m.name (wanted asked ms) ≡ true) × (m.name ≡ y)) ⊎ ReachedIn y asked ms

-- what y wants, the asked module wants, as far as y is reached
pub wanted_within : (y asked : Name) (e : List Name) (ms : List Module) → Fresh e ms → ReachedIn y asked ms
    → (w : Name) → member w (wanted y ms) ≡ true → member w (wanted asked ms) ≡ true
unfolding wanted member
wanted_within y asked e [] f k w h = absurd k
wanted_within y asked e (m ∷ ms) f (inl k) w h =
    let q = only_itself y (m.name ∷ e) ms f.1 (ap (λ (x : Name). member y (x ∷ e)) k.1 ∙ member_here y e) in
    let z : member w (wanted y ms) ≡ true → member w (wanted asked ms) ≡ true =
    λ g. ⊎_elim (λ p. ap (λ (x : Name). member x (wanted asked ms)) (p ∙ sym k.1) ∙ k.0) (λ n. clear (sym n))
    (member_either w y [] (sym (ap (member w) q) ∙ g)) in
    ap (member w) (wanted_here asked m ms k.0) ∙ member_more w (named_by m) _ _ z (wanted_most y m ms w h)
wanted_within y asked e (m ∷ ms) f (inr k) w h =
    let sub = wanted_within y asked (m.name ∷ e) ms f.1 k in
    by_cases (λ (r : List Name). member w r ≡ true → member w (wanted asked (m ∷ ms)) ≡ true) (member m.name (wanted y ms)) _ _
    (λ b g. ap (member w) (wanted_here asked m ms (sub m.name b)) ∙ member_more w (named_by m) _ _ (sub w) g)
    (λ b g. wanted_still asked m ms w (sub w g)) h

-- what the modules from here on want, and is earlier, is among the names `known`
abbrev pub Closed : Name → List Module → (earlier known : List Name) → Type 0
Closed a ms e known = (w : Name) → member w (wanted a ms) ≡ true → member w e ≡ true → member w known ≡ true

module _ (a : Name) (m : Module) (ms : List Module) (e known : List Name) where
  pub closed_more : Closed a (m ∷ ms) e known → Closed a ms (m.name ∷ e) (m.name ∷ known)
  unfolding member
  closed_more h w k = found_again (same w m.name) _ _ (h w (wanted_still a m ms w k))

  pub closed_skip : member m.name (wanted a ms) ≡ false → Closed a (m ∷ ms) e known → Closed a ms (m.name ∷ e) known
  closed_skip f h w k q =
      ⊎_elim (λ p. clear (sym (sym f ∙ ap (λ (z : Name). member z (wanted a ms)) (sym p) ∙ k))) (h w (wanted_still a m ms w k))
      (member_either w m.name e q)
