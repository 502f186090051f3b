-- Laws of outcomes: two that agree but for room, where the first may be 18 and the second goes on; and what a fine one says of its steps.
use Rattle.std.specs.Prelude.{◌≡◌, ◌⊎◌, Bool, ℕ}
use Rattle.std.proofs.Math.Path.{refl, subst}
use Rattle.std.proofs.Common.{sym, ap, arith}
use Rattle.std.proofs.Math.Logic.{inl, inr}
use Rattle.std.proofs.Math.Bool.{true, false}
use Rattle.std.proofs.Math.Option.{Option, none, some}
use Rattle.meaning.specs.Lists.{pick}
use Rattle.meaning.specs.Names.{Name}
use Rattle.meaning.specs.Numbers.{no_room}
use Rattle.meaning.specs.Checks.{◌>>=◌, ◌>>◌, Culprit, lone, Outcome, Check, unless, needs, fits, fine, stop}

-- b is what f makes of a; or a is refused by 18; or both are refused alike
abbrev pub Mirrors : {A B : Type 0} → (A → B) → Outcome A → Outcome B → Type 0
Mirrors f (fine a) b = b ≡ fine (f a)
Mirrors f (stop k w) b = (k ≡ no_room) ⊎ (b ≡ stop k w)

-- nothing is fine and refused
pub never : {A X : Type 0} (k : ℕ) (w : Culprit) (a : A) → stop k w ≡ fine a → X
never k w a e = let z : ◌≡◌ {A = ℕ} 0 1 = cc in absurd (omega arith)

module _ {A B : Type 0} (f : A → B) where
  -- a check that both make
  pub mirror_then : (c : Check) (a : Outcome A) (b : Outcome B) → Mirrors f a b → Mirrors f (c >> a) (c >> b)
  unfolding ◌>>◌
  mirror_then (fine x) a b h = h
  mirror_then (stop k w) a b h = inr refl

  -- a check for room, that only the first makes
  pub mirror_room : (enough : Bool) (a : Outcome A) (b : Outcome B) → Mirrors f a b → Mirrors f (fits enough >> a) b
  unfolding ◌>>◌ fits needs pick
  mirror_room true a b h = h
  mirror_room false a b h = inl refl

  -- a choice that both make, where the second way refuses
  pub mirror_pick : (b : Bool) (k : ℕ) (w : Culprit) (a : Outcome A) (a' : Outcome B) → Mirrors f a a'
      → Mirrors f (pick b a (stop k w)) (pick b a' (stop k w))
  unfolding pick
  mirror_pick true k w a a' h = h
  mirror_pick false k w a a' h = inr refl

  -- the steps that follow mirror one another
  pub mirror_bind : {C D : Type 0} (g : C → D) (a : Outcome A) (b : Outcome B) (p : A → Outcome C) (q : B → Outcome D)
      → Mirrors f a b → ((x : A) → Mirrors g (p x) (q (f x))) → Mirrors g (a >>= p) (b >>= q)
  unfolding ◌>>=◌
  mirror_bind g (fine x) b p q h k = subst (λ r. Mirrors g (p x) (r >>= q)) (sym h) (k x)
  mirror_bind g (stop n w) b p q (inl e) k = inl e
  mirror_bind g (stop n w) b p q (inr e) k = inr (ap (λ r. r >>= q) e)

-- whether an outcome is fine, or its refusal
unfoldable pub told : {A : Type 0} → Outcome A → Check
told (fine a) = fine tt
told (stop k w) = stop k w

-- what was made on the way is of no account to the second
pub mirror_told : {A B C : Type 0} (f : A → B) (r : Outcome C) (p : C → Outcome A) (b : Outcome B)
    → ((x : C) → Mirrors f (p x) b) → Mirrors f (r >>= p) (told r >> b)
unfolding told ◌>>=◌ ◌>>◌
mirror_told f (fine x) p b h = h x
mirror_told f (stop k w) p b h = inr refl

pub told_bind : {A B C D : Type 0} (r : Outcome A) (s : Outcome B) (p : A → Outcome C) (q : B → Outcome D)
    → told r ≡ told s → ((x : A) (y : B) → told (p x) ≡ told (q y)) → told (r >>= p) ≡ told (s >>= q)
unfolding told ◌>>=◌
told_bind (fine x) (fine y) p q e h = h x y
told_bind (fine x) (stop k w) p q e h = never k w tt (sym e)
told_bind (stop k w) (fine y) p q e h = never k w tt e
told_bind (stop k w) (stop j v) p q e h = e

-- ---- what a fine outcome says of its steps

pub then_fine : {A : Type 0} (c : Check) (a : Outcome A) (x : A) → (c >> a) ≡ fine x → (c ≡ fine tt) × (a ≡ fine x)
unfolding ◌>>◌
then_fine (fine tt) a x e = (refl, e)
then_fine (stop k w) a x e = never k w x e

pub bind_fine : {A B : Type 0} (a : Outcome A) (p : A → Outcome B) (y : B) → (a >>= p) ≡ fine y → (x : A) × (a ≡ fine x) × (p x ≡ fine y)
unfolding ◌>>=◌
bind_fine (fine x) p y e = (x, refl, e)
bind_fine (stop k w) p y e = never k w y e

pub unless_fine : (k : ℕ) (o : Option Name) → unless k o ≡ fine tt → o ≡ none
unfolding unless
unless_fine k none e = refl
unless_fine k (some w) e = never k (lone w) tt e

pub needs_fine : (k : ℕ) (w : Culprit) (right : Bool) → needs k w right ≡ fine tt → right ≡ true
unfolding needs pick
needs_fine k w true e = refl
needs_fine k w false e = never k w tt e

pub fine_same : {A : Type 0} (a b : A) → fine a ≡ fine b → a ≡ b
fine_same a b e = cc
