-- The ways through the code, one law each: b, r, v and x are callees' answers. The laws of scans serve the other checks of a module too.
use Rattle.std.specs.Prelude.{Ok, Err}
use mathlib.Core.Path.{◌≡◌, refl, sym, ap, ◌∙◌}
use mathlib.Core.Bool.{Bool, true, false, false≢true}
use mathlib.Core.List.{List}
use Prim.Native.Nat.{ℕ, zero, suc, ◌+◌, ◌-◌, ◌<◌, ◌≤◌}
use native.Mathlib.Omega.{arith}
use native.Mathlib.Numerals.{add-one}
use borrow.Author.Rules.{rules}
use borrow.Author.Tests.{eq-eqb, ne_eqb}
use mir.Syntax.{w32}
use mir.Val.{Fits}
use lib.Dec.{eqb}
use Rattle.meaning.specs.Lists.{pick}
use Rattle.meaning.specs.Names.{Name, same}
use Rattle.meaning.specs.OrderLaws.{same_self}
use Rattle.meaning.specs.Origins.{Declared, declared_sort, declared_function, declared_variable, same_declared}
use Rattle.meaning.specs.Checks.{Check, ◌>>◌}
use Rattle.meaning.specs.Numbers.{declared_twice}
use Rattle.laws.specs.Decides.{declared_decided}
use Rattle.tape.specs.Tape.{parameter_role, variable_role}
use Rattle.form_rows.specs.Entries.{role_at, word_at, name_at, last_with, is_function_role, is_parameter_role, declared_at}
use Rattle.form.specs.declared.Refusal.{Refusal}
use Rattle.form.specs.Verdicts.{Verdict, refusal, lone_of, told}
use Rattle.own_repeats.specs.Scans.{found, walked}
use Rattle.own_repeats.specs.Once.{is_declaring, repeats, section_start, is_repeat, once_at}

-- ---- scans: place i of those up to e

pub one_left : (i e : ℕ) → i < e → e - i ≡ suc (e - (i + 1))
one_left i e h = omega arith

-- a loop whose invariant says that what is wanted, w, is what is wanted from here, h
pub on : {A : Type 0} {w h n : A} → w ≡ h → h ≡ n → w ≡ n
on i e = i ∙ e

pub done : {A : Type 0} {w h r : A} → w ≡ h → h ≡ r → r ≡ w
done i e = sym (i ∙ e)

module _ (p : ℕ → Bool) (i e : ℕ) where
  pub found_none : e ≤ i → found p i (e - i) ≡ false
  unfolding found
  found_none h = let z : e - i ≡ 0 = omega arith in rw z

  module _ (b : Bool) (h : i < e) (f : b ≡ p i) where
    pub found_here : b ≡ true → found p i (e - i) ≡ true
    unfolding found pick
    found_here q = rw (one_left i e h, ← f, q)

    pub found_on : b ≡ false → found p i (e - i) ≡ found p (i + 1) (e - (i + 1))
    unfolding found pick
    found_on q = rw (one_left i e h, ← f, q, add-one i)

module _ (text : List ℕ) (f : ℕ → Check) (i e : ℕ) where
  pub walked_all : e ≤ i → walked f i (e - i) ≡ told text (Ok tt)
  unfolding walked told
  walked_all h = let z : e - i ≡ 0 = omega arith in rw z

  module _ (v : Verdict) (h : i < e) (g : told text v ≡ f i) where
    pub walked_on : v ≡ Ok tt → walked f i (e - i) ≡ walked f (i + 1) (e - (i + 1))
    unfolding walked told ◌>>◌
    walked_on q = rw (one_left i e h, ← g, q, add-one i)

    pub walked_stop : (w : Refusal) → v ≡ Err w → walked f i (e - i) ≡ told text (Err w)
    unfolding walked told ◌>>◌
    walked_stop w q = rw (one_left i e h, ← g, q)

-- ---- 9

-- what is declared is called as its entry says, so that declarations of two names are two
unfoldable called : Declared → Name
called (declared_sort a) = a
called (declared_function f i o) = f
called (declared_variable v s) = v

called_at : (text tape : List ℕ) (d : ℕ) → called (declared_at text tape d) ≡ name_at text tape d
unfolding called declared_at pick
called_at text tape d = go _ _ _ refl refl refl (is_function_role (role_at tape d)) (eqb (role_at tape d) variable_role)
  where
    go : (f v s : Declared) → called f ≡ name_at text tape d → called v ≡ name_at text tape d → called s ≡ name_at text tape d
        → (b c : Bool) → called (pick b f (pick c v s)) ≡ name_at text tape d
    go f v s p q r true c = p
    go f v s p q r false true = q
    go f v s p q r false false = r

declared_apart : (text tape : List ℕ) (d e : ℕ) → same (name_at text tape d) (name_at text tape e) ≡ false
    → same_declared (declared_at text tape d) (declared_at text tape e) ≡ false
declared_apart text tape d e h = go (same_declared (declared_at text tape d) (declared_at text tape e)) refl
  where
    go : (b : Bool) → same_declared (declared_at text tape d) (declared_at text tape e) ≡ b → b ≡ false
    go true q =
        let one = declared_decided.equal (declared_at text tape d) (declared_at text tape e) q in
        let names : name_at text tape d ≡ name_at text tape e = sym (called_at text tape d) ∙ ap called one ∙ called_at text tape e in
        absurd (false≢true (sym h ∙ rw names (same_self (name_at text tape e))))
    go false q = refl

module _ (text tape : List ℕ) (i j r s : ℕ) (e : r ≡ role_at tape i) (f : s ≡ role_at tape j) where
  pub repeats_told : (b : Bool) → r ≡ s → b ≡ same_declared (declared_at text tape i) (declared_at text tape j) → b ≡ repeats text tape i j
  unfolding repeats pick
  repeats_told b h g = rw (← e, ← f, eq-eqb r s h) g

  pub repeats_other : (p : Bool) → r ≡ s → p ≡ same (name_at text tape i) (name_at text tape j) → p ≡ false → false ≡ repeats text tape i j
  unfolding repeats pick
  repeats_other p h g q = rw (← e, ← f, eq-eqb r s h) (sym (declared_apart text tape i j (sym g ∙ q)))

  pub repeats_not : (r ≡ s → ⊥) → false ≡ repeats text tape i j
  unfolding repeats pick
  repeats_not h = rw (← e, ← f, ne_eqb r s h)

last_early : (role : ℕ) (tape : List ℕ) (i : ℕ) → last_with role tape i ≤ i
unfolding last_with pick
last_early role tape zero = omega arith
last_early role tape (suc i) = go (eqb (role_at tape (suc i)) role) (last_early role tape i)
  where
    go : (b : Bool) → last_with role tape i ≤ i → pick b (suc i) (last_with role tape i) ≤ suc i
    go true h = omega arith
    go false h = omega arith

pub last_fits : (role : ℕ) (tape : List ℕ) (i x : ℕ) → Fits w32 i → x ≡ last_with role tape i → Fits w32 x
last_fits role tape i x f e = omega (arith, last_early role tape i)

module _ (tape : List ℕ) (a i r : ℕ) (e : r ≡ role_at tape i) (b : Bool) (f : b ≡ is_parameter_role r) where
  pub start_parameter : (x : ℕ) → b ≡ true → x ≡ last_with parameter_role tape i → x ≡ section_start tape a i
  unfolding section_start pick
  start_parameter x q g = rw (← e, ← f, q) g

  pub start_module : b ≡ false → a ≡ section_start tape a i
  unfolding section_start pick
  start_module q = rw (← e, ← f, q)

module _ (text tape : List ℕ) (a i r : ℕ) (e : r ≡ role_at tape i) (d : Bool) (f : d ≡ is_declaring r) where
  pub once_other : d ≡ false → told text (Ok tt) ≡ once_at text tape a i
  unfolding once_at told pick
  once_other q = rw (← e, ← f, q)

  module _ (s : ℕ) (b : Bool) (q : d ≡ true) (g : s ≡ section_start tape a i) (h : b ≡ found (repeats text tape i) s (i - s)) where
    pub once_first : b ≡ false → told text (Ok tt) ≡ once_at text tape a i
    unfolding once_at is_repeat told pick
    once_first p = rw (← e, ← f, q, ← g, ← h, p)

    pub once_again : (x : ℕ) → b ≡ true → x ≡ word_at tape i → told text (Err (refusal declared_twice (record { name = x; actual = 0 }))) ≡ once_at text tape a i
    unfolding once_at is_repeat told pick
    once_again x p k = rw (lone_of text x, k, ← e, ← f, q, ← g, ← h, p)

pub ruleset cases = (on, done, found_none, found_here, found_on, walked_all, walked_on, walked_stop, repeats_told, repeats_other, repeats_not, last_fits, start_parameter, start_module, once_other, once_first, once_again, rules)
