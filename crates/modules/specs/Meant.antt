-- What the answers mean for a tape that spells modules of distinct names: the reached modules, and the names of modules that one names, as
-- in the meaning (meaning/specs/Evaluate.antt, Reached.antt).
use Rattle.std.specs.Prelude.{◌≡◌, ℕ, ◌+◌, ◌<◌, Bool, true, false, length, get_or, take, drop}
use Rattle.std.proofs.Math.Path.{refl, ap}
use Rattle.std.proofs.Common.{sym, ◌∙◌, arith, add-one, take-append-drop, take-suc, length-take-le}
use Rattle.std.proofs.lemmas.Bool.{false≢true}
use mathlib.Core.List.{List, [], ◌∷◌, ◌++◌}
use Rattle.meaning.specs.Lists.{pick, before}
use Rattle.meaning.specs.Names.{Name, same, member}
use Rattle.meaning.specs.OrderLaws.{same_self, same_equal}
use Rattle.meaning.specs.Syntax.{Module}
use Rattle.meaning.specs.Evaluate.{named_by, too_late, names_right}
use Rattle.meaning.specs.Reached.{reached, module_names}
use Rattle.laws.specs.Distinct.{Fresh}
use Rattle.module_set.specs.ModuleSet.{nothing, added}
use Rattle.modules.specs.Modules.{declared, named_in, named_set, gathered, reached_set, Heads}
use Rattle.modules.specs.ModuleLaws.{Spells, heads_number, declared_names, named_modules}
use Rattle.modules.specs.ReachedLaws.{names_distinct, names_number, named_below, named_member, member_append, drop_some, or_false, or_other, chosen, Naming, reached_numbers}

-- ---- the asked module

same_other : (v w : Name) → same v w ≡ same w v
same_other v w = go (same v w) refl (same w v) refl
  where
    go : (b : Bool) → same v w ≡ b → (c : Bool) → same w v ≡ c → b ≡ c
    go true e true f = refl
    go false e false f = refl
    go true e false f = absurd (false≢true (sym f ∙ ap (same w) (same_equal v w e) ∙ same_self w))
    go false e true f = absurd (false≢true (sym e ∙ ap (same v) (same_equal w v f) ∙ same_self v))

-- the number of the asked name, either way
pub asked_number : (asked : Name) (ds : List Name) → before (λ (w : Name). same w asked) ds ≡ before (same asked) ds
unfolding before
asked_number asked [] = refl
asked_number asked (w ∷ ds) = rw (same_other w asked, asked_number asked ds)

-- ---- names that stand earlier

-- the names are those of the first i
abbrev pub Earlier : List Name → ℕ → List Name → Type 0
Earlier ds i earlier = (w : Name) → member w earlier ≡ member w (take i ds)

pub none_earlier : (ds : List Name) → Earlier ds 0 []
none_earlier ds w = refl

pub one_earlier : (ds : List Name) (i : ℕ) (v : Name) (earlier : List Name) → i < length ds → get_or ds i [] ≡ v → Earlier ds i earlier → Earlier ds (i + 1) (v ∷ earlier)
unfolding member
one_earlier ds i v earlier l e h w =
    rw (add-one i, take-suc ds i [] l, e, member_append w (take i ds), h w, or_false (same w v)) (or_other (same w v) (member w (take i ds)))

-- step 1 asks only which names are there
pub names_among : (ds es fs : List Name) → ((w : Name) → member w es ≡ member w fs) → (ws : List Name) → names_right ds es ws ≡ names_right ds fs ws
unfolding names_right too_late
names_among ds es fs h [] = refl
names_among ds es fs h (w ∷ ws) = rw (h w, names_among ds es fs h ws)

-- ---- the modules of the tape

module _ (text tape : List ℕ) (n : ℕ) (ms : List Module) (h : Heads) (s : Spells text tape n ms h) where
  module _ (i : ℕ) (m : Module) (ys : List Module) (e : drop i ms ≡ m ∷ ys) where
    -- module i names what module m does
    pub named_there : named_in text tape h i ≡ named_by m
    named_there =
        let size : length (take i ms) ≡ i = length-take-le i ms (omega (arith, drop_some i ms ys m e)) in
        let split : ms ≡ take i ms ++ (m ∷ ys) = sym (take-append-drop i ms) ∙ ap (λ (r : List Module). take i ms ++ r) e in
        ap (named_in text tape h) (sym size) ∙ named_modules text tape n ms h s (take i ms) m ys split

    -- step 1
    pub names_told : (earlier : List Name) → Earlier (module_names ms) i earlier
        → names_right (declared text tape h) (take i (declared text tape h)) (named_in text tape h i) ≡ names_right (module_names ms) earlier (named_by m)
    names_told earlier f =
        rw (declared_names text tape n ms h s, named_there)
        (names_among (module_names ms) (take i (module_names ms)) earlier (λ (w : Name). sym (f w)) (named_by m))

  module _ (f : Fresh [] ms) where
    pub naming : Naming ms (named_set text tape h)
    unfolding named_set nothing pick
    naming = record {
      below = λ i j l. named_below (declared text tape h) i nothing (named_in text tape h i) j l;
      tells = λ i j m ys e l.
          let number = drop_some i ms ys m e in
          rw (declared_names text tape n ms h s, named_there i m ys e)
          (named_member (module_names ms) (names_distinct ms f) i j l (omega (arith, number, s.few)) (omega (arith, number, names_number ms)) nothing (named_by m));
    }

    -- the reached modules are those whose numbers are reached
    pub reached_modules : (asked : Name) → reached asked ms ≡ chosen (reached_set text tape h (before (same asked) (module_names ms))) 0 [] ms
    unfolding reached reached_set
    reached_modules asked =
        reached_numbers ms (names_distinct ms f) s.few (named_set text tape h) naming asked ms 0 [] refl
        ∙ ap
        (λ (c : ℕ). chosen (gathered (named_set text tape h) (added (before (same asked) (module_names ms)) nothing) 0 c) 0 [] ms)
        (sym (heads_number text tape n ms h s))
