-- The modules that the decision names: every changed one, and no other.
use Rattle.std.specs.Prelude.{◌≡◌, ◌⊎◌, ℕ, suc, ◌<◌, ◌≤◌, List, [], ◌∷◌}
use Rattle.std.proofs.Common.{sym, ap, ◌∙◌, inl, inr}
use Rattle.meaning.specs.Laws.{by_cases}
use Rattle.meaning.specs.Names.{Name}
use Rattle.meaning.specs.Syntax.{Module}
use Rattle.meaning.specs.Reached.{Placed}
use Rattle.meaning.specs.OrderLaws.{Every}
use Rattle.promises.specs.Members.{clear}
use Rattle.promises.specs.Demand.{InTurn, Counterparts}
use Rattle.promises.specs.TwoCalls.{by_turns}
use Rattle.ask_decision.specs.Same.{same_module, modules_decided}
use Rattle.ask_decision.specs.Decide.{changed}

-- a reached module is unchanged, or what holds of each changed one holds of it
pub changed_each : (P : Placed → Type 0) (R : Placed → Placed → Type 0) (xs xs' : List Placed) → InTurn R xs xs' → Every P (changed xs xs')
    → InTurn (λ x x'. (x.self ≡ x'.self) ⊎ P x') xs xs'
unfolding changed
changed_each P R =
    let S : Placed → Placed → Type 0 = λ x x'. (x.self ≡ x'.self) ⊎ P x' in
    by_turns R (λ xs xs'. Every P (changed xs xs') → InTurn S xs xs') (λ h. tt) (λ x x' xs xs' r later.
    by_cases (λ (ys : List Placed). Every P ys → InTurn S (x ∷ xs) (x' ∷ xs')) (same_module x.self x'.self) _ _
    (λ q h. (inl (modules_decided.equal x.self x'.self q), later h)) (λ q h. (inr h.0, later h.1)))

pub changed_within : (P : Placed → Type 0) (xs xs' : List Placed) → Every P xs' → Every P (changed xs xs')
unfolding changed
changed_within P [] xs' h = tt
changed_within P (x ∷ xs) [] h = tt
changed_within P (x ∷ xs) (x' ∷ xs') h =
    by_cases (Every P) (same_module x.self x'.self) _ _ (λ b. changed_within P xs xs' h.1) (λ b. (h.0, changed_within P xs xs' h.1))

-- the asked module is not among those to ask
pub not_itself : (asked : Name) (ms ms' : List Module) (xs xs' : List Placed) → InTurn (Counterparts asked ms ms') xs xs'
    → Every (λ x. x.self.name ≡ asked → ⊥) (changed xs xs')
unfolding changed
not_itself asked ms ms' =
    let Other : Placed → Type 0 = λ x. x.self.name ≡ asked → ⊥ in
    by_turns (Counterparts asked ms ms') (λ xs xs'. Every Other (changed xs xs')) tt (λ x x' xs xs' c later.
    by_cases (Every Other) (same_module x.self x'.self) _ _ (λ q. later) (λ q. (
      (λ p. let e = c.asked_same (c.alike.name ∙ p) in
          clear (sym (ap (λ (m : Module). same_module x.self m) (sym e) ∙ modules_decided.self x.self) ∙ q)),
      later,
    )))

-- numbers that ascend, from k on and below n
abbrev pub Ascending : ℕ → ℕ → List ℕ → Type 0
Ascending k n [] = Unit {0}
Ascending k n (z ∷ zs) = (k ≤ z) × (z < n) × Ascending (suc z) n zs
