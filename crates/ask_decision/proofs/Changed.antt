-- The modules that the decision names: every changed one, and no other.
use Rattle.std.specs.Prelude.{◌≡◌, ℕ, suc, ◌+◌, ◌≤◌, List, [], ◌∷◌, length}
use Rattle.std.proofs.Common.{subst, arith, add-one}
use Rattle.meaning.specs.Laws.{by_cases}
use Rattle.meaning.specs.Names.{Name}
use Rattle.meaning.specs.Syntax.{Module}
use Rattle.meaning.specs.Reached.{Placed, reached_among, reached}
use Rattle.ask_decision.specs.Same.{same_module}
use Rattle.ask_decision.specs.Decide.{changed, numbers}
use Rattle.ask_decision.specs.Changed.{Ascending}

sooner : (k j n : ℕ) (zs : List ℕ) → k ≤ j → Ascending j n zs → Ascending k n zs
sooner k j n [] l h = tt
sooner k j n (z ∷ zs) l h = (omega (arith, l, h.0), h.1, h.2)

reached_ascend : (asked : Name) (n k : ℕ) (e : List Name) (ms : List Module) → n ≡ k + length ms → Ascending k n (numbers (reached_among asked k e ms))
unfolding reached_among numbers
reached_ascend asked n k e [] p = tt
reached_ascend asked n k e (m ∷ ms) p =
    let rest = reached_among asked (k + 1) (m.name ∷ e) ms in
    let later : Ascending (k + 1) n (numbers rest) = reached_ascend asked n (k + 1) (m.name ∷ e) ms (omega (arith, p)) in
    by_cases (λ (xs : List Placed). Ascending k n (numbers xs)) _ _ rest
    (λ b. (omega arith, omega (arith, p), subst (λ (j : ℕ). Ascending j n (numbers rest)) (add-one k) later))
    (λ b. sooner k (k + 1) n (numbers rest) (omega arith) later)

changed_ascend : (k n : ℕ) (xs xs' : List Placed) → Ascending k n (numbers xs') → Ascending k n (numbers (changed xs xs'))
unfolding changed numbers
changed_ascend k n [] xs' h = tt
changed_ascend k n (x ∷ xs) [] h = tt
changed_ascend k n (x ∷ xs) (x' ∷ xs') h =
    let later = changed_ascend (suc x'.number) n xs xs' h.2 in
    by_cases (λ (ys : List Placed). Ascending k n (numbers ys)) (same_module x.self x'.self) (changed xs xs') (x' ∷ changed xs xs')
    (λ b. sooner k (suc x'.number) n (numbers (changed xs xs')) (omega (arith, h.0)) later) (λ b. (h.0, h.1, later))

-- those to ask ascend, and stand in the new specification
pub ascending : (asked : Name) (ms ms' : List Module) → Ascending 0 (length ms') (numbers (changed (reached asked ms) (reached asked ms')))
unfolding reached
ascending asked ms ms' = changed_ascend 0 (length ms') (reached asked ms) (reached asked ms') (reached_ascend asked (length ms') 0 [] ms' (omega arith))
