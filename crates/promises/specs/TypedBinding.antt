-- Binding keeps equations well typed: a formal function's place is taken by a function of the actual module with the formal type after the
-- formal sorts are replaced, which is what 26 asks.
use Rattle.std.specs.Prelude.{◌≡◌, ℕ, ◌&&◌}
use Rattle.std.proofs.Math.Path.{refl, sym, ap, subst}
use Rattle.std.proofs.Common.{◌∙◌, arith}
use Rattle.std.proofs.Math.Option.{Option, none, some}
use Rattle.std.proofs.Math.Bool.{Bool, true, false, not}
use Rattle.std.proofs.lemmas.Bool.{false≢true, not-true, not-false}
use mathlib.Core.List.{List, [], ◌∷◌, map, Memᴰ}
use Rattle.meaning.specs.Lists.{pick, keep, any, union}
use Rattle.meaning.specs.Names.{Name, same, not_after, lesser, least}
use Rattle.meaning.specs.Syntax.{Pair}
use Rattle.meaning.specs.Origins.{FunctionType, Shape, function_shape, same_shape, Item, in_parameter, one_item, one_equation}
use Rattle.meaning.specs.Normal.{Visible, Normal, names_in, is_called, formals, unite_visible, unite_hidden, unite, move_type, move_item, move_hidden_item, move_equation, move_visible, move_hidden, move}
use Rattle.meaning.specs.Clauses.{paired, otherwise, renaming, new_sort, new_function, sorts_right, type_right, all_right, pairs_right, unpaired, without_visible, without}
use Rattle.meaning.specs.Checks.{fine}
use Rattle.meaning.specs.PairLaws.{RightPair, pairs_fine}
use Rattle.meaning.specs.OrderLaws.{any_none, same_equal, same_self}
use Rattle.laws.specs.Decides.{both_true, shapes_decided}
use Rattle.laws.specs.EveryLaws.{any_found, any_passes, every_member, every_union, member_keep, member_map_to}
use Rattle.promises.specs.Sound.{union_left, union_right}
use Rattle.promises.specs.WellTyped.{Named, TypedEquation, WellTyped, moved_member, named_moved, typed_moved, typed_wider}

no_refusal : {X : Type 0} {w : Name} → some w ≡ none → X
no_refusal e = let z : ◌≡◌ {A = ℕ} 0 1 = cc in absurd (omega arith)

pub second_true : (p q : Bool) → p ≡ true → (p && not q) ≡ false → q ≡ true
second_true true q h e = not-false q e
second_true false q h e = absurd (false≢true h)

-- a pair of this name, with the new name that is given
abbrev OwnPair : Name → List Pair → Option Name → Type 0
OwnPair w rs o = (r : Pair) × Memᴰ r rs × (r.old ≡ w) × (otherwise w o ≡ r.new)

-- a name that is paired is renamed by a pair of its own
paired_one : (rs : List Pair) (w : Name) → any (λ (r : Pair). same w r.old) rs ≡ true → OwnPair w rs (paired rs w)
unfolding any pick paired otherwise
paired_one [] w e = absurd (false≢true e)
paired_one (r ∷ rs) w e = go (same r.old w) (same w r.old) refl refl e (paired_one rs w)
  where
    go : (b c : Bool) → same r.old w ≡ b → same w r.old ≡ c → pick c true (any (λ (q : Pair). same w q.old) rs) ≡ true
        → (any (λ (q : Pair). same w q.old) rs ≡ true → OwnPair w rs (paired rs w)) → OwnPair w (r ∷ rs) (pick b (some r.new) (paired rs w))
    go true c p q e i = (r, Memᴰ.head refl, same_equal r.old w p, refl)
    go false true p q e i = absurd (false≢true (sym p ∙ ap (same r.old) (same_equal w r.old q) ∙ same_self r.old))
    go false false p q e i = let k = i e in (k.0, Memᴰ.tail k.1, k.2, k.3)

none_least : (ws : List Name) → least ws ≡ none → ws ≡ []
unfolding least lesser pick
none_least [] e = refl
none_least (w ∷ ws) e = go (least ws) e
  where
    pair : (v : Name) (b : Bool) → pick b (some w) (some v) ≡ none → w ∷ ws ≡ []
    pair v true e = no_refusal e
    pair v false e = no_refusal e

    go : (o : Option Name) → lesser w o ≡ none → w ∷ ws ≡ []
    go none e = no_refusal e
    go (some v) e = pair v (not_after w v) e

none_kept : {A : Type 0} (p : A → Bool) (xs : List A) (x : A) → keep (λ (y : A). not (p y)) xs ≡ [] → Memᴰ x xs → p x ≡ true
none_kept p xs x e m = go (p x) refl
  where
    go : (b : Bool) → p x ≡ b → p x ≡ true
    go true q = q
    go false q = elim (subst (Memᴰ x) e (member_keep (λ y. not (p y)) xs x m (ap not q))) [ ]

module _ (formal : List Item) (rs : List Pair) (whole actual : Visible) where
  module _ (right : pairs_right formal rs whole actual [] rs ≡ fine tt) (all : unpaired formal rs ≡ none) (i : Item) (m : Memᴰ i formal) where
    -- the pair of a formal name
    pair_of : (r : Pair) × Memᴰ r rs × (r.old ≡ i.name) × (renaming rs i.name ≡ r.new)
    unfolding unpaired names_in renaming
    pair_of =
        paired_one rs i.name
        (none_kept (λ (w : Name). any (λ (r : Pair). same w r.old) rs) (map (λ (j : Item). j.name) formal) i.name (none_least _ all)
        (member_map_to (λ (j : Item). j.name) m))

    type_found : (r : Pair) → Memᴰ r rs → r.old ≡ i.name → type_right formal rs whole actual r.new i.shape ≡ true
    unfolding all_right is_called
    type_found r k e =
        let good = every_member (λ x. (seen : List Name) × RightPair formal rs whole actual seen x) rs (pairs_fine formal rs whole actual [] rs right) r k in
        let wrong : Item → Bool = λ j. is_called r.old j && not (type_right formal rs whole actual r.new j.shape) in
        let here = every_member (λ j. wrong j ≡ false) formal (any_none wrong formal (not-true (any wrong formal) good.1.types)) i m in
        second_true _ _ (ap (same r.old) (sym e) ∙ same_self r.old) here

    pub formal_found : (t : FunctionType) → i.shape ≡ function_shape t
        → Named actual.items (new_function formal rs i.name t)
        (function_shape (move_type (new_sort formal rs) (new_function formal rs) t))
    unfolding new_function type_right is_called pick
    formal_found t e =
        let r = pair_of in
        let s = subst (λ (x : Shape). type_right formal rs whole actual r.0.new x ≡ true) e (type_found r.0 r.1 r.2) in
        let j = any_found _ actual.items (both_true (sorts_right formal rs whole actual t) _ s).1 in
        let b = both_true (same r.0.new j.0.name) _ j.2 in
        let name = sym (same_equal _ _ b.0) ∙ sym r.3 ∙ sym (ap (λ (c : Bool). pick c (renaming rs i.name) i.name) here) in
        (j.0, j.1, name, sym (shapes_decided.equal _ _ b.1))
      where
        here : any (λ (k : Item). is_called i.name k && same_shape (function_shape t) k.shape) formal ≡ true
        here = any_passes _ formal i m (rw (same_self i.name, e, shapes_decided.self (function_shape t)))

module _ (p : Name) (rs : List Pair) (n actual : Normal) where
  abbrev formal_items : List Item
  formal_items = formals p n.visible

  abbrev σ : Name → Name
  σ = new_sort formal_items rs

  abbrev φ : Name → FunctionType → Name
  φ = new_function formal_items rs

  module _ (right : pairs_right formal_items rs n.visible actual.visible [] rs ≡ fine tt)
      (all : unpaired formal_items rs ≡ none) where
    abbrev outside : Item → Bool
    outside i = not (in_parameter p i.standing)

    abbrev moved_items : List Item
    moved_items = union one_item [] (map (move_item σ φ) (keep outside n.visible.items))

    -- a function that an equation uses is formal, and one of the actual module takes its place, or it stays
    bound_named : (f : Name) (t : FunctionType) → Named n.visible.items f (function_shape t)
        → Named (union one_item moved_items actual.visible.items) (φ f t) (function_shape (move_type σ φ t))
    unfolding formals
    bound_named f t d = go (in_parameter p d.0.standing) refl
      where
        go : (b : Bool) → in_parameter p d.0.standing ≡ b
            → Named (union one_item moved_items actual.visible.items) (φ f t) (function_shape (move_type σ φ t))
        go true e =
            let m = member_keep (λ (i : Item). in_parameter p i.standing) n.visible.items d.0 d.1 e in
            let r = formal_found formal_items rs n.visible actual.visible right all d.0 m t d.3 in
            (r.0, union_right moved_items actual.visible.items r.0 r.1, r.2 ∙ ap (λ (w : Name). φ w t) d.2, r.3)
        go false e =
            let m = member_keep outside n.visible.items d.0 d.1 (ap not e) in
            let k = union_right [] (map (move_item σ φ) (keep outside n.visible.items)) (move_item σ φ d.0) (member_map_to (move_item σ φ) m) in
            named_moved σ φ _ f t d.0 (union_left moved_items actual.visible.items (move_item σ φ d.0) k) d.2 d.3

    pub bound_typed : WellTyped n → WellTyped actual → WellTyped (unite (move σ φ (without p n)) actual)
    unfolding unite unite_visible unite_hidden move move_visible move_hidden without without_visible
    bound_typed d d' =
        let is = union one_item [] (map (move_hidden_item σ φ) n.hidden.items) in
        let js = actual.hidden.items in
        let good = TypedEquation (union one_item moved_items actual.visible.items) (union one_item is js) in
        every_union good one_equation (union one_equation [] (map (move_equation σ φ) n.hidden.equations)) actual.hidden.equations
        (every_union good one_equation [] (map (move_equation σ φ) n.hidden.equations) tt
        (typed_moved σ φ n.visible.items n.hidden.items _ _ bound_named
        (λ i m. union_left is js (move_hidden_item σ φ i) (moved_member σ φ n.hidden.items i m)) n.hidden.equations d))
        (typed_wider actual.visible.items js _ _ (union_right moved_items actual.visible.items) (union_right is js) actual.hidden.equations d')
