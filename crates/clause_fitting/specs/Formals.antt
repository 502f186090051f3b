-- A binding that passes its checks has for every formal function a visible one of the actual module, of the new name and the moved type.
use Rattle.std.specs.Prelude.{◌≡◌, Bool, ◌&&◌}
use Rattle.std.proofs.Math.Path.{refl}
use Rattle.std.proofs.Common.{sym, ap, subst, ◌∙◌}
use Rattle.std.proofs.Math.Bool.{true, false, not}
use Rattle.std.proofs.lemmas.Bool.{false≢true}
use Rattle.std.proofs.Math.Option.{Option, none, some}
use mathlib.Core.List.{List, [], ◌∷◌, ◌++◌}
use borrow.Author.Tests.{not-true, not-false}
use Rattle.meaning.specs.Lists.{pick, keep, any}
use Rattle.meaning.specs.Names.{Name, same, lesser, least, not_after}
use Rattle.meaning.specs.OrderLaws.{Every, every_middle, any_none, same_self}
use Rattle.meaning.specs.Syntax.{Pair}
use Rattle.meaning.specs.Origins.{FunctionType, Shape, sort_shape, function_shape, variable_shape, same_shape, is_function, Item}
use Rattle.meaning.specs.Normal.{Visible, names_in, is_called, move_type, move_shape, move_name}
use Rattle.meaning.specs.Checks.{fine}
use Rattle.meaning.specs.Clauses.{paired, otherwise, renaming, new_sort, new_function, sorts_right, type_right, all_right, pairs_right, unpaired}
use Rattle.meaning.specs.PairLaws.{RightPair, pairs_fine}
use Rattle.laws.specs.Decides.{shapes_decided}
use Rattle.clause_checks.specs.Joined.{both_true, every_of, any_middle}
use Rattle.clause_checks.specs.Searches.{like}
use Rattle.clause_fitting.specs.Unpaired.{is_none, same_other_way}

-- ---- names that are kept

lesser_some : (x : Name) (o : Option Name) → is_none (lesser x o) ≡ false
unfolding lesser is_none pick
lesser_some x none = refl
lesser_some x (some y) = go (not_after x y)
  where
    go : (b : Bool) → is_none (pick b (some x) (some y)) ≡ false
    go true = refl
    go false = refl

-- where there is no least name, none was kept
none_kept : (q : Name → Bool) (is : List Item) → least (keep q (names_in is)) ≡ none → Every (λ (i : Item). q i.name ≡ false) is
unfolding least keep names_in pick is_none
none_kept q [] e = tt
none_kept q (i ∷ is) e = go (q i.name) refl e (none_kept q is)
  where
    go : (b : Bool) → q i.name ≡ b → least (pick b (i.name ∷ keep q (names_in is)) (keep q (names_in is))) ≡ none
        → (least (keep q (names_in is)) ≡ none → Every (λ (j : Item). q j.name ≡ false) is) → Every (λ (j : Item). q j.name ≡ false) (i ∷ is)
    go true f e rest = absurd (false≢true (sym (lesser_some i.name (least (keep q (names_in is)))) ∙ ap is_none e))
    go false f e rest = (f, rest e)

-- ---- a binding

module _ (formal : List Item) (rs : List Pair) (whole actual : Visible) where
  abbrev Right : Pair → Type 0
  Right r = (seen : List Name) × RightPair formal rs whole actual seen r

  -- an item called as the pair's old name needs what is not there under the new one
  abbrev needing : Pair → Item → Bool
  needing r i = is_called r.old i && not (type_right formal rs whole actual r.new i.shape)

  module _ (us vs : List Item) (i : Item) (place : formal ≡ us ++ (i ∷ vs)) where
    -- what holds of all formal items holds of this one
    of_this : (P : Item → Type 0) → Every P formal → P i
    of_this P all = every_middle P us vs i (subst (λ (is : List Item). Every P is) place all)

    -- a right pair gives its formal items what they need
    needed : (r : Pair) → Right r → same r.old i.name ≡ true → type_right formal rs whole actual r.new i.shape ≡ true
    unfolding all_right is_called
    needed r h e =
        let none_needing : any (needing r) formal ≡ false = not-true _ h.1.types in
        let this = of_this (λ (j : Item). needing r j ≡ false) (any_none (needing r) formal none_needing) in
        not-false (type_right formal rs whole actual r.new i.shape) (rw e at this)

    renamed_right : (ps : List Pair) → Every Right ps → any (λ (r : Pair). same i.name r.old) ps ≡ true
        → type_right formal rs whole actual (otherwise i.name (paired ps i.name)) i.shape ≡ true
    unfolding any paired otherwise pick
    renamed_right [] all e = absurd (false≢true e)
    renamed_right (r ∷ ps) all e = go (same r.old i.name) refl (rw (same_other_way i.name r.old) at e) (renamed_right ps all.1)
      where
        go : (b : Bool) → same r.old i.name ≡ b → pick b true (any (λ (q : Pair). same i.name q.old) ps) ≡ true
            → (any (λ (q : Pair). same i.name q.old) ps ≡ true
            → type_right formal rs whole actual (otherwise i.name (paired ps i.name)) i.shape ≡ true)
            → type_right formal rs whole actual (otherwise i.name (pick b (some r.new) (paired ps i.name))) i.shape ≡ true
        go true f e rest = needed r all.0 f
        go false f e rest = rest e

  -- what becomes of names
  abbrev σ : Name → Name
  σ = new_sort formal rs

  abbrev φ : Name → FunctionType → Name
  φ = new_function formal rs

  module _ (passed : pairs_right formal rs whole actual [] rs ≡ fine tt) (bound : unpaired formal rs ≡ none) where
    abbrev Noted : Item → Type 0
    Noted i = is_function i.shape ≡ true → any (like (move_name σ φ i.name i.shape) (move_shape σ φ i.shape)) actual.items ≡ true

    all_bound : Every (λ (i : Item). not (any (λ (r : Pair). same i.name r.old) rs) ≡ false) formal
    unfolding unpaired
    all_bound = none_kept (λ (w : Name). not (any (λ (r : Pair). same w r.old) rs)) formal bound

    module _ (us vs : List Item) (i : Item) (place : formal ≡ us ++ (i ∷ vs)) where
      fits_renamed : type_right formal rs whole actual (renaming rs i.name) i.shape ≡ true
      unfolding renaming
      fits_renamed =
          renamed_right us vs i place rs (pairs_fine formal rs whole actual [] rs passed)
          (not-false _ (of_this us vs i place (λ (j : Item). not (any (λ (r : Pair). same j.name r.old) rs) ≡ false) all_bound))

      -- the item itself is formal
      itself : (t : FunctionType) → i.shape ≡ function_shape t
          → any (λ (j : Item). is_called i.name j && same_shape (function_shape t) j.shape) formal ≡ true
      unfolding is_called
      itself t e =
          rw place (any_middle (λ (j : Item). is_called i.name j && same_shape (function_shape t) j.shape) us vs i
          (rw (same_self i.name, e) (shapes_decided.self (function_shape t))))

      function_found : (t : FunctionType) → i.shape ≡ function_shape t → any (like (φ i.name t) (function_shape (move_type σ φ t))) actual.items ≡ true
      unfolding new_function type_right like pick
      function_found t e =
          let fits = rw e at fits_renamed in
          rw (itself t e) (both_true (sorts_right formal rs whole actual t) _ fits).1

      by_shape : (s : Shape) → i.shape ≡ s → is_function s ≡ true → any (like (move_name σ φ i.name s) (move_shape σ φ s)) actual.items ≡ true
      unfolding is_function move_name move_shape
      by_shape sort_shape e f = absurd (false≢true f)
      by_shape (variable_shape s) e f = absurd (false≢true f)
      by_shape (function_shape t) e f = function_found t e

      one_noted : Noted i
      one_noted = by_shape i.shape refl

    -- every formal function is found in the actual module
    pub formal_noted : Every Noted formal
    formal_noted = every_of Noted [] formal one_noted
