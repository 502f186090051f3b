-- What the places of the searches ask, one law each: the hypotheses are the facts that the place has.
use mathlib.Core.Path.{◌≡◌, refl, sym, ap, ap₂, ◌∙◌}
use mathlib.Core.Bool.{Bool, true, false, ◌&&◌, false≢true}
use mathlib.Core.Option.{none, some}
use Rattle.std.specs.Prelude as Code
use Rattle.std.specs.Prelude.{Some, None}
use mathlib.Core.List.{List, [], ◌∷◌, map}
use Prim.Native.Nat.{ℕ, zero, suc, ◌+◌, ◌*◌, ◌-◌, ◌≤◌, ◌<◌}
use native.Mathlib.Omega.{arith}
use lib.Dec.{eqb, ltb}
use lib.ListN.{get_or}
use borrow.Author.Rules.{rules}
use borrow.Author.Tests.{eq-eqb, ne_eqb, eqb-false, ltb-true, ltb-false}
use Rattle.meaning.specs.Lists.{pick, any}
use Rattle.meaning.specs.Names.{Name, same, not_after}
use Rattle.meaning.specs.OrderLaws.{same_equal, same_self}
use Rattle.meaning.proofs.OrderLaws.{not_after_antisymmetric}
use Rattle.meaning.specs.Origins.{Item}
use Rattle.meaning.specs.Normal.{Slot}
use Rattle.meaning.specs.Checks.{at_odds, least_at_odds}
use Rattle.text_names.specs.Word.{name_of}
use Rattle.form_rows.specs.declared.Row.{Row}
use Rattle.form_rows.specs.Rows.{words_from, row_at, item_of, row_size}
use Rattle.form.specs.Forms.{slot_at, slots_at, items_at, slot_size}
use Rattle.form_order.specs.Order.{name_in, InOrder}
use Rattle.form_order.specs.Sorting.{ordered_names}
use Rattle.form_order.specs.Ordered.{row_item, row_called, ordered_items, row_slot, slot_called, ordered_slots}
use Rattle.unite_pairs.specs.declared.Test.{Test}
use Rattle.unite_pairs.specs.declared.Test.TheVariants.{Sorts, Functions, Overloading}
use Rattle.unite_pairs.specs.Pairs.{but_name}
use Rattle.unite_pairs.proofs.Cases.{sorts_first}
use Rattle.unite_checks.specs.Clashes.{named, wrong, clash_name, repeated_name, first_rival, has_rival, wrong_parts}

-- ---- what the order table points at from place i on

abbrev From : {A : Type 0} → (ℕ → A) → List ℕ → ℕ → ℕ → ℕ → List A
From f w p n i = map f (words_from w (p + i) (n - i))

module _ {A : Type 0} (f : ℕ → A) (w : List ℕ) (p n : ℕ) where
  from_here : (i : ℕ) → i < n → From f w p n i ≡ f (get_or w (p + i) 0) ∷ From f w p n (i + 1)
  unfolding words_from
  from_here i h =
      let c : n - i ≡ suc (n - (i + 1)) = omega arith in
      let e : suc (p + i) ≡ p + (i + 1) = omega arith in
      ap (λ (k : ℕ). map f (words_from w (p + i) k)) c ∙ ap (λ (q : ℕ). f (get_or w (p + i) 0) ∷ map f (words_from w q (n - (i + 1)))) e

  from_none : (i : ℕ) → n ≤ i → From f w p n i ≡ []
  unfolding words_from
  from_none i h = let c : n - i ≡ 0 = omega arith in ap (λ (k : ℕ). map f (words_from w (p + i) k)) c

  from_all : From f w p n 0 ≡ map f (words_from w p n)
  from_all =
      let e : p + 0 ≡ p = omega arith in
      let c : n - 0 ≡ n = omega arith in
      ap₂ (λ (q k : ℕ). map f (words_from w q k)) e c

  -- none passes where none does at its place
  none_from : (t : A → Bool) (c i : ℕ) → n - i ≡ c → ((l : ℕ) → i ≤ l → l < n → t (f (get_or w (p + l) 0)) ≡ false) → any t (From f w p n i) ≡ false
  unfolding any pick
  none_from t zero i e h = rw (from_none i (omega arith))
  none_from t (suc c) i e h =
      rw (from_here i (omega arith), h i (omega arith) (omega arith)) (none_from t c (i + 1) (omega arith) (λ l m k. h l (omega arith) k))

-- names in order that differ from an earlier one's do so from there on
later_differ : (text w : List ℕ) (b s p n i j : ℕ) → InOrder text w b s p n → i ≤ j
    → same (name_in text w b s (get_or w (p + i) 0)) (name_in text w b s (get_or w (p + j) 0)) ≡ false
    → (l : ℕ) → j ≤ l → l < n → same (name_in text w b s (get_or w (p + i) 0)) (name_in text w b s (get_or w (p + l) 0)) ≡ false
later_differ text w b s p n i j ord h d l m k = go (same (called i) (called l)) refl
  where
    called : ℕ → Name
    called u = name_in text w b s (get_or w (p + u) 0)

    go : (q : Bool) → same (called i) (called l) ≡ q → same (called i) (called l) ≡ false
    go false e = e
    go true e =
        let one : called i ≡ called l = same_equal (called i) (called l) e in
        let back : not_after (called j) (called i) ≡ true = rw one (ordered_names text w b s p n ord j l m k) in
        let equal = not_after_antisymmetric (called i) (called j) (ordered_names text w b s p n ord i j h (omega arith)) back in
        let yes : same (called i) (called j) ≡ true = rw equal (same_self (called j)) in
        absurd (false≢true (sym d ∙ yes))

-- ---- `row_by`, `name_by`

pub row_told : (w : List ℕ) (b p i k : ℕ) (r : Row) → k ≡ get_or w (p + i) 0 → r ≡ row_at w (b + k * row_size) → r ≡ row_at w (b + get_or w (p + i) 0 * row_size)
row_told w b p i k r ek er = er ∙ ap (λ (j : ℕ). row_at w (b + j * row_size)) ek

pub name_told : (w : List ℕ) (b p i k r : ℕ) → k ≡ get_or w (p + i) 0 → r ≡ get_or w (b + k * slot_size) 0 → r ≡ get_or w (b + get_or w (p + i) 0 * slot_size) 0
name_told w b p i k r ek er = er ∙ ap (λ (j : ℕ). get_or w (b + j * slot_size) 0) ek

-- ---- a row's rivals: whether one behind it is at odds with it

pub record Inner (text tape w : List ℕ) (b n p : ℕ) (t : Test) (i : ℕ) (x : Row) (j : ℕ) : Type 0 where
  pub behind : i < j
  pub inside : j ≤ n
  pub comes : any (wrong t (item_of text tape x)) (From (row_item text tape w b) w p n j) ≡ has_rival text tape w b n p t i x

module _ (text tape w : List ℕ) (b n p : ℕ) (t : Test) (i : ℕ) (x : Row) where
  abbrev at_odds_with : Item → Bool
  at_odds_with = wrong t (item_of text tape x)

  abbrev behind : ℕ → List Item
  behind j = From (row_item text tape w b) w p n j

  inner_start : i < n → Inner text tape w b n p t i x (i + 1)
  unfolding has_rival
  inner_start h = record { behind = omega arith; inside = omega arith; comes = refl }

  module _ (j : ℕ) (inv : Inner text tape w b n p t i x j) where
    module _ (y : Row) (c : Bool) (l : j < n) (ey : y ≡ row_at w (b + get_or w (p + j) 0 * row_size))
        (ec : c ≡ same (name_of text x.name) (name_of text y.name)) where
      next : behind j ≡ item_of text tape y ∷ behind (j + 1)
      next = from_here (row_item text tape w b) w p n j l ∙ ap (λ (r : Row). item_of text tape r ∷ behind (j + 1)) (sym ey)

      module _ (o : Bool) (eo : o ≡ but_name t (item_of text tape x) (item_of text tape y)) (g : c ≡ true) where
        tested : at_odds_with (item_of text tape y) ≡ o
        unfolding item_of
        tested = wrong_parts t (item_of text tape x) (item_of text tape y) ∙ rw (← ec, g, ← eo)

        pub inner_again : o ≡ false → Inner text tape w b n p t i x (j + 1)
        unfolding any pick
        inner_again q =
            let step : any at_odds_with (behind j) ≡ any at_odds_with (behind (j + 1)) = rw (next, tested, q) in
            record { behind = omega (arith, inv.behind); inside = omega arith; comes = sym step ∙ inv.comes }

        pub inner_found : o ≡ true → true ≡ has_rival text tape w b n p t i x
        unfolding any pick
        inner_found q = let found : any at_odds_with (behind j) ≡ true = rw (next, tested, q) in sym found ∙ inv.comes

      -- those from y on have another name than x
      pub inner_other : InOrder text w (b + 1) row_size p n → x ≡ row_at w (b + get_or w (p + i) 0 * row_size) → c ≡ false
          → false ≡ has_rival text tape w b n p t i x
      unfolding item_of
      inner_other ord ex g =
          let ki = get_or w (p + i) 0 in
          let kj = get_or w (p + j) 0 in
          let mine : name_of text x.name ≡ name_in text w (b + 1) row_size ki =
          ap (λ (r : Row). name_of text r.name) ex ∙ row_called text tape w b ki in
          let other : name_of text y.name ≡ name_in text w (b + 1) row_size kj =
          ap (λ (r : Row). name_of text r.name) ey ∙ row_called text tape w b kj in
          let differ : same (name_in text w (b + 1) row_size ki) (name_in text w (b + 1) row_size kj) ≡ false =
          ap₂ same (sym mine) (sym other) ∙ sym ec ∙ g in
          let apart : (l : ℕ) → j ≤ l → l < n → at_odds_with (row_item text tape w b (get_or w (p + l) 0)) ≡ false =
          λ l m k. wrong_parts t (item_of text tape x) (row_item text tape w b (get_or w (p + l) 0))
          ∙ ap (λ (q : Bool). q && but_name t (item_of text tape x) (row_item text tape w b (get_or w (p + l) 0)))
          (ap₂ same mine (row_called text tape w b (get_or w (p + l) 0))
          ∙ later_differ text w (b + 1) row_size p n i j ord (omega (arith, inv.behind)) differ l m k) in
          sym (none_from (row_item text tape w b) w p n at_odds_with (n - j) j refl apart) ∙ inv.comes

    pub inner_end : n ≤ j → false ≡ has_rival text tape w b n p t i x
    unfolding any
    inner_end l = sym (ap (any at_odds_with) (from_none (row_item text tape w b) w p n j l)) ∙ inv.comes

-- ---- `find_clash`

-- a loop that has found nothing yet
pub record Unfound (least : Code.Option ℕ) (State : Type 0) : Type 0 where
  pub nothing : least ≡ None
  pub so_far : State

abbrev called : Item → Name
called i = i.name

pub record Outer (text tape w : List ℕ) (b n p : ℕ) (t : Test) (i : ℕ) : Type 0 where
  pub inside : i ≤ n
  pub comes : at_odds called (wrong t) (From (row_item text tape w b) w p n i) ≡ at_odds called (wrong t) (From (row_item text tape w b) w p n 0)

module _ (text tape w : List ℕ) (b n p : ℕ) (t : Test) where
  abbrev later : ℕ → List Item
  later i = From (row_item text tape w b) w p n i

  pub outer_start : Outer text tape w b n p t 0
  outer_start = record { inside = omega arith; comes = refl }

  module _ (i : ℕ) (x : Row) (r : Bool) (h : i < n) (out : Outer text tape w b n p t i) (ex : x ≡ row_at w (b + get_or w (p + i) 0 * row_size))
      (er : r ≡ has_rival text tape w b n p t i x) where
    here : later i ≡ item_of text tape x ∷ later (i + 1)
    here = from_here (row_item text tape w b) w p n i h ∙ ap (λ (y : Row). item_of text tape y ∷ later (i + 1)) (sym ex)

    rivals : any (wrong t (item_of text tape x)) (later (i + 1)) ≡ r
    unfolding has_rival
    rivals = sym er

    pub outer_again : r ≡ false → Outer text tape w b n p t (i + 1)
    unfolding at_odds pick
    outer_again g =
        let step : at_odds called (wrong t) (later i) ≡ at_odds called (wrong t) (later (i + 1)) = rw (here, rivals, g) in
        record { inside = omega arith; comes = sym step ∙ out.comes }

    at_odds_here : r ≡ true → some (name_of text x.name) ≡ at_odds called (wrong t) (later 0)
    unfolding at_odds pick item_of
    at_odds_here g = let found : at_odds called (wrong t) (later i) ≡ some (name_of text x.name) = rw (here, rivals, g) in sym found ∙ out.comes

  module _ (ord : InOrder text w (b + 1) row_size p n) where
    found_all : at_odds called (wrong t) (later 0) ≡ clash_name t (items_at text tape w b n)
    unfolding clash_name least_at_odds
    found_all = ap (at_odds called (wrong t)) (from_all (row_item text tape w b) w p n ∙ ordered_items text tape w b p n ord)

    pub outer_found : (i : ℕ) (x : Row) (r : Bool) → i < n → Outer text tape w b n p t i → x ≡ row_at w (b + get_or w (p + i) 0 * row_size)
        → r ≡ has_rival text tape w b n p t i x → r ≡ true → named text (Some x.name) ≡ clash_name t (items_at text tape w b n)
    unfolding named
    outer_found i x r h out ex er g = at_odds_here i x r h out ex er g ∙ found_all

    pub outer_none : (i : ℕ) → n ≤ i → Outer text tape w b n p t i → named text None ≡ clash_name t (items_at text tape w b n)
    unfolding at_odds named
    outer_none i l out = sym (ap (at_odds called (wrong t)) (from_none (row_item text tape w b) w p n i l)) ∙ out.comes ∙ found_all

-- ---- `first_rival`

module _ (t : Test) (kind i n : ℕ) where
  pub rival_sort : t ≡ Sorts → kind ≡ 0 → i + 1 ≡ first_rival t kind i n
  unfolding first_rival pick
  rival_sort e h = rw (e, eq-eqb kind 0 h)

  pub rival_none : t ≡ Sorts → (kind ≡ 0 → ⊥) → n ≡ first_rival t kind i n
  unfolding first_rival pick
  rival_none e h = rw (e, ne_eqb kind 0 h)

  pub rival_function : t ≡ Functions → i + 1 ≡ first_rival t kind i n
  unfolding first_rival
  rival_function e = rw e

  pub rival_overloading : t ≡ Overloading → i + 1 ≡ first_rival t kind i n
  unfolding first_rival
  rival_overloading e = rw e

module _ (text tape w : List ℕ) (b n p i : ℕ) (x : Row) (h : i < n) where
  -- no sort is at odds with what is none
  none_rival : (x.kind ≡ 0 → ⊥) → (l : ℕ) → i + 1 ≤ l → l < n → wrong Sorts (item_of text tape x) (row_item text tape w b (get_or w (p + l) 0)) ≡ false
  unfolding but_name
  none_rival d l m k =
      let y = row_at w (b + get_or w (p + l) 0 * row_size) in
      wrong_parts Sorts (item_of text tape x) (item_of text tape y)
      ∙ ap (λ (q : Bool). same (item_of text tape x).name (item_of text tape y).name && q) (sym (sorts_first text tape x y d))
      ∙ never (same (item_of text tape x).name (item_of text tape y).name)
    where
      never : (q : Bool) → (q && false) ≡ false
      never true = refl
      never false = refl

  start_at : (t : Test) → Inner text tape w b n p t i x (first_rival t x.kind i n)
  unfolding first_rival has_rival pick any
  start_at Functions = inner_start text tape w b n p Functions i x h
  start_at Overloading = inner_start text tape w b n p Overloading i x h
  start_at Sorts = go (eqb x.kind 0) refl
    where
      go : (q : Bool) → eqb x.kind 0 ≡ q → Inner text tape w b n p Sorts i x (pick q (i + 1) n)
      go true e = inner_start text tape w b n p Sorts i x h
      go false e =
          let f = row_item text tape w b in
          let none_later = none_from f w p n (wrong Sorts (item_of text tape x)) (n - (i + 1)) (i + 1) refl (none_rival (eqb-false x.kind 0 e)) in
          record {
            behind = h;
            inside = omega arith;
            comes = ap (any (wrong Sorts (item_of text tape x))) (from_none f w p n n (omega arith)) ∙ sym none_later;
          }

  pub rival_start : (t : Test) (j : ℕ) → j ≡ first_rival t x.kind i n → Inner text tape w b n p t i x j
  rival_start t j e = rw e (start_at t)

-- ---- `find_repeated`

abbrev slot_name : Slot → Name
slot_name p = p.name

abbrev one_name : Slot → Slot → Bool
one_name p q = same p.name q.name

pub record Neighbours (text w : List ℕ) (b n p i : ℕ) : Type 0 where
  pub begun : 1 ≤ i
  pub comes : at_odds slot_name one_name (From (row_slot text w b) w p n (i - 1)) ≡ at_odds slot_name one_name (From (row_slot text w b) w p n 0)

module _ (text w : List ℕ) (b n p : ℕ) where
  -- the parameter that is i-th in order, and those from there on
  abbrev slot : ℕ → Slot
  slot i = row_slot text w b (get_or w (p + i) 0)

  abbrev rest : ℕ → List Slot
  rest i = From (row_slot text w b) w p n i

  pub neighbours_start : Neighbours text w b n p 1
  neighbours_start = record { begun = omega arith; comes = refl }

  module _ (ord : InOrder text w b slot_size p n) where
    repeated_all : at_odds slot_name one_name (rest 0) ≡ repeated_name (slots_at text w b n)
    unfolding repeated_name least_at_odds
    repeated_all = ap (at_odds slot_name one_name) (from_all (row_slot text w b) w p n ∙ ordered_slots text w b p n ord)

    module _ (i x y : ℕ) (c : Bool) (inv : Neighbours text w b n p i) (h : i < n) (ex : x ≡ get_or w (b + get_or w (p + (i - 1)) 0 * slot_size) 0)
        (ey : y ≡ get_or w (b + get_or w (p + i) 0 * slot_size) 0) (ec : c ≡ same (name_of text x) (name_of text y)) where
      mine : name_of text x ≡ (slot (i - 1)).name
      unfolding slot_at
      mine = ap (name_of text) ex

      compared : one_name (slot (i - 1)) (slot i) ≡ c
      unfolding slot_at
      compared = ap₂ same (sym mine) (ap (name_of text) (sym ey)) ∙ sym ec

      here_now : rest (i - 1) ≡ slot (i - 1) ∷ rest i
      here_now =
          let e : i - 1 + 1 ≡ i = omega (arith, inv.begun) in
          from_here (row_slot text w b) w p n (i - 1) (omega arith) ∙ ap (λ (k : ℕ). slot (i - 1) ∷ rest k) e

      pub neighbours_again : c ≡ false → Neighbours text w b n p (i + 1)
      unfolding at_odds pick
      neighbours_again g =
          let called = slot_called text w b in
          let differ : same (name_in text w b slot_size (get_or w (p + (i - 1)) 0)) (name_in text w b slot_size (get_or w (p + i) 0)) ≡ false =
          ap₂ same (sym (called (get_or w (p + (i - 1)) 0))) (sym (called (get_or w (p + i) 0))) ∙ compared ∙ g in
          let none_later : any (one_name (slot (i - 1))) (rest i) ≡ false =
          none_from (row_slot text w b) w p n (one_name (slot (i - 1))) (n - i) i refl
          (λ l m k. ap₂ same (called (get_or w (p + (i - 1)) 0)) (called (get_or w (p + l) 0))
          ∙ later_differ text w b slot_size p n (i - 1) i ord (omega arith) differ l m k) in
          let step : at_odds slot_name one_name (rest (i - 1)) ≡ at_odds slot_name one_name (rest i) = rw (here_now, none_later) in
          let e : i ≡ i + 1 - 1 = omega arith in
          record { begun = omega arith; comes = ap (λ (k : ℕ). at_odds slot_name one_name (rest k)) (sym e) ∙ sym step ∙ inv.comes }

      pub neighbours_found : c ≡ true → named text (Some x) ≡ repeated_name (slots_at text w b n)
      unfolding at_odds any pick named
      neighbours_found g =
          let some_later : any (one_name (slot (i - 1))) (rest i) ≡ true = rw (from_here (row_slot text w b) w p n i h, compared, g) in
          let found : at_odds slot_name one_name (rest (i - 1)) ≡ some (slot (i - 1)).name = rw (here_now, some_later) in
          ap some mine ∙ sym found ∙ inv.comes ∙ repeated_all

    pub neighbours_end : (i : ℕ) → n ≤ i → Neighbours text w b n p i → named text None ≡ repeated_name (slots_at text w b n)
    unfolding at_odds any pick named
    neighbours_end i l inv = sym (go (ltb (i - 1) n) refl) ∙ inv.comes ∙ repeated_all
      where
        go : (q : Bool) → ltb (i - 1) n ≡ q → at_odds slot_name one_name (rest (i - 1)) ≡ none
        go true e =
            let last = ltb-true (i - 1) n e in
            rw (from_here (row_slot text w b) w p n (i - 1) last, from_none (row_slot text w b) w p n (i - 1 + 1) (omega arith))
        go false e = rw (from_none (row_slot text w b) w p n (i - 1) (ltb-false (i - 1) n e))

pub ruleset cases = (
  row_told,
  name_told,
  outer_start,
  rival_sort,
  rival_none,
  rival_function,
  rival_overloading,
  rival_start,
  inner_again,
  inner_found,
  inner_other,
  inner_end,
  outer_found,
  outer_again,
  outer_none,
  neighbours_start,
  neighbours_again,
  neighbours_found,
  neighbours_end,
  rules,
)
