-- What is said of a normal form piece by piece, of each parameter, visible item, hidden item or equation, is kept by its translation, by unions,
-- by M's own declarations and by order, where it is kept of each piece.
use Rattle.std.proofs.Math.Bool.{not}
use mathlib.Core.List.{List, [], map}
use Rattle.meaning.specs.Names.{Name}
use Rattle.meaning.specs.Syntax.{Parameter, Module}
use Rattle.meaning.specs.Origins.{FunctionType, Item, ResolvedEquation, in_parameter, one_item}
use Rattle.meaning.specs.Normal.{Slot, Normal, nothing_visible, nothing_hidden, empty, unite_visible, unite_hidden, unite, move_item, move_hidden_item, move_visible, move_hidden, move}
use Rattle.meaning.specs.Written.{visible_in_order, hidden_in_order, in_order}
use Rattle.meaning.specs.Clauses.{without_visible, without}
use Rattle.meaning.specs.Own.{own_slot, own_visible, own_hidden_items}
use Rattle.meaning.specs.Evaluate.{seen_sorts, joined_visible, joined_hidden}
use Rattle.meaning.specs.OrderLaws.{Every, rearranged_every, sorted_rearranged}
use Rattle.laws.specs.EveryLaws.{every_append, every_map, every_made, every_keep, every_union}
use Rattle.laws.specs.Walk.{Carries, ImportNames, Keeps, keeps, with_own, Evaluates}

-- ---- each parameter: none is made but by a module's own

module _ (P : Slot → Type 0) where
  abbrev pub Slots : Normal → Type 0
  Slots n = Every P n.visible.parameters

  pub slots_keep : {N : Name → Type 0} → Keeps N Slots
  unfolding empty nothing_visible move move_visible without without_visible unite unite_visible
  slots_keep =
      keeps tt (λ σ φ c n h. h) (λ p n h. every_keep P _ n.visible.parameters h)
      (λ a b h k. every_append P a.visible.parameters _ h (every_keep P _ b.visible.parameters k))

  pub own_slots : (m : Module) (n : Normal) (es : List ResolvedEquation) → ((p : Parameter) → P (record { name = p.name; home = m.name })) → Slots n
      → Slots (in_order (with_own m n es))
  unfolding joined_visible own_visible own_slot in_order visible_in_order
  own_slots m n es own h =
      rearranged_every P (sorted_rearranged _ _)
      (every_append P n.visible.parameters _ h (every_made P (own_slot m (seen_sorts m n.visible)) own m.parameters))

-- ---- each item

module _ (P : Item → Type 0) where
  abbrev pub AllVisible : Normal → Type 0
  AllVisible n = Every P n.visible.items

  abbrev pub AllHidden : Normal → Type 0
  AllHidden n = Every P n.hidden.items

  -- where it holds of M's own too, it holds of all that is evaluated
  module _ {N : Name → Type 0} {M : Module → Type 0} (imports : (m : Module) → M m → ImportNames N m.imports) where
    pub visible_evaluates : ((σ : Name → Name) (φ : Name → FunctionType → Name) → Carries N σ φ → (i : Item) → P i → P (move_item σ φ i))
        → ((m : Module) → M m → (seen : List Name) → Every P (own_visible m seen).items) → Evaluates N M AllVisible AllVisible
    unfolding empty nothing_visible move move_visible without without_visible unite unite_visible joined_visible in_order visible_in_order
    visible_evaluates moved own = record {
      steps =
          keeps tt
          (λ σ φ c n h.
          every_union P one_item [] (map (move_item σ φ) n.visible.items) tt
          (every_map P P (move_item σ φ) (moved σ φ c) n.visible.items h))
          (λ p n h. every_keep P (λ (i : Item). not (in_parameter p i.standing)) n.visible.items h)
          (λ a b h k. every_union P one_item a.visible.items b.visible.items h k);
      imports = imports;
      own = λ home m h n k es r.
          rearranged_every P (sorted_rearranged _ _)
          (every_union P one_item n.visible.items (own_visible m (seen_sorts m n.visible)).items k (own m h (seen_sorts m n.visible)));
      nothing = tt;
      weaker = λ n h. h;
    }

    pub hidden_evaluates : ((σ : Name → Name) (φ : Name → FunctionType → Name) → Carries N σ φ → (i : Item) → P i → P (move_hidden_item σ φ i))
        → ((m : Module) → M m → (seen : List Name) → Every P (own_hidden_items m seen)) → Evaluates N M AllHidden AllHidden
    unfolding empty nothing_hidden move move_hidden without unite unite_hidden joined_hidden in_order hidden_in_order
    hidden_evaluates moved own = record {
      steps =
          keeps tt
          (λ σ φ c n h.
          every_union P one_item [] (map (move_hidden_item σ φ) n.hidden.items) tt
          (every_map P P (move_hidden_item σ φ) (moved σ φ c) n.hidden.items h))
          (λ p n h. h) (λ a b h k. every_union P one_item a.hidden.items b.hidden.items h k);
      imports = imports;
      own = λ home m h n k es r.
          rearranged_every P (sorted_rearranged _ _)
          (every_union P one_item n.hidden.items (own_hidden_items m (seen_sorts m n.visible)) k (own m h (seen_sorts m n.visible)));
      nothing = tt;
      weaker = λ n h. h;
    }
