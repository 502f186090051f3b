-- Two specifications of modules whose import expressions stand in another order, or some of them more than once, are accepted alike, with one normal
-- form, or refused after as many modules, at the same one.
use Rattle.std.specs.Prelude.{◌≡◌, ℕ}
use Rattle.std.proofs.Common.{inl, inr}
use Rattle.std.proofs.Math.Path.{refl, sym}
use mathlib.Core.List.{List, []}
use Rattle.meaning.specs.Names.{Name, member}
use Rattle.meaning.specs.Syntax.{Module}
use Rattle.meaning.specs.OrderLaws.{Every}
use Rattle.meaning.specs.Evaluate.{named_by}
use Rattle.meaning.specs.Reached.{Ended, normalised, refused_at, reached, module_names, normalise}
use Rattle.promises.specs.Demand.{InTurn}
use Rattle.promises.specs.TwoCalls.{Ends, in_turn_each, PlacedAlike, reached_alike, module_names_alike, normalise_two}
use Rattle.promises.specs.SoundEvaluation.{whole_keeps, PlainModule, reached_plain}
use Rattle.promises_replacing.specs.ModulesAlike.{empty_both, GoodPlaced, tags_of, good_placed}
use Rattle.promises_import_order.specs.Sets.{member_same}
use Rattle.laws.specs.EveryLaws.{every_of}
use Rattle.promises_import_order.specs.Order.{as_it_is, kept, import_easy, OtherOrder, named_anyhow, EndsAlike, One, SamePlaced, evaluated_anyhow}

module _ (tags : ℕ → ℕ → Name) where
  ends_alike : (e e' : Ended) → Ends (One tags) ⊥ e e' → EndsAlike e e'
  ends_alike (normalised c n) (normalised c' n') h = (h.0, h.1.0)
  ends_alike (normalised c n) (refused_at k c' m w) h = h
  ends_alike (refused_at k c m w) (normalised c' n) h = h
  ends_alike (refused_at k c m w) (refused_at k' c' m' w') (inl h) = absurd h
  ends_alike (refused_at k c m w) (refused_at k' c' m' w') (inr h) = h

called : (m m' : Module) → OtherOrder m m' → m.name ≡ m'.name
called m m' o = o.name

naming : (m m' : Module) → OtherOrder m m' → (w : Name) → member w (named_by m) ≡ member w (named_by m')
naming m m' o w = member_same (named_anyhow m m' o) w

pub normalise_anyhow : (asked : Name) (ms ms' : List Module) → Every PlainModule ms → Every PlainModule ms' → InTurn OtherOrder ms ms'
    → EndsAlike (normalise asked ms) (normalise asked ms')
unfolding reached
normalise_anyhow asked ms ms' plain plain' a =
    let tags = tags_of ms in
    let easy = every_of _ ms (λ m l. every_of _ m.imports (λ i k. import_easy tags i)) in
    ends_alike tags (normalise asked ms) (normalise asked ms')
    (normalise_two (One tags) ⊥ (SamePlaced tags) (λ x x' p. p.0.self.name) (module_names ms) (evaluated_anyhow tags (module_names ms)) asked ms ms'
    refl (sym (module_names_alike OtherOrder called naming ms ms' a))
    (in_turn_each (PlacedAlike OtherOrder) (GoodPlaced as_it_is kept tags) (λ x. PlainModule x.self) (reached asked ms) (reached asked ms')
    (reached_alike OtherOrder called naming asked ms ms' a) (good_placed as_it_is kept asked ms plain easy) (reached_plain asked 0 [] ms' plain'))
    (refl, record { whole = whole_keeps.nothing; itself = empty_both as_it_is kept tags }))
