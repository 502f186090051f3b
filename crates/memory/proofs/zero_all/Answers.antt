-- `memory::zero_all` meets its contract.
-- Assumes nothing.
use Rattle.std.proofs.lemmas.Simd.{splat_is_map}
use mathlib.Core.Path.{refl, ◌∙◌}
use Rattle.meaning.specs.Answer.{memory_after}
use Rattle.memory.proofs.zero_all.Goals as goal

pub returns : goal.returns
unfolding memory_after
returns c = c.fill.ensures.after (λ y e. e) ∙ splat_is_map c.args.work.now _ 0 refl
