-- `read_modules::is_taken` meets its contract.
-- Assumes nothing.
use Rattle.std.proofs.Common.{take, ◌∙◌, rules, tests}
use Rattle.std.proofs.lemmas.Iterator.{YieldsList-from_slice, YieldsList-from_take}
use Rattle.std.proofs.lemmas.Iterator.Search.{any_from_yields_List}
use Rattle.read_steps.specs.Model.{declares, taken}
use Rattle.read_modules.proofs.Cases.{taken_any}
use Rattle.read_modules.proofs.is_taken.Goals as goal

pub returns : goal.returns
unfolding taken
returns c =
    let s = c.args.text.now in
    let w = c.args.w in
    let tape = c.args.tape.now in
    any_from_yields_List (declares s w) _ _ c.any.result c.any.ensures.ran (YieldsList-from_take c.args.n (YieldsList-from_slice tape cc) cc) (λ x b q k. search (rules, tests))
    ∙ taken_any s w (take c.args.n tape)
