-- `list_terms::terms::put_heads` meets its contract.
-- Assumes nothing.
use Rattle.list_terms.proofs.PlaceCases.{places}
use Rattle.list_terms.proofs.terms.put_heads.Goals as goal

pub loop-n-init : goal.loop-n-init
loop-n-init c = search places

pub returns-then-arguments_at-eq0 : goal.returns-then-arguments_at-eq0
returns-then-arguments_at-eq0 c = search places

pub loop-n-preserved : goal.loop-n-preserved
loop-n-preserved c = search places

pub returns : goal.returns
returns c = search places
