-- `module_heads::find_heads` meets its contract.
-- Assumes nothing.
use borrow.Author.Rules.{rules}
use Rattle.module_heads.proofs.Cases.{heads, begun_head}
use Rattle.module_heads.proofs.find_heads.Goals as goal
use Rattle.module_heads.proofs.find_heads.Goals.{then-is_module+else-count-ge64, else-is_module}

pub loop-j-init : goal.loop-j-init
loop-j-init c = search heads

pub returns-then-count-ge64 : goal.returns-then-count-ge64
returns-then-count-ge64 c = search heads

pub loop-j-preserved : goal.loop-j-preserved
loop-j-preserved c = elim c.if-is_module.branch [ then-is_module+else-count-ge64 w ↦ search (begun_head, rules) | else-is_module w ↦ search heads ]

pub returns : goal.returns
returns c = search heads
