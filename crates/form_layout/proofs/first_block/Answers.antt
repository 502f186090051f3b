use Rattle.form_layout.proofs.Cases.{cases}
use Rattle.form_layout.proofs.first_block.Goals as goal

pub block_at-requires : goal.block_at-requires
block_at-requires c = search cases

pub returns : goal.returns
returns c = search cases
