-- `memory::memory_size` meets its contract. Assumes nothing.
use Rattle.memory.proofs.Cases.{cases}
use Rattle.memory.proofs.memory_size.Goals as goal

pub returns : goal.returns
returns c = search cases
