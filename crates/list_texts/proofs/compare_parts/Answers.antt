-- `list_texts::compare_parts` meets its contract. Assumes nothing.
use Rattle.list_texts.proofs.Cases.{cases}
use Rattle.list_texts.proofs.compare_parts.Goals as goal

pub returns-then-is_eq : goal.returns-then-is_eq
returns-then-is_eq c = search cases

pub returns-else-is_eq : goal.returns-else-is_eq
returns-else-is_eq c = search cases

pub returns-else-n-eq32 : goal.returns-else-n-eq32
returns-else-n-eq32 c = search cases
