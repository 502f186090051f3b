use Rattle.own_finding.proofs.Cases.{cases}
use Rattle.own_finding.proofs.arguments.node_word.Goals as goal

pub returns-then-row-visible : goal.returns-then-row-visible
returns-then-row-visible c = search cases

pub returns : goal.returns
returns c = search cases
