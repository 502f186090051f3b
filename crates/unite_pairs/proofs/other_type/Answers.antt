-- `unite_pairs::other_type` meets its contract. Assumes nothing.
use Rattle.unite_pairs.proofs.Cases.{cases}
use Rattle.unite_pairs.proofs.other_type.Goals as goal

pub returns-then-n-m : goal.returns-then-n-m
returns-then-n-m c = search cases

pub returns-then-same_sort : goal.returns-then-same_sort
returns-then-same_sort c = search cases

pub returns : goal.returns
returns c = search cases
