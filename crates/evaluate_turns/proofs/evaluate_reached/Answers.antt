-- `evaluate_turns::evaluate_reached` meets its contract. Assumes nothing.
use Rattle.evaluate_turns.proofs.Cases.{cases, asked_there}
use Rattle.evaluate_turns.proofs.evaluate_reached.Goals as goal

pub slice_bounds-reached-end : goal.slice_bounds-reached-end
slice_bounds-reached-end c = search cases

pub clear_forms-requires : goal.clear_forms-requires
clear_forms-requires c = search cases

pub evaluate_set-requires : goal.evaluate_set-requires
evaluate_set-requires c = search (cases, asked_there, c.requires, c.reached-set.ensures, c.module_count.ensures, c.if-k-module_count.true)

pub returns-then-k-module_count : goal.returns-then-k-module_count
returns-then-k-module_count c = search cases

pub returns : goal.returns
returns c = search cases
