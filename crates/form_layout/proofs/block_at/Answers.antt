use Rattle.form_layout.proofs.Cases.{cases}
use Rattle.form_layout.proofs.block_at.Goals as goal

pub overflow_mul-visible : goal.overflow_mul-visible
overflow_mul-visible c = search cases

pub overflow_add-visible : goal.overflow_add-visible
overflow_add-visible c = search cases

pub overflow_mul-hidden : goal.overflow_mul-hidden
overflow_mul-hidden c = search cases

pub overflow_add-hidden : goal.overflow_add-hidden
overflow_add-hidden c = search cases

pub overflow_mul-first : goal.overflow_mul-first
overflow_mul-first c = search cases

pub overflow_add-first : goal.overflow_add-first
overflow_add-first c = search cases

pub overflow_mul-nodes : goal.overflow_mul-nodes
overflow_mul-nodes c = search cases

pub overflow_add-nodes : goal.overflow_add-nodes
overflow_add-nodes c = search cases

pub overflow_mul-visible_notes : goal.overflow_mul-visible_notes
overflow_mul-visible_notes c = search cases

pub overflow_add-visible_notes : goal.overflow_add-visible_notes
overflow_add-visible_notes c = search cases

pub overflow_add-hidden_notes : goal.overflow_add-hidden_notes
overflow_add-hidden_notes c = search cases

pub overflow_add-order : goal.overflow_add-order
overflow_add-order c = search cases

pub overflow_add-result : goal.overflow_add-result
overflow_add-result c = search cases

pub overflow_add-result-2 : goal.overflow_add-result-2
overflow_add-result-2 c = search cases

pub overflow_mul-result : goal.overflow_mul-result
overflow_mul-result c = search cases

pub returns : goal.returns
returns c = search cases
