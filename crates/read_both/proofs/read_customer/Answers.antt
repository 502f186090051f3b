-- `read_both::read_customer` meets its contract.
-- Assumes nothing.
use Rattle.std.proofs.Common.{arith, rules}
use Rattle.read_both.specs.Laws.{customer_refused, customer_fits, text_fits, places_fit, customer_done}
use Rattle.read_both.proofs.read_customer.Goals as goal

pub head_words-requires : goal.head_words-requires
head_words-requires c = record {
  h_bound = c.find_heads.ensures.few;
  h_len = c.find_heads.ensures.size;
}

pub slice_bounds-read-end : goal.slice_bounds-read-end
slice_bounds-read-end c = omega (arith, c.module_count-count.ensures, c.head_words.ensures.room)

pub overflow_cast-text : goal.overflow_cast-text
overflow_cast-text c = search (text_fits, c.requires, c.find_heads.ensures, c.head_words.ensures, c.module_count-count.ensures, c.read.ensures, c.in-Ok.is, rules)

pub overflow_mul-text : goal.overflow_mul-text
overflow_mul-text c = search (places_fit, c.requires, c.find_heads.ensures, c.head_words.ensures, c.module_count-count.ensures, c.read.ensures, c.in-Ok.is, rules)

pub overflow_add-result : goal.overflow_add-result
overflow_add-result c = search (customer_fits, c.requires, c.find_heads.ensures, c.head_words.ensures, c.module_count-count.ensures, c.read.ensures, c.in-Ok.is, rules)

pub returns-in-Err : goal.returns-in-Err
returns-in-Err c = search (customer_refused, c.requires, c.find_heads.ensures, c.head_words.ensures, c.module_count-count.ensures, c.read.ensures, c.in-Err.is, rules)

pub returns-in-Ok : goal.returns-in-Ok
returns-in-Ok c = search (customer_done, c.requires, c.find_heads.ensures, c.head_words.ensures, c.module_count-count.ensures, c.read.ensures, c.in-Ok.is, c.move_entries.ensures, rules)
