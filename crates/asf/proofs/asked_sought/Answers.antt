-- `asf::asked_sought` meets its contract. Assumes nothing.
use Rattle.asf.specs.Meant.{tape_within, absent_sought, spoken_given, asked_meant}
use Rattle.asf.proofs.Cases.{tape_fits}
use borrow.Author.Rules.{rules}
use Rattle.asf.proofs.asked_sought.Goals as goal

pub slice_bounds-find_heads-end : goal.slice_bounds-find_heads-end
slice_bounds-find_heads-end c = search (tape_within, rules)

pub overflow_cast-t : goal.overflow_cast-t
overflow_cast-t c = search (tape_fits, rules)

pub slice_bounds-find_asked-end : goal.slice_bounds-find_asked-end
slice_bounds-find_asked-end c = search (tape_within, rules)

pub returns-then-count-k : goal.returns-then-count-k
returns-then-count-k c = search (absent_sought, c.if-count-k.true, c.module_count-count.ensures, c.find_asked-k.ensures, c.find_heads.ensures, c.requires)

pub module_sought-requires : goal.module_sought-requires
module_sought-requires c = search (spoken_given, c.find_heads.ensures, c.requires)

pub returns : goal.returns
returns c = search (asked_meant, c.module_sought.ensures, c.if-count-k.false, c.module_count-count.ensures, c.find_asked-k.ensures, c.find_heads.ensures, c.requires)
