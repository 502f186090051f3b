-- `ask::decide_read` meets its contract. Assumes nothing.
use Rattle.ask.specs.Meant.{before_decided, now_decided, reached_decided}
use borrow.Author.Rules.{rules}
use Rattle.ask.proofs.decide_read.Goals as goal

pub returns-then-count-k : goal.returns-then-count-k
returns-then-count-k c = search (before_decided, c.absent.ensures, c.if-count-k.true, c.module_count-count.ensures, c.find_asked-new_k.ensures, c.find_asked-k.ensures, c.find_heads-2.ensures, c.find_heads.ensures, c.requires.spoken, c.requires.spoken_2, rules)

pub returns-then-new_count-new_k : goal.returns-then-new_count-new_k
returns-then-new_count-new_k c = search (now_decided, c.absent-then-new_count-new_k.ensures, c.if-new_count-new_k.true, c.if-count-k.false, c.module_count-count.ensures, c.module_count-new_count.ensures, c.find_asked-new_k.ensures, c.find_asked-k.ensures, c.find_heads-2.ensures, c.find_heads.ensures, c.requires.spoken, c.requires.spoken_2, rules)

pub returns : goal.returns
returns c = search (reached_decided, c.decide_reached.ensures, c.if-new_count-new_k.false, c.if-count-k.false, c.module_count-count.ensures, c.module_count-new_count.ensures, c.find_asked-new_k.ensures, c.find_asked-k.ensures, c.find_heads-2.ensures, c.find_heads.ensures, c.requires.spoken, c.requires.spoken_2, rules)
