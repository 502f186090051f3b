-- `own_items::items::own_items` meets its contract.
-- Assumes nothing.
use Rattle.own_items.proofs.Whole.{whole, whole_ready_behind, whole_hidden, whole_made}
use borrow.Author.Rules.{rules}
use Rattle.own_items.proofs.items.own_items.Goals as goal

pub join_visible-visible_count-requires : goal.join_visible-visible_count-requires
join_visible-visible_count-requires c = search whole

pub own_rows-all-requires : goal.own_rows-all-requires
own_rows-all-requires c = search (whole_ready_behind, whole_hidden, c.requires, c.own_parameters-parameter_count.ensures, c.join_visible-visible_count.ensures, rules)

pub returns : goal.returns
returns c = search (whole_made, c.requires, c.own_parameters-parameter_count.ensures, c.join_visible-visible_count.ensures, c.own_rows-all.ensures, rules)
