use Rattle.std.proofs.lemmas.Result.{err_from_is_err_and}
use Rattle.own_completing.proofs.Stages.{items_stage}
use Rattle.own_completing.specs.ItemLaws.{items_fine}
use borrow.Author.Rules.{rules}
use Rattle.own_completing.proofs.complete.join_items.Goals as goal

pub own_items-counts-requires : goal.own_items-counts-requires
own_items-counts-requires c = search items_stage

pub own_checks-requires : goal.own_checks-requires
own_checks-requires c = search items_stage

pub returns-in_err-own_checks : goal.returns-in_err-own_checks
returns-in_err-own_checks c =
    let p = err_from_is_err_and c.from_residual.result c.from_residual.ensures.1 in
    rw (p.1, p.2) (search (items_stage, c.in_err-own_checks.was))

pub returns : goal.returns
returns c = items_fine _ _ _ _ _ _ c.own_of-own.ensures c.joining_block-b.ensures _ _ c.requires _ _
    c.own_items-counts.ensures _ _ c.own_checks.ensures (search rules)
