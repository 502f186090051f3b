-- `asf::module_sought` meets its contract. Assumes nothing.
use Rattle.asf.specs.Meant.{refused_sought, form_sought}
use Rattle.asf.proofs.Cases.{given_within}
use borrow.Author.Rules.{rules}
use Rattle.asf.proofs.module_sought.Goals as goal

pub slice_bounds-name_of_module-end : goal.slice_bounds-name_of_module-end
slice_bounds-name_of_module-end c = search (given_within, rules)

pub returns-in-Err : goal.returns-in-Err
returns-in-Err c = search (refused_sought, rules)

pub returns-in-Ok : goal.returns-in-Ok
returns-in-Ok c = search (form_sought, rules)
