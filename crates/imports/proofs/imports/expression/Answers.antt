-- `imports::imports::expression` meets its contract. Assumes nothing.
use borrow.Author.Rules.{rules}
use Rattle.imports.specs.Expressions.{expression_room, expression_made}
use Rattle.imports.proofs.imports.expression.Goals as goal

pub clauses_from-requires : goal.clauses_from-requires
clauses_from-requires c = search (expression_room, rules)

pub returns : goal.returns
returns c = search (expression_made, rules)
