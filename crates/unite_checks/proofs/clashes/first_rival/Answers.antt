-- `unite_checks::clashes::first_rival` meets its contract. Assumes nothing.
use Rattle.unite_checks.proofs.SearchCases.{cases}
use Rattle.unite_checks.proofs.clashes.first_rival.Goals as goal

pub returns-then-kind-eq-SORT : goal.returns-then-kind-eq-SORT
returns-then-kind-eq-SORT c = search cases

pub returns-else-kind-eq-SORT : goal.returns-else-kind-eq-SORT
returns-else-kind-eq-SORT c = search cases

pub returns-in-Functions : goal.returns-in-Functions
returns-in-Functions c = search cases

pub returns-in-Overloading : goal.returns-in-Overloading
returns-in-Overloading c = search cases
