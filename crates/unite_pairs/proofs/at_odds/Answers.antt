-- `unite_pairs::at_odds` meets its contract. Assumes nothing.
use Rattle.unite_pairs.proofs.Cases.{cases}
use Rattle.unite_pairs.proofs.at_odds.Goals as goal

pub returns-in-Sorts : goal.returns-in-Sorts
returns-in-Sorts c = search cases

pub returns-in-Functions : goal.returns-in-Functions
returns-in-Functions c = search cases

pub returns-in-Overloading : goal.returns-in-Overloading
returns-in-Overloading c = search cases
