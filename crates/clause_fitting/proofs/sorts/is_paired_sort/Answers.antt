-- `clause_fitting::sorts::is_paired_sort` meets its contract.
-- Assumes nothing.
use Rattle.clause_fitting.proofs.SortCases.{theres}
use Rattle.clause_fitting.proofs.sorts.is_paired_sort.Goals as goal

pub returns-in-Some : goal.returns-in-Some
returns-in-Some c = search theres

pub returns-in-None : goal.returns-in-None
returns-in-None c = search theres
