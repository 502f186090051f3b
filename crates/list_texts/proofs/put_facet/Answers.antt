-- `list_texts::put_facet` meets its contract. Assumes nothing.
use Rattle.list_texts.proofs.Cases.{cases}
use Rattle.list_texts.proofs.put_facet.Goals as goal

pub returns-in-Origin : goal.returns-in-Origin
returns-in-Origin c = search cases

pub returns-in-Shape : goal.returns-in-Shape
returns-in-Shape c = search cases
