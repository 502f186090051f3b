-- `list_items::put_origin` meets its contract.
-- Assumes nothing.
use Rattle.list_items.specs.Parts.{placed_text}
use Rattle.form_rows.specs.Rows.{origin_of}
use Rattle.meaning.specs.Written.{origin_text}
use Rattle.list_items.proofs.Cases.{cases}
use Rattle.list_items.proofs.put_origin.Goals as goal

pub returns : goal.returns
unfolding origin_text origin_of placed_text
returns c = search cases
