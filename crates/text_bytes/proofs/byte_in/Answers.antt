-- `text_bytes::byte_in` meets its contract.
-- Assumes nothing.
use Rattle.text_bytes.proofs.Bytes.{cases}
use Rattle.text_bytes.proofs.byte_in.Goals as goal

pub returns-then-i-n : goal.returns-then-i-n
returns-then-i-n c = search cases

pub returns : goal.returns
returns c = search cases
