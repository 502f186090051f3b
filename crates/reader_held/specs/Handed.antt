-- What it is for a reader to hand over a line.
use Rattle.std.specs.Prelude.{◌≡◌}
use Rattle.std.proofs.Common.{sym, ap, ◌∙◌}
use Rattle.reader.specs.declared.Line.{Line}
use Rattle.reader.specs.Places.{LineRead, place_after, line_coincide}
use Rattle.reader_held.specs.declared.Reader.{Reader}

-- the reader before, what it hands over, and the reader after
pub record Handed (before : Reader) (l : Line) (after : Reader) : Type 0 where
  pub read : LineRead before.listing.now before.at l
  pub kept : after.listing ≡ before.listing
  pub moved : after.at ≡ place_after l before.at

-- two results that the contract allows coincide: the line, and the reader afterwards
pub handed_coincide : (before : Reader) (l l' : Line) (after after' : Reader) → Handed before l after → Handed before l' after' → (l ≡ l') × (after ≡ after')
handed_coincide before l l' after after' h g =
    let same_line = line_coincide before.listing.now before.at l l' h.read g.read in
    let same_listing : after.listing ≡ after'.listing = h.kept ∙ sym g.kept in
    let same_place : after.at ≡ after'.at = h.moved ∙ ap (λ (x : Line). place_after x before.at) same_line ∙ sym g.moved in
    (same_line, λ i. record { listing = same_listing i; at = same_place i })
