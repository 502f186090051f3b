-- For every call, each line of the listing stays a line.
use Rattle.std.specs.Prelude.{ℕ}
use Rattle.meaning.specs.Names.{Name}
use Rattle.meaning.specs.Texts.{Texts}
use Rattle.meaning.specs.Normal.{Normal}
use Rattle.meaning.specs.Listing.{listing_lines}
use Rattle.meaning.specs.OrderLaws.{Every}
use Rattle.meaning.specs.Answer.{answer}
use Rattle.promises.specs.ListingLaws.{PlainLine}
use Rattle.promises.specs.Told.{listing_plain}
use Rattle.promises.specs.SoundEvaluation.{equation_lines}
use Rattle.promises.specs.OneListing.{AcceptedTexts, accepted_call, answer_so}

module _ (asked : Name) (texts : Texts) where
  pub lines_plain : (n : Normal) → AcceptedTexts asked n → Every PlainLine (listing_lines asked n)
  lines_plain n t = let a = accepted_call asked n t in listing_plain asked n a.name a.normal.whole.sound (equation_lines n a.normal.whole)

-- each line of an answer stays a line
pub answer_plain : (memory output : ℕ) (asked : Name) (texts : Texts) → Every PlainLine (answer memory output asked texts).lines
answer_plain memory output asked texts = answer_so asked texts (Every PlainLine) tt (lines_plain asked texts) memory output
