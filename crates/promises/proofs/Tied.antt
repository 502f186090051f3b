-- For every call, the visible part of the listing's bytes is the text of its visible lines.
use Rattle.std.specs.Prelude.{◌≡◌, ℕ, false, List}
use Rattle.meaning.specs.Names.{Name}
use Rattle.meaning.specs.Syntax.{Module}
use Rattle.meaning.specs.Texts.{Texts, all_read, read_texts}
use Rattle.meaning.specs.Listing.{lines_text, shown}
use Rattle.meaning.specs.Reached.{normalise}
use Rattle.meaning.specs.OrderLaws.{Every}
use Rattle.meaning.specs.Answer.{listing, of_ended, answer}
use Rattle.promises.specs.VisiblePart.{visible_part}
use Rattle.promises.proofs.ListingTie.{visible_tie}
use Rattle.promises.specs.Tied.{lines_plain, answer_plain}
use Rattle.promises.specs.ListingLaws.{PlainLine}
use Rattle.promises.specs.OneListing.{ended_so}

module _ (asked : Name) (texts : Texts) where
  pub ended_tied : (ms : List Module) → read_texts texts ≡ all_read ms
      → visible_part (listing (of_ended asked (normalise asked ms))) ≡ lines_text (shown false (of_ended asked (normalise asked ms)).lines)
  ended_tied ms e = visible_tie _ (ended_so asked texts (Every PlainLine) tt (lines_plain asked texts) ms e)

pub answer_tied : (memory output : ℕ) (asked : Name) (texts : Texts)
    → visible_part (listing (answer memory output asked texts)) ≡ lines_text (shown false (answer memory output asked texts).lines)
answer_tied memory output asked texts = visible_tie (answer memory output asked texts).lines (answer_plain memory output asked texts)
