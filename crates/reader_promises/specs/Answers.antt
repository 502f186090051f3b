-- Every listing that a call gives is read back, line by line, and its front is its visible part.
use Rattle.std.specs.Prelude.{◌≡◌, ℕ}
use Rattle.std.proofs.Math.Path.{refl}
use Rattle.std.proofs.Common.{sym, ap, ◌∙◌, arith}
use Rattle.std.proofs.Math.Bool.{false}
use mathlib.Core.List.{List}
use Rattle.meaning.specs.Names.{Name}
use Rattle.meaning.specs.Texts.{Texts}
use Rattle.meaning.specs.Listing.{Line, lines_text, shown}
use Rattle.meaning.specs.Answer.{Answer, answer, listing}
use Rattle.promises.specs.Tied.{answer_plain}
use Rattle.promises.proofs.Tied.{answer_tied}
use Rattle.promises.specs.VisiblePart.{visible_part}
use Rattle.promises.specs.OneListing.{accepted_call, answer_so}
use Rattle.reader.specs.Visible.{front_part}
use Rattle.reader_promises.specs.Lines.{Gives, lines_from}
use Rattle.reader_promises.specs.Front.{leading, front_leads}
use Rattle.reader_promises.specs.Shown.{listing_settled}

-- for every call that lends so much working memory and output

module _ (memory output : ℕ) (asked : Name) (texts : Texts) where
  abbrev told : Answer
  told = answer memory output asked texts

  settled : leading told.lines ≡ shown false told.lines
  unfolding leading shown
  settled =
      answer_so asked texts (λ (ls : List Line). leading ls ≡ shown false ls) refl
      (λ n a. listing_settled asked n (accepted_call asked n a).normal.whole.sound) memory output

  -- reading the listing from place 0 gives its lines in order, and then the end
  pub answer_given : Gives (listing told) 0 told.lines
  answer_given = lines_from told.lines (listing told) 0 (omega arith) refl (answer_plain memory output asked texts)

  -- the front of the listing is the text of its visible lines
  pub answer_front : front_part (listing told) ≡ lines_text (shown false told.lines)
  answer_front = front_leads told.lines (answer_plain memory output asked texts) ∙ ap lines_text settled

  -- and so it is the visible part that the promise on hidden things speaks of
  pub front_visible : front_part (listing told) ≡ visible_part (listing told)
  front_visible = answer_front ∙ sym (answer_tied memory output asked texts)
