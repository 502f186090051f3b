-- The names of a text that is read are identifiers, or operators with their underlines.
use Rattle.std.specs.Prelude.{◌≡◌, ℕ, List}
use Rattle.meaning.specs.Names.{Name}
use Rattle.meaning.specs.Syntax.{Module}
use Rattle.meaning.specs.Normal.{Normal}
use Rattle.meaning.specs.OrderLaws.{Every}
use Rattle.meaning.specs.Texts.{Texts, all_read, read_texts}
use Rattle.meaning.specs.Reached.{normalised, normalise}
use Rattle.laws.specs.Reading.{Named}
use Rattle.laws.proofs.Reading.{modules_read}
use Rattle.promises.specs.ListingLaws.{Plain}
use Rattle.promises.specs.Spelling.{token_named, prefix_plain, infix_plain}
use Rattle.promises.specs.SoundEvaluation.{AcceptedCall, PlainModule, call_accepted}

named_plain : (text : List ℕ) → Named Plain Plain text
named_plain text = record { token = λ i e f. token_named text i e; as_plain = λ w h. h; as_prefix = prefix_plain; as_infix = infix_plain }

pub read_plain : (texts : Texts) (ms : List Module) → read_texts texts ≡ all_read ms → Every PlainModule ms
read_plain = modules_read Plain Plain named_plain

-- texts whose call is accepted
pub accepted_texts : (texts : Texts) (asked : Name) (ms : List Module) (count : ℕ) (n : Normal) → read_texts texts ≡ all_read ms
    → normalise asked ms ≡ normalised count n → AcceptedCall asked n
accepted_texts texts asked ms count n e f = call_accepted asked ms count n (read_plain texts ms e) f
