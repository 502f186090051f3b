-- What is not read is refused with 1 to 5.
use Rattle.std.specs.Prelude.{◌≡◌, ℕ, ◌≤◌, Bool, List, []}
use Rattle.std.proofs.Common.{subst}
use Rattle.meaning.specs.Laws.{by_cases}
use Rattle.meaning.specs.Syntax.{Module}
use Rattle.meaning.specs.Texts.{Texts, Reading, all_read, refused_in, behind, read_behind, library_first, read_texts}
use Rattle.meaning.specs.Grammar.{Result, done, refused}
use Rattle.laws.specs.Reading.{UpToFive}
use Rattle.laws.proofs.Reading.{text_refused}

abbrev LowReading : Reading → Type 0
LowReading (all_read ms) = Unit {0}
LowReading (refused_in l k at) = k ≤ 5

behind_low : (ls : List Module) (r : Result (List Module)) → UpToFive r → LowReading (behind ls r)
unfolding behind
behind_low ls (done ms s) h = tt
behind_low ls (refused k at) h = h

first_low : (r : Result (List Module)) (customer : List ℕ) → UpToFive r → LowReading (library_first r customer)
unfolding library_first read_behind
first_low (done ls s) customer h = behind_low ls _ (text_refused customer _ _)
first_low (refused k at) customer h = h

pub refused_low : (texts : Texts) (in_library : Bool) (k at : ℕ) → read_texts texts ≡ refused_in in_library k at → k ≤ 5
unfolding read_texts read_behind
refused_low texts in_library k at e =
    subst LowReading e
    (by_cases LowReading _ _ _ (λ q. behind_low [] _ (text_refused texts.customer _ _))
    (λ q. first_low _ texts.customer (text_refused texts.library _ _)))
