-- Request Two for the code: where a call returns 0, a call on the texts with a fresh plain function in the operator's place returns 0 as well, with
-- the listing of the same normal form apart from that name; or 19, where that listing is longer than the output.
use Rattle.std.specs.Prelude.{◌≡◌, ◌⊎◌, ℕ, ◌≤◌, ◌<◌, List, length, take}
use Rattle.std.proofs.Common.{sym, ap, ◌∙◌, ⊎_elim, inl, inr}
use Rattle.meaning.specs.Names as Names
use Rattle.meaning.specs.Numbers.{memory_size, accepted, lent_short}
use Rattle.meaning.specs.Normal.{Normal}
use Rattle.meaning.specs.Syntax.{Module}
use Rattle.meaning.specs.Texts.{Texts}
use Rattle.meaning.specs.Listing.{lines_text, listing_lines}
use Rattle.meaning.specs.Answer.{answer}
use Rattle.meaning.specs.Contract.{call}
use Rattle.promises_replacing.specs.Replacing.{Replaced, renewed, Accepts}
use Rattle.promises_replacing.proofs.Replaced.{replaced_answer}
use Rattle.answer.specs.declared.Answer.{Answer}
use Rattle.answer.specs.Answers.{told, Returned, told_call}
use Rattle.asf.specs.Promises.{answer_told, number_told, listing_told}

-- 0, after so many modules, with the listing of n at the front of the output
pub record Lists (asked : Names.Name) (count : ℕ) (n : Normal) (r : Returned) : Type 0 where
  pub number : r.answer.number ≡ accepted
  pub modules : r.answer.modules ≡ count
  pub listing : take r.answer.listing r.output ≡ lines_text (listing_lines asked n)

-- 19, and that only where the listing of n is longer than the output
pub record OutOfOutput (asked : Names.Name) (n : Normal) (output : List ℕ) (r : Returned) : Type 0 where
  pub number : r.answer.number ≡ lent_short
  pub longer : length output < length (lines_text (listing_lines asked n))

pub record SameReturnedApart (operator plain asked : Names.Name) (output' : List ℕ) (r r' : Returned) : Type 0 where
  pub count : ℕ
  pub normal : Normal
  pub before : Lists asked count normal r
  pub after : OutOfOutput asked (renewed operator plain normal) output' r' ⊎ Lists asked count (renewed operator plain normal) r'

lists : (memory output : List ℕ) (asked : Names.Name) (texts : Texts) (r : Returned) → r ≡ told_call (call memory output asked texts) → (count : ℕ) (n : Normal)
    → Accepts asked count n (answer (length memory) (length output) asked texts) → Lists asked count n r
unfolding told
lists memory output asked texts r e count n a = record {
  number = number_told memory output asked texts r e ∙ a.number;
  modules = ap (λ (x : Answer). x.modules) (answer_told memory output asked texts r e) ∙ a.modules;
  listing = listing_told memory output asked texts r e ∙ ap lines_text a.lines;
}

-- whatever is lent to the two calls, memory enough to the second, and whatever they return that the contract allows
pub replaced_in_the_call : (operator plain : Names.Name) (texts texts' : Texts) (ms : List Module) → Replaced operator plain texts texts' ms
    → (asked : Names.Name) (memory memory' output output' : List ℕ) (r r' : Returned) → r ≡ told_call (call memory output asked texts)
    → r' ≡ told_call (call memory' output' asked texts') → r.answer.number ≡ accepted → memory_size ≤ length memory'
    → SameReturnedApart operator plain asked output' r r'
replaced_in_the_call operator plain texts texts' ms h asked memory memory' output output' r r' e e' zero enough =
    let s =
    replaced_answer operator plain texts texts' ms h asked (length memory) (length memory') (length output) (length output')
    (sym (number_told memory output asked texts r e) ∙ zero) enough in
    record {
      count = s.count;
      normal = s.normal;
      before = lists memory output asked texts r e s.count s.normal s.before;
      after =
          ⊎_elim (λ k. inl (record { number = number_told memory' output' asked texts' r' e' ∙ k.number; longer = k.longer }))
          (λ k. inr (lists memory' output' asked texts' r' e' s.count (renewed operator plain s.normal) k)) s.after;
    }
