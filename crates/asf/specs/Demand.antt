-- Demand 3 for the code: two calls whose texts differ in what the reached modules hide return the same number and names, a culprit's two among
-- them, and the same visible lines; or one of them is out of room.
use Rattle.std.specs.Prelude.{◌≡◌, ◌⊎◌, ℕ, List, length, take}
use Rattle.std.proofs.Math.Path.{sym, ap}
use Rattle.std.proofs.Common.{◌∙◌, ⊎_elim, inl, inr}
use Rattle.meaning.specs.Names as Names
use Rattle.meaning.specs.Numbers.{no_room, lent_short}
use Rattle.meaning.specs.Checks.{Culprit}
use Rattle.meaning.specs.Reached.{short_or_blank}
use Rattle.meaning.specs.Syntax.{Module}
use Rattle.meaning.specs.Texts.{Texts}
use Rattle.meaning.specs.Answer.{answer}
use Rattle.meaning.specs.Contract.{call}
use Rattle.promises.specs.VisiblePart.{visible_part}
use Rattle.promises.specs.Demand.{Acceptance, Comparable, Demand3, InTheCall, ByItself, SameAnswer}
use Rattle.promises.proofs.Demanded.{demand_3}
use Rattle.promises.proofs.Alone.{demand_3_alone}
use Rattle.answer.specs.declared.Answer.{Answer}
use Rattle.answer.specs.Answers.{held, told, Returned, told_call}
use Rattle.asf.specs.Promises.{answer_told, number_told, listing_told}

-- all is the same but for the listing's length and the lines that are not visible
pub record SameReturned (r r' : Returned) : Type 0 where
  pub number : r.answer.number ≡ r'.answer.number
  pub modules : r.answer.modules ≡ r'.answer.modules
  pub evaluating : r.answer.evaluating ≡ r'.answer.evaluating
  pub culprit : r.answer.culprit ≡ r'.answer.culprit
  pub actual : r.answer.actual ≡ r'.answer.actual
  pub at : r.answer.at ≡ r'.answer.at
  pub in_library : r.answer.in_library ≡ r'.answer.in_library
  pub visible_lines : visible_part (take r.answer.listing r.output) ≡ visible_part (take r'.answer.listing r'.output)

-- 18 or 19
abbrev pub OutOfRoom : Returned → Type 0
OutOfRoom r = (r.answer.number ≡ no_room) ⊎ (r.answer.number ≡ lent_short)

abbrev pub Agreeing : Returned → Returned → Type 0
Agreeing r r' = OutOfRoom r ⊎ (OutOfRoom r' ⊎ SameReturned r r')

-- whatever is lent to the two calls, and whatever they return that the contract allows
abbrev pub Demanded : Acceptance → Type 0
Demanded OthersAccepted =
    (asked : Names.Name) (texts texts' : Texts) (ms ms' : List Module) → Comparable OthersAccepted asked texts texts' ms ms'
    → (memory memory' output output' : List ℕ) (r r' : Returned) → r ≡ told_call (call memory output asked texts)
    → r' ≡ told_call (call memory' output' asked texts') → Agreeing r r'

module _ (asked : Names.Name) (texts texts' : Texts) (memory memory' output output' : List ℕ) (r r' : Returned) (e : r ≡ told_call (call memory output asked texts))
    (e' : r' ≡ told_call (call memory' output' asked texts')) where
  same_told : SameAnswer (answer (length memory) (length output) asked texts) (answer (length memory') (length output') asked texts') → SameReturned r r'
  unfolding told
  same_told s =
      let here = answer_told memory output asked texts r e in
      let there = answer_told memory' output' asked texts' r' e' in
      record {
        number = ap (λ (x : Answer). x.number) here ∙ s.number ∙ sym (ap (λ (x : Answer). x.number) there);
        modules = ap (λ (x : Answer). x.modules) here ∙ s.modules ∙ sym (ap (λ (x : Answer). x.modules) there);
        evaluating =
            ap (λ (x : Answer). x.evaluating) here
            ∙ ap (λ (m : Names.Name). held (short_or_blank m)) s.evaluating
            ∙ sym (ap (λ (x : Answer). x.evaluating) there);
        culprit =
            ap (λ (x : Answer). x.culprit) here
            ∙ ap (λ (c : Culprit). held c.name) s.culprit
            ∙ sym (ap (λ (x : Answer). x.culprit) there);
        actual =
            ap (λ (x : Answer). x.actual) here
            ∙ ap (λ (c : Culprit). held c.actual) s.culprit
            ∙ sym (ap (λ (x : Answer). x.actual) there);
        at = ap (λ (x : Answer). x.at) here ∙ s.at ∙ sym (ap (λ (x : Answer). x.at) there);
        in_library =
            ap (λ (x : Answer). x.in_library) here ∙ s.in_library ∙ sym (ap (λ (x : Answer). x.in_library) there);
        visible_lines =
            ap visible_part (listing_told memory output asked texts r e)
            ∙ s.visible_lines
            ∙ sym (ap visible_part (listing_told memory' output' asked texts' r' e'));
      }

short_told : (asked : Names.Name) (texts : Texts) (memory output : List ℕ) (r : Returned) → r ≡ told_call (call memory output asked texts)
    → let a = answer (length memory) (length output) asked texts in (a.number ≡ no_room) ⊎ (a.number ≡ lent_short) → OutOfRoom r
short_told asked texts memory output r e h =
    let number = number_told memory output asked texts r e in
    ⊎_elim (λ q. inl (number ∙ q)) (λ q. inr (number ∙ q)) h

demanded : (OthersAccepted : Acceptance) → Demand3 OthersAccepted → Demanded OthersAccepted
demanded OthersAccepted d asked texts texts' ms ms' c memory memory' output output' r r' e e' =
    ⊎_elim (λ h. inl (short_told asked texts memory output r e h))
    (λ h. inr (⊎_elim (λ k. inl (short_told asked texts' memory' output' r' e' k))
    (λ k. inr (same_told asked texts texts' memory memory' output output' r r' e e' k)) h))
    (d asked texts texts' ms ms' c (length memory) (length memory') (length output) (length output'))

-- both readings of "accepted"
pub demanded_in_the_call : Demanded InTheCall
demanded_in_the_call = demanded InTheCall demand_3

pub demanded_alone : Demanded ByItself
demanded_alone = demanded ByItself demand_3_alone
