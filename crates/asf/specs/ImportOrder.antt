-- Request Eleven for the code: two calls that lend the same, on texts that are the same but for the order of import expressions and for how often each
-- is written, return 0 both or neither, after as many modules; the output and the memory are the same afterwards.
use Rattle.std.specs.Prelude.{◌≡◌, ℕ, List, length}
use Rattle.std.proofs.Common.{sym, ap, subst}
use Rattle.meaning.specs.Names as Names
use Rattle.meaning.specs.Reached.{short_or_blank}
use Rattle.meaning.specs.Syntax.{Module}
use Rattle.meaning.specs.Texts.{Texts}
use Rattle.meaning.specs.Contract.{Call, call}
use Rattle.promises_import_order.specs.ImportOrder.{Reordered, BothOrNeither, SameCall}
use Rattle.promises_import_order.proofs.ImportOrder.{import_order_call}
use Rattle.answer.specs.Answers.{held, told, Returned, told_call}

-- whether it is accepted, the count, the module where it is refused, the listing's length, and the lent slices afterwards
pub record SameReturned (r r' : Returned) : Type 0 where
  pub both : BothOrNeither r.answer.number r'.answer.number
  pub modules : r.answer.modules ≡ r'.answer.modules
  pub evaluating : r.answer.evaluating ≡ r'.answer.evaluating
  pub listing : r.answer.listing ≡ r'.answer.listing
  pub output : r.output ≡ r'.output
  pub memory : r.memory ≡ r'.memory

told_alike : (c c' : Call) → SameCall c c' → SameReturned (told_call c) (told_call c')
unfolding told_call told
told_alike c c' s = record {
  both = s.outcome.both;
  modules = s.outcome.modules;
  evaluating = ap (λ (w : Names.Name). held (short_or_blank w)) s.outcome.evaluating;
  listing = ap (λ (bs : List ℕ). length bs) s.outcome.listings;
  output = s.output;
  memory = s.memory;
}

-- whatever is lent to both, and whatever they return that the contract allows
pub reordered_in_the_call : (texts texts' : Texts) (ms ms' : List Module) → Reordered texts texts' ms ms' → (asked : Names.Name) (memory output : List ℕ)
    → (r r' : Returned) → r ≡ told_call (call memory output asked texts) → r' ≡ told_call (call memory output asked texts') → SameReturned r r'
reordered_in_the_call texts texts' ms ms' h asked memory output r r' e e' =
    subst (λ (x : Returned). SameReturned x r') (sym e)
    (subst (SameReturned (told_call (call memory output asked texts))) (sym e')
    (told_alike _ _ (import_order_call texts texts' ms ms' h asked memory output)))
