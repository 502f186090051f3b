-- What a caller may rely on, whatever the contract's result is: there is one, it has document 01's values and never the number 20, the listing is
-- at the front of the output, a refusal leaves the output, and the memory is zero.
use Rattle.std.specs.Prelude.{◌≡◌, ℕ, ◌≤◌, Bool, List, leb}
use Rattle.std.proofs.Math.Path.{sym, ap}
use Rattle.std.proofs.Common.{◌∙◌, arith, leb-true, leb-false}
use Rattle.std.proofs.Math.Logic.{⊎_elim}
use Rattle.std.proofs.Math.ListN.{length, take}
use Rattle.std.proofs.Math.Seq.{take-append_seam}
use Rattle.meaning.specs.Laws.{by_cases}
use Rattle.meaning.specs.Lists.{pick}
use Rattle.meaning.specs.Names as Names
use Rattle.meaning.specs.Numbers.{name_size}
use Rattle.meaning.specs.Checks.{Culprit}
use Rattle.meaning.specs.Reached.{short_or_blank}
use Rattle.meaning.specs.Texts.{Texts}
use Rattle.meaning.specs.Answer as Meaning
use Rattle.meaning.specs.Answer.{answer, output_after, memory_after}
use Rattle.meaning.specs.Contract.{call}
use Rattle.meaning.specs.Contract as Contract
use Rattle.promises.specs.Given.{in_cycle}
use Rattle.promises.specs.NoCycle.{never_in_cycle}
use Rattle.answer.specs.declared.Name.{Name}
use Rattle.answer.specs.declared.Answer.{Answer}
use Rattle.answer.specs.Answers.{held, told, Returned, told_call}
use Rattle.answer.specs.Told.{short_name}
use Rattle.asf.specs.ReadNames.{answer_named, named_by_number, answer_long}

-- ---- document 01's five values, the culprit with the actual name, and the mark of the place

pub record Values : Type 0 where
  pub number : ℕ
  pub modules : ℕ
  pub evaluating : Names.Name
  pub culprit : Culprit
  pub at : ℕ
  pub in_library : Bool

abbrev pub meant_values : Meaning.Answer → Values
meant_values a = record { number = a.number; modules = a.modules; evaluating = a.evaluating; culprit = a.culprit; at = a.at; in_library = a.in_library }

-- a name that is held
abbrev pub named : Name → Names.Name
named n = take n.length n.bytes

-- the module by the asked name: the one that is held; but where the asked name has more than 40 bytes, and so is no module's, the number tells it
unfoldable pub module_told : Names.Name → Answer → Names.Name
module_told asked r = pick (leb (length asked) name_size) (named r.evaluating) (named_by_number asked r.number)

abbrev pub values : Names.Name → Answer → Values
values asked r = record {
  number = r.number;
  modules = r.modules;
  evaluating = module_told asked r;
  culprit = record { name = named r.culprit; actual = named r.actual };
  at = r.at;
  in_library = r.in_library;
}

named_held : (n : Names.Name) → named (held n) ≡ n
unfolding held
named_held n = take-append_seam n _

-- ---- a call's result r

module _ (memory output : List ℕ) (asked : Names.Name) (texts : Texts) (r : Returned) (e : r ≡ told_call (call memory output asked texts)) where
  abbrev a : Meaning.Answer
  a = answer (length memory) (length output) asked texts

  pub coincide : (r' : Returned) → r' ≡ told_call (call memory output asked texts) → r ≡ r'
  coincide r' e' = e ∙ sym e'

  pub answer_told : r.answer ≡ told a
  unfolding told_call call
  answer_told = ap (λ (x : Returned). x.answer) e

  pub number_told : r.answer.number ≡ a.number
  unfolding told
  number_told = ap (λ (x : Answer). x.number) answer_told

  -- 20 is given no more
  pub never_twenty : r.answer.number ≡ in_cycle → ⊥
  never_twenty h = never_in_cycle (length memory) (length output) asked texts (sym number_told ∙ h)

  -- a name of at most 40 bytes is held
  module_held : length asked ≤ name_size → named (told a).evaluating ≡ a.evaluating
  unfolding told
  module_held h =
      let short = ⊎_elim (λ l. l) (λ (q : a.evaluating ≡ asked). omega (arith, ap length q, h)) (answer_named (length memory) (length output) asked texts) in
      named_held (short_or_blank a.evaluating) ∙ short_name a.evaluating short

  module_so : module_told asked (told a) ≡ a.evaluating
  unfolding module_told told
  module_so =
      by_cases (λ (m : Names.Name). m ≡ a.evaluating) _ _ _ (λ e. module_held (leb-true (length asked) name_size e))
      (λ e. sym (answer_long (length memory) (length output) asked texts (leb-false (length asked) name_size e)))

  -- the five values, from the answer and the asked name
  pub values_told : values asked r.answer ≡ meant_values a
  unfolding told
  values_told =
      ap (values asked) answer_told
      ∙ (λ i. record {
        number = a.number;
        modules = a.modules;
        evaluating = module_so i;
        culprit = record { name = named_held a.culprit.name i; actual = named_held a.culprit.actual i };
        at = a.at;
        in_library = a.in_library;
      })

  -- ---- the lent slices

  -- the listing is at the front of the output
  pub listing_told : take r.answer.listing r.output ≡ Meaning.listing a
  unfolding told_call call told output_after
  listing_told = ap (λ (x : Returned). take x.answer.listing x.output) e ∙ take-append_seam (Meaning.listing a) _

  pub refused_unchanged : (r.answer.number ≡ 0 → ⊥) → r.output ≡ output
  unfolding told_call call
  refused_unchanged h =
      ap (λ (x : Returned). x.output) e ∙ Contract.refused_unchanged memory output asked texts (λ q. h (number_told ∙ q))

  pub same_length : length r.output ≡ length output
  unfolding told_call call
  same_length = ap (λ (x : Returned). length x.output) e ∙ Contract.same_length memory output asked texts

  pub memory_zero : r.memory ≡ memory_after memory
  unfolding told_call call
  memory_zero = ap (λ (x : Returned). x.memory) e
