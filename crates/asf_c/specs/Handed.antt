-- What a caller in C is handed of a call: the values and names of an answer, laid over what is lent for them. What has no room is left out.
use Rattle.std.specs.Prelude.{◌≡◌, ℕ, List}
use Rattle.std.proofs.Common.{sym, ◌∙◌}
use Rattle.values_c.specs.Values.{laid}
use Rattle.answer.specs.Answers.{Returned}
use Rattle.answer_values.specs.Laid.{answer_values, names_laid}

-- what a call gives: the number, and the lent slices afterwards
pub record Handed : Type 0 where
  pub number : ℕ
  pub output : List ℕ
  pub memory : List ℕ
  pub values : List ℕ
  pub names : List ℕ

unfoldable pub handed : ℕ → (output memory values names : List ℕ) → Handed
handed number output memory values names = record { number = number; output = output; memory = memory; values = values; names = names }

-- what is handed of a call's answer and slices, over the values and names that were lent
unfoldable pub handed_call : Returned → (values names : List ℕ) → Handed
handed_call c values names = record {
  number = c.answer.number;
  output = c.output;
  memory = c.memory;
  values = laid 0 (answer_values c.answer) values;
  names = names_laid c.answer.evaluating c.answer.culprit c.answer.actual names;
}

-- two results that the contract allows coincide
pub handed_coincide : (c : Returned) (values names : List ℕ) (h g : Handed) → h ≡ handed_call c values names → g ≡ handed_call c values names → h ≡ g
handed_coincide c values names h g e k = e ∙ sym k
