-- What a caller in C is handed of a decision and of a module's name: values and names laid over what is lent for them. What has no room is left out.
use Rattle.std.specs.Prelude.{◌≡◌, ℕ, ◌+◌, List, length}
use Rattle.std.proofs.Common.{sym, ap, ◌∙◌}
use Rattle.meaning.specs.Answer.{memory_after}
use Rattle.meaning.specs.Texts.{Texts}
use Rattle.values_c.specs.Values.{laid}
use Rattle.list_pen.specs.Pen.{pen, written}
use Rattle.answer.specs.declared.Name.{Name}
use Rattle.ask_decision.specs.Decide.{Deciding}
use Rattle.ask_names.specs.Named.{name_told}
use Rattle.ask.specs.declared.Decision.{Decision}
use Rattle.ask.specs.Decided.{Decided, decided_coincide}
use Rattle.ask_values.specs.Laid.{decision_values, names_laid}

-- a name in 42 bytes
unfoldable pub name_laid : Name → List ℕ → List ℕ
name_laid n names = (written (length names + 1) n.bytes (pen 0 names)).out

-- the answer and the slices after a call, over the values and names that were lent
pub record DecisionHanded (answer : ℕ) (memory values names lent_values lent_names : List ℕ) (d : Deciding) : Type 0 where
  pub decision : Decision
  pub decided : Decided decision memory d
  pub answer_so : answer ≡ decision.answer
  pub values_so : values ≡ laid 0 (decision_values decision) lent_values
  pub names_so : names ≡ names_laid decision.by decision.name lent_names

-- two results that the contract allows coincide
pub record Alike (answer answer' : ℕ) (memory memory' values values' names names' : List ℕ) : Type 0 where
  pub answers : answer ≡ answer'
  pub memories : memory ≡ memory'
  pub all_values : values ≡ values'
  pub all_names : names ≡ names'

pub handed_coincide : (answer answer' : ℕ) (memory memory' values values' names names' lent_values lent_names : List ℕ) (d : Deciding)
    → DecisionHanded answer memory values names lent_values lent_names d → DecisionHanded answer' memory' values' names' lent_values lent_names d
    → Alike answer answer' memory memory' values values' names names'
handed_coincide answer answer' memory memory' values values' names names' lent_values lent_names d h g =
    let same = decided_coincide h.decision g.decision memory memory' d h.decided g.decided in
    record {
      answers = h.answer_so ∙ ap (λ (r : Decision). r.answer) same.0 ∙ sym g.answer_so;
      memories = same.1;
      all_values = h.values_so ∙ ap (λ (r : Decision). laid 0 (decision_values r) lent_values) same.0 ∙ sym g.values_so;
      all_names = h.names_so ∙ ap (λ (r : Decision). names_laid r.by r.name lent_names) same.0 ∙ sym g.names_so;
    }

-- the name's length and the slices after a call, over the memory and the names that were lent
pub record NameHanded (size : ℕ) (memory names lent_memory lent_names : List ℕ) (t : Texts) (k : ℕ) : Type 0 where
  pub size_so : size ≡ (name_told lent_memory t k).length
  pub memory_so : memory ≡ memory_after lent_memory
  pub names_so : names ≡ name_laid (name_told lent_memory t k) lent_names
