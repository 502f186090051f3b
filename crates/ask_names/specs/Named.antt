-- A module's name by its number, as the code has it, and the meaning's (ask_decision/specs/Decide.antt).
use Rattle.std.specs.Prelude.{◌≡◌, ℕ, List, [], ltb, length}
use Rattle.meaning.specs.Lists.{pick}
use Rattle.meaning.specs.Numbers.{memory_size}
use Rattle.meaning.specs.Answer.{memory_after}
use Rattle.meaning.specs.Texts.{Texts}
use Rattle.answer.specs.declared.Name.{Name}
use Rattle.answer.specs.Answers.{held}
use Rattle.ask_decision.specs.Decide.{module_called}

-- the name of module k, in 42 bytes; blank where too little working memory is lent
unfoldable pub name_told : List ℕ → Texts → ℕ → Name
name_told memory t k = held (pick (ltb (length memory) memory_size) [] (module_called t k))

pub record Named (r : Name) (memory' memory : List ℕ) (t : Texts) (k : ℕ) : Type 0 where
  pub name_so : r ≡ name_told memory t k
  pub memory_so : memory' ≡ memory_after memory
