-- What a call for a diagram answers to what was read, with the output as it is then; and what stands in memory before each step.
use Rattle.std.specs.Prelude.{◌≡◌, ℕ, ◌≤◌, List, length}
use Rattle.std.proofs.Common.{sym, ◌∙◌}
use Rattle.meaning.specs.Lists.{before}
use Rattle.meaning.specs.Names.{Name, same}
use Rattle.meaning.specs.Numbers.{memory_size}
use Rattle.meaning.specs.Texts.{Texts, two_texts, Reading, all_read, read_texts}
use Rattle.meaning.specs.Reached.{module_names}
use Rattle.meaning.specs.Answer.{within, output_after}
use Rattle.text_names.specs.Joint.{joint}
use Rattle.form.specs.Memory.{part}
use Rattle.modules.specs.Modules.{Heads}
use Rattle.answer.specs.declared.Answer.{Answer}
use Rattle.answer.specs.Answers.{told, Returned, told_call}
use Rattle.ask_names.specs.Steps.{Spoken}
use Rattle.diagram_meaning.specs.Answer.{of_drawing, diagram_call}
use Rattle.diagram_open.specs.Turns.{Starting, read_modules}

-- the answer to one who asked, where there is enough memory; the output o became o'
pub record Drawn (asked : Name) (x : Reading) (o : List ℕ) (r : Answer) (o' : List ℕ) : Type 0 where
  pub answer : r ≡ told (within (length o) asked (of_drawing asked x))
  pub output : o' ≡ output_after (within (length o) asked (of_drawing asked x)) o

-- the t entries in front of the memory say what was read
pub record Ready (library text : List ℕ) (t : ℕ) (w : List ℕ) : Type 0 where
  pub size : memory_size ≤ length w
  pub spoken : Spoken (read_texts (two_texts library text)) (joint library text) (part w 0 t)
  pub short : t ≤ 65536

-- number k is the asked module
pub record Asked (asked library text : List ℕ) (h : Heads) (t base : ℕ) (w : List ℕ) (k : ℕ) : Type 0 where
  pub starting : Starting (joint library text) (read_modules library text) h t base w k
  pub read_so : read_texts (two_texts library text) ≡ all_read (read_modules library text)
  pub number : k ≡ before (same asked) (module_names (read_modules library text))

-- two results that the contract allows coincide
pub diagram_coincide : (memory output : List ℕ) (asked : Name) (t : Texts) (r r' : Returned) → r ≡ told_call (diagram_call memory output asked t)
    → r' ≡ told_call (diagram_call memory output asked t) → r ≡ r'
diagram_coincide memory output asked t r r' e e' = e ∙ sym e'
