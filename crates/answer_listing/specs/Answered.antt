-- What a call answers to what was read, with the output as it is then; and what stands in memory once the asked module is evaluated.
use Rattle.std.specs.Prelude.{◌≡◌, ℕ, ◌≤◌, List, length}
use Rattle.meaning.specs.Names.{Name}
use Rattle.meaning.specs.Texts.{Reading}
use Rattle.meaning.specs.Normal.{Normal}
use Rattle.meaning.specs.Reached.{normalised}
use Rattle.meaning.specs.Answer.{of_ended, of_read, within, output_after}
use Rattle.text_names.specs.Word.{name_of}
use Rattle.invariants.specs.HiddenItems.{HiddenSound}
use Rattle.form_keeping.specs.Environment.{LastStands}
use Rattle.answer.specs.declared.Answer.{Answer}
use Rattle.answer.specs.Answers.{told}

-- the answer to one who asked, where there is enough memory; the output o became o'
pub record Answered (asked : Name) (x : Reading) (o : List ℕ) (r : Answer) (o' : List ℕ) : Type 0 where
  pub answer : r ≡ told (within (length o) asked (of_read asked x))
  pub output : o' ≡ output_after (within (length o) asked (of_read asked x)) o

-- `count` modules were evaluated, and the form kept for number `last` stands for the asked one's normal form
pub record Evaluated (asked : List ℕ) (x : Reading) (text : List ℕ) (t : ℕ) (w : List ℕ) (name count last : ℕ) : Type 0 where
  pub tape : t ≤ length w
  pub normal : Normal
  pub stands : LastStands text t w last normal
  pub sound : HiddenSound normal
  pub called : name_of text name ≡ asked
  pub ended : of_read asked x ≡ of_ended asked (normalised count normal)
