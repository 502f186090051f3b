-- The answer as the code has it, and document 01's number and values for it (meaning/specs/Answer.antt).
use Rattle.std.specs.Prelude.{ℕ, ◌-◌, false, List, [], ◌++◌, length, replicate}
use Rattle.meaning.specs.Names as Names
use Rattle.meaning.specs.Numbers.{accepted}
use Rattle.meaning.specs.Reached.{short_or_blank}
use Rattle.meaning.specs.Answer as Meaning
use Rattle.meaning.specs.Contract.{Call}
use Rattle.answer.specs.declared.Name.{Name}
use Rattle.answer.specs.declared.Answer.{Answer}

-- the most bytes that a name has which is told: an operator's token, and two underlines
abbrev pub told_size : ℕ
told_size = 42

-- a name of at most so many, and zeros behind it
unfoldable pub held : Names.Name → Name
held n = record { bytes = n ++ replicate (told_size - length n) 0; length = length n }

-- what the code has of an answer. For 6 and 19 the module is the asked one, which may have more than 40 bytes: it is blank then, and the
-- caller has it. Every other module has at most 40, and either name of a culprit at most 42
unfoldable pub told : Meaning.Answer → Answer
told a = record {
  number = a.number;
  modules = a.modules;
  evaluating = held (short_or_blank a.evaluating);
  culprit = held a.culprit.name;
  actual = held a.culprit.actual;
  at = a.at;
  in_library = a.in_library;
  listing = length (Meaning.listing a);
}

-- the same of an answer with a listing of so many bytes
unfoldable pub told_listed : ℕ → ℕ → Answer
told_listed modules size = record {
  number = accepted;
  modules = modules;
  evaluating = held [];
  culprit = held [];
  actual = held [];
  at = 0;
  in_library = false;
  listing = size;
}

-- what a call gives: the answer, and the lent slices afterwards
pub record Returned : Type 0 where
  pub answer : Answer
  pub output : List ℕ
  pub memory : List ℕ

unfoldable pub returned : Answer → List ℕ → List ℕ → Returned
returned r output memory = record { answer = r; output = output; memory = memory }

unfoldable pub told_call : Call → Returned
told_call c = record { answer = told c.answer; output = c.output; memory = c.memory }
