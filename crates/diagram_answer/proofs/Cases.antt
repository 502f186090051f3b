-- One law for each way through the code.
use mathlib.Core.Path.{◌≡◌, sym, ◌∙◌}
use mathlib.Core.List.{List, []}
use Prim.Native.Nat.{ℕ}
use borrow.Author.Rules.{rules}
use Rattle.meaning.specs.Numbers.{no_room}
use Rattle.meaning.specs.Checks.{lone}
use Rattle.meaning.specs.Reached.{short_or_blank}
use Rattle.meaning.specs.Answer.{refusal}
use Rattle.answer.specs.declared.Name.{Name}
use Rattle.answer.specs.Answers.{held, told}
use Rattle.answer.specs.Told.{refusal_held, refusal_told}

pub is_over : (asked : List ℕ) (evaluating none : Name) → evaluating ≡ held (short_or_blank asked) → none ≡ held []
    → refusal_held 18 0 evaluating none none 0 ≡ told (refusal no_room 0 asked (lone []) 0)
is_over asked evaluating none e f =
    (λ i. refusal_held 18 0 (e i) (f i) (f i) 0) ∙ sym (refusal_told no_room 0 asked (lone []) 0)

pub ruleset cases = (is_over, rules)
