-- One law for each way through the code; those of the lines are in diagram_lent/specs/Lent.antt.
use mathlib.Core.Path.{◌≡◌, refl, ap₂, ◌∙◌}
use mathlib.Core.List.{List, [], ◌++◌}
use Prim.Native.Nat.{ℕ, ◌-◌, ◌<◌, ◌≤◌}
use native.Mathlib.Omega.{arith}
use borrow.Author.Rules.{rules}
use borrow.Author.Tests.{lt-ltb, le-ltb}
use lib.ListN.{length, drop}
use Rattle.std.specs.Prelude.{Ok, Err}
use Rattle.meaning.specs.Lists.{pick, each}
use Rattle.meaning.specs.Numbers.{memory_size, lent_short}
use Rattle.meaning.specs.Checks.{lone}
use Rattle.meaning.specs.Listing.{lines_text}
use Rattle.meaning.specs.Texts.{Texts, two_texts, read_texts}
use Rattle.meaning.specs.Answer.{refusal, unread, output_after, memory_after}
use Rattle.form_layout.specs.Layout.{tape_end}
use Rattle.read_both.specs.declared.NotRead.{NotRead}
use Rattle.read_both.specs.Both as TwoTexts
use Rattle.read_both.specs.Both.{Both}
use Rattle.memory.proofs.Cases.{same_zeros}
use Rattle.answer.specs.declared.Answer.{Answer}
use Rattle.answer.specs.Answers.{told, returned, told_call}
use Rattle.ask_names.specs.Lying.{refused_so, first_end, first_room, first_size, first_short, first_within, first_spoken}
use Rattle.diagram_meaning.specs.Answer.{diagram_answer, diagram_call}
use Rattle.diagram_meaning.specs.Calls.{call_by}
use Rattle.diagram_lent.specs.Drawn.{Drawn, Ready}
use Rattle.diagram_lent.specs.Lent.{asked_starting, asked_within, counted_starting, counted_within, answer_over, answer_long, answer_done, ready_within, ready_small, absent_drawn, asked_there, unread_drawn}

-- ---- the whole call

module _ (w o : List ℕ) (size : ℕ) (e : size ≡ memory_size) (asked : List ℕ) (t : Texts) (r : Answer) where
  pub call_short : (w' : List ℕ) → length w < size → w' ≡ memory_after w → r ≡ told (refusal lent_short 0 asked (lone []) 0)
      → returned r o w' ≡ told_call (diagram_call w o asked t)
  unfolding returned told_call call_by diagram_answer refusal output_after lines_text each pick
  call_short w' l z q = rw (lt-ltb (length w) memory_size (omega (arith, e, l))) (ap₂ (λ (a : Answer) (m : List ℕ). returned a o m) q z)

  pub call_whole : (o' w₁ w₂ : List ℕ) → size ≤ length w → Drawn asked (read_texts t) o r o' → length w₁ ≡ length w → w₂ ≡ memory_after w₁
      → returned r o' w₂ ≡ told_call (diagram_call w o asked t)
  unfolding returned told_call call_by diagram_answer pick
  call_whole o' w₁ w₂ l d s z =
      rw (le-ltb (length w) memory_size (omega (arith, e, l)), d.answer, d.output, z ∙ same_zeros w₁ w s) refl

pub ruleset calling = (call_short, call_whole, rules)

-- ---- reading

module _ (w : List ℕ) (end : ℕ) (there : memory_size ≤ length w) (last : end ≡ tape_end) (library text : List ℕ) (q : Both) (read : List ℕ) (e : TwoTexts.Told library text read q) where
  pub read_ready : (t : ℕ) → q ≡ Ok t → Ready library text t (read ++ drop (end - 0) (drop 0 w))
  unfolding tape_end
  read_ready t d = record {
    size = first_size w end there last library text q read e t d;
    spoken = first_spoken w end there last library text q read e t d;
    short = first_short w end there last library text q read e t d;
  }

module _ (library text : List ℕ) (q : Both) (read : List ℕ) (e : TwoTexts.Told library text read q) where
  pub read_refused : (asked o : List ℕ) (r : Answer) (m : NotRead) → q ≡ Err m
      → r ≡ told (unread m.in_library m.number m.place) → Drawn asked (read_texts (two_texts library text)) o r o
  read_refused asked o r m d z =
      unread_drawn asked library text o r m.in_library m.number m.place (refused_so library text q read e m d) z

pub ruleset reading = (first_end, first_room, read_ready, read_refused, rules)

pub fits_word : (t n : ℕ) → t ≤ 65536 → n ≡ 4294967295 → t ≤ n
fits_word t n h e = omega (arith, h, e)

pub end_small : (base : ℕ) → base ≡ tape_end → base ≤ 65536
unfolding tape_end
end_small base e = omega (arith, e)

pub ruleset seeking = (ready_within, ready_small, absent_drawn, asked_there, end_small, rules)

pub ruleset drawing = (asked_starting, asked_within, counted_starting, counted_within, answer_over, answer_long, answer_done, rules)

pub ruleset cases = (rules)
