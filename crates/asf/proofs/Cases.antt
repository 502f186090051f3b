-- One law for each way through the code.
use Rattle.std.specs.Prelude.{Result, Ok, Err}
use mathlib.Core.Path.{◌≡◌, sym, ap, subst, ◌∙◌}
use Prim.Native.Nat.{ℕ, ◌<◌, ◌≤◌}
use native.Mathlib.Omega.{arith}
use mathlib.Core.Bool.{Bool}
use mathlib.Core.List.{List, []}
use mir.Syntax.{w32}
use mir.Val.{Fits}
use borrow.Author.Tests.{lt-ltb, le-ltb}
use lib.ListN.{length}
use Rattle.meaning.specs.Lists.{pick}
use Rattle.meaning.specs.Names.{Name}
use Rattle.meaning.specs.Numbers.{memory_size, asked_absent, lent_short}
use Rattle.meaning.specs.Checks as Checks
use Rattle.meaning.specs.Checks.{lone}
use Rattle.meaning.specs.Reached.{short_or_blank}
use Rattle.meaning.specs.Answer as Meaning
use Rattle.meaning.specs.Answer.{refusal, unread, of_read, within, answer, output_after, memory_after}
use Rattle.meaning.specs.Texts.{Texts, Reading, two_texts, read_texts}
use Rattle.meaning.specs.Contract.{call}
use Rattle.text_names.specs.Word.{name_of}
use Rattle.text_names.specs.Joint.{joint}
use Rattle.memory.proofs.Cases.{same_zeros}
use Rattle.read_both.specs.declared.NotRead.{NotRead}
use Rattle.evaluate_turns.specs.declared.RefusedAt.{RefusedAt}
use Rattle.form.specs.Verdicts.{culprit_of}
use Rattle.evaluate_turns.specs.Turns.{Given}
use Rattle.form_layout.specs.Layout.{tape_end}
use Rattle.modules.specs.Modules.{Heads}
use Rattle.answer.specs.declared.Answer.{Answer}
use Rattle.answer.specs.Answers.{told, returned, told_call}
use Rattle.answer.specs.Told.{refusal_within, refusal_leaves, unread_within, unread_leaves}
use Rattle.answer_listing.specs.Answered.{Answered, Evaluated}
use Rattle.asf.specs.declared.Sought.{Sought}
use Rattle.asf.specs.declared.Unlisted.{Unlisted}
use Rattle.asf.specs.declared.Unlisted.TheVariants.{Short, Unread, Absent, Refused}
use Rattle.asf.specs.Steps.{Spoken, Refusing, Holding, SoughtAs}
use Rattle.asf.specs.Meant.{tape_small}

-- ---- what is sought

pub tape_fits : (x : Reading) (text : List ℕ) (t : ℕ) (w : List ℕ) → Spoken x text t w → Fits w32 t
tape_fits x text t w s = omega (arith, tape_small x text t w s)

pub given_within : (text : List ℕ) (t : ℕ) (w : List ℕ) (h : Heads) → Given text t w h → t ≤ length w
unfolding memory_size tape_end
given_within text t w h g = omega (arith, g.size, g.tape)

-- ---- what is answered to it

module _ (asked : Name) (t : Texts) (w o : List ℕ) (r : Answer) where
  memory_short : length w < memory_size → r ≡ told (refusal lent_short 0 asked (lone []) 0)
      → returned r o (memory_after w) ≡ told_call (call w o asked t)
  unfolding returned told_call call answer pick
  memory_short l q =
      let short = lt-ltb (length w) memory_size l in
      rw short
      (λ i. record { answer = q i; output = sym (refusal_leaves lent_short 0 asked (lone []) 0 o) i; memory = memory_after w })

  call_answered : (o' : List ℕ) → memory_size ≤ length w → Answered asked (read_texts t) o r o'
      → returned r o' (memory_after w) ≡ told_call (call w o asked t)
  unfolding returned told_call call answer pick
  call_answered o' l a =
      let there = le-ltb (length w) memory_size l in
      rw there
      (λ i. record { answer = a.answer i; output = a.output i; memory = memory_after w })

  -- what needs no room, and leaves the output
  refusal_answered : (a : Meaning.Answer) → within (length o) asked a ≡ a → output_after a o ≡ o → Refusing asked (read_texts t) w a → r ≡ told a
      → returned r o (memory_after w) ≡ told_call (call w o asked t)
  refusal_answered a bare leaves s q =
      let whole : within (length o) asked (of_read asked (read_texts t)) ≡ a = ap (within (length o) asked) s.so ∙ bare in
      call_answered o s.size
      (record { answer = q ∙ ap told (sym whole); output = sym (ap (λ (b : Meaning.Answer). output_after b o) whole ∙ leaves) })

module _ (asked : Name) (library text w : List ℕ) (what : Result Sought Unlisted) (so : SoughtAs asked (read_texts (two_texts library text)) (joint library text) w what) where
  abbrev x : Reading
  x = read_texts (two_texts library text)

  abbrev As : Result Sought Unlisted → Type 0
  As = SoughtAs asked x (joint library text) w

  pub form_held : (s : Sought) → what ≡ Ok s → Evaluated asked x (joint library text) s.t w s.name s.count s.last
  form_held s d = let held : Holding asked x (joint library text) w s.t s.name s.count s.last = subst As d so in held.form

  module _ (o : List ℕ) (r : Answer) where
    abbrev Gives : List ℕ → Type 0
    Gives o' = returned r o' (memory_after w) ≡ told_call (call w o asked (two_texts library text))

    pub short_answered : what ≡ Err Short → r ≡ told (refusal lent_short 0 asked (lone []) 0) → Gives o
    short_answered d q = memory_short asked (two_texts library text) w o r (subst As d so) q

    pub unread_answered : (e : NotRead) → what ≡ Err (Unread e) → r ≡ told (unread e.in_library e.number e.place) → Gives o
    unread_answered e d q =
        refusal_answered asked (two_texts library text) w o r (unread e.in_library e.number e.place)
        (unread_within (length o) asked e.in_library e.number e.place) (unread_leaves e.in_library e.number e.place o) (subst As d so) q

    refusal_given : (number count : ℕ) (m : Name) (c : Checks.Culprit) → Refusing asked x w (refusal number count m c 0)
        → r ≡ told (refusal number count m c 0) → Gives o
    refusal_given number count m c =
        refusal_answered asked (two_texts library text) w o r (refusal number count m c 0) (refusal_within (length o) asked number count m c 0)
        (refusal_leaves number count m c 0 o)

    pub absent_answered : what ≡ Err Absent → r ≡ told (refusal asked_absent 0 asked (lone (short_or_blank asked)) 0) → Gives o
    absent_answered d = refusal_given asked_absent 0 asked (lone (short_or_blank asked)) (subst As d so)

    pub refused_answered : (e : RefusedAt) → what ≡ Err (Refused e)
        → r ≡ told (refusal e.refusal.number e.count (name_of (joint library text) e.name) (culprit_of (joint library text) e.refusal.culprit) 0)
        → Gives o
    refused_answered e d =
        refusal_given e.refusal.number e.count (name_of (joint library text) e.name) (culprit_of (joint library text) e.refusal.culprit) (subst As d so)

    pub form_answered : (o' : List ℕ) (s : Sought) → what ≡ Ok s → Answered asked x o r o' → Gives o'
    form_answered o' s d a =
        let held : Holding asked x (joint library text) w s.t s.name s.count s.last = subst As d so in
        call_answered asked (two_texts library text) w o r o' held.size a

-- the memory was of the same length before
pub call_over : (asked : Name) (t : Texts) (w o : List ℕ) (r : Answer) (o' w₁ w₂ : List ℕ)
    → returned r o' (memory_after w₁) ≡ told_call (call w₁ o asked t) → length w₁ ≡ length w → w₂ ≡ memory_after w₁
    → returned r o' w₂ ≡ told_call (call w o asked t)
unfolding returned told_call call
call_over asked t w o r o' w₁ w₂ e s z =
    ap (returned r o') z ∙ e
    ∙ (λ i. record {
      answer = told (answer (s i) (length o) asked t);
      output = output_after (answer (s i) (length o) asked t) o;
      memory = same_zeros w₁ w s i;
    })
