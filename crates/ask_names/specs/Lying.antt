-- A tape at the front of a memory, the first of two where another lies behind it: what is read there is a tape of its own.
use Rattle.std.specs.Prelude.{◌≡◌, ℕ, Ok, Err, ◌-◌, ◌≤◌, List, [], ◌++◌, map, length, take, drop}
use Rattle.std.proofs.Common.{ap, subst, ◌∙◌, arith, take-take}
use Rattle.std.proofs.Math.ListN.{length-append, length-drop}
use Rattle.std.proofs.Math.Seq.{length-take-le}
use Rattle.std.proofs.lemmas.List.{take-append-le}
use Rattle.meaning.specs.Numbers.{memory_size}
use Rattle.laws.specs.Distinct.{read_fresh}
use Rattle.meaning.specs.Texts.{two_texts, refused_in, read_texts}
use Rattle.text_names.specs.Joint.{joint}
use Rattle.tape.specs.Tape.{spelled, entries}
use Rattle.invariants.specs.Limits.{modules_few}
use Rattle.form.specs.Memory.{part}
use Rattle.form_layout.specs.Layout.{tape_end}
use Rattle.read_both.specs.declared.NotRead.{NotRead}
use Rattle.read_both.specs.Both as TwoTexts
use Rattle.read_both.specs.Both.{Both, Said}
use Rattle.answer.specs.declared.Name as Held
use Rattle.answer.specs.Answers.{held}
use Rattle.ask_decision.specs.Decide.{names_read, module_called}
use Rattle.ask_names.specs.Steps.{Spoken}

-- the entries that were read are a tape of their own
pub said_spoken : (library text : List ℕ) (n : ℕ) (read tape : List ℕ) → Said library text n read → tape ≡ take n read
    → Spoken (read_texts (two_texts library text)) (joint library text) tape
unfolding entries
said_spoken library text n read tape s e =
    let size : length tape ≡ n = ap length e ∙ length-take-le n read (omega (arith, s.within, s.room)) in
    let whole : take (length tape) tape ≡ take n read = (λ i. take (size i) (e i)) ∙ take-take n n read (omega arith) in
    record {
      modules = s.modules;
      read_so = s.read_so;
      said = ap (map (spelled (joint library text))) whole ∙ s.said;
      few = modules_few (two_texts library text) s.modules s.read_so;
      fresh = read_fresh (two_texts library text) s.modules s.read_so;
      short = omega (arith, size, s.within);
    }

-- what is refused is not read
module _ (library text : List ℕ) (q : Both) (read : List ℕ) (e : TwoTexts.Told library text read q) where
  pub refused_so : (m : NotRead) → q ≡ Err m → read_texts (two_texts library text) ≡ refused_in m.in_library m.number m.place
  refused_so m d = subst (TwoTexts.Told library text read) d e

  pub name_unread : (k : ℕ) (r : Held.Name) (m : NotRead) → q ≡ Err m → r ≡ held []
      → r ≡ held (module_called (two_texts library text) k)
  unfolding module_called names_read
  name_unread k r m d z =
      rw (refused_so m d) z

module _ (w : List ℕ) (end : ℕ) (there : memory_size ≤ length w) (last : end ≡ tape_end) where
  pub first_end : end ≤ length w
  unfolding memory_size tape_end
  first_end = omega (arith, there, last)

  pub first_room : 65536 ≤ length (part w 0 end)
  unfolding tape_end
  first_room = omega (arith, length-take-le (end - 0) w (omega (arith, first_end)), last)

  module _ (library text : List ℕ) (q : Both) (read : List ℕ) (e : TwoTexts.Told library text read q) where
    module _ (t : ℕ) (d : q ≡ Ok t) where
      says : Said library text t read
      says = subst (TwoTexts.Told library text read) d e

      abbrev after : List ℕ
      after = read ++ drop (end - 0) (drop 0 w)

      pub first_size : memory_size ≤ length after
      unfolding tape_end
      first_size =
          omega (arith, there, length-append read (drop (end - 0) (drop 0 w)), says.room, length-drop (end - 0) w, first_end, last)

      pub first_short : t ≤ tape_end
      unfolding tape_end
      first_short = says.within

      pub first_within : t ≤ length after
      first_within = omega (arith, length-append read (drop (end - 0) (drop 0 w)), says.within, says.room)

      pub first_spoken : Spoken (read_texts (two_texts library text)) (joint library text) (part after 0 t)
      first_spoken =
          let z : t - 0 ≡ t = omega arith in
          said_spoken library text t read (part after 0 t) says
          (ap (λ (n : ℕ). take n after) z ∙ take-append-le t read (drop (end - 0) (drop 0 w)) (omega (arith, says.within, says.room)))
