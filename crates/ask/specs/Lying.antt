-- Two tapes in one memory: what is read into a part of it, and what that leaves of the rest.
use Rattle.std.specs.Prelude.{◌≡◌, ℕ, Ok, Err, ◌+◌, ◌-◌, ◌^◌, ◌<◌, ◌≤◌, Bool, ◌&&◌, List, ◌++◌, take, drop}
use Rattle.std.proofs.Common.{sym, ap, subst₂, ◌∙◌, drop_at}
use Rattle.std.proofs.Math.Path.{subst}
use native.Mathlib.Omega.{arith}
use Rattle.std.proofs.Math.Bool.{true, false}
use Rattle.std.proofs.Math.ListN.{length, length-append, length-drop}
use Rattle.std.proofs.Math.Seq.{length-take-le, take-take, take-append-le}
use Rattle.meaning.specs.Names.{Name, same}
use Rattle.meaning.specs.Numbers.{memory_size}
use Rattle.meaning.specs.OrderLaws.{same_equal}
use Rattle.meaning.specs.Texts.{Texts, two_texts, read_texts}
use Rattle.laws.specs.Decides.{both_true}
use Rattle.text_names.specs.Joint.{joint}
use Rattle.form.specs.Memory.{part}
use Rattle.form_layout.specs.Layout.{tape_end}
use Rattle.read_both.specs.declared.NotRead.{NotRead}
use Rattle.read_both.specs.Both as TwoTexts
use Rattle.read_both.specs.Both.{Both, Said}
use Rattle.ask_decision.specs.Decide.{of_readings, decide, not_read}
use Rattle.ask_names.specs.Steps.{Spoken}
use Rattle.ask_names.specs.Lying.{said_spoken, refused_so, first_end}
use Rattle.ask.specs.declared.Decision.{Decision}
use Rattle.ask.specs.Decided.{nameless_struct, told, Tells}

-- what is refused is not read
unread_tells : (r : Decision) (in_new in_library : Bool) (number place : ℕ) → r ≡ nameless_struct 2 0 in_new in_library number place
    → Tells r (not_read in_new in_library number place)
unfolding told
unread_tells r in_new in_library number place e = record { so = e; first = tt }

module _ (library text : List ℕ) (q : Both) (read : List ℕ) (e : TwoTexts.Told library text read q) where
  pub first_refused : (asked : Name) (new : Texts) (r : Decision) (m : NotRead) → q ≡ Err m
      → r ≡ nameless_struct 2 0 false m.in_library m.number m.place → Tells r (decide asked (two_texts library text) new)
  unfolding decide of_readings
  first_refused asked new r m d z =
      rw (refused_so library text q read e m d) (unread_tells r false m.in_library m.number m.place z)

  pub second_refused : (asked : Name) (x : Texts) (old tape : List ℕ) (r : Decision) (m : NotRead) → Spoken (read_texts x) old tape
      → q ≡ Err m → r ≡ nameless_struct 2 0 true m.in_library m.number m.place → Tells r (decide asked x (two_texts library text))
  unfolding decide of_readings
  second_refused asked x old tape r m spoken d z =
      rw (spoken.read_so, refused_so library text q read e m d) (unread_tells r true m.in_library m.number m.place z)

-- the same texts say the same
pub same_spoken : (library text behind other tape : List ℕ) (q : Bool) → q ≡ (same library behind && same text other) → q ≡ true
    → Spoken (read_texts (two_texts library text)) (joint library text) tape → Spoken (read_texts (two_texts behind other)) (joint behind other) tape
same_spoken library text behind other tape q e so =
    let both = both_true _ _ (sym e ∙ so) in
    subst₂ (λ (x y : List ℕ). Spoken (read_texts (two_texts x y)) (joint x y) tape) (same_equal library behind both.0) (same_equal text other both.1)

pub tape_within : (w : List ℕ) (t : ℕ) → memory_size ≤ length w → t ≤ tape_end → t ≤ length w
unfolding memory_size tape_end
tape_within w t there early = omega (arith, there, early)

module _ (w : List ℕ) (end : ℕ) (there : memory_size ≤ length w) (last : end ≡ tape_end) where
  pub second_end : end + end ≤ length w
  unfolding memory_size tape_end
  second_end = omega (arith, there, last)

  pub second_room : 65536 ≤ length (part w end (end + end))
  unfolding tape_end
  second_room =
      let left : length (drop end w) ≡ length w - end = length-drop end w in
      omega (arith, length-take-le (end + end - end) (drop end w) (omega (arith, left, second_end)), last)

  -- ---- the new specification, behind the old one

  module _ (x : Texts) (text : List ℕ) (t : ℕ) (early : t ≤ tape_end) (spoken : Spoken (read_texts x) text (part w 0 t))
      (library new : List ℕ) (q : Both) (read : List ℕ) (e : TwoTexts.Told library new read q) where
    module _ (n : ℕ) (d : q ≡ Ok n) where
      says_new : Said library new n read
      says_new = subst (TwoTexts.Told library new read) d e

      abbrev rest : List ℕ
      rest = drop (end + end - end) (drop end w)

      abbrev both : List ℕ
      both = take end w ++ (read ++ rest)

      front_size : length (take end w) ≡ end
      front_size = length-take-le end w (first_end w end there last)

      both_size : length w ≤ length both
      unfolding tape_end
      both_size =
          omega (
            arith,
            length-append (take end w) (read ++ rest),
            length-append read rest,
            front_size,
            says_new.room,
            length-drop (end + end - end) (drop end w),
            length-drop end w,
            second_end,
            last,
          )

      pub old_within : t ≤ length both
      unfolding tape_end
      old_within = omega (arith, both_size, first_end w end there last, early, last)

      pub new_within : end + n ≤ length both
      unfolding tape_end
      new_within = omega (arith, both_size, second_end, says_new.within, last)

      pub new_fits : end + n < 2 ^ 64
      unfolding tape_end
      new_fits = omega (arith, says_new.within, last)

      pub old_spoken : Spoken (read_texts x) text (part both 0 t)
      unfolding tape_end
      old_spoken =
          let here : t - 0 ≤ end = omega (arith, early, last) in
          let kept : part both 0 t ≡ part w 0 t =
          take-append-le (t - 0) (take end w) (read ++ rest) (omega (arith, here, front_size)) ∙ take-take (t - 0) end w here in
          subst (Spoken (read_texts x) text) (sym kept) spoken

      pub new_spoken : Spoken (read_texts (two_texts library new)) (joint library new) (part both end (end + n))
      new_spoken =
          let z : end + n - end ≡ n = omega arith in
          said_spoken library new n read (part both end (end + n)) says_new
          (ap (λ (m : ℕ). take m (drop end both)) z
          ∙ ap (take n) (drop_at (take end w) (read ++ rest) end front_size)
          ∙ take-append-le n read rest (omega (arith, says_new.within, says_new.room)))
