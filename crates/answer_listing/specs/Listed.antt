-- The listing that is written of the form kept for the asked module is that of the answer, or it is too long for the lent output.
use Rattle.std.specs.Prelude.{◌≡◌, ℕ, Option, Some, None, ◌+◌, ◌*◌, ◌<◌, ◌≤◌, Bool, true, false, List, [], ◌++◌, drop}
use Rattle.std.proofs.Math.Path.{sym, ap}
use Rattle.std.proofs.Common.{◌∙◌, arith}
use Rattle.std.proofs.Math.ListN.{length}
use Rattle.meaning.specs.Lists.{pick}
use Rattle.meaning.specs.Names.{Name}
use Rattle.meaning.specs.Numbers.{lent_short}
use Rattle.meaning.specs.Texts.{Reading}
use Rattle.meaning.specs.Normal.{Normal}
use Rattle.meaning.specs.Checks.{lone}
use Rattle.meaning.specs.Reached.{normalised}
use Rattle.meaning.specs.Listing.{lines_text, listing_lines}
use Rattle.meaning.specs.Answer.{refusal, of_ended, of_read, within, output_after}
use Rattle.form.specs.Forms.{form_size}
use Rattle.form.specs.declared.Form.{Form}
use Rattle.form.specs.Memory.{part}
use Rattle.form_layout.specs.Layout.{table_start}
use Rattle.form_keeping.specs.Keeping.{form_at}
use Rattle.form_keeping.specs.Environment.{kept_form}
use Rattle.list.specs.Lines.{listing_text}
use Rattle.list.specs.Meant.{listing_meant}
use Rattle.list.specs.Fit.{result_of, fitted}
use Rattle.list.specs.Lent.{Lent, answer_when, lent_meant}
use Rattle.answer.specs.declared.Answer.{Answer}
use Rattle.answer.specs.Answers.{held, told, told_listed}
use Rattle.answer.specs.Told.{short_name}
use Rattle.answer_listing.specs.Answered.{Answered, Evaluated}
use Rattle.meaning.specs.Answer as Meaning
use Rattle.list.specs.Fit as Fit

listing_told : (asked : Name) (count : ℕ) (n : Normal)
    → told (of_ended asked (normalised count n)) ≡ told_listed count (length (Meaning.listing (of_ended asked (normalised count n))))
unfolding told told_listed of_ended
listing_told asked count n = λ i. record {
  number = 0;
  modules = count;
  evaluating = held (short_name [] (omega arith) i);
  culprit = held [];
  actual = held [];
  at = 0;
  in_library = false;
  listing = length (lines_text (listing_lines asked n));
}

fits_size : (b : Bool) (n : ℕ) (bs o o' : List ℕ)
    → result_of (Some n) o' ≡ pick b (result_of (Some (length bs)) (bs ++ drop (length bs) o)) (result_of None o) → n ≡ length bs
unfolding pick
fits_size true n bs o o' e = let f : Some n ≡ Some (length bs) = ap (λ (x : Fit.Result). x.ended) e in cc
fits_size false n bs o o' e = let f : Some n ≡ None = ap (λ (x : Fit.Result). x.ended) e in cc

module _ (asked : List ℕ) (x : Reading) (text : List ℕ) (t : ℕ) (w : List ℕ) (name count last : ℕ) (evaluated : Evaluated asked x text t w name count last) where
  pub listed_within : t ≤ length w
  listed_within = evaluated.tape

  module _ (table : ℕ) (f : Form) (place : table ≡ table_start) (form : f ≡ form_at w (table + last * form_size)) where
    form_so : f ≡ kept_form w last
    form_so = form ∙ ap (λ (b : ℕ). form_at w (b + last * form_size)) place

    pub hidden_few : f.hidden_count < 2147483648
    hidden_few =
        let fits = evaluated.stands.fits in
        let same : f.hidden_count ≡ (kept_form w last).hidden_count = ap (λ (g : Form). g.hidden_count) form_so in
        omega (arith, same, fits.items)

    abbrev whole : Meaning.Answer
    whole = of_ended asked (normalised count evaluated.normal)

    bytes_so : listing_text text (part w 0 t) w name f ≡ Meaning.listing whole
    unfolding of_ended
    bytes_so =
        ap (listing_text text (part w 0 t) w name) form_so
        ∙ listing_meant text (part w 0 t) w (kept_form w last) evaluated.normal name evaluated.stands.stands evaluated.sound
        ∙ ap (λ (m : Name). lines_text (listing_lines m evaluated.normal)) evaluated.called

    module _ (o : List ℕ) (v : Option ℕ) (o' : List ℕ) (e : result_of v o' ≡ fitted (listing_text text (part w 0 t) w name f) o) where
      written : result_of v o' ≡ fitted (Meaning.listing whole) o
      written = e ∙ ap (λ (bs : List ℕ). fitted bs o) bytes_so

      lent : Lent asked whole o v o'
      lent = lent_meant asked whole o v o' written

      output_so : o' ≡ output_after (within (length o) asked (of_read asked x)) o
      output_so = sym (ap (λ (a : Meaning.Answer). output_after (within (length o) asked a) o) evaluated.ended ∙ lent.output)

      answer_lent : within (length o) asked (of_read asked x) ≡ answer_when asked whole v
      answer_lent = ap (within (length o) asked) evaluated.ended ∙ lent.answer

      pub listed_answered : (n : ℕ) (r : Answer) → v ≡ Some n → r ≡ told_listed count n → Answered asked x o r o'
      unfolding answer_when fitted
      listed_answered n r d q =
          let size : n ≡ length (Meaning.listing whole) = fits_size _ n (Meaning.listing whole) o o' (rw d at written) in
          record {
            answer =
                q
                ∙ ap (told_listed count) size
                ∙ sym (listing_told asked count evaluated.normal)
                ∙ ap told (sym (answer_lent ∙ ap (answer_when asked whole) d));
            output = output_so;
          }

      pub long_answered : (r : Answer) → v ≡ None → r ≡ told (refusal lent_short count asked (lone []) 0) → Answered asked x o r o'
      unfolding answer_when of_ended
      long_answered r d q =
          record { answer = q ∙ ap told (sym (answer_lent ∙ ap (answer_when asked whole) d)); output = output_so }
