-- What the answer and the lent output are when a listing was written, or was too long.
use Rattle.std.specs.Prelude.{◌≡◌, refl, ℕ, Option, Some, None, Bool, true, false, List, [], ◌++◌, leb, length, drop}
use Rattle.std.proofs.Common.{sym, ap, ◌∙◌}
use Rattle.meaning.specs.Lists.{pick, each}
use Rattle.meaning.specs.Names.{Name}
use Rattle.meaning.specs.Numbers.{lent_short}
use Rattle.meaning.specs.Normal.{Normal}
use Rattle.meaning.specs.Checks.{lone}
use Rattle.meaning.specs.Reached.{normalised}
use Rattle.meaning.specs.Listing.{lines_text, listing_lines}
use Rattle.meaning.specs.Answer.{Answer, listing, refusal, of_ended, within, output_after}
use Rattle.text_names.specs.Word.{name_of}
use Rattle.invariants.specs.HiddenItems.{HiddenSound}
use Rattle.form.specs.declared.Form.{Form}
use Rattle.form.specs.Forms.{Stands}
use Rattle.list.specs.Lines.{listing_text}
use Rattle.list.specs.Meant.{listing_meant}
use Rattle.list.specs.Fit.{Result, result_of, fitted}

-- the answer to one who asked, when its listing was written so: 19 where it is too long
unfoldable pub answer_when : Name → Answer → Option ℕ → Answer
answer_when asked a (Some n) = a
answer_when asked a None = refusal lent_short a.modules asked (lone []) 0

-- the listing of the answer a was written so to the output o, which became o'
pub record Lent (asked : Name) (a : Answer) (o : List ℕ) (r : Option ℕ) (o' : List ℕ) : Type 0 where
  pub answer : within (length o) asked a ≡ answer_when asked a r
  pub output : output_after (within (length o) asked a) o ≡ o'

pub lent_meant : (asked : Name) (a : Answer) (o : List ℕ) (r : Option ℕ) (o' : List ℕ) → result_of r o' ≡ fitted (listing a) o → Lent asked a o r o'
unfolding fitted within pick answer_when output_after refusal lines_text each
lent_meant asked a o r o' e = go (leb (length (listing a)) (length o)) refl
  where
    go : (b : Bool) → leb (length (listing a)) (length o) ≡ b → Lent asked a o r o'
    go true q =
        let f : result_of r o' ≡ result_of (Some (length (listing a))) (listing a ++ drop (length (listing a)) o) = rw q at e in
        record { answer = rw (q, ap (λ (x : Result). x.ended) f); output = rw q (sym (ap (λ (x : Result). x.out) f)) }
    go false q =
        let f : result_of r o' ≡ result_of None o = rw q at e in
        record { answer = rw (q, ap (λ (x : Result). x.ended) f); output = rw q (sym (ap (λ (x : Result). x.out) f)) }

-- the form stands for what a call ended with
pub listing_lent : (text tape w : List ℕ) (f : Form) (n : Normal) (name count : ℕ) (asked : Name) (o : List ℕ) (r : Option ℕ) (o' : List ℕ)
    → Stands text tape w f n → HiddenSound n → name_of text name ≡ asked → result_of r o' ≡ fitted (listing_text text tape w name f) o
    → Lent asked (of_ended asked (normalised count n)) o r o'
unfolding of_ended
listing_lent text tape w f n name count asked o r o' s h e q =
    let bytes = listing_meant text tape w f n name s h ∙ ap (λ (m : Name). lines_text (listing_lines m n)) e in
    lent_meant asked (of_ended asked (normalised count n)) o r o' (q ∙ ap (λ (bs : List ℕ). fitted bs o) bytes)
