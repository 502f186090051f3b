-- What a call gives: the answer, and the lent slices afterwards. This is what the public function's contract cites.
use Rattle.std.specs.Prelude.{◌≡◌, refl, ℕ, ◌≤◌, Bool, true, false, List, [], T, length}
use Rattle.std.proofs.Common.{sym, ◌∙◌, arith, leb→le, length-append, length-drop}
use Rattle.meaning.specs.Laws.{by_cases}
use Rattle.meaning.specs.Lists.{each}
use Rattle.meaning.specs.Names.{Name}
use Rattle.meaning.specs.Numbers.{accepted}
use Rattle.meaning.specs.Reached.{Ended, normalised, refused_at, normalise}
use Rattle.meaning.specs.Texts.{Texts, Reading, all_read, refused_in, read_texts}
use Rattle.meaning.specs.Listing.{lines_text}
use Rattle.meaning.specs.Answer.{answer, Answer, listing, refusal, of_ended, unread, of_read, within, output_after, memory_after}

pub record Call : Type 0 where
  pub answer : Answer
  pub output : List ℕ
  pub memory : List ℕ

-- the call that is lent this working memory and this output
unfoldable pub call : (memory output : List ℕ) → Name → Texts → Call
call memory output asked t =
    let r = answer (length memory) (length output) asked t in
    record { answer = r; output = output_after r output; memory = memory_after memory }

module _ (memory output : List ℕ) (asked : Name) (t : Texts) where
  -- two results that the contract allows coincide
  pub coincide : (c c' : Call) → c ≡ call memory output asked t → c' ≡ call memory output asked t → c ≡ c'
  coincide c c' e e' = e ∙ sym e'

-- an answer with no line, unless its number is 0
abbrev Bare : Answer → Type 0
Bare r = (r.number ≡ accepted → ⊥) → r.lines ≡ []

ended_bare : (asked : Name) (e : Ended) → Bare (of_ended asked e)
unfolding of_ended refusal
ended_bare asked (normalised count n) h = absurd (h refl)
ended_bare asked (refused_at number count m w) h = refl

read_bare : (asked : Name) (r : Reading) → Bare (of_read asked r)
unfolding of_read unread
read_bare asked (all_read ms) = ended_bare asked (normalise asked ms)
read_bare asked (refused_in in_library number at) = λ h. refl

answer_bare : (memory_lent output_lent : ℕ) (asked : Name) (t : Texts) → Bare (answer memory_lent output_lent asked t)
unfolding answer within refusal
answer_bare memory_lent output_lent asked t =
    by_cases Bare _ _ _ (λ e h. refl) (λ e. by_cases Bare _ _ _ (λ k. read_bare asked (read_texts t)) (λ k h. refl))

-- a listing fits into what is lent
abbrev Fitting : ℕ → Answer → Type 0
Fitting lent r = length (listing r) ≤ lent

passed : (b : Bool) → b ≡ true → T b
passed true e = tt
passed false e = let z : ◌≡◌ {A = ℕ} 0 1 = cc in absurd (omega arith)

answer_fits : (memory_lent output_lent : ℕ) (asked : Name) (t : Texts) → Fitting output_lent (answer memory_lent output_lent asked t)
unfolding answer within refusal lines_text each
answer_fits memory_lent output_lent asked t =
    by_cases (Fitting output_lent) _ _ _ (λ e. omega arith)
    (λ e. by_cases (Fitting output_lent) _ _ _ (λ k. leb→le _ _ (passed _ k)) (λ k. omega arith))

module _ (memory output : List ℕ) (asked : Name) (t : Texts) where
  -- on any answer but 0 the output is unchanged
  pub refused_unchanged : ((call memory output asked t).answer.number ≡ accepted → ⊥) → (call memory output asked t).output ≡ output
  unfolding call output_after lines_text each
  refused_unchanged h = rw (answer_bare (length memory) (length output) asked t h)

  -- the output's length is unchanged in any case
  pub same_length : length (call memory output asked t).output ≡ length output
  unfolding call output_after
  same_length =
      let fits = answer_fits (length memory) (length output) asked t in
      rw (length-append, length-drop) (omega (arith, fits))
