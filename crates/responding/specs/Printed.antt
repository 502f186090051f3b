-- An answer as the code has it is printed as document 01 prints the answer itself.
use Rattle.std.specs.Prelude.{◌≡◌, ℕ, Bool, eqb, length, take}
use Rattle.std.proofs.Math.Path.{refl, ap}
use Rattle.std.proofs.Common.{sym, le-leb}
use Rattle.std.proofs.Math.Bool.{true, false}
use mathlib.Core.List.{List, [], ◌∷◌, ◌++◌, append-nil}
use Rattle.std.proofs.Math.Seq.{take_at}
use Rattle.meaning.specs.Lists.{pick, each}
use Rattle.meaning.specs.Names as Names
use Rattle.meaning.specs.Numbers.{name_size, accepted}
use Rattle.meaning.specs.Written.{decimal}
use Rattle.meaning.specs.Listing.{Line, line, line_text, lines_text}
use Rattle.meaning.specs.Reached.{short_or_blank}
use Rattle.meaning.specs.Answer as Meaning
use Rattle.answer.specs.Answers.{held, told}
use Rattle.answer_lines.specs.Lines.{line_of, spelled, actual_text, marked_place, refusal_text, answer_text}
use Rattle.responding.specs.Short.{Short}

-- a name that is held is spelled as it was
spelled_held : (n : Names.Name) → spelled (held n) ≡ n
unfolding spelled held
spelled_held n = take_at n _ _ refl

spelled_short : (n : Names.Name) → Short n → spelled (held (short_or_blank n)) ≡ n
unfolding short_or_blank pick
spelled_short n h = rw (le-leb (length n) name_size h) (spelled_held n)

-- with the line z, or without
lines_told : (b : Bool) (x y z u : Line)
    → line_text x ++ (line_text y ++ (pick b (line_text z) [] ++ line_text u)) ≡ lines_text ((x ∷ y ∷ pick b (z ∷ []) []) ++ (u ∷ []))
unfolding lines_text each pick
lines_told true x y z u = ap (λ (t : List ℕ). line_text x ++ (line_text y ++ (line_text z ++ t))) (sym (append-nil (line_text u)))
lines_told false x y z u = ap (λ (t : List ℕ). line_text x ++ (line_text y ++ t)) (sym (append-nil (line_text u)))

module _ (a : Meaning.Answer) (short : Short a.evaluating) where
  abbrev refused_lines : List Line
  refused_lines = Meaning.names_told a ++ (line "at" (Meaning.place_text a) ∷ [])

  refusal_told : refusal_text (told a) ≡ lines_text refused_lines
  unfolding refusal_text told line_of actual_text marked_place Meaning.names_told Meaning.place_text lines_text line_text each
  refusal_told =
      rw (spelled_short a.evaluating short, spelled_held a.culprit.name, spelled_held a.culprit.actual)
      (lines_told (Meaning.tells_actual a.number) (line "module" a.evaluating) (line "name" a.culprit.name) (line "actual" a.culprit.actual)
      (line "at" (Meaning.place_text a)))

  -- what follows the number and the count
  rest_told : (output : List ℕ) (b : Bool)
      → pick b (take (length (Meaning.listing a)) (Meaning.output_after a output)) (refusal_text (told a)) ≡ lines_text (pick b a.lines refused_lines)
  unfolding pick Meaning.output_after
  rest_told output true = take_at (Meaning.listing a) _ _ refl
  rest_told output false = refusal_told

  pub answer_told : (output : List ℕ) → answer_text (told a) (Meaning.output_after a output) ≡ Meaning.printed a
  unfolding answer_text told Meaning.printed Meaning.printed_lines line_of lines_text line_text each
  answer_told output =
      let front = line_of (Names.bytes "answer") (decimal a.number) in
      let second = line_of (Names.bytes "modules") (decimal a.modules) in
      ap (λ (rest : List ℕ). front ++ (second ++ rest)) (rest_told output (eqb a.number accepted))
