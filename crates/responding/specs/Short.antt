-- The module that a refusal names has at most 40 bytes, where the asked name has: it is the asked one, or one of those that are read.
use Rattle.std.specs.Prelude.{◌≡◌, ◌⊎◌, ℕ, ◌≤◌, List, length}
use Rattle.std.proofs.Common.{subst, sym, inl, inr, arith}
use Rattle.meaning.specs.Laws.{by_cases}
use Rattle.meaning.specs.Names.{Name}
use Rattle.meaning.specs.Numbers.{name_size}
use Rattle.meaning.specs.Texts.{Texts}
use Rattle.meaning.specs.Answer.{Answer, answer, refusal, unread, texts_in}
use Rattle.asf.specs.ReadNames.{answer_named}
use Rattle.responding.specs.Program.{with_memory, answer_behind}

abbrev pub Short : Name → Type 0
Short n = length n ≤ name_size

module _ (asked : Name) (short : Short asked) where
  named_short : (m : Name) → Short m ⊎ (m ≡ asked) → Short m
  named_short m (inl h) = h
  named_short m (inr e) = subst Short (sym e) short

  answer_short : (memory_lent output_lent : ℕ) (t : Texts) → Short (answer memory_lent output_lent asked t).evaluating
  answer_short memory_lent output_lent t = named_short _ (answer_named memory_lent output_lent asked t)

  pub with_short : (memory_lent : ℕ) (r : Answer) → Short r.evaluating → Short (with_memory memory_lent asked r).evaluating
  unfolding with_memory refusal
  with_short memory_lent r h = by_cases (λ (a : Answer). Short a.evaluating) _ _ _ (λ e. short) (λ e. h)

  pub behind_short : (memory_lent output_lent : ℕ) (rest : List ℕ)
      → Short (with_memory memory_lent asked (answer_behind memory_lent output_lent asked rest)).evaluating
  unfolding answer_behind unread
  behind_short memory_lent output_lent rest =
      with_short memory_lent (answer_behind memory_lent output_lent asked rest)
      (by_cases (λ (a : Answer). Short a.evaluating) _ _ _ (λ e. omega arith) (λ e. answer_short memory_lent output_lent (texts_in rest)))
