-- The names of modules that are read have at most 40 bytes. So has the module that an answer names, unless it is the asked one; and where the
-- asked name has more, no module is called so, and the answer's number tells the module.
use Rattle.std.specs.Prelude.{◌≡◌, refl, ◌⊎◌, ℕ, ◌<◌, ◌≤◌, Bool, false, List, [], ◌∷◌, leb, length}
use Rattle.std.proofs.Common.{sym, ap, subst, inl, inr, arith, le-leb}
use Rattle.std.proofs.lemmas.Bool.{lt-leb}
use Rattle.meaning.specs.Laws.{by_cases}
use Rattle.meaning.specs.Lists.{pick}
use Rattle.meaning.specs.OrderLaws.{Every, every_middle, same_equal}
use Rattle.meaning.specs.Names.{Name, member}
use Rattle.meaning.specs.Numbers.{name_size, asked_absent, lent_short, module_twice}
use Rattle.meaning.specs.Syntax.{Module}
use Rattle.meaning.specs.Texts.{Texts, Reading, all_read, refused_in, read_texts}
use Rattle.meaning.specs.Normal.{empty}
use Rattle.meaning.specs.Checks.{Culprit, lone}
use Rattle.meaning.specs.Reached.{Placed, reached, Ended, normalised, refused_at, in_turn, module_names, short_or_blank, normalise}
use Rattle.meaning.specs.Answer.{Answer, refusal, of_ended, unread, of_read, within, answer}
use Rattle.laws.specs.EveryLaws.{every_so}
use Rattle.laws.specs.Walk.{reached_every}
use Rattle.invariants.specs.Limits.{Limited}
use Rattle.invariants.proofs.Limits.{limits_read}
use Rattle.promises.specs.Counts.{CountedIn, in_turn_counted}
use Rattle.promises.specs.ReadNumbers.{refused_low}

abbrev Short : Name → Type 0
Short n = length n ≤ name_size

read_names : (texts : Texts) (ms : List Module) → read_texts texts ≡ all_read ms → Every (λ (m : Module). Short m.name) ms
read_names texts ms e = every_so Limited (λ (m : Module). Short m.name) ms (λ m h. h.name) (limits_read texts ms e)

-- ---- the module that an answer names

abbrev Named : Name → Name → Type 0
Named asked m = Short m ⊎ (m ≡ asked)

abbrev EndNamed : Name → Ended → Type 0
EndNamed asked (normalised count n) = Unit {0}
EndNamed asked (refused_at number count m c) = Named asked m

-- a refused module is one of those reached
end_short : (asked : Name) (declared : List Name) (xs : List Placed) → Every (λ (x : Placed). Short x.self.name) xs → (e : Ended)
    → CountedIn declared 0 xs e → EndNamed asked e
end_short asked declared xs h (normalised count n) c = tt
end_short asked declared xs h (refused_at number count m w) c =
    let r = c.1 in
    let short : Placed → Type 0 = λ x. Short x.self.name in
    inl (subst Short (sym r.named) (every_middle short r.accepted_before r.not_evaluated r.refused (subst (Every short) r.split h)))

abbrev AnswerNamed : Name → Answer → Type 0
AnswerNamed asked a = Named asked a.evaluating

end_named : (asked : Name) (e : Ended) → EndNamed asked e → AnswerNamed asked (of_ended asked e)
unfolding of_ended refusal
end_named asked (normalised count n) h = inl (omega arith)
end_named asked (refused_at number count m c) h = h

read_named : (asked : Name) (texts : Texts) (r : Reading) → read_texts texts ≡ r → AnswerNamed asked (of_read asked r)
unfolding of_read unread normalise reached
read_named asked texts (all_read ms) e =
    end_named asked _
    (by_cases (EndNamed asked) _ _ _
    (λ q. end_short asked (module_names ms) (reached asked ms) (reached_every (λ m. Short m.name) asked 0 [] ms (read_names texts ms e))
    (in_turn (module_names ms) [] empty (reached asked ms)) (in_turn_counted (module_names ms) [] empty (reached asked ms))) (λ q. inr refl))
read_named asked texts (refused_in l number at) e = inl (omega arith)

pub answer_named : (memory_lent output_lent : ℕ) (asked : Name) (texts : Texts) → AnswerNamed asked (answer memory_lent output_lent asked texts)
unfolding answer within refusal
answer_named memory_lent output_lent asked texts =
    by_cases (AnswerNamed asked) _ _ _ (λ e. inr refl)
    (λ e. by_cases (AnswerNamed asked) _ _ _ (λ k. read_named asked texts (read_texts texts) refl) (λ k. inr refl))

-- ---- an asked name of more than 40 bytes

none_long : (asked : Name) → name_size < length asked → (ms : List Module) → Every (λ (m : Module). Short m.name) ms
    → member asked (module_names ms) ≡ false
unfolding member module_names
none_long asked l [] h = refl
none_long asked l (m ∷ ms) h =
    by_cases (λ (b : Bool). b ≡ false) _ _ _ (λ e. absurd (omega (arith, ap length (same_equal asked m.name e), h.0, l)))
    (λ e. none_long asked l ms h.1)

-- blank up to 5, and from 6 on the asked one
abbrev pub named_by_number : Name → ℕ → Name
named_by_number asked number = pick (leb number module_twice) [] asked

abbrev ByNumber : Name → Answer → Type 0
ByNumber asked a = a.evaluating ≡ named_by_number asked a.number

from_six : (asked : Name) (number count : ℕ) (c : Culprit) (at : ℕ) → module_twice < number → ByNumber asked (refusal number count asked c at)
unfolding refusal pick
from_six asked number count c at h = rw (lt-leb number module_twice h)

read_long : (asked : Name) (texts : Texts) → name_size < length asked → (r : Reading) → read_texts texts ≡ r → ByNumber asked (of_read asked r)
unfolding of_read of_ended normalise unread pick
read_long asked texts l (all_read ms) e =
    let absent : normalise asked ms ≡ refused_at asked_absent 0 asked (lone (short_or_blank asked)) = rw (none_long asked l ms (read_names texts ms e)) in
    rw absent (from_six asked asked_absent 0 (lone (short_or_blank asked)) 0 (omega arith))
read_long asked texts l (refused_in m number at) e = rw (le-leb number module_twice (refused_low texts m number at e))

pub answer_long : (memory_lent output_lent : ℕ) (asked : Name) (texts : Texts) → name_size < length asked
    → ByNumber asked (answer memory_lent output_lent asked texts)
unfolding answer within
answer_long memory_lent output_lent asked texts l =
    by_cases (ByNumber asked) _ _ _ (λ e. from_six asked lent_short 0 (lone []) 0 (omega arith))
    (λ e. by_cases (ByNumber asked) _ _ _ (λ k. read_long asked texts l (read_texts texts) refl) (λ k. from_six asked lent_short _ (lone []) 0 (omega arith)))
