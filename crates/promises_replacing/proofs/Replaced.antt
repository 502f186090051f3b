-- In an accepted specification an operator may be replaced by a fresh plain function throughout: over the modules, and in the answer of a call.
use Rattle.std.specs.Prelude.{◌≡◌, ℕ, ◌≤◌, ◌⊎◌, leb, length}
use Rattle.std.proofs.Math.Path.{refl, sym, ap}
use Rattle.std.proofs.Common.{◌∙◌, subst, inl, inr, arith, leb-false, le-ltb}
use mathlib.Core.List.{List}
use Rattle.meaning.specs.Laws.{by_cases}
use Rattle.meaning.specs.Lists.{pick, each}
use Rattle.meaning.specs.Names.{Name}
use Rattle.meaning.specs.Syntax.{Module}
use Rattle.meaning.specs.Normal.{Normal}
use Rattle.meaning.specs.Reached.{normalised, normalise, Ended, refused_at}
use Rattle.meaning.specs.OrderLaws.{Every}
use Rattle.meaning.specs.Numbers.{memory_size, accepted}
use Rattle.meaning.specs.Written.{in_order}
use Rattle.meaning.specs.Texts.{Texts}
use Rattle.meaning.specs.Listing.{lines_text, listing_lines}
use Rattle.meaning.specs.Answer.{Answer, refusal, of_ended, of_read, within, answer}
use Rattle.laws.specs.EveryLaws.{every_so, split_each}
use Rattle.promises.specs.Demand.{ReadAs}
use Rattle.promises.specs.Proof.{Short, answer_ended}
use Rattle.promises.specs.SoundEvaluation.{PlainModule}
use Rattle.promises.specs.PlainText.{read_plain}
use Rattle.promises.specs.Counts.{refused_from_six}
use Rattle.promises_replacing.specs.Changing.{names_used}
use Rattle.promises_replacing.specs.Replacing.{Replacement, renewed, Accepts, TooShort, SameApart, ReplacedAnswer}
use Rattle.promises_replacing.specs.ModulesAlike.{tags_of, changed}
use Rattle.promises_replacing.specs.Replaced.{exchange, Other, all_other, exchange_replaces, exchange_replaces_normal, exchange_keeps, module_easy}

-- in an accepted specification, its sizes kept, an operator may be replaced by a fresh plain function throughout
pub replacement : Replacement
replacement operator plain texts texts' ms r asked count n e =
    let τ = exchange operator plain in
    let keeps = exchange_keeps operator plain in
    let exchanged = exchange_replaces operator plain ms r.fresh in
    let easy =
    every_so _ _ ms (module_easy operator plain (tags_of ms) r.is_none)
    (split_each (Other plain) names_used ms (all_other plain (each names_used ms) r.fresh)) in
    let plain_before = read_plain texts ms r.read_as.reads in
    let plain_after = subst (Every PlainModule) (sym exchanged) (read_plain texts' _ r.read_as'.reads) in
    ap (normalise asked) (sym exchanged) ∙ changed τ keeps asked ms plain_before plain_after easy count n e
    ∙ ap (λ (k : Normal). normalised count (in_order k)) (exchange_replaces_normal operator plain asked ms count n plain_before r.fresh e)

within_so : (output : ℕ) (asked : Name) (count : ℕ) (n : Normal) → TooShort asked count n output (within output asked (of_ended asked (normalised count n)))
    ⊎ Accepts asked count n (within output asked (of_ended asked (normalised count n)))
unfolding within of_ended refusal
within_so output asked count n =
    by_cases (λ (r : Answer). TooShort asked count n output r ⊎ Accepts asked count n r) (leb (length (lines_text (listing_lines asked n))) output) _ _
    (λ q. inr (record { number = refl; modules = refl; lines = refl }))
    (λ q. inl (record { number = refl; modules = refl; longer = leb-false (length (lines_text (listing_lines asked n))) output q }))

-- with memory enough the answer is how the call ended, or 19
with_memory : (memory output : ℕ) (asked : Name) (texts : Texts) (ms : List Module) → ReadAs texts ms → memory_size ≤ memory
    → answer memory output asked texts ≡ within output asked (of_ended asked (normalise asked ms))
unfolding answer of_read pick
with_memory memory output asked texts ms r e = rw (le-ltb memory memory_size e, r.reads)

pub replaced_answer : ReplacedAnswer
unfolding of_ended refusal
replaced_answer operator plain texts texts' ms r asked memory memory' output output' e enough =
    go (answer_ended memory output asked texts ms r.read_as) (normalise asked ms) refl
  where
    ends : (count : ℕ) (n : Normal) → normalise asked ms ≡ normalised count n
        → answer memory' output' asked texts' ≡ within output' asked (of_ended asked (normalised count (renewed operator plain n)))
    ends count n q =
        with_memory memory' output' asked texts' _ r.read_as' enough
        ∙ ap (λ (x : Ended). within output' asked (of_ended asked x)) (replacement operator plain texts texts' ms r asked count n q)

    go : Short (answer memory output asked texts) (of_ended asked (normalise asked ms)) → (x : Ended) → normalise asked ms ≡ x
        → SameApart operator plain asked output' (answer memory output asked texts) (answer memory' output' asked texts')
    go (inl short) x q = absurd (omega (arith, e, short))
    go (inr h) (normalised count n) q =
        let first = h ∙ ap (of_ended asked) q in
        record {
          count = count;
          normal = n;
          before = record { number = e; modules = ap (λ (a : Answer). a.modules) first; lines = ap (λ (a : Answer). a.lines) first };
          after =
              subst (λ (a : Answer). TooShort asked count (renewed operator plain n) output' a ⊎ Accepts asked count (renewed operator plain n) a)
              (sym (ends count n q)) (within_so output' asked count (renewed operator plain n));
        }
    go (inr h) (refused_at number count told culprit) q =
        let z : number ≡ accepted = sym (ap (λ (a : Answer). a.number) (h ∙ ap (of_ended asked) q)) ∙ e in
        absurd (omega (arith, z, refused_from_six asked ms number count told culprit q))
