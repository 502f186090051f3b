-- The order of import expressions, and one of them twice, change neither whether a specification is accepted nor its listing: over the modules, over
-- the answers, and over calls.
use Rattle.std.specs.Prelude.{◌≡◌, refl, ◌⊎◌, ℕ, ◌≤◌, Bool, true, false, List, [], eqb, ltb, length}
use Rattle.std.proofs.Common.{sym, ap, subst, ◌∙◌, inl, inr, arith, eqb-true, eq-eqb, le-leb}
use Rattle.std.proofs.lemmas.Bool.{false≢true}
use Rattle.meaning.specs.Lists.{pick, each}
use Rattle.meaning.specs.Names.{Name}
use Rattle.meaning.specs.Numbers.{accepted, memory_size, asked_absent}
use Rattle.meaning.specs.Syntax.{Module}
use Rattle.meaning.specs.Texts.{Texts}
use Rattle.meaning.specs.Reached.{Ended, normalised, refused_at, normalise}
use Rattle.meaning.specs.Listing.{lines_text}
use Rattle.meaning.specs.Answer.{Answer, listing, refusal, of_ended, of_read, within, answer, output_after}
use Rattle.meaning.specs.Contract.{call}
use Rattle.promises.specs.TwoCalls.{pick_both}
use Rattle.promises.specs.PlainText.{read_plain}
use Rattle.promises.specs.Counts.{refused_from_six}
use Rattle.promises_import_order.specs.Order.{EndsAlike}
use Rattle.promises_import_order.proofs.Order.{normalise_anyhow}
use Rattle.promises_import_order.specs.ImportOrder.{Reordered, BothOrNeither, SameOutcome, ImportOrder, SameCall}

pub normal_forms : (texts texts' : Texts) (ms ms' : List Module) → Reordered texts texts' ms ms' → (asked : Name)
    → EndsAlike (normalise asked ms) (normalise asked ms')
normal_forms texts texts' ms ms' r asked =
    normalise_anyhow asked ms ms' (read_plain texts ms r.read_as.reads) (read_plain texts' ms' r.read_as'.reads) r.alike

-- two refusals, with one count, at one module
record Refusals (r r' : Answer) : Type 0 where
  number : asked_absent ≤ r.number
  number' : asked_absent ≤ r'.number
  modules : r.modules ≡ r'.modules
  evaluating : r.evaluating ≡ r'.evaluating
  lines : r.lines ≡ []
  lines' : r'.lines ≡ []

abbrev OneOrRefusals : Answer → Answer → Type 0
OneOrRefusals r r' = (r ≡ r') ⊎ Refusals r r'

ended_anyhow : (asked : Name) (ms ms' : List Module) → EndsAlike (normalise asked ms) (normalise asked ms')
    → OneOrRefusals (of_ended asked (normalise asked ms)) (of_ended asked (normalise asked ms'))
unfolding of_ended refusal
ended_anyhow asked ms ms' a = go (normalise asked ms) (normalise asked ms') refl refl a
  where
    go : (e e' : Ended) → normalise asked ms ≡ e → normalise asked ms' ≡ e' → EndsAlike e e' → OneOrRefusals (of_ended asked e) (of_ended asked e')
    go (normalised c n) (normalised c' n') q q' a = inl (rw (a.0, a.1))
    go (normalised c n) (refused_at k' c' m' w') q q' a = absurd a
    go (refused_at k c m w) (normalised c' n') q q' a = absurd a
    go (refused_at k c m w) (refused_at k' c' m' w') q q' a = inr (record {
      number = refused_from_six asked ms k c m w q;
      number' = refused_from_six asked ms' k' c' m' w' q';
      modules = a.0;
      evaluating = a.1;
      lines = refl;
      lines' = refl;
    })

within_refused : (output : ℕ) (asked : Name) (r : Answer) → r.lines ≡ [] → within output asked r ≡ r
unfolding within pick lines_text each
within_refused output asked r e =
    let n : length (listing r) ≡ 0 = ap (λ ls. length (lines_text ls)) e in rw (le-leb (length (listing r)) output (omega arith))

within_anyhow : (output : ℕ) (asked : Name) (r r' : Answer) → OneOrRefusals r r' → OneOrRefusals (within output asked r) (within output asked r')
within_anyhow output asked r r' (inl e) = inl (ap (within output asked) e)
within_anyhow output asked r r' (inr h) =
    subst (λ (x : Answer). OneOrRefusals x (within output asked r')) (sym (within_refused output asked r h.lines))
    (subst (λ (x : Answer). OneOrRefusals r x) (sym (within_refused output asked r' h.lines')) (inr h))

answers_anyhow : (texts texts' : Texts) (ms ms' : List Module) → Reordered texts texts' ms ms' → (asked : Name) (memory output : ℕ)
    → OneOrRefusals (answer memory output asked texts) (answer memory output asked texts')
unfolding answer of_read
answers_anyhow texts texts' ms ms' r asked memory output =
    rw (r.read_as.reads, r.read_as'.reads)
    (pick_both OneOrRefusals (ltb memory memory_size) _ _ _ _ (inl refl)
    (within_anyhow output asked _ _ (ended_anyhow asked ms ms' (normal_forms texts texts' ms ms' r asked))))

one_outcome : (r r' : Answer) → OneOrRefusals r r' → SameOutcome r r'
one_outcome r r' (inr h) = record {
  both = inr (λ e. absurd (omega (arith, h.number, e)), λ e. absurd (omega (arith, h.number', e)));
  listings = ap lines_text (h.lines ∙ sym h.lines');
  modules = h.modules;
  evaluating = h.evaluating;
}
one_outcome r r' (inl e) =
    subst (SameOutcome r) e (record { both = go (eqb r.number accepted) refl; listings = refl; modules = refl; evaluating = refl })
  where
    go : (b : Bool) → eqb r.number accepted ≡ b → BothOrNeither r.number r.number
    go true q = let z = eqb-true r.number accepted q in inl (z, z)
    go false q = let no : r.number ≡ accepted → ⊥ = λ h. false≢true (sym q ∙ eq-eqb r.number accepted h) in inr (no, no)

pub import_order : ImportOrder
import_order texts texts' ms ms' r asked memory output = one_outcome _ _ (answers_anyhow texts texts' ms ms' r asked memory output)

pub import_order_call : (texts texts' : Texts) (ms ms' : List Module) → Reordered texts texts' ms ms' → (asked : Name) (memory output : List ℕ)
    → SameCall (call memory output asked texts) (call memory output asked texts')
unfolding call output_after
import_order_call texts texts' ms ms' r asked memory output =
    let s = import_order texts texts' ms ms' r asked (length memory) (length output) in
    record { outcome = s; output = rw s.listings; memory = refl }
