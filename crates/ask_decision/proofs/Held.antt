-- Edit after edit, by the decision: a part that is held for a specification, because the module was asked of it or because it was kept, is up
-- to date.
use Rattle.std.specs.Prelude.{◌≡◌, refl, ◌⊎◌, ℕ, ◌+◌, List, [], ◌∷◌, get_or}
use Rattle.std.proofs.Common.{sym, ap, subst, ◌∙◌, inl, inr, arith}
use Rattle.meaning.specs.Names.{Name}
use Rattle.meaning.specs.Syntax.{Module}
use Rattle.meaning.specs.Normal.{Visible}
use Rattle.meaning.specs.Texts.{Texts, all_read}
use Rattle.meaning.specs.Reached.{Placed, reached, module_names}
use Rattle.laws.specs.Distinct.{read_fresh}
use Rattle.meaning.specs.Answer.{answer}
use Rattle.meaning.specs.OrderLaws.{Every}
use Rattle.laws.specs.EveryLaws.{every_so, every_any}
use Rattle.promises.specs.Demand.{ReadAs, ShortOfRoom}
use Rattle.promises.specs.Proof.{Showing}
use Rattle.promises.specs.Stored.{UpToDate}
use Rattle.ask_decision.specs.Again.{AnsweredZero, AllSettled, still_shows, shown_text, stored_shows, given}
use Rattle.ask_decision.specs.Decide.{keep_after, numbers, decide, names_read, module_called}
use Rattle.ask_decision.specs.Changed.{changed_each, changed_within}
use Rattle.ask_decision.specs.Exact.{Kept}
use Rattle.ask_decision.proofs.Exact.{decided}
use Rattle.promises.specs.TwoCalls.{reached_such}
use Rattle.ask_decision.specs.Held.{Among, Held, by_asking, by_keeping, held_on}

by_number : (S : Name → Type 0) (called : ℕ → Name) (xs : List Placed) → Every (λ x. called x.number ≡ x.self.name) xs
    → Every (λ k. S (called k)) (numbers xs) → Every (λ x. S x.self.name) xs
unfolding numbers
by_number S called [] c h = tt
by_number S called (x ∷ xs) c h = (subst S c.0 h.0, by_number S called xs c.1 h.1)

each_among : (P : ℕ → Type 0) (zs : List ℕ) → ((k : ℕ) → Among k zs → P k) → Every P zs
each_among P [] h = tt
each_among P (z ∷ zs) h = (h z (inl refl), each_among P zs (λ k a. h k (inr a)))

called_so : (texts : Texts) (ms : List Module) → ReadAs texts ms → (k : ℕ) → module_called texts k ≡ get_or (module_names ms) k []
unfolding module_called names_read
called_so texts ms r k = rw r.reads

-- where each module that the decision names shows something, the changed ones are settled
settled_so : (asked : Name) (old new : Texts) (zs : List ℕ) (d : Kept asked old new zs)
    → Every (λ k. (v : Visible) × Showing (module_called new k) d.modules' v) zs → AllSettled asked d.modules d.modules'
unfolding reached module_names
settled_so asked old new zs d h =
    let P : Name → Type 0 = λ w. (v : Visible) × Showing w d.modules' v in
    let called : (i : ℕ) → module_called new (0 + i) ≡ get_or (module_names d.modules') i [] =
    λ i. let z : 0 + i ≡ i = omega arith in ap (module_called new) z ∙ called_so new d.modules' d.read_as' i in
    changed_each (λ x. P x.self.name) _ (reached asked d.modules) (reached asked d.modules') d.keeping.same_order
    (by_number P (module_called new) _ (changed_within _ (reached asked d.modules) _ (every_so _ _ (reached asked d.modules') (λ x h. h.1)
    (reached_such (λ m. Unit {0}) (λ (m : Module). m.name) [] (module_called new) asked 0 [] d.modules' (every_any d.modules') called)))
    (subst (Every (λ k. P (module_called new k))) (sym d.named) h))

one_reading : (texts : Texts) (ms ms' : List Module) → ReadAs texts ms → ReadAs texts ms' → ms ≡ ms'
one_reading texts ms ms' r r' = read_same (sym r.reads ∙ r'.reads)
  where
    read_same : all_read ms ≡ all_read ms' → ms ≡ ms'
    read_same e = cc

held_shows : {asked : Name} {texts : Texts} {stored : List ℕ} → Held asked texts stored → (ms : List Module) → ReadAs texts ms
    → (v : Visible) × Showing asked ms v × (shown_text asked v ≡ stored)
held_shows (by_asking asked texts stored memory output u) ms r = stored_shows asked texts ms r memory output stored u
held_shows (by_keeping asked old new stored zs part e h each) ms r =
    let d = decided asked old new zs e in
    let s = held_shows h d.modules d.read_as in
    let settled = settled_so asked old new zs d
    (each_among (λ k. (v : Visible) × Showing (module_called new k) d.modules' v) zs
    (λ k a. let g = held_shows (each k a) d.modules' d.read_as' in (g.0, g.1))) in (
      s.0,
      subst (λ (ns : List Module). Showing asked ns s.0) (one_reading new d.modules' ms d.read_as' r)
          (still_shows asked d.modules d.modules' (read_fresh new d.modules' d.read_as'.reads) d.keeping settled s.0 s.1),
      s.2,
    )

-- so it is up to date, or the call is short of room
pub held_up_to_date : (asked : Name) (texts : Texts) (stored : List ℕ) (ms : List Module) → ReadAs texts ms → Held asked texts stored
    → (memory output : ℕ) → ShortOfRoom (answer memory output asked texts) ⊎ UpToDate stored (answer memory output asked texts)
held_up_to_date asked texts stored ms r h memory output =
    let s = held_shows h ms r in
    given asked texts ms r memory output s.0 s.1 stored s.2

pub kept_by_decision : (asked : Name) (old new : Texts) (zs : List ℕ) → decide asked old new ≡ keep_after zs
    → Every (λ k. AnsweredZero (module_called new k) new) zs
    → (memory memory' output output' : ℕ) (stored : List ℕ) → UpToDate stored (answer memory output asked old)
    → ShortOfRoom (answer memory' output' asked new) ⊎ UpToDate stored (answer memory' output' asked new)
kept_by_decision asked old new zs e h memory memory' output output' stored u =
    let d = decided asked old new zs e in
    held_up_to_date asked new stored d.modules' d.read_as' (held_on asked old new stored zs e h (by_asking asked old stored memory output u))
    memory' output'
