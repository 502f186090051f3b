-- Edit after edit, by the decision: a part that is held for a specification, because the module was asked of it or because it was kept, is up
-- to date.
use Rattle.std.specs.Prelude.{◌≡◌, refl, ◌⊎◌, ℕ, List, [], ◌∷◌}
use Rattle.std.proofs.Common.{sym, subst, inl, inr}
use Rattle.meaning.specs.Names.{Name}
use Rattle.meaning.specs.Texts.{Texts}
use Rattle.meaning.specs.Answer.{listing, answer}
use Rattle.meaning.specs.OrderLaws.{Every}
use Rattle.promises.specs.VisiblePart.{visible_part}
use Rattle.promises.specs.Stored.{UpToDate}
use Rattle.ask_decision.specs.Again.{AnsweredZero}
use Rattle.ask_decision.specs.Decide.{keep_after, decide, module_called}

-- ---- the statement

-- a number is among some
abbrev pub Among : ℕ → List ℕ → Type 0
Among k [] = ⊥
Among k (z ∷ zs) = (k ≡ z) ⊎ Among k zs

-- a part is held for a module and a specification: the module was asked of it and answered 0; or the part was held for an earlier one, the
-- decision between the two is to keep, and for each module that the decision names a part is held for the new one
pub data Held : Name → Texts → List ℕ → Type 0 where
  by_asking : (asked : Name) (texts : Texts) (stored : List ℕ) (memory output : ℕ) → UpToDate stored (answer memory output asked texts)
      → Held asked texts stored
  by_keeping : (asked : Name) (old new : Texts) (stored : List ℕ) (zs : List ℕ) (part : (k : ℕ) → Among k zs → List ℕ)
      → decide asked old new ≡ keep_after zs → Held asked old stored
      → ((k : ℕ) (h : Among k zs) → Held (module_called new k) new (part k h)) → Held asked new stored

-- ---- the changed modules, by their numbers

among_each : (P : ℕ → Type 0) (zs : List ℕ) → Every P zs → (k : ℕ) → Among k zs → P k
among_each P [] h k a = absurd a
among_each P (z ∷ zs) h k (inl p) = subst P (sym p) h.0
among_each P (z ∷ zs) h k (inr a) = among_each P zs h.1 k a

-- ---- one edit

part_told : (asked : Name) (texts : Texts) → AnsweredZero asked texts → List ℕ
part_told asked texts a = visible_part (listing (answer a.memory a.output asked texts))

-- what is held for the old specification is held for the new, where the decision is to keep and each module that it names is answered 0
pub held_on : (asked : Name) (old new : Texts) (stored : List ℕ) (zs : List ℕ) → decide asked old new ≡ keep_after zs
    → Every (λ k. AnsweredZero (module_called new k) new) zs → Held asked old stored → Held asked new stored
unfolding part_told
held_on asked old new stored zs e h held =
    by_keeping asked old new stored zs (λ k a. part_told (module_called new k) new (found k a)) e held (λ k a. let z = found k a in
    by_asking (module_called new k) new _ z.memory z.output (record { is_accepted = z.is_accepted; shows = refl }))
  where
    found : (k : ℕ) → Among k zs → AnsweredZero (module_called new k) new
    found = among_each (λ k. AnsweredZero (module_called new k) new) zs h
