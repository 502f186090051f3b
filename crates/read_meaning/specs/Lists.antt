-- Lists of the grammar: items with a mark between them, items for as long as one begins, and what a keyword leads to.
use Rattle.std.specs.Prelude.{◌≡◌, refl, Bool, true, false, eqb, ltb}
use Rattle.std.proofs.Math.Path.{sym}
use Rattle.std.proofs.Common.{ap, ◌∙◌}
use Prim.Native.Nat.{ℕ, zero, suc}
use mathlib.Core.List.{List, [], ◌∷◌, ◌++◌, map, append-nil}
use Rattle.meaning.specs.Lists.{each}
use Rattle.meaning.specs.Names.{Name}
use Rattle.meaning.specs.Numbers.{over_size}
use Rattle.meaning.specs.Grammar.{State, Parser, ◌>>=◌, is, is_name}
use Rattle.meaning.specs.Grammar
use Rattle.tape.specs.Tape.{Entry, entry}
use Rattle.read_steps.specs.Model.{Writer, ◌>>◌}
use Rattle.read_steps.specs.Model
use Rattle.read_meaning.specs.Matches.{state, Meaning, Reads, means, next_ready, and_then}
use Rattle.read_meaning.specs.Lines.{so, by_next, either, refuse_meant, unexpected_meant, stay_at, stay_meant, handed, last, line, pass}
use Rattle.read_meaning.specs.Steps.{step_meant, name_meant}

module _ {text : List ℕ} {A : Type 0} {W : Writer} {P : Parser A} where
  -- ---- with a mark between them

  -- what holds of a single item, and of one more item in front, holds of the list
  module _ {Φ : Meaning A} (Ψ : Meaning (List A)) (comma : ℕ) (begins : ℕ → Bool) (d : Reads text 0 0 W P Φ)
      (single : (a : A) (s : State) (es : List Entry) → Φ a s es → eqb s.token.kind comma ≡ false → Ψ (a ∷ []) s es)
      (another : (a : A) (s v : State) (as' : List A) (es fs : List Entry) → Φ a s es → eqb s.token.kind comma ≡ true → Ψ as' v fs
      → Ψ (a ∷ as') v (es ++ fs)) where
    pub separated_by : (n : ℕ) → Reads text 0 0 (Model.separated text n comma begins W) (Grammar.separated text n comma begins P) Ψ
    unfolding Model.separated Grammar.separated Model.too_many Grammar.too_many ◌>>◌ ◌>>=◌
    separated_by zero = either begins (refuse_meant over_size) unexpected_meant
    separated_by (suc n) = record {
      from = λ p t r.
          and_then Ψ _ _ (W p t) (P (state p)) (d.from p t r) (λ a q u es φ s.
          let ready = next_ready r s in
          handed (λ as'. a ∷ as') _ _ (λ as' v fs ψ. ψ)
          (by_next (is comma) _ _ _ _
          (λ h. (pass step_meant (so (separated_by n) (λ as' v fs ψ. another a (state q) v as' es fs φ h ψ))).from q u ready)
          (λ h. stay_at [] ready (rw append-nil (single a (state q) es φ h)))));
    }

  module _ {f : A → List Entry} (begins : ℕ → Bool) (d : Reads text 0 0 W P (means f)) where
    pub separated_meant : (n comma : ℕ)
        → Reads text 0 0 (Model.separated text n comma begins W) (Grammar.separated text n comma begins P) (means (each f))
    unfolding each
    separated_meant n comma =
        separated_by (means (each f)) comma begins d (λ a s es φ h. φ ∙ sym (append-nil (f a))) (λ a s v as' es fs φ h ψ. rw (φ, ψ)) n

    -- ---- for as long as one begins

    pub many_meant : (n : ℕ) → Reads text 0 0 (Model.many text n begins W) (Grammar.many text n begins P) (means (each f))
    unfolding Model.many Grammar.many each
    many_meant zero = either begins (refuse_meant over_size) (stay_meant [] (λ s. refl))
    many_meant (suc n) = either begins (line d (λ a. last (λ as'. a ∷ as') (many_meant n) (λ as' s. refl))) (stay_meant [] (λ s. refl))

    pub some_of_meant : (n : ℕ) → Reads text 0 0 (Model.some_of text n begins W) (Grammar.some_of text n begins P) (means (each f))
    unfolding Model.some_of Grammar.some_of
    some_of_meant n = either begins (many_meant n) unexpected_meant

  -- ---- after a keyword

  pub optional_meant : {f : A → List Entry} (key : ℕ) (default : A) → [] ≡ f default → Reads text 0 0 W P (means f)
      → Reads text 0 0 (Model.optional text key W) (Grammar.optional text key default P) (means f)
  unfolding Model.optional Grammar.optional
  optional_meant key default e d = either (is key) (pass step_meant d) (stay_meant default (λ s. e))

-- ---- names

each_name : (role : ℕ) (ns : List Name) → each (λ n. entry role n ∷ []) ns ≡ map (entry role) ns
unfolding each
each_name role [] = refl
each_name role (n ∷ ns) = ap (λ es. entry role n ∷ es) (each_name role ns)

pub names_meant : {text : List ℕ} (n comma role : ℕ) → ltb role 32 ≡ true
    → Reads text 0 0 (Model.names text n comma role) (Grammar.separated text n comma is_name (Grammar.name text)) (means (map (entry role)))
unfolding Model.names
names_meant n comma role h = so (separated_meant is_name (name_meant role h) n comma) (λ ns s es e. e ∙ each_name role ns)
