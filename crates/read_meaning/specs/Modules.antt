-- Modules: a name that none before has, what the module declares, and its name again; and all modules of a text.
use Rattle.std.specs.Prelude.{◌≡◌, Bool, true, false}
use Rattle.std.proofs.Math.Path.{refl}
use Prim.Native.Nat.{ℕ, zero, suc}
use mathlib.Core.List.{List, [], ◌∷◌, ◌++◌, append-nil}
use Rattle.meaning.specs.Lists.{pick, each}
use Rattle.meaning.specs.Names.{Name, same, member}
use Rattle.meaning.specs.Tokens.{end_of_text, begin_key, end_key, equations_key, exports_key, imports_key, module_key, parameters_key, variables_key}
use Rattle.meaning.specs.Numbers.{over_size, module_twice}
use Rattle.meaning.specs.Grammar.{Parser, ◌>>=◌, return, is}
use Rattle.meaning.specs.Grammar
use Rattle.text_names.specs.Word.{plain_form, in_form}
use Rattle.read_steps.specs.declared.Place.{Place}
use Rattle.tape.specs.Tape.{Entry, entry, entries, module_role, hidden_sort, hidden_function, flat_signature, flat_module, flat_modules}
use Rattle.read_steps.specs.Model.{Writer, ◌>>◌, word}
use Rattle.read_steps.specs.Model
use Rattle.read_meaning.specs.Matches.{Ready, Step, state, Meaning, Matches, both_refused, Reads, means, next_ready, and_then}
use Rattle.read_meaning.specs.Lines.{weaker, choice, by_next, either, grouped, refuse_meant, unexpected_meant, stay_at, handed, closing, line, pass}
use Rattle.read_meaning.specs.Steps.{Named, Called, called_by, expect_meant, name_at, this_name_meant}
use Rattle.read_meaning.specs.Lists.{optional_meant}
use Rattle.read_meaning.specs.Rules.{signature_meant, parameters_meant, exports_meant, imports_meant, variables_meant}
use Rattle.read_meaning.specs.Equations.{equations_meant}
use Rattle.read_meaning.specs.Declared.{Declared, taken_told, one_more}

-- a name among some or among others
in_either : {A : Type 0} (n : Name) (xs ys : List Name) (x y : A)
    → pick (member n (xs ++ ys)) x y ≡ pick (member n xs) x (pick (member n ys) x y)
unfolding member pick
in_either n [] ys x y = refl
in_either n (v ∷ xs) ys x y = go (same n v) (in_either n xs ys x y)
  where
    go : (b : Bool) → pick (member n (xs ++ ys)) x y ≡ pick (member n xs) x (pick (member n ys) x y)
        → pick (pick b true (member n (xs ++ ys))) x y ≡ pick (pick b true (member n xs)) x (pick (member n ys) x y)
    go true h = refl
    go false h = h

module _ {text : List ℕ} where
  -- ---- a name that no module before has

  -- `before` are the names of modules that stand before the text
  module _ (before names : List Name) (p : Place) (t : List ℕ) (r : Ready text 0 p t) (d : Declared names (entries text p.entries t)) where
    fresh_at : Matches text 0 0 (λ n s es. Named text p.token plain_form module_role n s es) p t (Model.fresh_name text before p t)
        (Grammar.fresh_name text (names ++ before) (state p))
    unfolding Model.fresh_name Grammar.fresh_name Model.refuse Grammar.refuse Model.stay return in_form pick
    fresh_at =
        and_then (λ n s es. Named text p.token plain_form module_role n s es) _ _ _ _ (name_at module_role refl p t r) (λ n q u es k s.
        rw (taken_told text names (word p.token) p.entries n t d k.called, k.called, in_either n names before)
        (choice (member n names) _ _ _ _ (λ h. both_refused module_twice p.token.start u refl)
        (λ h. choice (member n before) _ _ _ _ (λ g. both_refused module_twice p.token.start u refl)
        (λ g. stay_at n (next_ready r s) (rw append-nil k)))))

    -- what follows the name asks for it again, by its word
    with_fresh : {B : Type 0} {Ψ : Meaning B} {X : ℕ → Writer} {Q : Name → Parser B}
        → ((w : ℕ) (n : Name) → Called text w n → Reads text 0 0 (X w) (Q n) (λ b s es. Ψ b s (entry module_role n ∷ es)))
        → Matches text 0 0 Ψ p t (Model.with_word (λ w. Model.fresh_name text before >> X w) p t) ((Grammar.fresh_name text (names ++ before) >>= Q) (state p))
    unfolding Model.with_word ◌>>◌ ◌>>=◌ in_form pick
    with_fresh {Ψ = Ψ} {X} {Q} e =
        and_then Ψ (X (word p.token)) Q _ _ fresh_at
        (λ n q u es k s. rw k.written ((e (word p.token) n (called_by k)).from q u (next_ready r s)))

  -- ---- a module

  silent : {p q : Place} {t u : List ℕ} {es : List Entry} (names : List Name) → Step text 0 0 p t q u es → es ≡ []
      → Declared names (entries text p.entries t)
      → Declared names (entries text q.entries u)
  silent {p} {t = t} names s e d = rw (s.said, e, append-nil (entries text p.entries t)) d

  a_module_at : (before names : List Name) (p : Place) (t : List ℕ) → Ready text 0 p t → Declared names (entries text p.entries t)
      → Matches text 0 0 (means flat_module) p t (Model.a_module text before p t) (Grammar.a_module text (names ++ before) (state p))
  unfolding Model.a_module Grammar.a_module ◌>>◌ Grammar.◌>>◌ Model.module_named Model.front Model.back flat_module flat_signature each Grammar.empty_signature
  a_module_at before names p t r d =
      and_then (means flat_module) _ _ _ _ ((expect_meant module_key).from p t r) (λ a q u es ψ s.
      rw ψ
      (with_fresh before names q u (next_ready r s) (silent names s ψ d) (λ w n e.
      pass (expect_meant begin_key)
      (grouped _ _ _
      (line (optional_meant parameters_key [] refl parameters_meant) (λ ps.
      grouped _ _ _
      (line (optional_meant exports_key _ refl exports_meant) (λ es.
      line (optional_meant imports_key [] refl imports_meant) (λ ms.
      grouped _ _ _
      (line (signature_meant hidden_sort hidden_function refl refl) (λ h.
      grouped _ _ _
      (line (optional_meant variables_key [] refl variables_meant) (λ vs.
      line (optional_meant equations_key [] refl equations_meant) (λ eqs.
      pass (expect_meant end_key)
      (closing _ (this_name_meant w n e) (λ v. rw append-nil))))))))))))))))

  -- ---- all modules

  pub modules_at : (n : ℕ) (before names : List Name) (p : Place) (t : List ℕ) → Ready text 0 p t → Declared names (entries text p.entries t)
      → Matches text 0 0 (means flat_modules) p t (Model.modules text n before p t) (Grammar.modules text n (names ++ before) (state p))
  unfolding Model.modules Grammar.modules Model.too_many Grammar.too_many ◌>>◌ ◌>>=◌ flat_modules each
  modules_at zero before names p t r d = (either (is module_key) (refuse_meant over_size) unexpected_meant).from p t r
  modules_at (suc n) before names p t r d =
      and_then (means flat_modules) _ _ _ _ (a_module_at before names p t r d) (λ m q u es φ s.
      let ready = next_ready r s in
      handed (λ ms. m ∷ ms) _ _ (λ ms v fs ψ. ψ)
      (by_next (is end_of_text) _ _ _ _
      (λ h. stay_at [] ready (rw φ))
      (λ h. weaker {Φ = means flat_modules} _ _ (λ ms v fs ψ. rw (φ, ψ))
      (modules_at n before (m.name ∷ names) q u ready (rw (s.said, φ) (one_more names (entries text p.entries t) m d))))))
