-- The modules of texts that are read have distinct names.
use Rattle.std.specs.Prelude.{◌≡◌, refl, Bool}
use Rattle.std.proofs.Common.{sym, ◌∙◌, arith}
use Rattle.std.proofs.Math.Path.{ap, subst}
use Prim.Native.Nat.{ℕ, zero, suc}
use Rattle.std.proofs.Math.Bool.{true, false}
use mathlib.Core.List.{List, [], ◌∷◌, ◌++◌}
use Rattle.meaning.specs.Lists.{pick}
use Rattle.meaning.specs.Names.{Name, same, member}
use Rattle.meaning.specs.Numbers.{module_limit}
use Rattle.meaning.specs.Syntax.{Module}
use Rattle.meaning.specs.Grammar.{State, Result, done, refused, after, ◌>>=◌, ◌>>◌, return, refuse, unexpected, if_next, too_many, fresh_name, a_module, modules, read}
use Rattle.meaning.specs.Reached.{module_names}
use Rattle.meaning.specs.Texts.{Texts, read_texts, all_read}
use Rattle.meaning.specs.TextsLaws.{Parts, by_library}
use Rattle.meaning.proofs.TextsLaws.{read_parts}

-- no module is called like one before it, or like one of the names taken
abbrev pub Fresh : List Name → List Module → Type 0
Fresh taken [] = Unit {0}
Fresh taken (m ∷ ms) = (member m.name taken ≡ false) × Fresh (m.name ∷ taken) ms

-- ---- what was done before, where all is done

not_done : {A X : Type 0} (k p : ℕ) (a : A) (s : State) → refused k p ≡ done a s → X
not_done k p a s e = let z : ◌≡◌ {A = ℕ} 0 1 = cc in absurd (omega arith)

after_done : {A B : Type 0} (r : Result A) (f : A → State → Result B) (b : B) (u : State) → after r f ≡ done b u
    → (a : A) × (t : State) × (r ≡ done a t) × (f a t ≡ done b u)
unfolding after
after_done (done a t) f b u e = (a, t, refl, e)
after_done (refused k p) f b u e = not_done k p b u e

done_value : {A : Type 0} (a b : A) (s t : State) → done a s ≡ done b t → a ≡ b
done_value a b s t e = cc

module _ (text : List ℕ) where
  fresh_passed : (b : Bool) (k p : ℕ) (n n' : Name) (t t' : State) → pick b (refused k p) (done n t) ≡ done n' t' → (b ≡ false) × (n ≡ n')
  unfolding pick
  fresh_passed true k p n n' t t' e = not_done k p n' t' e
  fresh_passed false k p n n' t t' e = (refl, done_value n n' t t' e)

  name_fresh : (taken : List Name) (s t : State) (n : Name) → fresh_name text taken s ≡ done n t → member n taken ≡ false
  unfolding fresh_name refuse
  name_fresh taken s t n e =
      let a = after_done _ _ n t e in
      let b = fresh_passed _ _ _ a.0 n a.1 t a.3 in
      ap (λ (w : Name). member w taken) (sym b.1) ∙ b.0

  module_fresh : (taken : List Name) (s t : State) (m : Module) → a_module text taken s ≡ done m t → member m.name taken ≡ false
  unfolding a_module ◌>>=◌ ◌>>◌ return
  module_fresh taken s t m e =
      let a = after_done _ _ m t e in
      let b = after_done _ _ m t a.3 in
      let c = after_done _ _ m t b.3 in
      let d = after_done _ _ m t c.3 in
      let f = after_done _ _ m t d.3 in
      let g = after_done _ _ m t f.3 in
      let h = after_done _ _ m t g.3 in
      let i = after_done _ _ m t h.3 in
      let j = after_done _ _ m t i.3 in
      let k = after_done _ _ m t j.3 in
      let l = after_done _ _ m t k.3 in
      let q = done_value _ m _ t l.3 in
      ap (λ (x : Module). member x.name taken) (sym q) ∙ name_fresh taken a.1 b.1 b.0 b.2

  two_refusals : {A X : Type 0} (b : Bool) (k p k' p' : ℕ) (a : A) (t : State) → pick b (refused k p) (refused k' p') ≡ done a t → X
  unfolding pick
  two_refusals true k p k' p' a t e = not_done k p a t e
  two_refusals false k p k' p' a t e = not_done k' p' a t e

  end_or_more : (b : Bool) (taken : List Name) (r : Result (List Module)) (s t : State) (ms : List Module)
      → ((ms' : List Module) (u : State) → r ≡ done ms' u → Fresh taken ms') → pick b (done [] s) r ≡ done ms t → Fresh taken ms
  unfolding pick
  end_or_more true taken r s t ms h e = subst (Fresh taken) (done_value [] ms s t e) tt
  end_or_more false taken r s t ms h e = h ms t e

  modules_fresh : (n : ℕ) (taken : List Name) (s t : State) (ms : List Module) → modules text n taken s ≡ done ms t → Fresh taken ms
  unfolding modules too_many if_next refuse unexpected ◌>>=◌ return
  modules_fresh zero taken s t ms e = two_refusals _ _ _ _ _ ms t e
  modules_fresh (suc n) taken s t ms e =
      let a = after_done _ _ ms t e in
      let b = after_done _ _ ms t a.3 in
      let m : Module = a.0 in
      subst (Fresh taken) (done_value (m ∷ b.0) ms _ t b.3) (
        module_fresh taken s a.1 m a.2,
        end_or_more _ (m.name ∷ taken) (modules text n (m.name ∷ taken) a.1) _ b.1 b.0
            (λ ms' u q. modules_fresh n (m.name ∷ taken) a.1 u ms' q) b.2,
      )

  short_enough : {A : Type 0} (b : Bool) (r : Result A) (k p : ℕ) (a : A) (t : State) → pick b r (refused k p) ≡ done a t → r ≡ done a t
  unfolding pick
  short_enough true r k p a t e = e
  short_enough false r k p a t e = not_done k p a t e

  pub text_fresh : (n : ℕ) (taken : List Name) (ms : List Module) (s : State) → read text n taken ≡ done ms s → Fresh taken ms
  unfolding read
  text_fresh n taken ms s e = modules_fresh n taken _ s ms (short_enough _ _ _ _ ms s e)

-- ---- both texts: the library's modules have distinct names, and the customer's have none of them

fresh_as : (taken taken' : List Name) (ms : List Module) → ((w : Name) → member w taken ≡ member w taken') → Fresh taken ms → Fresh taken' ms
unfolding member
fresh_as taken taken' [] h f = tt
fresh_as taken taken' (m ∷ ms) h f =
    (sym (h m.name) ∙ f.0, fresh_as (m.name ∷ taken) (m.name ∷ taken') ms (λ w. ap (λ (b : Bool). pick (same w m.name) true b) (h w)) f.1)

member_moved : (w v : Name) (vs ws : List Name) → member w (vs ++ (v ∷ ws)) ≡ member w (v ∷ (vs ++ ws))
unfolding member pick
member_moved w v [] ws = refl
member_moved w v (u ∷ vs) ws = ap (λ (b : Bool). pick (same w u) true b) (member_moved w v vs ws) ∙ swapped (same w u) (same w v) (member w (vs ++ ws))
  where
    swapped : (a b c : Bool) → pick a true (pick b true c) ≡ pick b true (pick a true c)
    swapped true true c = refl
    swapped true false c = refl
    swapped false true c = refl
    swapped false false c = refl

fresh_both : (taken : List Name) (ls ms : List Module) → Fresh taken ls → Fresh (module_names ls ++ taken) ms → Fresh taken (ls ++ ms)
unfolding module_names
fresh_both taken [] ms f g = g
fresh_both taken (l ∷ ls) ms f g =
    (f.0, fresh_both (l.name ∷ taken) ls ms f.1 (fresh_as _ _ ms (λ w. sym (member_moved w l.name (module_names ls) taken)) g))

nothing_more : (xs : List Name) → xs ++ [] ≡ xs
nothing_more [] = refl
nothing_more (x ∷ xs) = ap (x ∷◌) (nothing_more xs)

pub read_fresh : (t : Texts) (ms : List Module) → read_texts t ≡ all_read ms → Fresh [] ms
read_fresh t ms e = go (read_parts t ms e)
  where
    go : Parts t ms → Fresh [] ms
    go p =
        subst (Fresh []) (sym p.sequence)
        (fresh_both [] p.library_modules p.customer_modules
        (by_library (Fresh []) tt p (λ s q. text_fresh t.library module_limit [] p.library_modules s q))
        (subst (λ (ws : List Name). Fresh ws p.customer_modules) (sym (nothing_more (module_names p.library_modules)))
        (text_fresh t.customer _ _ p.customer_modules p.state p.customer_read)))
