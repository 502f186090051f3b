-- What is drawn for an expression of module k, by the number of the module that it names (diagram_meaning/specs/Diagram.antt).
use Rattle.std.specs.Prelude.{◌≡◌, Bool, true, eqb, length, get_or, take, drop}
use Rattle.std.proofs.Math.Path.{refl, ap}
use Rattle.std.proofs.Common.{sym, ◌∙◌, arith, eqb-true, take-add, take_all}
use Prim.Native.Nat.{ℕ, zero, suc, ◌+◌, ◌<◌, ◌≤◌}
use Rattle.std.proofs.Math.Bool.{false}
use mathlib.Core.List.{List, [], ◌∷◌, ◌++◌}
use Rattle.std.proofs.lemmas.Bool.{eqb-false}
use Rattle.meaning.specs.Lists.{pick, before, each}
use Rattle.meaning.specs.Names.{Name, same}
use Rattle.meaning.specs.OrderLaws.{same_self}
use Rattle.meaning.specs.Syntax.{Module}
use Rattle.meaning.specs.Reached.{module_names}
use Rattle.modules.specs.ReachedLaws.{Distinct, found_name, names_apart, names_number, drop_some}
use Rattle.diagram_meaning.specs.Diagram.{Expression, expressions_of, asked_expression, absent_line, own_lines, drawn, latest_first, diagram}

-- the modules before number k, the latest first
abbrev pub earlier : List Module → ℕ → List Module
earlier ms k = latest_first [] (take k ms)

-- module number k, and those behind it
pub record Number (ms : List Module) (k : ℕ) : Type 0 where
  pub self : Module
  pub later : List Module
  pub there : drop k ms ≡ self ∷ later

pub numbered : (ms : List Module) (k : ℕ) → k < length ms → Number ms k
numbered [] k h = absurd (omega (arith, h))
numbered (m ∷ ms) zero h = record { self = m; later = ms; there = refl }
numbered (m ∷ ms) (suc k) h =
    let r = numbered ms k (omega (arith, h)) in record { self = r.self; later = r.later; there = r.there }

pub number_name : (ms : List Module) (k : ℕ) (m : Module) (ys : List Module) → drop k ms ≡ m ∷ ys → get_or (module_names ms) k [] ≡ m.name
unfolding module_names
number_name [] zero m ys e = absurd (omega (arith, ap length e))
number_name [] (suc k) m ys e = absurd (omega (arith, ap length e))
number_name (x ∷ ms) zero m ys e = cc
number_name (x ∷ ms) (suc k) m ys e = number_name ms k m ys e

latest_last : (b xs : List Module) (m : Module) → latest_first b (xs ++ (m ∷ [])) ≡ m ∷ latest_first b xs
unfolding latest_first
latest_last b [] m = refl
latest_last b (x ∷ xs) m = latest_last (x ∷ b) xs m

-- one module more
earlier_next : (ms : List Module) (k : ℕ) (m : Module) (ys : List Module) → drop k ms ≡ m ∷ ys → earlier ms (suc k) ≡ m ∷ earlier ms k
earlier_next ms k m ys e =
    let z : suc k ≡ k + 1 = omega arith in
    ap (λ (n : ℕ). latest_first [] (take n ms)) z
    ∙ ap (latest_first []) (take-add k 1 ms ∙ ap (λ (r : List Module). take k ms ++ take 1 r) e)
    ∙ latest_last [] (take k ms) m

-- a test fails before the first that passes
fails_before : {A : Type 0} (p : A → Bool) (d : A) (xs : List A) (i : ℕ) → i < before p xs → p (get_or xs i d) ≡ false
unfolding before pick
fails_before p d [] i h = absurd (omega (arith, h))
fails_before {A} p d (x ∷ xs) i h = go (p x) refl i h (fails_before p d xs)
  where
    go : (b : Bool) → p x ≡ b → (i : ℕ) → i < pick b 0 (suc (before p xs)) → ((j : ℕ) → j < before p xs → p (get_or xs j d) ≡ false) → p (get_or (x ∷ xs) i d) ≡ false
    go true e i l f = absurd (omega (arith, l))
    go false e zero l f = e
    go false e (suc i) l f = f i (omega (arith, l))

module _ (ms : List Module) (d : ℕ) (x : Expression) where
  abbrev names : List Name
  names = module_names ms

  abbrev number : ℕ
  number = before (same x.name) names

  -- no module before number k is called so
  pub drawn_missing : (k : ℕ) → k ≤ length ms → k ≤ number → drawn (earlier ms k) d x ≡ absent_line d x.name ∷ []
  unfolding drawn latest_first pick
  drawn_missing zero w h = refl
  drawn_missing (suc k) w h =
      let m = numbered ms k (omega (arith, w)) in
      let other : same x.name m.self.name ≡ false =
      ap (same x.name) (sym (number_name ms k m.self m.later m.there)) ∙ fails_before (same x.name) [] names k (omega (arith, h)) in
      ap (λ (es : List Module). drawn es d x) (earlier_next ms k m.self m.later m.there) ∙ rw other (drawn_missing k (omega (arith, w)) (omega (arith, h)))

  module _ (f : Distinct names) (m : Module) (ys : List Module) (e : drop number ms ≡ m ∷ ys) where
    within : number < length names
    within = omega (arith, drop_some number ms ys m e, names_number ms)

    called : get_or names number [] ≡ x.name
    called = found_name names x.name within

    abbrev Found : ℕ → Type 0
    Found j = drawn (earlier ms j) d x ≡ own_lines d m x.bindings ++ each (λ (y : Expression). drawn (earlier ms number) (suc d) y) (expressions_of m)

    -- module m, which is the first that is called so, stands before number k
    pub drawn_found : (k : ℕ) → k ≤ length ms → number < k → Found k
    unfolding drawn pick
    drawn_found zero w h = absurd (omega (arith, h))
    drawn_found (suc k) w h = go (eqb number k) refl (drawn_found k (omega (arith, w)))
      where
        last : Number ms k
        last = numbered ms k (omega (arith, w))

        go : (b : Bool) → eqb number k ≡ b → (number < k → Found k) → Found (suc k)
        go true q g =
            let same_number : number ≡ k = eqb-true number k q in
            let there : drop k ms ≡ m ∷ ys = ap (λ (i : ℕ). drop i ms) (sym same_number) ∙ e in
            let own : same x.name m.name ≡ true =
            ap (same x.name) (sym (number_name ms number m ys e) ∙ called) ∙ same_self x.name in
            ap (λ (es : List Module). drawn es d x) (earlier_next ms k m ys there)
            ∙ rw own (ap (λ (i : ℕ). own_lines d m x.bindings ++ each (λ (y : Expression). drawn (earlier ms i) (suc d) y) (expressions_of m)) (sym same_number))
        go false q g =
            let apart : number ≡ k → ⊥ = eqb-false number k q in
            let size : length names ≡ length ms = names_number ms in
            let other : same x.name last.self.name ≡ false =
            ap (same x.name) (sym (number_name ms k last.self last.later last.there))
            ∙ ap (λ (w : Name). same w (get_or names k [])) (sym called)
            ∙ names_apart names f number k within (omega (arith, w, size)) apart in
            ap (λ (es : List Module). drawn es d x) (earlier_next ms k last.self last.later last.there)
            ∙ rw other (g (omega (arith, h, apart)))

-- the whole diagram, from the number of the asked module
pub diagram_number : (ms : List Module) (asked : Name) → Distinct (module_names ms) → (m : Module) (ys : List Module)
    → drop (before (same asked) (module_names ms)) ms ≡ m ∷ ys
    → diagram ms asked
    ≡ own_lines 0 m [] ++ each (λ (y : Expression). drawn (earlier ms (before (same asked) (module_names ms))) 1 y) (expressions_of m)
unfolding diagram asked_expression
diagram_number ms asked f m ys e =
    ap (λ (all : List Module). drawn (latest_first [] all) 0 (asked_expression asked)) (sym (take_all (length ms) ms (omega arith)))
    ∙ drawn_found ms 0 (asked_expression asked) f m ys e (length ms) (omega arith) (omega (arith, drop_some (before (same asked) (module_names ms)) ms ys m e))
