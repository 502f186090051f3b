-- What is still to be drawn while boxes are open: of each its module's number and the place from which its expressions are left stand in two words.
use Rattle.std.specs.Prelude.{◌≡◌, Bool, eqb, get_or}
use Rattle.std.proofs.Math.Path.{refl, ap, ap₂}
use Rattle.std.proofs.Common.{sym, ◌∙◌}
use Prim.Native.Nat.{ℕ, zero, suc, ◌+◌, ◌-◌, ◌*◌, ◌<◌, ◌≤◌}
use native.Mathlib.Omega.{arith}
use Rattle.std.proofs.Math.Bool.{true, false}
use mathlib.Core.List.{List, [], ◌∷◌, ◌++◌}
use Rattle.meaning.specs.Lists.{pick, each}
use Rattle.meaning.specs.Syntax.{Module}
use Rattle.meaning.specs.Listing.{Line}
use Rattle.tape.specs.Tape.{import_role}
use Rattle.form_rows.specs.Entries.{role_at, name_at, next_with}
use Rattle.modules.specs.Modules.{Heads}
use Rattle.diagram_meaning.specs.Diagram.{Expression, drawn}
use Rattle.diagram_boxes.specs.Boxes.{bindings_from, expressions_from, end_of}
use Rattle.diagram_open.specs.Numbers.{earlier}

-- the expression at place e of a module that ends at `end`
unfoldable pub expression_at : List ℕ → List ℕ → ℕ → ℕ → Expression
expression_at text tape e end = record { name = name_at text tape e; bindings = bindings_from text tape 0 (e + 1) (end - (e + 1)) }

-- the lines of the expressions of module k that stand from place j on, at depth d
unfoldable pub rest : List ℕ → List ℕ → List Module → Heads → (k j d : ℕ) → List Line
rest text tape ms h k j d = each (λ (y : Expression). drawn (earlier ms k) d y) (expressions_from text tape j (end_of h k - j))

-- those of n open boxes, whose words stand in w from base on, the last one first
unfoldable pub pending : List ℕ → List ℕ → List Module → Heads → (base : ℕ) → List ℕ → ℕ → List Line
pending text tape ms h base w zero = []
pending text tape ms h base w (suc n) =
    rest text tape ms h (get_or w (base + 2 * n) 0) (get_or w (base + 2 * n + 1) 0) (suc n) ++ pending text tape ms h base w n

-- ---- the next expression

module _ (text tape : List ℕ) where
  -- e is the next place with an import expression among c entries from j on
  next_here : (c j : ℕ) → next_with import_role tape j c < j + c
      → expressions_from text tape j c
      ≡ expression_at text tape (next_with import_role tape j c) (j + c)
      ∷ expressions_from text tape (next_with import_role tape j c + 1) (j + c - (next_with import_role tape j c + 1))
  unfolding next_with expressions_from expression_at pick
  next_here zero j h = absurd (omega (arith, h))
  next_here (suc c) j h = go (eqb (role_at tape j) import_role) h (next_here c (suc j))
    where
      next : ℕ
      next = next_with import_role tape (suc j) c

      go : (b : Bool) → pick b j next < j + suc c
          → (next < suc j + c → expressions_from text tape (suc j) c ≡ expression_at text tape next (suc j + c) ∷ expressions_from text tape (next + 1) (suc j + c - (next + 1)))
          → pick b (record { name = name_at text tape j; bindings = bindings_from text tape 0 (suc j) c } ∷ expressions_from text tape (suc j) c) (expressions_from text tape (suc j) c)
          ≡ expression_at text tape (pick b j next) (j + suc c) ∷ expressions_from text tape (pick b j next + 1) (j + suc c - (pick b j next + 1))
      go true l f =
          let left : c ≡ j + suc c - (j + 1) = omega arith in
          let on : suc j ≡ j + 1 = omega arith in
          ap₂ (λ (a b : ℕ). record { name = name_at text tape j; bindings = bindings_from text tape 0 a b } ∷ expressions_from text tape a b) on left
      go false l f =
          let sum : suc j + c ≡ j + suc c = omega arith in
          f (omega (arith, l)) ∙ ap (λ (n : ℕ). expression_at text tape next n ∷ expressions_from text tape (next + 1) (n - (next + 1))) sum

  next_none : (c j : ℕ) → j + c ≤ next_with import_role tape j c → expressions_from text tape j c ≡ []
  unfolding next_with expressions_from pick
  next_none zero j h = refl
  next_none (suc c) j h = go (eqb (role_at tape j) import_role) h (next_none c (suc j))
    where
      next : ℕ
      next = next_with import_role tape (suc j) c

      go : (b : Bool) → j + suc c ≤ pick b j next → (suc j + c ≤ next → expressions_from text tape (suc j) c ≡ [])
          → pick b (record { name = name_at text tape j; bindings = bindings_from text tape 0 (suc j) c } ∷ expressions_from text tape (suc j) c) (expressions_from text tape (suc j) c) ≡ []
      go true l f = absurd (omega (arith, l))
      go false l f = f (omega (arith, l))

  next_from : (c j : ℕ) → j ≤ next_with import_role tape j c
  unfolding next_with pick
  next_from zero j = omega arith
  next_from (suc c) j = go (eqb (role_at tape j) import_role) (next_from c (suc j))
    where
      go : (b : Bool) → suc j ≤ next_with import_role tape (suc j) c → j ≤ pick b j (next_with import_role tape (suc j) c)
      go true l = omega arith
      go false l = omega (arith, l)

  module _ (ms : List Module) (h : Heads) (k j d e end : ℕ) (g : end ≡ end_of h k) (q : e ≡ next_with import_role tape j (end - j)) where
    -- there is one: it is drawn, and then what is behind it
    pub rest_next : e < end → rest text tape ms h k j d ≡ drawn (earlier ms k) d (expression_at text tape e end) ++ rest text tape ms h k (e + 1) d
    unfolding rest each
    rest_next l =
        let from : j ≤ e = omega (arith, q, next_from (end - j) j) in
        let sum : j + (end - j) ≡ end = omega (arith, from, l) in
        let split : expressions_from text tape j (end - j) ≡ expression_at text tape e end ∷ expressions_from text tape (e + 1) (end - (e + 1)) =
        next_here (end - j) j (omega (arith, q, sum, l))
        ∙ ap₂ (λ (a b : ℕ). expression_at text tape a b ∷ expressions_from text tape (a + 1) (b - (a + 1))) (sym q) sum in
        rw (← g) (ap (each (λ (y : Expression). drawn (earlier ms k) d y)) split)

    pub rest_none : end ≤ e → rest text tape ms h k j d ≡ []
    unfolding rest each
    rest_none l =
        let from = next_from (end - j) j in
        rw (← g) (ap (each (λ (y : Expression). drawn (earlier ms k) d y)) (next_none (end - j) j (omega (arith, l, q, from))))

-- ---- rows

module _ (text tape : List ℕ) (ms : List Module) (h : Heads) (base : ℕ) where
  pub pending_last : (w : List ℕ) (boxes : ℕ) → 0 < boxes
      → pending text tape ms h base w boxes
      ≡ rest text tape ms h (get_or w (base + 2 * (boxes - 1)) 0) (get_or w (base + 2 * (boxes - 1) + 1) 0) boxes ++ pending text tape ms h base w (boxes - 1)
  unfolding pending
  pending_last w zero l = absurd (omega (arith, l))
  pending_last w (suc n) l =
      let z : n ≡ suc n - 1 = omega arith in
      ap (λ (i : ℕ). rest text tape ms h (get_or w (base + 2 * i) 0) (get_or w (base + 2 * i + 1) 0) (suc n) ++ pending text tape ms h base w i) z

  -- words below those of n boxes tell
  pub pending_kept : (w w' : List ℕ) (n : ℕ) → ((i : ℕ) → i < base + 2 * n → get_or w' i 0 ≡ get_or w i 0)
      → pending text tape ms h base w' n ≡ pending text tape ms h base w n
  unfolding pending
  pending_kept w w' zero f = refl
  pending_kept w w' (suc n) f =
      ap₂ (λ (a b : List Line). a ++ b)
      (ap₂ (λ (a b : ℕ). rest text tape ms h a b (suc n)) (f (base + 2 * n) (omega arith)) (f (base + 2 * n + 1) (omega arith)))
      (pending_kept w w' n (λ i l. f i (omega (arith, l))))
