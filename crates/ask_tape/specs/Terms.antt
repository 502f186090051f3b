-- Terms and equations laid flat are told by their entries: a name's role says how many arguments follow, or that they are closed.
use Rattle.std.specs.Prelude.{◌≡◌, ◌⊎◌, Bool}
use Rattle.std.proofs.Math.Path.{refl, sym}
use Rattle.std.proofs.Common.{ap, ap₂, ◌∙◌, inl, inr, arith, true≢false, eqb-true}
use Prim.Native.Nat.{ℕ, zero, suc}
use Rattle.std.proofs.Math.Bool.{true, false}
use mathlib.Core.List.{List, [], ◌∷◌, ◌++◌, append_assoc}
use Rattle.std.proofs.Math.Dec.{eqb}
use Rattle.meaning.specs.Lists.{pick, each}
use Rattle.meaning.specs.Names.{Name, is_operator}
use Rattle.meaning.specs.Syntax.{Term, node, Terms, no_terms, ◌then◌, Sides, Equation}
use Rattle.tape.specs.Roles.{all_role, all_behind_tag}
use Rattle.tape.specs.Tape.{Entry, entry, role_with, closing, flat_node, how_many, flat_term, flat_terms, flat_sides, flat_equation, alone_role, close_role}
use Rattle.ask_tape.specs.Parts.{Passing, Ends, cons_cut, entry_name, no_cons, other_role, but, blocks_told}

-- ---- roles

-- where the arguments are not closed the role says how many there are
role_count : (f : Name) (n m : ℕ) → role_with f n ≡ role_with f m → eqb (role_with f n) 21 ≡ false → n ≡ m
unfolding role_with pick
role_count f n m q h =
    go (is_operator f) (eqb n 1) (eqb n 2) (eqb m 1) (eqb m 2) refl refl refl refl (ap (λ (r : ℕ). eqb r 25) q) (ap (λ (r : ℕ). eqb r 26) q) h
  where
    go : (o a b c d : Bool) → eqb n 1 ≡ a → eqb n 2 ≡ b → eqb m 1 ≡ c → eqb m 2 ≡ d
        → eqb (pick o (pick a 25 (pick b 26 21)) 21) 25 ≡ eqb (pick o (pick c 25 (pick d 26 21)) 21) 25
        → eqb (pick o (pick a 25 (pick b 26 21)) 21) 26 ≡ eqb (pick o (pick c 25 (pick d 26 21)) 21) 26
        → eqb (pick o (pick a 25 (pick b 26 21)) 21) 21 ≡ false → n ≡ m
    go true true b true d e f g i q r h = eqb-true n 1 e ∙ sym (eqb-true m 1 g)
    go true true b false true e f g i q r h = absurd (true≢false q)
    go true true b false false e f g i q r h = absurd (true≢false q)
    go true false true true d e f g i q r h = absurd (true≢false (sym q))
    go true false true false true e f g i q r h = eqb-true n 2 f ∙ sym (eqb-true m 2 i)
    go true false true false false e f g i q r h = absurd (true≢false r)
    go true false false c d e f g i q r h = absurd (true≢false h)
    go false a b c d e f g i q r h = absurd (true≢false h)

-- ---- terms

abbrev begins_term : ℕ → Bool
begins_term r = pick (eqb r 20) true (pick (eqb r 21) true (pick (eqb r 25) true (eqb r 26)))

-- there is a first entry, and its role passes
abbrev Starts : (ℕ → Bool) → List Entry → Type 0
Starts p [] = ⊥
Starts p (e ∷ es) = p e.role ≡ true

starts_on : (p : ℕ → Bool) (xs ys : List Entry) → Starts p xs → Starts p (xs ++ ys)
starts_on p [] ys h = absurd h
starts_on p (x ∷ xs) ys h = h

-- one ends where the other starts
apart : {X : Type 0} (p : ℕ → Bool) (xs ys : List Entry) → Ends p xs → Starts p ys → xs ≡ ys → X
apart p xs [] e s q = absurd s
apart p [] (y ∷ ys) e s q = no_cons y ys q
apart p (x ∷ xs) (y ∷ ys) e s q = other_role p y x ys xs s e (sym q)

term_starts : (t : Term) → Starts begins_term (flat_term t)
unfolding flat_term flat_node how_many pick
term_starts (node f no_terms) = refl
term_starts (node f (t then ts)) = all_role (Passing begins_term) refl refl refl f _

no_arguments : (ts : Terms) → how_many ts ≡ 0 → ts ≡ no_terms
unfolding how_many
no_arguments no_terms e = refl
no_arguments (t then ts) e = absurd (omega (arith, e))

-- either the number of terms is known, or they end where no term begins
abbrev Bounded : Terms → Terms → List Entry → List Entry → Type 0
Bounded ts us xs ys = (how_many ts ≡ how_many us) ⊎ (Ends begins_term xs × Ends begins_term ys)

abbrev TermsTold : Terms → Terms → Type 0
TermsTold ts us = (xs ys : List Entry) → Bounded ts us xs ys → flat_terms ts ++ xs ≡ flat_terms us ++ ys → (ts ≡ us) × (xs ≡ ys)

-- a name with its arguments, where these are told
module _ (f g : Name) (ts us : Terms) (xs ys : List Entry) (later : TermsTold ts us) where
  -- the arguments are closed, or their number is known
  arguments_cut : (r s : ℕ) → r ≡ s → (eqb r 21 ≡ false → how_many ts ≡ how_many us)
      → (flat_terms ts ++ closing r) ++ xs ≡ (flat_terms us ++ closing s) ++ ys → (ts ≡ us) × (xs ≡ ys)
  unfolding closing pick
  arguments_cut r s p count q =
      go (eqb r 21) refl (ap (λ (i : ℕ). eqb i 21) (sym p))
      (sym (append_assoc (flat_terms ts) (closing r) xs) ∙ q ∙ append_assoc (flat_terms us) (closing s) ys)
    where
      go : (b : Bool) → eqb r 21 ≡ b → eqb s 21 ≡ b → flat_terms ts ++ (closing r ++ xs) ≡ flat_terms us ++ (closing s ++ ys) → (ts ≡ us) × (xs ≡ ys)
      go true e e' q =
          let h : flat_terms ts ++ (entry close_role [] ∷ xs) ≡ flat_terms us ++ (entry close_role [] ∷ ys) = rw (e, e') at q in
          let k = later (entry close_role [] ∷ xs) (entry close_role [] ∷ ys) (inr (refl, refl)) h in
          (k.0, (cons_cut _ _ xs ys k.1).1)
      go false e e' q =
          let h : flat_terms ts ++ xs ≡ flat_terms us ++ ys = rw (e, e') at q in
          later xs ys (inl (count e)) h

  some_cut : (n m : ℕ) → how_many ts ≡ suc n → how_many us ≡ suc m
      → entry (role_with f (suc n)) f ∷ ((flat_terms ts ++ closing (role_with f (suc n))) ++ xs)
      ≡ entry (role_with g (suc m)) g ∷ ((flat_terms us ++ closing (role_with g (suc m))) ++ ys)
      → (node f ts ≡ node g us) × (xs ≡ ys)
  some_cut n m e e' q =
      let h = cons_cut (entry (role_with f (suc n)) f) (entry (role_with g (suc m)) g) _ _ q in
      let name = entry_name _ _ f g h.0 in
      let role : role_with f (suc n) ≡ role_with g (suc m) = ap (λ (e : Entry). e.role) h.0 in
      let one : role_with f (suc n) ≡ role_with f (suc m) = role ∙ ap (λ (w : Name). role_with w (suc m)) (sym name) in
      let k = arguments_cut _ _ role (λ o. e ∙ role_count f (suc n) (suc m) one o ∙ sym e') h.1 in
      ((λ i. node (name i) (k.0 i)), k.1)

  node_cut : flat_node f (how_many ts) (flat_terms ts) ++ xs ≡ flat_node g (how_many us) (flat_terms us) ++ ys → (node f ts ≡ node g us) × (xs ≡ ys)
  unfolding flat_node
  node_cut q = go (how_many ts) (how_many us) refl refl q
    where
      go : (n m : ℕ) → how_many ts ≡ n → how_many us ≡ m → flat_node f n (flat_terms ts) ++ xs ≡ flat_node g m (flat_terms us) ++ ys
          → (node f ts ≡ node g us) × (xs ≡ ys)
      go zero zero e e' q =
          let h = cons_cut (entry alone_role f) (entry alone_role g) xs ys q in
          let name = entry_name 20 20 f g h.0 in
          let none_left = no_arguments ts e ∙ sym (no_arguments us e') in
          ((λ i. node (name i) (none_left i)), h.1)
      go zero (suc m) e e' q = other_role (but 20) _ _ _ _ (all_role (Passing (but 20)) refl refl refl g (suc m)) refl (sym q)
      go (suc n) zero e e' q = other_role (but 20) _ _ _ _ (all_role (Passing (but 20)) refl refl refl f (suc n)) refl q
      go (suc n) (suc m) e e' q = some_cut n m e e' q

mutual
  unfolding flat_term how_many

  pub term_cut : (t u : Term) (xs ys : List Entry) → flat_term t ++ xs ≡ flat_term u ++ ys → (t ≡ u) × (xs ≡ ys)
  term_cut (node f ts) (node g us) xs ys q = node_cut f g ts us xs ys (λ zs ws b h. terms_cut ts us zs ws b h) q

  terms_cut : (ts us : Terms) (xs ys : List Entry) → Bounded ts us xs ys → flat_terms ts ++ xs ≡ flat_terms us ++ ys → (ts ≡ us) × (xs ≡ ys)
  terms_cut no_terms no_terms xs ys b q = (refl, q)
  terms_cut no_terms (u then us) xs ys (inl b) q = absurd (omega (arith, b))
  terms_cut no_terms (u then us) xs ys (inr b) q =
      apart begins_term xs _ b.0 (starts_on begins_term (flat_term u) _ (term_starts u)) (q ∙ append_assoc (flat_term u) (flat_terms us) ys)
  terms_cut (t then ts) no_terms xs ys (inl b) q = absurd (omega (arith, b))
  terms_cut (t then ts) no_terms xs ys (inr b) q =
      apart begins_term ys _ b.1 (starts_on begins_term (flat_term t) _ (term_starts t)) (sym q ∙ append_assoc (flat_term t) (flat_terms ts) xs)
  terms_cut (t then ts) (u then us) xs ys b q =
      let h = term_cut t u _ _ (sym (append_assoc (flat_term t) (flat_terms ts) xs) ∙ q ∙ append_assoc (flat_term u) (flat_terms us) ys) in
      let k = terms_cut ts us xs ys (bounded b) h.1 in
      ((λ i. h.0 i then k.0 i), k.1)
    where
      bounded : Bounded (t then ts) (u then us) xs ys → Bounded ts us xs ys
      bounded (inl e) = inl (omega (arith, e))
      bounded (inr e) = inr e

-- ---- the two sides of a condition or a conclusion

sides_onto : (r : ℕ) (a : Sides) (xs : List Entry) → flat_sides r a ++ xs ≡ flat_term a.left ++ (flat_term a.right ++ (entry r [] ∷ xs))
unfolding flat_sides
sides_onto r a xs =
    append_assoc (flat_term a.left) (flat_term a.right ++ (entry r [] ∷ [])) xs
    ∙ ap (λ (es : List Entry). flat_term a.left ++ es) (append_assoc (flat_term a.right) (entry r [] ∷ []) xs)

sides_cut : (r s : ℕ) (a b : Sides) (xs ys : List Entry) → flat_sides r a ++ xs ≡ flat_sides s b ++ ys
    → (a ≡ b) × (entry r [] ∷ xs ≡ entry s [] ∷ ys)
sides_cut r s a b xs ys q =
    let h = term_cut a.left b.left _ _ (sym (sides_onto r a xs) ∙ q ∙ sides_onto s b ys) in
    let k = term_cut a.right b.right _ _ h.1 in
    ((λ i. record { left = h.0 i; right = k.0 i }), k.1)

sides_start : (r : ℕ) (a : Sides) (xs : List Entry) → Starts begins_term (flat_sides r a ++ xs)
unfolding flat_sides
sides_start r a xs =
    starts_on begins_term (flat_sides r a) xs (starts_on begins_term (flat_term a.left) _ (term_starts a.left))

-- conditions, where nothing follows
conditions_told : (as' bs : List Sides) → each (flat_sides 23) as' ≡ each (flat_sides 23) bs → as' ≡ bs
unfolding each
conditions_told [] [] q = refl
conditions_told [] (b ∷ bs) q = apart begins_term [] _ tt (sides_start 23 b (each (flat_sides 23) bs)) q
conditions_told (a ∷ as') [] q = apart begins_term [] _ tt (sides_start 23 a (each (flat_sides 23) as')) (sym q)
conditions_told (a ∷ as') (b ∷ bs) q =
    let h = sides_cut 23 23 a b _ _ q in
    ap₂ ◌∷◌ h.0 (conditions_told as' bs (cons_cut _ _ _ _ h.1).1)

-- conditions, and the conclusion that follows them
conclusion_cut : (as' bs : List Sides) (c d : Sides) (xs ys : List Entry)
    → each (flat_sides 23) as' ++ (flat_sides 24 c ++ xs) ≡ each (flat_sides 23) bs ++ (flat_sides 24 d ++ ys) → (as' ≡ bs) × (c ≡ d) × (xs ≡ ys)
unfolding each
conclusion_cut [] [] c d xs ys q = let h = sides_cut 24 24 c d xs ys q in (refl, h.0, (cons_cut _ _ xs ys h.1).1)
conclusion_cut [] (b ∷ bs) c d xs ys q =
    other_role (but 23) _ _ _ _ refl refl (sides_cut 24 23 c b _ _ (q ∙ append_assoc (flat_sides 23 b) (each (flat_sides 23) bs) _)).1
conclusion_cut (a ∷ as') [] c d xs ys q =
    other_role (but 23) _ _ _ _ refl refl (sides_cut 24 23 d a _ _ (sym q ∙ append_assoc (flat_sides 23 a) (each (flat_sides 23) as') _)).1
conclusion_cut (a ∷ as') (b ∷ bs) c d xs ys q =
    let h = sides_cut 23 23 a b _ _
    (sym (append_assoc (flat_sides 23 a) (each (flat_sides 23) as') _) ∙ q ∙ append_assoc (flat_sides 23 b) (each (flat_sides 23) bs) _) in
    let k = conclusion_cut as' bs c d xs ys (cons_cut _ _ _ _ h.1).1 in
    (ap₂ ◌∷◌ h.0 k.0, k.1, k.2)

-- ---- equations

equation_told : (a b : Equation) → flat_equation a ≡ flat_equation b → a ≡ b
unfolding flat_equation
equation_told a b q =
    let h = cons_cut _ _ _ _ q in
    let k = conclusion_cut a.before b.before a.conclusion b.conclusion _ _ h.1 in
    let tag = entry_name _ _ _ _ h.0 in
    let after = conditions_told a.after b.after k.2 in
    λ i. record { tag = tag i; before = k.0 i; conclusion = k.1 i; after = after i }

pub equations_told : (as' bs : List Equation) → each flat_equation as' ≡ each flat_equation bs → as' ≡ bs
unfolding flat_equation
equations_told as' bs q =
    blocks_told (but 19) flat_equation (λ e. (refl, all_behind_tag (Passing (but 19)) refl refl refl refl refl refl refl e)) equation_told as' bs q
