-- Entries of a tape cut by their roles: a front whose roles pass a test, and what stands behind it.
use Rattle.std.specs.Prelude.{◌≡◌, ℕ, Bool, true, false, not, eqb}
use Rattle.std.proofs.Math.Path.{refl, ap₂}
use Rattle.std.proofs.Common.{sym, ap, ◌∙◌, arith, true≢false}
use mathlib.Core.List.{List, [], ◌∷◌, ◌++◌, map}
use Rattle.meaning.specs.Lists.{pick, each}
use Rattle.meaning.specs.Names.{Name}
use Rattle.tape.specs.Roles.{All, all_map}
use Rattle.tape.specs.Tape.{Entry, entry}

-- the entries up to the first whose role fails
unfoldable front : (ℕ → Bool) → List Entry → List Entry
front p [] = []
front p (e ∷ es) = let r = front p es in let more = e ∷ r in pick (p e.role) more []

-- and that one with all that follow
unfoldable behind : (ℕ → Bool) → List Entry → List Entry
behind p [] = []
behind p (e ∷ es) = let r = behind p es in pick (p e.role) r (e ∷ es)

-- any role but one
abbrev pub but : ℕ → ℕ → Bool
but r s = not (eqb r s)

-- ---- entries whose roles all pass, and entries of which the first, if any, fails

abbrev pub Passing : (ℕ → Bool) → ℕ → Type 0
Passing p r = p r ≡ true

abbrev pub Passes : (ℕ → Bool) → List Entry → Type 0
Passes p es = All (Passing p) es

abbrev pub Ends : (ℕ → Bool) → List Entry → Type 0
Ends p [] = Unit {0}
Ends p (e ∷ es) = p e.role ≡ false

module _ (p : ℕ → Bool) where
  front_so : (xs ys : List Entry) → Passes p xs → Ends p ys → front p (xs ++ ys) ≡ xs
  unfolding front pick
  front_so [] [] h e = refl
  front_so [] (y ∷ ys) h e = rw e
  front_so (x ∷ xs) ys h e = rw h.0 (ap (λ (es : List Entry). x ∷ es) (front_so xs ys h.1 e))

  behind_so : (xs ys : List Entry) → Passes p xs → Ends p ys → behind p (xs ++ ys) ≡ ys
  unfolding behind pick
  behind_so [] [] h e = refl
  behind_so [] (y ∷ ys) h e = rw e
  behind_so (x ∷ xs) ys h e = rw h.0 (behind_so xs ys h.1 e)

  pub cut : (xs ys us vs : List Entry) → Passes p xs → Passes p us → Ends p ys → Ends p vs → xs ++ ys ≡ us ++ vs → (xs ≡ us) × (ys ≡ vs)
  cut xs ys us vs h k e f q = (
    sym (front_so xs ys h e) ∙ ap (front p) q ∙ front_so us vs k f,
    sym (behind_so xs ys h e) ∙ ap (behind p) q ∙ behind_so us vs k f,
  )

  pub ends_append : (xs ys : List Entry) → Ends p xs → Ends p ys → Ends p (xs ++ ys)
  ends_append [] ys e f = f
  ends_append (x ∷ xs) ys e f = e

  pub ends_each : {A : Type 0} (flat : A → List Entry) → ((a : A) → Ends p (flat a)) → (as' : List A) → Ends p (each flat as')
  unfolding each
  ends_each flat h [] = tt
  ends_each flat h (a ∷ as') = ends_append (flat a) (each flat as') (h a) (ends_each flat h as')

  pub ends_names : (r : ℕ) → p r ≡ false → (ns : List Name) → Ends p (map (entry r) ns)
  ends_names r h [] = tt
  ends_names r h (n ∷ ns) = h

  pub passes_names : (r : ℕ) → p r ≡ true → (ns : List Name) → Passes p (map (entry r) ns)
  passes_names r h ns = all_map (Passing p) r h ns

-- ---- one entry

pub cons_cut : (e f : Entry) (xs ys : List Entry) → e ∷ xs ≡ f ∷ ys → (e ≡ f) × (xs ≡ ys)
cons_cut e f xs ys q = (cc, cc)

pub entry_name : (r s : ℕ) (n m : Name) → entry r n ≡ entry s m → n ≡ m
entry_name r s n m q = ap (λ (e : Entry). e.name) q

pub no_cons : {X : Type 0} (e : Entry) (xs : List Entry) → ◌≡◌ {A = List Entry} [] (e ∷ xs) → X
no_cons e xs q = let z : ◌≡◌ {A = ℕ} 0 1 = cc in absurd (omega arith)

-- a role that passes and one that fails are two
pub other_role : {X : Type 0} (p : ℕ → Bool) (e f : Entry) (xs ys : List Entry) → p e.role ≡ true → p f.role ≡ false → e ∷ xs ≡ f ∷ ys → X
other_role p e f xs ys h k q = absurd (true≢false (sym h ∙ ap (λ (z : Entry). p z.role) (cons_cut e f xs ys q).0 ∙ k))

pub names_told : (r : ℕ) (ns ms : List Name) → map (entry r) ns ≡ map (entry r) ms → ns ≡ ms
names_told r [] [] q = refl
names_told r [] (m ∷ ms) q = no_cons _ _ q
names_told r (n ∷ ns) [] q = no_cons _ _ (sym q)
names_told r (n ∷ ns) (m ∷ ms) q =
    let h = cons_cut (entry r n) (entry r m) _ _ q in
    ap₂ ◌∷◌ (entry_name r r n m h.0) (names_told r ns ms h.1)

-- ---- blocks: the first entry fails, and all that follow it pass

abbrev pub Block : (ℕ → Bool) → List Entry → Type 0
Block p [] = ⊥
Block p (e ∷ es) = (p e.role ≡ false) × Passes p es

module _ (p : ℕ → Bool) where
  block_ends : (xs ys : List Entry) → Block p xs → Ends p (xs ++ ys)
  block_ends [] ys h = absurd h
  block_ends (x ∷ xs) ys h = h.0

  block_cut : (xs ys us vs : List Entry) → Block p xs → Block p us → Ends p ys → Ends p vs → xs ++ ys ≡ us ++ vs → (xs ≡ us) × (ys ≡ vs)
  block_cut [] ys us vs h k e f q = absurd h
  block_cut (x ∷ xs) ys [] vs h k e f q = absurd k
  block_cut (x ∷ xs) ys (u ∷ us) vs h k e f q =
      let a = cons_cut x u _ _ q in
      let b = cut p xs ys us vs h.1 k.1 e f a.1 in
      (ap₂ ◌∷◌ a.0 b.0, b.1)

  not_empty : {X : Type 0} (xs ys : List Entry) → Block p xs → ◌≡◌ {A = List Entry} [] (xs ++ ys) → X
  not_empty [] ys h q = absurd h
  not_empty (x ∷ xs) ys h q = no_cons x (xs ++ ys) q

  module _ {A : Type 0} (flat : A → List Entry) (block : (a : A) → Block p (flat a)) where
    blocks_end : (as' : List A) → Ends p (each flat as')
    unfolding each
    blocks_end [] = tt
    blocks_end (a ∷ as') = block_ends (flat a) (each flat as') (block a)

    -- blocks one after the other are told, where each is
    pub blocks_told : ((a b : A) → flat a ≡ flat b → a ≡ b) → (as' bs : List A) → each flat as' ≡ each flat bs → as' ≡ bs
    unfolding each
    blocks_told one [] [] q = refl
    blocks_told one [] (b ∷ bs) q = not_empty (flat b) (each flat bs) (block b) q
    blocks_told one (a ∷ as') [] q = not_empty (flat a) (each flat as') (block a) (sym q)
    blocks_told one (a ∷ as') (b ∷ bs) q =
        let h = block_cut (flat a) (each flat as') (flat b) (each flat bs) (block a) (block b) (blocks_end as') (blocks_end bs) q in
        ap₂ ◌∷◌ (one a b h.0) (blocks_told one as' bs h.1)
