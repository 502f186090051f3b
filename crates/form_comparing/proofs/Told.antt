-- What tests tell of declarations and origins, in the code's terms: p, q and r are answers, and the premises are what led there.
use mathlib.Core.Path.{◌≡◌, refl, sym, ap, ◌∙◌}
use mathlib.Core.Bool.{Bool, true, false, ◌&&◌, and-true, and-false, and_assoc}
use mathlib.Core.List.{List}
use Prim.Native.Nat.{ℕ, zero, suc, ◌+◌, ◌-◌, ◌<◌, ◌≤◌}
use native.Mathlib.Nat.{add-zero, sub-zero}
use native.Mathlib.Numerals.{add-two}
use native.Mathlib.Omega.{arith}
use lib.Dec.{eqb}
use Rattle.meaning.specs.Lists.{pick, agree}
use Rattle.meaning.specs.Names.{same}
use Rattle.meaning.specs.Origins.{same_section, same_declared, same_origin}
use Rattle.laws.specs.Decides.{declared_decided}
use Rattle.text_names.specs.Word.{name_of}
use Rattle.tape.specs.Tape.{variable_role}
use Rattle.form_rows.specs.Entries.{role_at, name_at, names_from, is_function_role, arity_at, sort_place, declared_at}
use Rattle.form_rows.specs.Rows.{section_of, origin_of}
use Rattle.form_rows.specs.Kinds.{kind_at, declared_by}
use Rattle.form_rows.specs.declared.Origin.{Origin}

-- ---- the c names from i and from j on: the first k are the same

module _ (text tape : List ℕ) (i j c : ℕ) where
  -- what is left to compare
  abbrev pub NamesFrom : ℕ → Bool
  NamesFrom k = agree same (names_from text tape (i + k) (c - k)) (names_from text tape (j + k) (c - k))

  pub compare_none : agree same (names_from text tape i c) (names_from text tape j c) ≡ NamesFrom 0
  compare_none = rw (add-zero i, add-zero j, sub-zero c)

  module _ (k : ℕ) where
    pub compare_end : c ≤ k → NamesFrom k ≡ true
    unfolding names_from agree
    compare_end l = let z : c - k ≡ 0 = omega arith in rw z

    module _ (r : Bool) (l : k < c) (t : r ≡ same (name_at text tape (i + k)) (name_at text tape (j + k))) where
      one_more : c - k ≡ suc (c - (k + 1))
      one_more = omega arith

      pub compare_on : r ≡ true → NamesFrom k ≡ NamesFrom (k + 1)
      unfolding names_from agree pick
      compare_on u =
          let x : suc (i + k) ≡ i + (k + 1) = omega arith in
          let y : suc (j + k) ≡ j + (k + 1) = omega arith in
          rw (one_more, ← t, u, x, y)

      pub compare_off : r ≡ false → NamesFrom k ≡ false
      unfolding names_from agree pick
      compare_off u = rw (one_more, ← t, u)

-- inputs and output are one run of names
one_run : (text tape : List ℕ) (i j n : ℕ) → agree same (names_from text tape i (suc n)) (names_from text tape j (suc n))
    ≡ (agree same (names_from text tape i n) (names_from text tape j n) && same (name_at text tape (i + n)) (name_at text tape (j + n)))
unfolding names_from agree pick
one_run text tape i j zero = rw (add-zero i, add-zero j) (go (same (name_at text tape i) (name_at text tape j)))
  where
    go : (b : Bool) → pick b true false ≡ b
    go true = refl
    go false = refl
one_run text tape i j (suc n) =
    let a : suc i + n ≡ i + suc n = omega arith in
    let b : suc j + n ≡ j + suc n = omega arith in
    go (same (name_at text tape i) (name_at text tape j)) _ _ _ (rw (a, b) at (one_run text tape (suc i) (suc j) n))
  where
    go : (b x y z : Bool) → x ≡ (y && z) → pick b x false ≡ (pick b y false && z)
    go true x y z h = h
    go false x y z h = refl

-- ---- declarations

pub sorts_there : (text tape : List ℕ) (d e i j : ℕ) (r : Bool) → i ≡ sort_place tape d → j ≡ sort_place tape e
    → r ≡ same (name_at text tape i) (name_at text tape j)
    → r ≡ same (name_at text tape (sort_place tape d)) (name_at text tape (sort_place tape e))
sorts_there text tape d e i j r a b h = rw (← a, ← b) h

by_kind : (text tape : List ℕ) (d : ℕ) → declared_at text tape d ≡ declared_by text tape d (kind_at tape d)
unfolding declared_at declared_by kind_at pick
by_kind text tape d = go (is_function_role (role_at tape d)) (eqb (role_at tape d) variable_role)
  where
    go : (b v : Bool) → pick b (declared_by text tape d (suc (suc (arity_at tape d)))) (pick v (declared_by text tape d 1) (declared_by text tape d 0))
        ≡ declared_by text tape d (pick b (arity_at tape d + 2) (pick v 1 0))
    go true v = rw (add-two (arity_at tape d))
    go false true = refl
    go false false = refl

module _ (text tape : List ℕ) (d e : ℕ) where
  -- what the kinds k and l leave to say but for the name
  unfoldable rest_of : ℕ → ℕ → Bool
  rest_of zero zero = true
  rest_of zero (suc l) = false
  rest_of (suc k) zero = false
  rest_of (suc zero) (suc zero) = same (name_at text tape (sort_place tape d)) (name_at text tape (sort_place tape e))
  rest_of (suc zero) (suc (suc m)) = false
  rest_of (suc (suc n)) (suc zero) = false
  rest_of (suc (suc n)) (suc (suc m)) =
      agree same (names_from text tape (d + 1) n) (names_from text tape (e + 1) m) && same (name_at text tape (d + 1 + n)) (name_at text tape (e + 1 + m))

  abbrev named : Bool
  named = same (name_at text tape d) (name_at text tape e)

  by_kinds : (k l : ℕ) → same_declared (declared_by text tape d k) (declared_by text tape e l) ≡ (named && rest_of k l)
  unfolding declared_by same_declared rest_of
  by_kinds zero zero = sym (and-true named)
  by_kinds zero (suc zero) = sym (and-false named)
  by_kinds zero (suc (suc m)) = sym (and-false named)
  by_kinds (suc zero) zero = sym (and-false named)
  by_kinds (suc (suc n)) zero = sym (and-false named)
  by_kinds (suc zero) (suc zero) = refl
  by_kinds (suc zero) (suc (suc m)) = sym (and-false named)
  by_kinds (suc (suc n)) (suc zero) = sym (and-false named)
  by_kinds (suc (suc n)) (suc (suc m)) =
      and_assoc named (agree same (names_from text tape (d + 1) n) (names_from text tape (e + 1) m)) (same (name_at text tape (d + 1 + n)) (name_at text tape (e + 1 + m)))

  names_apart : (i j n m : ℕ) → (n ≡ m → ⊥) → agree same (names_from text tape i n) (names_from text tape j m) ≡ false
  unfolding names_from agree pick
  names_apart i j zero zero h = absurd (h refl)
  names_apart i j zero (suc m) h = refl
  names_apart i j (suc n) zero h = refl
  names_apart i j (suc n) (suc m) h = rw (names_apart (suc i) (suc j) n m (λ q. h (ap suc q))) (go (same (name_at text tape i) (name_at text tape j)))
    where
      go : (b : Bool) → pick b false false ≡ false
      go true = refl
      go false = refl

  rest_apart : (k l : ℕ) → (k ≡ l → ⊥) → rest_of k l ≡ false
  unfolding rest_of
  rest_apart zero zero h = absurd (h refl)
  rest_apart zero (suc l) h = refl
  rest_apart (suc k) zero h = refl
  rest_apart (suc zero) (suc zero) h = absurd (h refl)
  rest_apart (suc zero) (suc (suc m)) h = refl
  rest_apart (suc (suc n)) (suc zero) h = refl
  rest_apart (suc (suc n)) (suc (suc m)) h = rw (names_apart (d + 1) (e + 1) n m (λ q. h (ap (λ (i : ℕ). suc (suc i)) q)))

  abbrev declared : Bool
  declared = same_declared (declared_at text tape d) (declared_at text tape e)

  module _ (k l : ℕ) (a : k ≡ kind_at tape d) (b : l ≡ kind_at tape e) where
    told : declared ≡ (named && rest_of k l)
    told = rw (by_kind text tape d, by_kind text tape e, ← a, ← b) (by_kinds k l)

    pub kinds_apart : (k ≡ l → ⊥) → (named && false) ≡ declared
    kinds_apart h = sym (told ∙ rw (rest_apart k l h))

    module _ (h : k ≡ l) where
      pub functions_told : (r : Bool) → 1 < k → r ≡ agree same (names_from text tape (d + 1) (k - 1)) (names_from text tape (e + 1) (k - 1))
          → (named && r) ≡ declared
      unfolding rest_of
      functions_told r g f = sym (told ∙ rw (← h, go k g f))
        where
          go : (k : ℕ) → 1 < k → r ≡ agree same (names_from text tape (d + 1) (k - 1)) (names_from text tape (e + 1) (k - 1)) → rest_of k k ≡ r
          go zero g f = absurd (omega arith)
          go (suc zero) g f = absurd (omega arith)
          go (suc (suc n)) g f = let m : suc (suc n) - 1 ≡ suc n = omega arith in sym (one_run text tape (d + 1) (e + 1) n) ∙ sym (rw m at f)

      pub variables_told : (r : Bool) → k ≡ 1 → r ≡ same (name_at text tape (sort_place tape d)) (name_at text tape (sort_place tape e))
          → (named && r) ≡ declared
      unfolding rest_of
      variables_told r g f = sym (told ∙ rw (← h, g, f))

      pub sorts_told : k ≤ 1 → (k ≡ 1 → ⊥) → (named && true) ≡ declared
      unfolding rest_of
      sorts_told g f = let z : k ≡ 0 = omega arith in sym (told ∙ rw (← h, z))

  pub one_declaration : d ≡ e → true ≡ declared
  one_declaration h = rw (h, declared_decided.self (declared_at text tape e))

  module _ (p : Bool) (c : p ≡ named) where
    pub declared_names : p ≡ false → p ≡ declared
    declared_names h = h ∙ sym (told (kind_at tape d) (kind_at tape e) refl refl ∙ rw (← c, h))

    pub declared_told : (r : Bool) → p ≡ true → (named && r) ≡ declared → r ≡ declared
    declared_told r h g = rw (← c, h) at g

-- ---- origins

module _ (text tape : List ℕ) (a b : Origin) where
  abbrev one : Bool
  one = same_origin (origin_of text tape a) (origin_of text tape b)

  module _ (p : Bool) (e : p ≡ same_declared (declared_at text tape a.place) (declared_at text tape b.place)) where
    pub origin_declared : p ≡ false → false ≡ one
    unfolding same_origin origin_of
    origin_declared h =
        rw (← e, h)
        (sym (and-false (same (name_of text a.home) (name_of text b.home) && same_section (section_of text a.section) (section_of text b.section))))

    module _ (q : Bool) (f : q ≡ same (name_of text a.home) (name_of text b.home)) (h : p ≡ true) where
      pub origin_homes : q ≡ false → q ≡ one
      unfolding same_origin origin_of
      origin_homes g = g ∙ rw (← f, g)

      pub origin_told : (r : Bool) → q ≡ true → r ≡ same_section (section_of text a.section) (section_of text b.section) → r ≡ one
      unfolding same_origin origin_of
      origin_told r g k = rw (← f, g, ← e, h, ← k) (sym (and-true r))
