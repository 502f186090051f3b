-- Laws of rows in a memory: what is written is read back, what lies apart stays, and rows that are one item stand for one.
use Rattle.std.specs.Prelude.{◌≡◌, refl, Bool, true, false, List, [], ◌∷◌, ℕ, zero, suc, ◌+◌, ◌<◌, ◌≤◌, min, length, get_or, set, take, eqb, leb}
use Rattle.std.proofs.Common.{sym, ap, ap₂, ◌∙◌, add-zero, arith, length-set, get_or-set_same, get_or-set_other, take_all, leb-true, leb-false}
use Rattle.std.proofs.lemmas.List.Edits.{sets}
use Rattle.meaning.specs.Lists.{pick, agree}
use Rattle.tape.specs.Tape.{input_role}
use Rattle.form_sections.specs.Sections.{section_word}
use Rattle.form_sections.specs.SectionLaws.{IsWord, section_back}
use Rattle.form_rows.specs.Entries.{role_at, inputs_from}
use Rattle.form_rows.specs.Rows.{words_from, row_at, row_words, row_size}
use Rattle.form_rows.specs.declared.Row.{Row}

-- ---- words of a memory in which vs was stored from b on

stored_before : (w : List ℕ) (b : ℕ) (vs : List ℕ) (i : ℕ) → i < b → get_or (sets w b vs) i 0 ≡ get_or w i 0
stored_before w b [] i h = refl
stored_before w b (v ∷ vs) i h = stored_before (set w b v) (suc b) vs i (omega arith) ∙ get_or-set_other w b i v 0 (λ q. omega arith)

stored_behind : (w : List ℕ) (b : ℕ) (vs : List ℕ) (i : ℕ) → b + length vs ≤ i → get_or (sets w b vs) i 0 ≡ get_or w i 0
stored_behind w b [] i h = refl
stored_behind w b (v ∷ vs) i h = stored_behind (set w b v) (suc b) vs i (omega arith) ∙ get_or-set_other w b i v 0 (λ q. omega arith)

pub stored_there : (w : List ℕ) (b : ℕ) (vs : List ℕ) (i : ℕ) → i < length vs → b + length vs ≤ length w → get_or (sets w b vs) (b + i) 0 ≡ get_or vs i 0
stored_there w b [] i h l = absurd (omega arith)
stored_there w b (v ∷ vs) zero h l =
    let g : b < length w = omega arith in
    rw (add-zero b) (stored_before (set w b v) (suc b) vs b (omega arith) ∙ get_or-set_same w b v 0 g)
stored_there w b (v ∷ vs) (suc i) h l =
    let e : b + suc i ≡ suc b + i = omega arith in
    rw e (stored_there (set w b v) (suc b) vs i (omega arith) (omega (arith, length-set w b v)))

words_there : (w : List ℕ) (c : ℕ) (vs : List ℕ) → ((i : ℕ) → i < length vs → get_or w (c + i) 0 ≡ get_or vs i 0) → words_from w c (length vs) ≡ vs
unfolding words_from
words_there w c [] h = refl
words_there w c (v ∷ vs) h =
    ap₂ ◌∷◌ (rw add-zero at (h 0 (omega arith)))
    (words_there w (suc c) vs (λ i l. let e : suc c + i ≡ c + suc i = omega arith in rw e (h (suc i) (omega arith))))

pub words_from_same : (w u : List ℕ) (c n : ℕ) → ((i : ℕ) → c ≤ i → i < c + n → get_or u i 0 ≡ get_or w i 0) → words_from u c n ≡ words_from w c n
unfolding words_from
words_from_same w u c zero h = refl
words_from_same w u c (suc n) h = ap₂ ◌∷◌ (h c (omega arith) (omega arith)) (words_from_same w u (suc c) n (λ i l m. h i (omega arith) (omega arith)))

-- ---- words that are read

pub length_words : (w : List ℕ) (b c : ℕ) → length (words_from w b c) ≡ c
unfolding words_from
length_words w b zero = refl
length_words w b (suc c) = ap suc (length_words w (suc b) c)

-- ---- the sorts of a row

pub nine_sorts : (w : List ℕ) (b : ℕ) → length (row_at w b).sorts ≡ 9
unfolding row_at
nine_sorts w b = length_words w (b + 6) 9

-- nine of them are all
pub take_nine : (n : ℕ) (xs : List ℕ) → length xs ≡ 9 → take (min n 9) xs ≡ take n xs
take_nine n xs l = go (leb n 9) refl
  where
    go : (b : Bool) → leb n 9 ≡ b → take (min n 9) xs ≡ take n xs
    go true e = let h : min n 9 ≡ n = omega (arith, leb-true n 9 e) in ap (λ (k : ℕ). take k xs) h
    go false e = let g = leb-false n 9 e in take_all (min n 9) xs (omega arith) ∙ sym (take_all n xs (omega arith))

pub agree_lengths : {A : Type 0} (e : A → A → Bool) (xs ys : List A) → (length xs ≡ length ys → ⊥) → agree e xs ys ≡ false
unfolding agree pick
agree_lengths e [] [] h = absurd (h refl)
agree_lengths e [] (y ∷ ys) h = refl
agree_lengths e (x ∷ xs) [] h = refl
agree_lengths e (x ∷ xs) (y ∷ ys) h = rw (agree_lengths e xs ys (λ q. h (ap suc q))) (go (e x y))
  where
    go : (b : Bool) → pick b false false ≡ false
    go true = refl
    go false = refl

-- a declaration on the tape has no more inputs than are looked for
pub inputs_short : (t : List ℕ) (i c : ℕ) → inputs_from t i c ≤ c
unfolding inputs_from pick
inputs_short t i zero = omega arith
inputs_short t i (suc c) = go (eqb (role_at t i) input_role) (inputs_short t (suc i) c)
  where
    go : (b : Bool) → inputs_from t (suc i) c ≤ c → pick b (suc (inputs_from t (suc i) c)) 0 ≤ suc c
    go true h = omega arith
    go false h = omega arith

-- ---- rows

-- equal words, equal rows
pub row_same : (w u : List ℕ) (c : ℕ) → ((i : ℕ) → c ≤ i → i < c + row_size → get_or u i 0 ≡ get_or w i 0) → row_at u c ≡ row_at w c
unfolding row_at
row_same w u c h =
    rw (
      h c (omega arith) (omega arith),
      h (c + 1) (omega arith) (omega arith),
      h (c + 2) (omega arith) (omega arith),
      h (c + 3) (omega arith) (omega arith),
      h (c + 4) (omega arith) (omega arith),
      h (c + 5) (omega arith) (omega arith),
      words_from_same w u (c + 6) 9 (λ i l m. h i (omega arith) (omega arith)),
    )

-- the sections are words, and there are nine sorts
pub record IsRow (r : Row) : Type 0 where
  pub standing_word : IsWord r.standing
  pub section_word : IsWord r.origin.section
  pub nine : length r.sorts ≡ 9

row_there : (u : List ℕ) (b : ℕ) (r : Row) → IsRow r → ((i : ℕ) → i < length (row_words r) → get_or u (b + i) 0 ≡ get_or (row_words r) i 0) → row_at u b ≡ r
unfolding row_at row_words
row_there u b r k h =
    let first : get_or u b 0 ≡ section_word r.standing = rw add-zero at (h 0 (omega arith)) in
    let sorts : words_from u (b + 6) (length r.sorts) ≡ r.sorts =
    words_there u (b + 6) r.sorts (λ i l.
    let e : b + 6 + i ≡ b + suc (suc (suc (suc (suc (suc i))))) = omega arith in
    rw e (h (suc (suc (suc (suc (suc (suc i)))))) (omega arith))) in
    rw (
      first,
      h 1 (omega arith),
      h 2 (omega arith),
      h 3 (omega arith),
      h 4 (omega arith),
      h 5 (omega arith),
      ← k.nine,
      sorts,
      section_back r.standing k.standing_word,
      section_back r.origin.section k.section_word,
    )

-- what is written is read back
pub row_back : (w : List ℕ) (b : ℕ) (r : Row) → IsRow r → b + row_size ≤ length w → row_at (sets w b (row_words r)) b ≡ r
unfolding row_words
row_back w b r k h = row_there (sets w b (row_words r)) b r k (λ i l. stored_there w b (row_words r) i l (omega (arith, k.nine)))

-- ---- items
