-- Laws of frames: what lies apart from the words that changed stands for what it stood for; and tables that grow by a row.
use Rattle.std.specs.Prelude.{◌≡◌, ◌⊎◌, length, take, drop, set}
use Rattle.std.proofs.Math.Path.{refl, ap, ap₂}
use Rattle.std.proofs.Common.{sym, ◌∙◌, inl, inr, ⊎_elim, arith, length-set, length-take, length-drop, get_or-set_other, get_or-take, get_or-drop, ext_get_or}
use Prim.Native.Nat.{ℕ, zero, suc, ◌+◌, ◌-◌, ◌*◌, ◌≤◌, ◌<◌}
use mathlib.Core.List.{List, [], ◌∷◌, ◌++◌}
use Rattle.std.proofs.Math.ListN.{get_or}
use Rattle.std.proofs.lemmas.List.Edits.{sets}
use Rattle.meaning.specs.Origins.{Item}
use Rattle.meaning.specs.Normal.{Slot}
use Rattle.text_names.specs.Word.{name_of}
use Rattle.form_rows.specs.Rows.{item_of, row_at, row_size}
use Rattle.form_rows.specs.RowLaws.{row_same}
use Rattle.form.specs.Memory.{part, Same, Kept, KeptTwo}
use Rattle.form.specs.Forms.{slot_at, slots_at, items_at, equation_row_at, slot_size}

-- the words from b up to f lie apart from those from a up to e
abbrev pub Apart : ℕ → ℕ → ℕ → ℕ → Type 0
Apart a e b f = (f ≤ a) ⊎ (e ≤ b)

pub apart_within : (a e a' e' b f : ℕ) → a ≤ a' → e' ≤ e → Apart a e b f → Apart a' e' b f
apart_within a e a' e' b f h l (inl p) = inl (omega arith)
apart_within a e a' e' b f h l (inr p) = inr (omega arith)

-- ---- what changes little

pub kept_all : (a e : ℕ) (w : List ℕ) → Kept a e w w
kept_all a e w = record { size = refl; below = λ i h. refl; above = λ i h. refl }

pub kept_wider : (a e a' e' : ℕ) (w w' : List ℕ) → a' ≤ a → e ≤ e' → Kept a e w w' → Kept a' e' w w'
kept_wider a e a' e' w w' h l k = record { size = k.size; below = λ i p. k.below i (omega arith); above = λ i p. k.above i (omega arith) }

pub kept_then : (a e : ℕ) (w w' w'' : List ℕ) → Kept a e w w' → Kept a e w' w'' → Kept a e w w''
kept_then a e w w' w'' k l = record {
  size = l.size ∙ k.size;
  below = λ i h. l.below i h ∙ k.below i h;
  above = λ i h. l.above i h ∙ k.above i h;
}

pub kept_set : (w : List ℕ) (i v : ℕ) → Kept i (i + 1) w (set w i v)
kept_set w i v = record {
  size = length-set w i v;
  below = λ j h. get_or-set_other w i j v 0 (omega arith);
  above = λ j h. get_or-set_other w i j v 0 (omega arith);
}

pub kept_sets : (vs w : List ℕ) (i : ℕ) → Kept i (i + length vs) w (sets w i vs)
kept_sets [] w i = kept_all i (i + 0) w
kept_sets (v ∷ vs) w i =
    let k = kept_wider i (i + 1) i (i + suc (length vs)) w (set w i v) (omega arith) (omega arith) (kept_set w i v) in
    let l = kept_wider (suc i) (suc i + length vs) i (i + suc (length vs)) (set w i v) (sets (set w i v) (suc i) vs) (omega arith) (omega arith) (kept_sets vs (set w i v) (suc i)) in
    kept_then i (i + suc (length vs)) w (set w i v) _ k l

-- ---- what lies apart from what changed is the same

pub kept_same : (a e b f : ℕ) (w w' : List ℕ) → Apart a e b f → Kept a e w w' → Same b f w w'
kept_same a e b f w w' (inl h) k i l m = k.below i (omega arith)
kept_same a e b f w w' (inr h) k i l m = k.above i (omega arith)

pub kept_two_same : (a e b f c g : ℕ) (w w' : List ℕ) → Apart a e c g → Apart b f c g → KeptTwo a e b f w w' → Same c g w w'
kept_two_same a e b f c g w w' p q k i l m =
    k.kept i (⊎_elim (λ h. inl (omega arith)) (λ h. inr (omega arith)) p) (⊎_elim (λ h. inl (omega arith)) (λ h. inr (omega arith)) q)

pub kept_is_two : (a e b f : ℕ) (w w' : List ℕ) → Kept a e w w' → KeptTwo a e b f w w'
kept_is_two a e b f w w' k = record { size = k.size; kept = λ i p q. ⊎_elim (k.below i) (k.above i) p }

pub kept_two_then : (a e b f : ℕ) (w w' w'' : List ℕ) → KeptTwo a e b f w w' → KeptTwo a e b f w' w'' → KeptTwo a e b f w w''
kept_two_then a e b f w w' w'' k l = record { size = l.size ∙ k.size; kept = λ i p q. l.kept i p q ∙ k.kept i p q }

pub kept_two_swap : (a e b f : ℕ) (w w' : List ℕ) → KeptTwo a e b f w w' → KeptTwo b f a e w w'
kept_two_swap a e b f w w' k = record { size = k.size; kept = λ i p q. k.kept i q p }

module _ (w w' : List ℕ) where
  pub slot_same : (text : List ℕ) (b : ℕ) → Same b (b + slot_size) w w' → slot_at text w' b ≡ slot_at text w b
  unfolding slot_at
  slot_same text b p =
      let name = ap (name_of text) (p b (omega arith) (omega arith)) in
      let home = ap (name_of text) (p (b + 1) (omega arith) (omega arith)) in
      λ i. record { name = name i; home = home i }

  pub slots_same : (text : List ℕ) (b c : ℕ) → Same b (b + c * slot_size) w w' → slots_at text w' b c ≡ slots_at text w b c
  unfolding slots_at
  slots_same text b zero p = refl
  slots_same text b (suc c) p =
      ap₂ (λ (x : Slot) (xs : List Slot). x ∷ xs) (slot_same text b (λ i h l. p i (omega arith) (omega arith)))
      (slots_same text (b + slot_size) c (λ i h l. p i (omega arith) (omega arith)))

  pub items_same : (text tape : List ℕ) (b c : ℕ) → Same b (b + c * row_size) w w' → items_at text tape w' b c ≡ items_at text tape w b c
  unfolding items_at
  items_same text tape b zero p = refl
  items_same text tape b (suc c) p =
      ap₂ (λ (x : Item) (xs : List Item). x ∷ xs) (ap (item_of text tape) (row_same w w' b (λ i h l. p i (omega arith) (omega arith))))
      (items_same text tape (b + row_size) c (λ i h l. p i (omega arith) (omega arith)))

  pub equation_row_same : (b : ℕ) → Same b (b + 6) w w' → equation_row_at w' b ≡ equation_row_at w b
  unfolding equation_row_at
  equation_row_same b p =
      let g : (j : ℕ) → j < 6 → get_or w' (b + j) 0 ≡ get_or w (b + j) 0 = λ j h. p (b + j) (omega arith) (omega arith) in
      let g₀ : get_or w' b 0 ≡ get_or w b 0 = p b (omega arith) (omega arith) in
      λ i. record {
        home = g₀ i;
        position = g 1 (omega arith) i;
        tag = g 2 (omega arith) i;
        conditions = g 3 (omega arith) i;
        start = g 4 (omega arith) i;
        count = g 5 (omega arith) i;
      }

  -- c words from b on, of memories of one length
  pub words_same : (b c : ℕ) → length w' ≡ length w → Same b (b + c) w w' → take c (drop b w') ≡ take c (drop b w)
  words_same b c e p =
      let s : length (take c (drop b w')) ≡ length (take c (drop b w)) = simp (length-take, length-drop, e) in
      ext_get_or 0 (take c (drop b w')) (take c (drop b w)) s
      (λ i h. let l : i < c = omega (arith, length-take c (drop b w'), h) in
      get_or-take c (drop b w') i 0 l ∙ get_or-drop b w' i 0 ∙ p (b + i) (omega arith) (omega arith)
      ∙ sym (get_or-take c (drop b w) i 0 l ∙ get_or-drop b w i 0))

  -- the tape, which stands in front
  pub tape_same : (t : ℕ) → length w' ≡ length w → Same 0 t w w' → part w' 0 t ≡ part w 0 t
  tape_same t e p = words_same 0 (t - 0) e (λ i h l. p i h (omega arith))

-- ---- a table that grows

pub items_grow : (text tape w : List ℕ) (b c : ℕ) → items_at text tape w b (suc c) ≡ items_at text tape w b c ++ (item_of text tape (row_at w (b + c * row_size)) ∷ [])
unfolding items_at
items_grow text tape w b zero = let e : b + 0 * row_size ≡ b = omega arith in rw e
items_grow text tape w b (suc c) =
    let e : b + row_size + c * row_size ≡ b + suc c * row_size = omega arith in
    ap (λ (xs : List Item). item_of text tape (row_at w b) ∷ xs)
    (items_grow text tape w (b + row_size) c ∙ ap (λ (i : ℕ). items_at text tape w (b + row_size) c ++ (item_of text tape (row_at w i) ∷ [])) e)

pub slots_grow : (text w : List ℕ) (b c : ℕ) → slots_at text w b (suc c) ≡ slots_at text w b c ++ (slot_at text w (b + c * slot_size) ∷ [])
unfolding slots_at
slots_grow text w b zero = let e : b + 0 * slot_size ≡ b = omega arith in rw e
slots_grow text w b (suc c) =
    let e : b + slot_size + c * slot_size ≡ b + suc c * slot_size = omega arith in
    ap (slot_at text w b ∷◌) (slots_grow text w (b + slot_size) c ∙ ap (λ (i : ℕ). slots_at text w (b + slot_size) c ++ (slot_at text w i ∷ [])) e)

-- a table in two parts
pub items_split : (text tape w : List ℕ) (b v m : ℕ) → items_at text tape w b (v + m) ≡ items_at text tape w b v ++ items_at text tape w (b + v * row_size) m
unfolding items_at
items_split text tape w b zero m =
    let e : b ≡ b + 0 * row_size = omega arith in
    let c : 0 + m ≡ m = omega arith in
    ap₂ (λ (i k : ℕ). items_at text tape w i k) e c
items_split text tape w b (suc v) m =
    let e : b + row_size + v * row_size ≡ b + suc v * row_size = omega arith in
    let c : suc v + m ≡ suc (v + m) = omega arith in
    ap (items_at text tape w b) c
    ∙ ap (item_of text tape (row_at w b) ∷◌)
    (items_split text tape w (b + row_size) v m ∙ ap (λ (i : ℕ). items_at text tape w (b + row_size) v ++ items_at text tape w i m) e)

pub length_items : (text tape w : List ℕ) (b c : ℕ) → length (items_at text tape w b c) ≡ c
unfolding items_at
length_items text tape w b zero = refl
length_items text tape w b (suc c) = ap suc (length_items text tape w (b + row_size) c)

-- item i of a table
pub item_at : (text tape w : List ℕ) (b c i : ℕ) (d : Item) → i < c → get_or (items_at text tape w b c) i d ≡ item_of text tape (row_at w (b + i * row_size))
unfolding items_at
item_at text tape w b zero i d h = absurd (omega arith)
item_at text tape w b (suc c) zero d h = let e : b + 0 * row_size ≡ b = omega arith in rw e
item_at text tape w b (suc c) (suc i) d h =
    let e : b + row_size + i * row_size ≡ b + suc i * row_size = omega arith in
    item_at text tape w (b + row_size) c i d (omega arith) ∙ ap (λ (j : ℕ). item_of text tape (row_at w j)) e
