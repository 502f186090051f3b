-- Nothing but these places changes: one change after the other, less said of more, and what lies apart from all of them stays.
use Rattle.std.specs.Prelude.{◌≡◌, refl, Bool, true, false, List, [], ◌∷◌, ℕ, zero, suc, ◌+◌, ◌*◌, ◌≤◌, ◌<◌, leb, length, get_or, set}
use Rattle.std.proofs.Common.{sym, ap, ◌∙◌, subst, inl, inr, ⊎_elim, arith, length-set, get_or-set_same, leb-true, leb-false}
use Rattle.std.proofs.lemmas.List.Edits.{sets}
use Rattle.meaning.specs.Normal.{Normal}
use Rattle.form_rows.specs.Rows.{row_size}
use Rattle.form.specs.declared.Form.{Form}
use Rattle.form.specs.Memory.{part, Kept, KeptTwo}
use Rattle.form.specs.Forms.{items_at, Stands}
use Rattle.form.specs.FormLaws.{Apart, apart_within, kept_then, kept_wider, kept_set, kept_sets, kept_is_two, kept_two_swap, kept_two_then}
use Rattle.form.specs.FormLaws.{kept_same, kept_two_same, tape_same, items_same}
use Rattle.form.specs.Blocks.{Outside}
use Rattle.form.specs.Frames.{stands_stays, stands_kept}

-- ---- changes

-- the words from a up to e are among those from low up to high
pub record Within (low high a e : ℕ) : Type 0 where
  pub first : low ≤ a
  pub last : e ≤ high

pub onward : {a e : ℕ} {w w' w'' : List ℕ} → Kept a e w w' → Kept a e w' w'' → Kept a e w w''
onward k l = kept_then _ _ _ _ _ k l

pub wider : {low high a e : ℕ} {w w' : List ℕ} → Within low high a e → Kept a e w w' → Kept low high w w'
wider h k = kept_wider _ _ _ _ _ _ h.first h.last k

-- a word is written
pub written : {low high i : ℕ} {w u : List ℕ} (v : ℕ) → u ≡ set w i v → Within low high i (i + 1) → Kept low high w u
written {i = i} {w = w} v e h = wider h (subst (Kept i (i + 1) w) (sym e) (kept_set w i v))

-- words that are written stand there
pub stored : (w : List ℕ) (b : ℕ) (vs : List ℕ) (i : ℕ) → i < length vs → b + length vs ≤ length w → get_or (sets w b vs) (b + i) 0 ≡ get_or vs i 0
stored w b [] i h l = absurd (omega arith)
stored w b (v ∷ vs) zero h l =
    let z : b + 0 ≡ b = omega arith in
    ap (λ (j : ℕ). get_or (sets (set w b v) (suc b) vs) j 0) z ∙ (kept_sets vs (set w b v) (suc b)).below b (omega arith) ∙ get_or-set_same w b v 0 (omega arith)
stored w b (v ∷ vs) (suc i) h l =
    let z : b + suc i ≡ suc b + i = omega arith in
    ap (λ (j : ℕ). get_or (sets (set w b v) (suc b) vs) j 0) z ∙ stored (set w b v) (suc b) vs i (omega arith) (omega (arith, length-set w b v))

-- one of two places changes
pub at_first : {a e b f : ℕ} {w w' : List ℕ} → Kept a e w w' → KeptTwo a e b f w w'
at_first k = kept_is_two _ _ _ _ _ _ k

pub at_second : {a e b f : ℕ} {w w' : List ℕ} → Kept b f w w' → KeptTwo a e b f w w'
at_second k = kept_two_swap _ _ _ _ _ _ (at_first k)

pub onward_two : {a e b f : ℕ} {w w' w'' : List ℕ} → KeptTwo a e b f w w' → KeptTwo a e b f w' w'' → KeptTwo a e b f w w''
onward_two k l = kept_two_then _ _ _ _ _ _ _ k l

pub wider_two : {a e b f a' e' b' f' : ℕ} {w w' : List ℕ} → Within a' e' a e → Within b' f' b f → KeptTwo a e b f w w' → KeptTwo a' e' b' f' w w'
wider_two h l k = record {
  size = k.size;
  kept = λ i p q.
      k.kept i (⊎_elim (λ x. inl (omega arith)) (λ x. inr (omega arith)) p) (⊎_elim (λ x. inl (omega arith)) (λ x. inr (omega arith)) q);
}

-- two places as one around both
pub around : {low high a e b f : ℕ} {w w' : List ℕ} → Within low high a e → Within low high b f → KeptTwo a e b f w w' → Kept low high w w'
around h l k = record {
  size = k.size;
  below = λ i u. k.kept i (inl (omega arith)) (inl (omega arith));
  above = λ i u. k.kept i (inr (omega arith)) (inr (omega arith));
}

-- ---- what lies apart

pub apart_in : {low high a e b f : ℕ} → Within low high a e → Apart low high b f → Apart a e b f
apart_in h p = apart_within _ _ _ _ _ _ h.first h.last p

-- no word from a up to e is one from b up to f
abbrev pub Clear : ℕ → ℕ → ℕ → ℕ → Type 0
Clear a e b f = a < f → b < e → ⊥

clear_apart : (a e b f : ℕ) → Clear a e b f → Apart a e b f
clear_apart a e b f c = go (leb f a) (leb e b) (leb-true f a) (leb-false f a) (leb-true e b) (leb-false e b)
  where
    go : (p q : Bool) → (p ≡ true → f ≤ a) → (p ≡ false → a < f) → (q ≡ true → e ≤ b) → (q ≡ false → b < e) → Apart a e b f
    go true q h l i j = inl (h refl)
    go false true h l i j = inr (i refl)
    go false false h l i j = absurd (c (l refl) (j refl))

-- none of the words from low up to high is the form's
pub record Free (low high : ℕ) (f : Form) : Type 0 where
  pub parameters : Clear low high f.parameters (f.parameters + f.parameter_count * 2)
  pub visible : Clear low high f.visible (f.visible + f.visible_count * row_size)
  pub hidden : Clear low high f.hidden (f.hidden + f.hidden_count * row_size)
  pub equations : Clear low high f.equations (f.equations + f.equation_count * 8)
  pub nodes : Clear low high f.nodes (f.nodes + f.node_count)

pub outside : {low high : ℕ} {f : Form} → Free low high f → Outside low high f
outside c = record {
  parameters = clear_apart _ _ _ _ c.parameters;
  visible = clear_apart _ _ _ _ c.visible;
  hidden = clear_apart _ _ _ _ c.hidden;
  equations = clear_apart _ _ _ _ c.equations;
  nodes = clear_apart _ _ _ _ c.nodes;
}

pub outside_in : {low high a e : ℕ} {f : Form} → Within low high a e → Outside low high f → Outside a e f
outside_in h o = record {
  parameters = apart_in h o.parameters;
  visible = apart_in h o.visible;
  hidden = apart_in h o.hidden;
  equations = apart_in h o.equations;
  nodes = apart_in h o.nodes;
}

-- ---- what stays: the tape in front, a table of items, a form

pub tape_kept : {t low high : ℕ} {w w' : List ℕ} → t ≤ low → Kept low high w w' → part w' 0 t ≡ part w 0 t
tape_kept {t} h k = tape_same _ _ t k.size (λ i u v. k.below i (omega arith))

pub tape_kept_two : {t a e b f : ℕ} {w w' : List ℕ} → t ≤ a → t ≤ b → KeptTwo a e b f w w' → part w' 0 t ≡ part w 0 t
tape_kept_two {t} h l k = tape_same _ _ t k.size (λ i u v. k.kept i (inl (omega arith)) (inl (omega arith)))

pub items_kept : {t low high : ℕ} {w w' : List ℕ} (text : List ℕ) (b c : ℕ) → t ≤ low → Kept low high w w' → Apart low high b (b + c * row_size)
    → items_at text (part w' 0 t) w' b c ≡ items_at text (part w 0 t) w b c
items_kept {w = w} {w' = w'} text b c h k p =
    ap (λ (tape : List ℕ). items_at text tape w' b c) (tape_kept h k) ∙ items_same w w' text _ b c (kept_same _ _ _ _ w w' p k)

pub still_stands : {text : List ℕ} {t low high : ℕ} {w w' : List ℕ} {f : Form} {n : Normal} → t ≤ low → Kept low high w w' → Outside low high f
    → Stands text (part w 0 t) w f n → Stands text (part w' 0 t) w' f n
still_stands h k o s = stands_kept _ _ _ _ _ _ _ _ h k o s

pub still_stands_two : {text : List ℕ} {t a e b d : ℕ} {w w' : List ℕ} {f : Form} {n : Normal} → t ≤ a → t ≤ b → KeptTwo a e b d w w'
    → Outside a e f → Outside b d f → Stands text (part w 0 t) w f n → Stands text (part w' 0 t) w' f n
still_stands_two {text} {t} {a} {e} {b} {d} {w} {w'} {f} {n} h l k o p s =
    subst (λ (tape : List ℕ). Stands text tape w' f n) (sym (tape_kept_two h l k))
    (stands_stays text (part w 0 t) w w' f
    (record {
      size = k.size;
      visible = kept_two_same a e b d _ _ w w' o.visible p.visible k;
      hidden = kept_two_same a e b d _ _ w w' o.hidden p.hidden k;
      nodes = kept_two_same a e b d _ _ w w' o.nodes p.nodes k;
    }) n (kept_two_same a e b d _ _ w w' o.parameters p.parameters k) (kept_two_same a e b d _ _ w w' o.equations p.equations k) s)
