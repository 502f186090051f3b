-- Every node of a form that stands for a normal form is written as the node that it stands for, where no two hidden items are alike.
use Rattle.std.specs.Prelude.{◌≡◌, ℕ, zero, suc, ◌+◌, ◌*◌, ◌/◌, ◌%◌, ◌<◌, Bool, ◌&&◌, List, [], ◌∷◌, eqb, length, get_or}
use Rattle.std.proofs.Math.Path.{refl}
use Rattle.std.proofs.Common.{sym, ap, ◌∙◌, not-suc-le-zero, arith, eq-eqb, ne_eqb, eqb-true}
use Rattle.std.proofs.Math.Bool.{true, false}
use Rattle.std.proofs.lemmas.Bool.{false≢true, eqb-false}
use Rattle.meaning.specs.Lists.{pick}
use Rattle.meaning.specs.Origins.{Origin, same_origin, Shape, sort_shape, function_shape, variable_shape, same_shape, is_sort, is_function, Item, one_item}
use Rattle.meaning.specs.OrderLaws.{Every, Pairwise}
use Rattle.laws.specs.Decides.{origins_decided, shapes_decided, items_decided}
use Rattle.laws.specs.OwnItems.{declared_name}
use Rattle.form_rows.specs.Rows.{item_of, row_at, row_size}
use Rattle.invariants.specs.HiddenItems.{HiddenItem, Different, HiddenItems}
use Rattle.form.specs.declared.Form.{Form}
use Rattle.form.specs.Forms.{items_at, node_row, node_item, VisiblePoint, HiddenPoint, Pointing}
use Rattle.form.specs.FormLaws.{length_items, item_at}
use Rattle.list_terms.specs.Meant.{Told}
use Rattle.list_terms.specs.Pointed.{alike, visible_told, function_told, variable_told}

-- ---- hidden items

-- no later one is like an earlier one
abbrev pub Unlike : List Item → Type 0
Unlike items = Pairwise (λ (a b : Item). alike b a ≡ false) items

unlike_one : (a b : Item) → HiddenItem a → HiddenItem b → Different a b → alike b a ≡ false
unfolding alike
unlike_one a b h k d = go (same_origin b.origin a.origin) (same_shape b.shape a.shape) refl refl
  where
    one : b.origin ≡ a.origin → b.shape ≡ a.shape → b ≡ a
    one o s i = record {
      standing = (k.standing ∙ sym h.standing) i;
      name = (k.name ∙ ap (λ (x : Origin). declared_name x.declared) o ∙ sym h.name) i;
      shape = s i;
      origin = o i;
    }

    go : (x y : Bool) → same_origin b.origin a.origin ≡ x → same_shape b.shape a.shape ≡ y → (x && y) ≡ false
    go false y p q = refl
    go true false p q = refl
    go true true p q =
        let e = one (origins_decided.equal b.origin a.origin p) (shapes_decided.equal b.shape a.shape q) in
        absurd (false≢true (sym d ∙ ap (one_item a) e ∙ items_decided.self a))

unlike_all : (a : Item) (bs : List Item) → HiddenItem a → Every HiddenItem bs → Every (Different a) bs → Every (λ (b : Item). alike b a ≡ false) bs
unlike_all a [] h k d = tt
unlike_all a (b ∷ bs) h k d = (unlike_one a b h k.0 d.0, unlike_all a bs h k.1 d.1)

pub hidden_unlike : (items : List Item) → HiddenItems items → Unlike items
hidden_unlike [] h = tt
hidden_unlike (a ∷ bs) h =
    (unlike_all a bs h.every.0 h.every.1 h.distinct.0, hidden_unlike bs (record { every = h.every.1; distinct = h.distinct.1 }))

-- ---- by place

every_at : {A : Type 0} (P : A → Type 0) (xs : List A) (d : A) → Every P xs → (i : ℕ) → i < length xs → P (get_or xs i d)
every_at P [] d h i l = absurd (not-suc-le-zero l)
every_at P (x ∷ xs) d h zero l = h.0
every_at P (x ∷ xs) d h (suc i) l = every_at P xs d h.1 i (omega arith)

pairwise_at : {A : Type 0} (R : A → A → Type 0) (xs : List A) (d : A) → Pairwise R xs → (j i : ℕ) → j < i → i < length xs
    → R (get_or xs j d) (get_or xs i d)
pairwise_at R [] d h j i l m = absurd (not-suc-le-zero m)
pairwise_at R (x ∷ xs) d h j zero l m = absurd (not-suc-le-zero l)
pairwise_at R (x ∷ xs) d h zero (suc i) l m = every_at (R x) xs d h.0 i (omega arith)
pairwise_at R (x ∷ xs) d h (suc j) (suc i) l m = pairwise_at R xs d h.1 j i (omega arith) (omega arith)

-- ---- nodes

module _ (text tape w : List ℕ) (f : Form) where
  abbrev b : ℕ
  b = f.visible

  abbrev h : ℕ
  h = f.hidden

  abbrev n : ℕ
  n = f.hidden_count

  unlike_rows : Unlike (items_at text tape w h n) → (i j : ℕ) → i < n → j < i
      → alike (item_of text tape (row_at w (h + i * row_size))) (item_of text tape (row_at w (h + j * row_size))) ≡ false
  unlike_rows u i j l m =
      let d = item_of text tape (row_at w h) in
      let within : i < length (items_at text tape w h n) = rw (length_items text tape w h n) l in
      let k : j < n = omega arith in
      rw (← item_at text tape w h n i d l, ← item_at text tape w h n j d k)
      (pairwise_at (λ (x y : Item). alike y x ≡ false) (items_at text tape w h n) d u j i m within)

  module _ (v : ℕ) where
    told_visible : v / 16 % 2 ≡ 0 → VisiblePoint text tape w f v → Told text tape w b h n v
    unfolding node_item node_row pick is_function
    told_visible z p = go (item_of text tape (row_at w (b + v / 32 * row_size))).shape refl (rw (eq-eqb (v / 16 % 2) 0 z) at p.function)
      where
        go : (s : Shape) → (item_of text tape (row_at w (b + v / 32 * row_size))).shape ≡ s → is_function s ≡ true → Told text tape w b h n v
        go sort_shape e q = absurd (false≢true q)
        go (function_shape t) e q = visible_told text tape w b h n v t z e
        go (variable_shape s) e q = absurd (false≢true q)

    told_hidden : Unlike (items_at text tape w h n) → (v / 16 % 2 ≡ 0 → ⊥) → HiddenPoint text tape w f v → Told text tape w b h n v
    unfolding node_item node_row pick is_function is_sort
    told_hidden u z p =
        go (item_of text tape (row_at w (h + v / 32 * row_size))).shape refl (rw (ne_eqb (v / 16 % 2) 0 z) at p.no_sort)
        (rw (ne_eqb (v / 16 % 2) 0 z) at p.alone)
      where
        go : (s : Shape) → (item_of text tape (row_at w (h + v / 32 * row_size))).shape ≡ s → is_sort s ≡ false → (is_function s ≡ false → v % 16 ≡ 0)
            → Told text tape w b h n v
        go sort_shape e q a = absurd (false≢true (sym q))
        go (function_shape t) e q a =
            function_told text tape w b h n v z p.inside (λ j l. unlike_rows u (v / 32) j p.inside l) t e
        go (variable_shape s) e q a =
            variable_told text tape w b h n v z p.inside (λ j l. unlike_rows u (v / 32) j p.inside l) s e (a refl)

    told : Unlike (items_at text tape w h n) → (v / 16 % 2 ≡ 0 → VisiblePoint text tape w f v) → (v / 16 % 2 ≡ 1 → HiddenPoint text tape w f v)
        → Told text tape w b h n v
    told u p q = go (eqb (v / 16 % 2) 0) refl
      where
        one : (x : ℕ) → (x ≡ 0 → ⊥) → x < 2 → x ≡ 1
        one zero z l = absurd (z refl)
        one (suc zero) z l = refl
        one (suc (suc x)) z l = absurd (omega arith)

        go : (x : Bool) → eqb (v / 16 % 2) 0 ≡ x → Told text tape w b h n v
        go true e = let z = eqb-true (v / 16 % 2) 0 e in told_visible z (p z)
        go false e = let z = eqb-false (v / 16 % 2) 0 e in told_hidden u z (q (one (v / 16 % 2) z (omega arith)))

  pub nodes_told : Pointing text tape w f → Unlike (items_at text tape w h n) → (i : ℕ) → i < f.node_count
      → Told text tape w b h n (get_or w (f.nodes + i) 0)
  nodes_told p u i l = told (get_or w (f.nodes + i) 0) u (p.visible i l) (p.hidden i l)
