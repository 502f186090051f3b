-- Laws of the order table: a name more is put in its place, and what lies apart may change.
use Rattle.std.specs.Prelude.{◌≡◌, refl, ◌⊎◌, Bool, true, false, ltb, get_or}
use Rattle.std.proofs.Math.Path.{sym, ap}
use Rattle.std.proofs.Common.{ap₂, ◌∙◌, inl, inr, ⊎_elim, arith, add-one, ltb-true, ltb-false}
use Rattle.std.proofs.lemmas.Bool.{false≢true}
use mathlib.Core.List.{List, [], ◌∷◌, ◌++◌}
use Prim.Native.Nat.{ℕ, zero, suc, ◌+◌, ◌*◌, ◌≤◌, ◌<◌}
use Rattle.meaning.specs.Lists.{pick, place_in, sorted_onto}
use Rattle.meaning.specs.Names.{not_after}
use Rattle.meaning.specs.OrderLaws.{Every, Ordered, Pairwise, names_ordered, order_of, sorted_ordered, sorted_rearranged, rearranged_every, not_after_self}
use Rattle.text_names.specs.Word.{name_of}
use Rattle.form_rows.specs.Rows.{words_from}
use Rattle.form.specs.Memory.{Kept}
use Rattle.form_order.specs.Order.{name_in, upto, name_order, InOrder, Spot, Inserted, PutInOrder, NamesApart}

-- ---- lists

-- v put in behind k items
unfoldable pub put_at : {A : Type 0} → ℕ → A → List A → List A
put_at zero v xs = v ∷ xs
put_at (suc k) v [] = v ∷ []
put_at (suc k) v (x ∷ xs) = x ∷ put_at k v xs

pub sorted_more : {A : Type 0} (le : A → A → Bool) (done xs : List A) (x : A)
    → sorted_onto le done (xs ++ (x ∷ [])) ≡ place_in le x (sorted_onto le done xs)
unfolding sorted_onto
sorted_more le done [] x = refl
sorted_more le done (y ∷ ys) x = sorted_more le (place_in le y done) ys x

pub placed_alike : {A : Type 0} (le le' : A → A → Bool) (a : A) (xs : List A) → Every (λ x. le' x a ≡ le x a) xs
    → place_in le' a xs ≡ place_in le a xs
unfolding place_in pick
placed_alike le le' a [] h = refl
placed_alike le le' a (x ∷ xs) h = rw (h.0, placed_alike le le' a xs h.1)

pub every_more : {A : Type 0} (P : A → Type 0) (xs : List A) (x : A) → Every P xs → P x → Every P (xs ++ (x ∷ []))
every_more P [] x h q = (q, tt)
every_more P (y ∷ ys) x h q = (h.0, every_more P ys x h.1 q)

pub every_weaker : {A : Type 0} (P Q : A → Type 0) → ((x : A) → P x → Q x) → (xs : List A) → Every P xs → Every Q xs
every_weaker P Q f [] h = tt
every_weaker P Q f (x ∷ xs) h = (f x h.0, every_weaker P Q f xs h.1)

pub below_upto : (n : ℕ) → Every (λ k. k < n) (upto n)
unfolding upto
below_upto zero = tt
below_upto (suc n) =
    every_more (λ k. k < suc n) (upto n) n (every_weaker (λ k. k < n) (λ k. k < suc n) (λ k h. omega arith) (upto n) (below_upto n)) (omega arith)

-- ---- names in order

module _ (text w : List ℕ) (b s : ℕ) where
  abbrev pub earlier : ℕ → ℕ → Bool
  earlier i j = not_after (name_in text w b s i) (name_in text w b s j)

  pub below_order : (n : ℕ) → Every (λ k. k < n) (name_order text w b s n)
  unfolding name_order
  below_order n = rearranged_every (λ k. k < n) (sorted_rearranged earlier (upto n)) (below_upto n)

  pub order_ordered : (n : ℕ) → Ordered earlier (name_order text w b s n)
  unfolding name_order
  order_ordered n = sorted_ordered (order_of names_ordered (name_in text w b s)) (upto n)

  order_more : (n : ℕ) → name_order text w b s (suc n) ≡ place_in earlier n (name_order text w b s n)
  unfolding name_order upto
  order_more n = sorted_more earlier [] (upto n) n

-- names that stay keep their order
order_same : (text w w' : List ℕ) (b s n : ℕ) → ((i : ℕ) → i < n → name_in text w' b s i ≡ name_in text w b s i)
    → name_order text w' b s n ≡ name_order text w b s n
unfolding name_order upto sorted_onto
order_same text w w' b s zero h = refl
order_same text w w' b s (suc n) h =
    let alike : (k : ℕ) → k < n → earlier text w' b s k n ≡ earlier text w b s k n =
    λ k l. ap₂ not_after (h k (omega arith)) (h n (omega arith)) in
    order_more text w' b s n
    ∙ ap (place_in (earlier text w' b s) n) (order_same text w w' b s n (λ i l. h i (omega arith)))
    ∙ placed_alike (earlier text w b s) (earlier text w' b s) n (name_order text w b s n)
    (every_weaker (λ k. k < n) (λ k. earlier text w' b s k n ≡ earlier text w b s k n) alike (name_order text w b s n) (below_order text w b s n))
    ∙ sym (order_more text w b s n)

-- ---- words by their places

word_first : (w : List ℕ) (p : ℕ) → get_or w (p + 0) 0 ≡ get_or w p 0
word_first w p = let e : p + 0 ≡ p = omega arith in ap (λ (i : ℕ). get_or w i 0) e

word_later : (w : List ℕ) (p i : ℕ) → get_or w (p + suc i) 0 ≡ get_or w (suc p + i) 0
word_later w p i = let e : p + suc i ≡ suc p + i = omega arith in ap (λ (j : ℕ). get_or w j 0) e

-- what holds of all words holds of each
pub every_word : (P : ℕ → Type 0) (w : List ℕ) (p n i : ℕ) → Every P (words_from w p n) → i < n → P (get_or w (p + i) 0)
unfolding words_from
every_word P w p zero i h l = absurd (omega arith)
every_word P w p (suc n) zero h l = rw (word_first w p) h.0
every_word P w p (suc n) (suc i) h l = rw (word_later w p i) (every_word P w (suc p) n i h.1 (omega arith))

-- what holds of each word and every later one
pub pairs_of_words : (R : ℕ → ℕ → Type 0) (w : List ℕ) (p n i j : ℕ) → Pairwise R (words_from w p n) → i < j → j < n
    → R (get_or w (p + i) 0) (get_or w (p + j) 0)
unfolding words_from
pairs_of_words R w p zero i j h l m = absurd (omega arith)
pairs_of_words R w p (suc n) i zero h l m = absurd (omega arith)
pairs_of_words R w p (suc n) zero (suc j) h l m =
    rw (word_first w p, word_later w p j) (every_word (R (get_or w p 0)) w (suc p) n j h.0 (omega arith))
pairs_of_words R w p (suc n) (suc i) (suc j) h l m =
    rw (word_later w p i, word_later w p j) (pairs_of_words R w (suc p) n i j h.1 (omega arith) (omega arith))

-- the place k of a among words in order
pub placed_at : (le : ℕ → ℕ → Bool) (a : ℕ) (w : List ℕ) (p n k : ℕ) → k ≤ n → ((i : ℕ) → i < k → le (get_or w (p + i) 0) a ≡ true)
    → ((i : ℕ) → k ≤ i → i < n → le (get_or w (p + i) 0) a ≡ false) → place_in le a (words_from w p n) ≡ put_at k a (words_from w p n)
unfolding place_in put_at words_from pick
placed_at le a w p zero zero h f g = refl
placed_at le a w p zero (suc k) h f g = absurd (omega arith)
placed_at le a w p (suc n) zero h f g = let e : le (get_or w p 0) a ≡ false = rw (word_first w p) at (g 0 (omega arith) (omega arith)) in rw e
placed_at le a w p (suc n) (suc k) h f g =
    let e : le (get_or w p 0) a ≡ true = rw (word_first w p) at (f 0 (omega arith)) in
    rw (e, placed_at le a w (suc p) n k (omega arith) (λ i l. rw (word_later w p i) at (f (suc i) (omega arith))) (λ i l m. rw (word_later w p i) at (g (suc i) (omega arith) (omega arith))))

words_moved : (w w' : List ℕ) (p n : ℕ) → ((i : ℕ) → p ≤ i → i < p + n → get_or w' (i + 1) 0 ≡ get_or w i 0) → words_from w' (suc p) n ≡ words_from w p n
unfolding words_from
words_moved w w' p zero h = refl
words_moved w w' p (suc n) h =
    ap₂ (λ (x : ℕ) (xs : List ℕ). x ∷ xs) (ap (λ (i : ℕ). get_or w' i 0) (sym (add-one p)) ∙ h p (omega arith) (omega arith))
    (words_moved w w' (suc p) n (λ i l m. h i (omega arith) (omega arith)))

pub words_put : (w w' : List ℕ) (p n k a e v : ℕ) → k ≤ n → a ≡ p + k → e ≡ p + n → Inserted a e v w w' → words_from w' p (suc n) ≡ put_at k v (words_from w p n)
unfolding words_from put_at
words_put w w' p n zero a e v h ea ee ins =
    let q : p ≡ a = omega arith in
    ap₂ (λ (x : ℕ) (xs : List ℕ). x ∷ xs) (ap (λ (i : ℕ). get_or w' i 0) q ∙ ins.here)
    (words_moved w w' p n (λ i l m. ins.moved i (omega arith) (omega arith)))
words_put w w' p zero (suc k) a e v h ea ee ins = absurd (omega arith)
words_put w w' p (suc n) (suc k) a e v h ea ee ins =
    ap₂ (λ (x : ℕ) (xs : List ℕ). x ∷ xs) (ins.below p (omega arith)) (words_put w w' (suc p) n k a e v (omega arith) (omega arith) (omega arith) ins)

pub lt_or_ge : (i j : ℕ) → (i < j) ⊎ (j ≤ i)
lt_or_ge i j = go (ltb i j) refl
  where
    go : (b : Bool) → ltb i j ≡ b → (i < j) ⊎ (j ≤ i)
    go true e = inl (ltb-true i j e)
    go false e = inr (ltb-false i j e)

-- where an answer that holds at one place holds at all before it, the answer at one place tells those on one side
module _ (yes : ℕ → Bool) (n : ℕ) (steady : (i j : ℕ) → i ≤ j → j < n → yes j ≡ true → yes i ≡ true) (mid : ℕ) where
  pub yes_below : mid < n → yes mid ≡ true → (i : ℕ) → i < mid + 1 → yes i ≡ true
  yes_below l e i h = steady i mid (omega arith) l e

  pub no_above : yes mid ≡ false → (i : ℕ) → mid ≤ i → i < n → yes i ≡ false
  no_above e i h l = go (yes i) refl
    where
      go : (q : Bool) → yes i ≡ q → yes i ≡ false
      go true f = absurd (false≢true (sym e ∙ steady mid i h l f))
      go false f = f

-- of two in order the name of the first is not after the other's
pub ordered_names : (text w : List ℕ) (b s p n : ℕ) → InOrder text w b s p n → (i j : ℕ) → i ≤ j → j < n
    → not_after (name_in text w b s (get_or w (p + i) 0)) (name_in text w b s (get_or w (p + j) 0)) ≡ true
ordered_names text w b s p n ord i j h l = ⊎_elim go (λ m. level (omega arith)) (lt_or_ge i j)
  where
    all : Ordered (earlier text w b s) (words_from w p n)
    all = rw ord.words (order_ordered text w b s n)

    go : i < j → earlier text w b s (get_or w (p + i) 0) (get_or w (p + j) 0) ≡ true
    go m = pairs_of_words (λ u v. earlier text w b s u v ≡ true) w p n i j all m l

    level : i ≡ j → earlier text w b s (get_or w (p + i) 0) (get_or w (p + j) 0) ≡ true
    level e = rw e (not_after_self (name_in text w b s (get_or w (p + j) 0)))

-- ---- a name more

module _ (text w w' : List ℕ) (b s p r x k a e : ℕ) (ea : a ≡ p + k) (ee : e ≡ p + r) (ins : Inserted a e r w w') where
  insert_kept : Kept p (p + (r + 1)) w w'
  insert_kept = record { size = ins.size; below = λ i h. ins.below i (omega arith); above = λ i h. ins.above i (omega arith) }

  pub insert_ordered : NamesApart b s p (r + 1) → InOrder text w b s p r → x ≡ get_or w (b + r * s) 0 → Spot text w b s p r x k
      → PutInOrder text w w' b s p (r + 1)
  unfolding name_in
  insert_ordered apart ord ex spot =
      let stays : (i : ℕ) → i < suc r → name_in text w' b s i ≡ name_in text w b s i =
      λ i l. ap (name_of text) (⊎_elim (insert_kept.below (b + i * s)) (insert_kept.above (b + i * s)) (apart i (omega arith))) in
      let le = earlier text w b s in
      let named : name_of text x ≡ name_in text w b s r = ap (name_of text) ex in
      let put : words_from w' p (suc r) ≡ put_at k r (words_from w p r) = words_put w w' p r k a e r spot.inside ea ee ins in
      let placed : place_in le r (words_from w p r) ≡ put_at k r (words_from w p r) =
      placed_at le r w p r k spot.inside (λ i l. rw named at (spot.before i l)) (λ i l m. rw named at (spot.behind i l m)) in
      let grown : words_from w' p (suc r) ≡ name_order text w' b s (suc r) =
      put ∙ sym placed ∙ ap (place_in le r) ord.words ∙ sym (order_more text w b s r) ∙ sym (order_same text w w' b s (suc r) stays) in
      record { ordered = record { words = rw (add-one r) grown }; kept = insert_kept }
